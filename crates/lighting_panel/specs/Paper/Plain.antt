-- 'The plain panel' over a list of frames: first arrivals, accepted clocks and copies, decided from the list.
use Rattle.std.specs.Prelude.{Bool, true, List, [], ◌∷◌, map, ℕ, zero, suc, ◌-◌, leb, ltb, eqb, length, replicate, Result, Ok, Err}
use Rattle.lighting_levels.specs.Paper.Choice.{when◌then◌else◌, ◌also◌}
use Rattle.lighting_outputs.specs.declared.Parameters.{Parameters}
use Rattle.lighting_frames.specs.Paper.Frames.{Bytes, parse}
use Rattle.lighting_outputs.specs.Paper.Passing.{tick}
use Rattle.lighting_outputs.specs.Paper.Fresh.{fresh_for}
use Rattle.lighting_outputs.specs.Paper.Tenants.{is_tenant}
use Rattle.lighting_outputs.specs.Paper.Acting.{served}
use Rattle.lighting_frames.specs.Paper.Copies.{same_bytes, retransmission_or_conflict}
use Rattle.lighting_outputs.specs.declared.Output.{Output}
use Rattle.lighting_outputs.specs.declared.Answer.{Answer}
use Rattle.lighting_outputs.specs.declared.Answer.TheVariants.{Done, Refused}
use Rattle.lighting_frames.specs.declared.Frame.{Frame}
use Rattle.lighting_frames.specs.declared.Frame.TheVariants.{Clock, Calls}
use Rattle.lighting_frames.specs.declared.Verdict.{Verdict}
use Rattle.lighting_frames.specs.declared.Verdict.TheVariants.{Copied, Clocked, Arrives}
use Rattle.lighting_outputs.specs.declared.refusals.Refusal.{Refusal}
use Rattle.lighting_outputs.specs.Paper.Answers.{refusal_number}
use Rattle.lighting_outputs.specs.declared.refusals.Refusal.TheVariants.{PastNumber, PastTime}

-- 'It has outputs and a time, no stations'
pub record Plain : Type 0 where
  pub outputs : List Output
  pub time : ℕ

-- it lives n milliseconds, one after another
unfoldable pub run_plain : ℕ → Plain → Plain
run_plain zero panel = panel
run_plain (suc n) panel = run_plain n (record { outputs = map (tick panel.time) panel.outputs; time = suc panel.time })

-- THE LIST SO FAR: accepted clocks and first arrivals (the paper's word for frames that are taken, and are no
-- retransmission), the latest first
pub data Event : Type 0 where
  clock : (time : ℕ) → Event
  first : (station number time : ℕ) (bytes : Bytes) (answer : Answer) → Event

-- 'its number is above all earlier first arrivals' of its station'
unfoldable pub above : ℕ → ℕ → List Event → Bool
above s n [] = true
above s n (clock t ∷ h) = above s n h
above s n (first s' n' t b a ∷ h) = (when eqb s' s then ltb n' n else true) also above s n h

-- 'its time not before the latest of earlier first arrivals and accepted clocks'
unfoldable pub in_time : ℕ → List Event → Bool
in_time t [] = true
in_time t (clock t' ∷ h) = leb t' t also in_time t h
in_time t (first s n t' b a ∷ h) = leb t' t also in_time t h

-- 'its station's latest first arrival', number 0 with none
pub record Latest : Type 0 where
  pub answer : Answer
  pub number : ℕ
  pub frame : Bytes

unfoldable pub latest : ℕ → List Event → Latest
latest s [] = record { answer = Done; number = 0; frame = [] }
latest s (clock t ∷ h) = latest s h
latest s (first s' n t b a ∷ h) = when eqb s' s then record { answer = a; number = n; frame = b } else latest s h

-- A FRAME JUDGED over the list: 'a copy of its station's latest first arrival gets that one's answer, any
-- other the first of refusals 2 to 8 that it meets, read over the list'
unfoldable pub judged : List Event → Bytes → Result Frame Refusal → Result Verdict Refusal
judged h b (Err r) = Err r
judged h b (Ok (Clock t)) = when in_time t h then Ok (Clocked t) else Err PastTime
judged h b (Ok (Calls call)) =
    let last = latest call.station h in
    when above call.station call.number h
    then (when in_time call.time h then Ok (Arrives call) else Err PastTime)
    else when eqb call.number last.number then retransmission_or_conflict (same_bytes b last.frame) last.answer
    else Err PastNumber

-- the plain panel, and what it was handed
pub record PlainState : Type 0 where
  pub past : List Event
  pub panel : Plain

pub record Reply : Type 0 where
  pub state : PlainState
  pub answer : Answer

-- 'For a first arrival it steps to the frame's time and does what its kind calls for, or refuses 9 to 13';
-- 'Clocks [..] only step it. Other frames do not touch it'. 'The plain panel takes the mark with each first
-- arrival' (§8): whether its station is a tenant
unfoldable pub plain_execute : ℕ → Bytes → PlainState → Result Verdict Refusal → Reply
plain_execute marks b w (Err r) = record { state = w; answer = Refused (refusal_number r) }
plain_execute marks b w (Ok (Copied a)) = record { state = w; answer = a }
plain_execute marks b w (Ok (Clocked t)) =
    record { state = record { past = clock t ∷ w.past; panel = run_plain (t - w.panel.time) w.panel }; answer = Done }
plain_execute marks b w (Ok (Arrives call)) =
    let come = run_plain (call.time - w.panel.time) w.panel in
    let done = served (is_tenant marks call.station) come.time come.outputs call.output call.request in
    record {
      state =
          record {
            past = first call.station call.number call.time b done.answer ∷ w.past;
            panel = record { outputs = done.outputs; time = come.time };
          };
      answer = done.answer;
    }

unfoldable pub plain_frame_step : Parameters → ℕ → PlainState → Bytes → Reply
plain_frame_step p marks w b = plain_execute marks b w (judged w.past b (parse p (length w.panel.outputs) b))

-- 'starts at time 0 with as many fresh outputs as the table': as the set says, 'the plain panel being
-- given the same set' (§6)
unfoldable pub plain_start : Parameters → PlainState
plain_start p = record { past = []; panel = record { outputs = replicate p.outputs (fresh_for p); time = 0 } }
