-- §7 IN LISTS, frame by frame: beside a panel of the set 8, its output count, 14,400,000, 86,400,000 that a
-- list has left stands the old panel with the same records. The theorem after a start: FourHours.antt.
use Rattle.std.specs.Prelude.{Result, Ok, Err}
use mathlib.Core.Path.{◌≡◌, refl, sym, ap, ◌∙◌}
use mathlib.Core.Bool.{Bool, true, false, false≢true}
use mathlib.Core.List.{List, [], ◌∷◌, map}
use Prim.Native.Nat.{ℕ, ◌≤◌, ◌<◌}
use native.Mathlib.Omega.{arith}
use lib.Dec.{eqb}
use lib.ListN.{get_or, length, length-map}
use Rattle.lighting_levels.specs.Paper.Choice.{when◌then◌else◌, every}
use Rattle.lighting_levels.specs.Paper.Field.{byte_at}
use Rattle.lighting_outputs.specs.declared.Parameters.{Parameters}
use Rattle.lighting_outputs.specs.Paper.Parameters.{four_hours}
use Rattle.lighting_outputs.specs.Paper.Rules.{levels_sound, settings_sound, relay_sound, sound}
use Rattle.lighting_outputs.specs.Paper.Fresh.{fresh_output}
use Rattle.lighting_outputs.specs.Paper.Acting.{done, acted, served}
use Rattle.lighting_outputs.specs.Paper.Properties.{same, settings_with, relay_with}
use Rattle.lighting_outputs.specs.Engine.Advance.{greatest_count, advance}
use Rattle.lighting_frames.specs.Paper.Frames.{Bytes, Octets, Strings, parse}
use Rattle.lighting_frames.specs.Paper.FadeTimes.{fade_time_in, carries}
use Rattle.lighting_outputs.specs.Paper.TimeWithin.{time_within}
use Rattle.lighting_frames.specs.Paper.Copies.{same_bytes, retransmission_or_conflict}
use Rattle.lighting_panel.specs.Paper.Panel.{Panel, Station, Step, panel_sound}
use Rattle.lighting_panel.specs.Paper.Plain.{Event, clock, first, above, in_time, latest, judged, PlainState, plain_execute, plain_frame_step}
use Rattle.lighting_panel.specs.Paper.Demand.{after, answers}
use Rattle.lighting_panel.specs.Paper.OldPanel.{OldPanel, OldStep, without_set, with_set, old_decide, old_execute, old_frame, old_after, old_answers}
use Rattle.lighting_panel.specs.Paper.FourHours.{carries_longer, NoneLongerDone}
use Rattle.lighting_panel.specs.Engine.Judging.{decide}
use Rattle.lighting_panel.specs.Engine.Executing.{execute, frame_step}
use Rattle.lighting_outputs.specs.declared.Output.{Output}
use Rattle.lighting_outputs.specs.declared.OutputRequest.{OutputRequest}
use Rattle.lighting_outputs.specs.declared.OutputRequest.TheVariants.{Change}
use Rattle.lighting_outputs.specs.declared.PanelRequest.TheVariants.{ToOutput}
use Rattle.lighting_outputs.specs.declared.Property.TheVariants.{FadeTime}
use Rattle.lighting_outputs.specs.declared.Answer.{Answer}
use Rattle.lighting_outputs.specs.declared.Answer.TheVariants.{Done, Refused}
use Rattle.lighting_frames.specs.declared.Frame.{Frame}
use Rattle.lighting_frames.specs.declared.Frame.TheVariants.{Clock, Calls}
use Rattle.lighting_frames.specs.declared.Verdict.{Verdict}
use Rattle.lighting_frames.specs.declared.Verdict.TheVariants.{Copied, Clocked, Arrives}
use Rattle.lighting_levels.proofs.Split.{by_bool, parts}
use Rattle.lighting_outputs.proofs.ShorterFade.{TakesFade, written, commanded}
use Rattle.lighting_outputs.proofs.Consequences.Writes.{accepted}
use Rattle.lighting_outputs.proofs.Consequences.Alone.{in_any_table}
use Rattle.lighting_frames.proofs.ShorterFade.{asking}
use Rattle.lighting_frames.proofs.Reading.{frame_in_range}
use Rattle.lighting_frames.proofs.Tagging.InTags.{same_equal}
use Rattle.lighting_panel.proofs.Table.{AllSound, all_tested, all_advance}
use Rattle.lighting_panel.proofs.Lists.{joined, Refines, linked_sound, decide_judged, Arrived, judged_moved, Stepped, step}
use Rattle.lighting_panel.proofs.Demand.{never_done}
use Rattle.lighting_panel.proofs.Consequences.Others.{every_at}
use Rattle.lighting_panel.proofs.OldPanel.{today, sound_then, Cut, Compared, turned_down, copied_both, short, refused_both, cut_off, compared, frame_by}
use Rattle.lighting_outputs.specs.declared.refusals.Refusal.{Refusal}
use Rattle.lighting_outputs.specs.declared.refusals.Refusal.TheVariants.{WholeOutOfRange}
use Rattle.lighting_outputs.specs.Paper.Answers.{refusal_number}

-- WHAT IS TAKEN IS ANSWERED DONE: a command, and a write of Fade_Time, to a record that keeps the rules
limits : (p : Parameters) (t : ℕ) (o : Output) → sound p t o ≡ true → o.settings.min ≤ o.settings.max
unfolding sound settings_sound levels_sound
limits p t o keeps = search parts depth 8

values : (p : Parameters) (t : ℕ) (o : Output) → sound p t o ≡ true → o.relay.inactive < o.relay.active
unfolding sound relay_sound
values p t o keeps = search parts depth 10

taken_done : (p : Parameters) (tenant : Bool) (t : ℕ) (outputs : List Output) (i : ℕ) (request : OutputRequest)
    → TakesFade request
    → i < length outputs → every (sound p t) outputs ≡ true
    → (served tenant t outputs i (Ok (ToOutput request))).answer ≡ Done
unfolding served acted done settings_with relay_with same when◌then◌else◌
taken_done p tenant t outputs i _ (written {v = v}) inside keep =
    let o = get_or outputs i fresh_output in
    let keeps = every_at p t outputs i inside keep in
    (in_any_table t outputs i (Change FadeTime v)).1
    ∙ accepted p t t o v (limits p t o keeps) (values p t o keeps) FadeTime v refl refl refl refl
taken_done p tenant t outputs i _ commanded inside keep = refl

-- OF THE FIRST ARRIVALS SO FAR none that was answered Done carried a longer fade time
abbrev PastShort : List Event → Type 0
PastShort [] = Unit {0}
PastShort (clock t ∷ past) = PastShort past
PastShort (first station number t b a ∷ past) = (a ≡ Done → carries_longer b ≡ false) × PastShort past

latest_short : (station : ℕ) (past : List Event) → PastShort past
    → (latest station past).answer ≡ Done → carries_longer (latest station past).frame ≡ false
unfolding latest carries fade_time_in time_within byte_at when◌then◌else◌
latest_short station [] were = λ isDone. refl
latest_short station (clock t ∷ past) were = latest_short station past were
latest_short station (first sender number t b a ∷ past) were =
    by_bool (eqb sender station) (λ its. rw its were.0) (λ its. rw its (latest_short station past were.1))

-- so no copy does
abbrev CopyShort : Bytes → Result Verdict Refusal → Type 0
CopyShort b (Err r) = Unit {0}
CopyShort b (Ok (Copied a)) = a ≡ Done → carries_longer b ≡ false
CopyShort b (Ok (Clocked t)) = Unit {0}
CopyShort b (Ok (Arrives call)) = Unit {0}

judged_short : (past : List Event) (b : Bytes) (frame : Result Frame Refusal) → PastShort past → CopyShort b (judged past b frame)
unfolding judged retransmission_or_conflict when◌then◌else◌
judged_short past b (Err r) were = tt
judged_short past b (Ok (Clock t)) were = by_bool (in_time t past) (λ timely. rw timely tt) (λ late. rw late tt)
judged_short past b (Ok (Calls call)) were =
    let last = latest call.station past in
    by_bool (above call.station call.number past)
    (λ new. rw new (by_bool (in_time call.time past) (λ timely. rw timely tt) (λ late. rw late tt)))
    (λ old. rw old
    (by_bool (eqb call.number last.number)
    (λ again. rw again
    (by_bool (same_bytes b last.frame)
    (λ copy. rw copy
    (λ isDone. ap carries_longer (same_equal b last.frame copy) ∙ latest_short call.station past were isDone))
    (λ other. rw other tt)))
    (λ below. rw below tt)))

past_short : (b : Bytes) (w : PlainState) (verdict : Result Verdict Refusal) → PastShort w.past
    → ((plain_execute 0 b w verdict).answer ≡ Done → carries_longer b ≡ false)
    → PastShort (plain_execute 0 b w verdict).state.past
unfolding plain_execute
past_short b w (Err r) were is = were
past_short b w (Ok (Copied a)) were is = were
past_short b w (Ok (Clocked t)) were is = were
past_short b w (Ok (Arrives call)) were is = (is, were)

-- THE OLD PANEL BESIDE A LIST: what the list theorem has of today's is there of the old one too, but the set
abbrev pub old : List Station → PlainState → OldPanel
old k w = record { outputs = w.panel.outputs; stations = k; time = w.panel.time }

module _ (c : ℕ) (k : List Station) (w : PlainState) (b : Bytes) (octets : Octets b) (m : Refines (four_hours c) c k w) where
  abbrev p : Parameters
  p = four_hours c

  abbrev e : OldPanel
  e = old k w

  today_joined : today e ≡ joined p 0 k w
  today_joined = ap (λ (n : ℕ). with_set (four_hours n) e) m.count

  rules : panel_sound (today e) ≡ true
  rules = rw today_joined (linked_sound p 0 c k w m)

  verdict : decide (today e) b ≡ judged w.past b (parse p (length w.panel.outputs) b)
  verdict = rw today_joined (decide_judged p 0 c k w b octets m)

  -- what is cut the old panel answers with Done, and today's with 12
  module _ (z : Cut e b) where
    arrival : Arrived p c w b (asking z.call (Err WholeOutOfRange))
    arrival =
        let moved = judged_moved p c k w b (parse p c b) m (frame_in_range p c b octets) in
        let refused = Ok (Arrives (asking z.call (Err WholeOutOfRange))) in
        let arrives : judged w.past b (parse p c b) ≡ refused = rw m.count at (sym verdict ∙ z.now) in
        rw arrives at moved

    outputs : List Output
    outputs = map (advance w.panel.time z.call.time) w.panel.outputs

    old_done : (old_frame e b).answer ≡ Done
    unfolding old_frame old_execute execute outputs when◌then◌else◌
    old_done =
        let t = z.call.time in
        let bounded : t ≤ greatest_count = omega (arith, arrival.frame.time) in
        let before = w.panel.outputs in
        let all : AllSound p t outputs = all_advance p w.panel.time t before arrival.due bounded m.sound in
        let size : length outputs ≡ c = length-map before (advance w.panel.time t) ∙ m.count in
        let inside : z.call.output < length outputs = omega (arith, arrival.frame.output) in
        rw (sound_then e rules, z.before, z.asked)
        (taken_done p _ t outputs z.call.output z.request z.takes inside (all_tested p t outputs all))

    today_refuses : (frame_step (today e) b).answer ≡ Refused 12
    unfolding frame_step execute served when◌then◌else◌
    today_refuses = rw (rules, z.now)

  -- ONE FRAME, which carries no longer fade time if the old panel answers it with Done
  stepped : Stepped p 0 c k w b
  stepped = step p 0 c k w b octets m

  never_cut : ((old_frame e b).answer ≡ Done → carries_longer b ≡ false) → Cut e b → ⊥
  never_cut is z = false≢true (sym (is (old_done z)) ∙ z.longer)

  frame_same : (Cut e b → ⊥)
      → old_frame e b
      ≡ record { panel = old stepped.stations (plain_frame_step p 0 w b).state; answer = (plain_frame_step p 0 w b).answer }
  frame_same never =
      ap
      (λ (made : Step). record { panel = without_set made.panel; answer = made.answer })
      (sym (frame_by e b rules never) ∙ ap (λ (x : Panel). frame_step x b) today_joined ∙ stepped.same)

  -- and the other way round: where both answer alike, Done is of no frame that carries one
  old_answer : {v : Result Verdict Refusal} → old_decide e b ≡ v → (old_frame e b).answer ≡ (old_execute b e v).answer
  unfolding old_frame when◌then◌else◌
  old_answer before = rw (sound_then e rules, before)

  frame_short : PastShort w.past → (frame_step (today e) b).answer ≡ (old_frame e b).answer
      → (old_frame e b).answer ≡ Done → carries_longer b ≡ false
  unfolding old_execute execute served
  frame_short were alike isDone = by (compared e b)
    where
      by : Compared e b → carries_longer b ≡ false
      by (turned_down {r = r} before now) = absurd (never_done (refusal_number r) (sym (old_answer before) ∙ isDone))
      by (copied_both {a = a} before now) =
          let known = judged_short w.past b (parse p (length w.panel.outputs) b) were in
          let copy : CopyShort b (Ok (Copied a)) = rw (sym verdict ∙ now) at known in
          copy (sym (old_answer before) ∙ isDone)
      by (short none both) = none
      by (refused_both {r = r} call asked before now) =
          absurd (never_done (refusal_number r) (sym (rw asked at (old_answer before)) ∙ isDone))
      by (cut_off z) = absurd (never_done 12 (sym (today_refuses z) ∙ alike ∙ isDone))

-- EVERY LIST, from a panel that a list has left
pub record ListedAsOld (c : ℕ) (k : List Station) (w : PlainState) (l : List Bytes) : Type 0 where
  pub panel : without_set (after (joined (four_hours c) 0 k w) l) ≡ old_after (old k w) l
  pub answered : answers (joined (four_hours c) 0 k w) l ≡ old_answers (old k w) l

pub listed_as_old : (c : ℕ) (k : List Station) (w : PlainState) (l : List Bytes) → Strings l → Refines (four_hours c) c k w
    → NoneLongerDone l (old_answers (old k w) l) → ListedAsOld c k w l
unfolding after answers old_after old_answers
listed_as_old c k w [] strings m none = record { panel = refl; answered = refl }
listed_as_old c k w (b ∷ l) strings m none =
    let now = stepped c k w b strings.0 m in
    let next = plain_frame_step (four_hours c) 0 w b in
    let same = frame_same c k w b strings.0 m (never_cut c k w b strings.0 m none.0) in
    let rest = listed_as_old c now.stations next.state l strings.1 now.linked (rw same at none.1) in
    record {
      panel =
          ap (λ (made : Step). without_set (after made.panel l)) now.same
          ∙ rest.panel
          ∙ sym (ap (λ (made : OldStep). old_after made.panel l) same);
      answered = rw (now.same, same) (ap (λ (given : List Answer). next.answer ∷ given) rest.answered);
    }

-- AND ON NO OTHER LIST: where every answer is the same, no frame to which it is Done carries a longer fade
-- time
pub short_as_old : (c : ℕ) (k : List Station) (w : PlainState) (l : List Bytes) → Strings l
    → Refines (four_hours c) c k w → PastShort w.past
    → answers (joined (four_hours c) 0 k w) l ≡ old_answers (old k w) l → NoneLongerDone l (old_answers (old k w) l)
unfolding answers old_answers plain_frame_step
short_as_old c k w [] strings m were alike = tt
short_as_old c k w (b ∷ l) strings m were alike =
    let now = stepped c k w b strings.0 m in
    let today-step = frame_step (joined (four_hours c) 0 k w) b in
    let old-step = old_frame (old k w) b in
    let first_alike : today-step.answer ≡ old-step.answer = cc in
    let rest-alike : answers today-step.panel l ≡ old_answers old-step.panel l = cc in
    let is = frame_short c k w b strings.0 m were (rw (today_joined c k w b strings.0 m) first_alike) in
    let same = frame_same c k w b strings.0 m (never_cut c k w b strings.0 m is) in
    let next = (plain_frame_step (four_hours c) 0 w b).state in
    let past = past_short b w _ were (rw same at is) in
    let alike-on = rw (now.same, same) at rest-alike in
    (is, rw same (short_as_old c now.stations next l strings.1 now.linked past alike-on))
