-- `start_step`, `frame_step` and `execute` on each of their ways, as the code over the lent tables takes
-- them; and what a verdict is sure of.
--
use Rattle.std.specs.Prelude.{Result, Ok, Err}
use mathlib.Core.Path.{◌≡◌, refl, ap₂}
use mathlib.Core.Bool.{Bool, true, false}
use mathlib.Core.List.{List, [], ◌∷◌, map}
use Prim.Native.Nat.{ℕ, suc, ◌≤◌, ◌<◌}
use native.Mathlib.Omega.{arith}
use lib.Dec.{ltb, eqb}
use lib.ListN.{length, get_or, replicate}
use Rattle.lighting_levels.specs.Paper.Choice.{when◌then◌else◌, every}
use Rattle.lighting_outputs.specs.declared.Parameters.{Parameters}
use Rattle.lighting_levels.specs.Paper.Field.{byte_at}
use Rattle.lighting_frames.specs.Paper.Frames.{Bytes, Octets, parse}
use Rattle.lighting_outputs.specs.Engine.Advance.{greatest_count, advance}
use Rattle.lighting_outputs.specs.Paper.Fresh.{fresh_for}
use Rattle.lighting_outputs.specs.Paper.Rules.{sound}
use Rattle.lighting_frames.specs.Paper.Stations.{fresh_station}
use Rattle.lighting_frames.specs.Paper.Copies.{same_bytes, retransmission_or_conflict}
use Rattle.lighting_panel.specs.Engine.VerdictPrecondition.{VerdictPrecondition}
use Rattle.lighting_panel.specs.Paper.Panel.{Panel, panel_of, fresh_record, panel_result, Station, counts_sound, rules_kept, panel_sound, fresh_panel, start_step}
use Rattle.lighting_panel.specs.Engine.Judging.{restored, judged_by_number, judged_by_record, station_of, judged_by_station, decide}
use Rattle.lighting_panel.specs.Engine.Executing.{execute, frame_step}
use Rattle.lighting_outputs.specs.declared.Output.{Output}
use Rattle.lighting_outputs.specs.declared.Answer.TheVariants.{Done, Refused}
use Rattle.lighting_frames.specs.declared.Frame.{Frame}
use Rattle.lighting_frames.specs.declared.Frame.TheVariants.{Clock, Calls}
use Rattle.lighting_levels.proofs.Split.{by_bool, by_lt, also_both, eq_of}
use Rattle.lighting_outputs.specs.Paper.Startable.{startable}
use Rattle.lighting_outputs.proofs.Rules.Startable.{Startable, startable_of}
use Rattle.lighting_frames.proofs.Reading.{FrameInRange, frame_in_range}
use Rattle.lighting_frames.proofs.KindTable.{length_most}
use Rattle.lighting_outputs.proofs.Rules.Tied.{tested_stays}
use Rattle.lighting_outputs.specs.declared.refusals.Refusal.{Refusal}

-- THE START
module _ (p : Parameters) (marks : ℕ) (e : Panel) where
  pub start_step_outside : startable p ≡ false → start_step p marks e ≡ panel_result e (Refused 17)
  unfolding start_step when◌then◌else◌
  start_step_outside h = rw h

  pub start_step_refused : startable p ≡ true → counts_sound p (length e.outputs) (length e.stations) ≡ false
      → start_step p marks e ≡ panel_result e (Refused 1)
  unfolding start_step when◌then◌else◌
  start_step_refused h g = rw (h, g)

  -- the fresh records are as many as are lent
  pub start_step_done : startable p ≡ true → counts_sound p (length e.outputs) (length e.stations) ≡ true
      → start_step p marks e
      ≡ panel_result
      (panel_of
      (replicate (length e.outputs) (fresh_for p))
      (replicate (length e.stations) fresh_station)
      (fresh_record p marks))
      Done
  unfolding start_step fresh_panel counts_sound when◌then◌else◌
  start_step_done h g = let q = also_both g in rw (h, g) (rw (eq_of {a = length e.outputs} {b = p.outputs} q.0, eq_of {a = length e.stations} {b = p.stations} q.1))

-- ONE FRAME
module _ (e : Panel) (b : Bytes) where
  pub frame_step_refused : panel_sound e ≡ false → frame_step e b ≡ panel_result e (Refused 1)
  unfolding frame_step when◌then◌else◌
  frame_step_refused h = rw h

  pub frame_step_execute : panel_sound e ≡ true → frame_step e b ≡ execute b e (decide e b)
  unfolding frame_step when◌then◌else◌
  frame_step_execute h = rw h

-- WHILE TIME STANDS nothing changes
pub all_stay : (p : Parameters) (t : ℕ) (l : List Output) → t ≤ greatest_count → every (sound p t) l ≡ true → map (advance t t) l ≡ l
unfolding every
all_stay p t [] m h = refl
all_stay p t (o ∷ l) m h =
    ap₂ (λ (x : Output) (k : List Output). x ∷ k) (tested_stays p t o m (also_both h).0) (all_stay p t l m (also_both h).1)

-- the parts of the test of refusal 1
pub sound_startable : (e : Panel) → panel_sound e ≡ true → startable e.kept.parameters ≡ true
unfolding panel_sound
sound_startable e h = (also_both h).0

pub sound_stations : (e : Panel) → panel_sound e ≡ true → length e.stations ≡ e.kept.parameters.stations
unfolding panel_sound rules_kept counts_sound
sound_stations e h = eq_of (also_both (also_both (also_both h).1).0).1

pub sound_outputs : (e : Panel) → panel_sound e ≡ true → every (sound e.kept.parameters e.kept.time) e.outputs ≡ true
unfolding panel_sound rules_kept
sound_outputs e h = (also_both (also_both (also_both h).1).1).0

-- WHAT A VERDICT IS SURE OF. The numbers of a slice of bytes are bytes
pub octets : (b : Bytes) → ((i : ℕ) → get_or b i 0 < 256) → Octets b
octets [] h = tt
octets (x ∷ b) h = (h 0, octets b (λ i. h (suc i)))

-- the station that a frame names has its record
station_within : (p : Parameters) → Startable p → (c : ℕ) (b : Bytes) (f : Result Frame Refusal) → FrameInRange p c b f → station_of f < p.stations
unfolding station_of
station_within p allowed c b (Err r) g = omega (arith, allowed.stations)
station_within p allowed c b (Ok (Clock t)) g = omega (arith, allowed.stations)
station_within p allowed c b (Ok (Calls call)) g = g.station

pub station_found : (p : Parameters) → startable p ≡ true → (c : ℕ) (b : Bytes) → Octets b → station_of (parse p c b) < p.stations
station_found p allowed c b h = station_within p (startable_of p allowed) c b (parse p c b) (frame_in_range p c b h)

judged_by_record_sure : (p : Parameters) (now c k : ℕ) (b : Bytes) (a : Station) (same : Bool) (f : Result Frame Refusal)
    → Startable p
    → k ≡ p.stations → FrameInRange p c b f → VerdictPrecondition now c k b (judged_by_record now a same f)
unfolding judged_by_record judged_by_number retransmission_or_conflict when◌then◌else◌
judged_by_record_sure p now c k b a same (Err r) allowed e g = tt
judged_by_record_sure p now c k b a same (Ok (Clock t)) allowed e g =
    by_lt t now (λ l z. rw z tt) (λ l z. rw z (record { due = l; time = g }))
judged_by_record_sure p now c k b a same (Ok (Calls call)) allowed e g =
    by_bool
    (eqb call.number a.number)
    (λ z. rw z (by_bool same (λ q. rw q tt) (λ q. rw q tt)))
    (λ z. rw z
    (by_bool
    (ltb call.number a.number)
    (λ q. rw q tt)
    (λ q. rw q
    (by_lt
    call.time
    now
    (λ l u. rw u tt)
    (λ l u. rw u
    (record {
      moment = record { due = l; time = g.time };
      station = omega (arith, g.station);
      mark = omega (arith, g.station, allowed.stations);
      output = g.output;
      size = omega (arith, g.sized, length_most (byte_at b 0));
    }))))))

pub decide_sure : (e : Panel) (b : Bytes) → Octets b → panel_sound e ≡ true
    → VerdictPrecondition e.kept.time (length e.outputs) (length e.stations) b (decide e b)
unfolding decide judged_by_station
decide_sure e b h z =
    let p = e.kept.parameters in
    let f = parse p (length e.outputs) b in
    let k = get_or e.stations (station_of f) fresh_station in
    judged_by_record_sure p e.kept.time (length e.outputs) (length e.stations) b k
    (same_bytes b (restored k.frame)) f (startable_of p (sound_startable e z)) (sound_stations e z)
    (frame_in_range p (length e.outputs) b h)
