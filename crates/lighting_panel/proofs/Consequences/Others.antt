-- A FRAME TO ONE OUTPUT leaves every other as the passing of time leaves it; and which output it is, byte 12
-- says.
use Rattle.std.specs.Prelude.{Result, Ok, Err}
use mathlib.Core.Path.{◌≡◌, refl, sym, ◌∙◌}
use mathlib.Core.Logic.{◌≢◌}
use mathlib.Core.Bool.{Bool, true}
use mathlib.Core.List.{List, [], ◌∷◌, map}
use Prim.Native.Nat.{ℕ, zero, suc, ◌≤◌, ◌<◌}
use native.Mathlib.Omega.{arith}
use lib.Dec.{ltb, eqb}
use lib.ListN.{get_or, length}
use Rattle.lighting_levels.specs.Paper.Choice.{when◌then◌else◌, every}
use Rattle.lighting_outputs.specs.declared.Parameters.{Parameters}
use Rattle.lighting_levels.specs.Paper.Field.{byte_at}
use Rattle.lighting_frames.specs.Paper.Kinds.{kind_row}
use Rattle.lighting_frames.specs.Paper.Frames.{Bytes, call_of, called, clock_of, parse_by, parse}
use Rattle.lighting_frames.specs.Paper.Copies.{retransmission_or_conflict}
use Rattle.lighting_outputs.specs.Engine.Advance.{greatest_count, advance}
use Rattle.lighting_outputs.specs.Paper.Fresh.{fresh_output}
use Rattle.lighting_outputs.specs.Paper.Rules.{sound}
use Rattle.lighting_panel.specs.Paper.Panel.{Panel, Station, panel_sound}
use Rattle.lighting_panel.specs.Engine.Judging.{judged_by_number, judged_by_record, judged_by_station, decide}
use Rattle.lighting_panel.specs.Engine.Executing.{execute, frame_step}
use Rattle.lighting_outputs.specs.declared.Output.{Output}
use Rattle.lighting_frames.specs.declared.Kind.{Kind}
use Rattle.lighting_frames.specs.declared.Kind.TheVariants.{NoKind, ClockKind, CallKind}
use Rattle.lighting_frames.specs.declared.Call.{Call}
use Rattle.lighting_frames.specs.declared.Frame.{Frame}
use Rattle.lighting_frames.specs.declared.Frame.TheVariants.{Clock, Calls}
use Rattle.lighting_frames.specs.declared.Verdict.{Verdict}
use Rattle.lighting_frames.specs.declared.Verdict.TheVariants.{Copied, Clocked, Arrives}
use Rattle.lighting_levels.proofs.Split.{also_both, by_bool}
use Rattle.lighting_panel.proofs.Carried.{sound_outputs}
use Rattle.lighting_outputs.proofs.Rules.Tied.{tested_stays}
use Rattle.lighting_panel.proofs.Table.{served_other}
use Rattle.lighting_outputs.specs.declared.refusals.Refusal.{Refusal}

-- the output that a call is for
abbrev Of : ℕ → Result Frame Refusal → Type 0
Of i (Err r) = Unit {0}
Of i (Ok (Clock t)) = Unit {0}
Of i (Ok (Calls call)) = call.output ≡ i

abbrev For : ℕ → Result Verdict Refusal → Type 0
For i (Err r) = Unit {0}
For i (Ok (Copied a)) = Unit {0}
For i (Ok (Clocked t)) = Unit {0}
For i (Ok (Arrives call)) = call.output ≡ i

called_of : (p : Parameters) (c i : ℕ) (call : Call) → call.output ≡ i → Of i (called p c call)
unfolding called when◌then◌else◌
called_of p c i call h =
    by_bool (ltb call.station p.stations)
    (λ e. rw e (by_bool (eqb call.number 0) (λ f. rw f tt) (λ f. rw f (by_bool (ltb call.output c) (λ g. rw g h) (λ g. rw g tt)))))
    (λ e. rw e tt)

parse_by_lem : (p : Parameters) (c l : ℕ) (k : Kind) (b : Bytes) → Of (byte_at b 12) (parse_by p c l k b)
unfolding parse_by clock_of when◌then◌else◌
parse_by_lem p c l NoKind b = tt
parse_by_lem p c l ClockKind b = by_bool (eqb (length b) l) (λ e. rw e tt) (λ e. rw e tt)
parse_by_lem p c l (CallKind action) b =
    by_bool (eqb (length b) l) (λ e. rw e (called_of p c (byte_at b 12) (call_of p action b) (unfold call_of in refl))) (λ e. rw e tt)

parse_of : (p : Parameters) (c : ℕ) (b : Bytes) → Of (byte_at b 12) (parse p c b)
unfolding parse
parse_of p c b = parse_by_lem p c (kind_row (byte_at b 0)).length (kind_row (byte_at b 0)).kind b

judged_by_record_for : (i now : ℕ) (k : Station) (same : Bool) (f : Result Frame Refusal) → Of i f → For i (judged_by_record now k same f)
unfolding judged_by_record judged_by_number retransmission_or_conflict when◌then◌else◌
judged_by_record_for i now k same (Err r) h = tt
judged_by_record_for i now k same (Ok (Clock t)) h = by_bool (ltb t now) (λ e. rw e tt) (λ e. rw e tt)
judged_by_record_for i now k same (Ok (Calls call)) h =
    by_bool (eqb call.number k.number) (λ e. rw e (by_bool same (λ f. rw f tt) (λ f. rw f tt)))
    (λ e. rw e (by_bool (ltb call.number k.number) (λ f. rw f tt) (λ f. rw f (by_bool (ltb call.time now) (λ g. rw g tt) (λ g. rw g h)))))

decide_for : (e : Panel) (b : Bytes) → For (byte_at b 12) (decide e b)
unfolding decide judged_by_station
decide_for e b =
    let p = e.kept.parameters in
    judged_by_record_for (byte_at b 12) e.kept.time _ _ (parse p (length e.outputs) b) (parse_of p (length e.outputs) b)

-- one of a table
pub at_map : (f : Output → Output) (l : List Output) (j : ℕ) → j < length l
    → get_or (map f l) j fresh_output ≡ f (get_or l j fresh_output)
at_map f [] j h = absurd (omega arith)
at_map f (x ∷ l) zero h = refl
at_map f (x ∷ l) (suc j) h = at_map f l j (omega arith)

pub every_at : (p : Parameters) (t : ℕ) (l : List Output) (j : ℕ) → j < length l → every (sound p t) l ≡ true → sound p t (get_or l j fresh_output) ≡ true
unfolding every
every_at p t [] j h e = absurd (omega arith)
every_at p t (x ∷ l) zero h e = (also_both e).0
every_at p t (x ∷ l) (suc j) h e = every_at p t l j (omega arith) (also_both e).1

module _ (e : Panel) (b : Bytes) (j : ℕ) (sized : j < length e.outputs) (bounded : e.kept.time ≤ greatest_count) (other : byte_at b 12 ≢ j) where
  stands : panel_sound e ≡ true → get_or e.outputs j fresh_output ≡ advance e.kept.time e.kept.time (get_or e.outputs j fresh_output)
  stands h =
      let p = e.kept.parameters in
      sym (tested_stays p e.kept.time (get_or e.outputs j fresh_output) bounded (every_at p e.kept.time e.outputs j sized (sound_outputs e h)))

  execute_other : (v : Result Verdict Refusal) → For (byte_at b 12) v → panel_sound e ≡ true
      → get_or (execute b e v).panel.outputs j fresh_output ≡ advance e.kept.time (execute b e v).panel.kept.time (get_or e.outputs j fresh_output)
  unfolding execute
  execute_other (Err r) f h = stands h
  execute_other (Ok (Copied a)) f h = stands h
  execute_other (Ok (Clocked t)) f h = at_map (advance e.kept.time t) e.outputs j sized
  execute_other (Ok (Arrives call)) f h =
      served_other _ call.time (map (advance e.kept.time call.time) e.outputs) call.output j
      call.request (λ q. other (sym f ∙ sym q))
      ∙ at_map (advance e.kept.time call.time) e.outputs j sized

  -- any string of bytes, to any panel that keeps the rules
  pub others : panel_sound e ≡ true
      → get_or (frame_step e b).panel.outputs j fresh_output ≡ advance e.kept.time (frame_step e b).panel.kept.time (get_or e.outputs j fresh_output)
  unfolding frame_step when◌then◌else◌
  others h = rw h (execute_other (decide e b) (decide_for e b) h)
