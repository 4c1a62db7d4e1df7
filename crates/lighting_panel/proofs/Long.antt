-- A string that is longer than the longest frame is refused by its first byte and its length alone: its first
-- bytes, one more than that frame has, are refused likewise. So a reader may keep these of a string of any
-- length.
use Rattle.std.specs.Prelude.{Result, Err}
use mathlib.Core.Path.{◌≡◌, refl, sym, ap, ◌∙◌}
use mathlib.Core.List.{[], ◌∷◌}
use Prim.Native.Nat.{ℕ, ◌+◌, ◌≤◌, ◌<◌}
use native.Mathlib.Omega.{arith}
use lib.ListN.{length, take, get_or, length-take}
use Rattle.lighting_levels.specs.Paper.Choice.{when◌then◌else◌}
use Rattle.lighting_levels.specs.Paper.Field.{byte_at}
use Rattle.lighting_outputs.specs.declared.Parameters.{Parameters}
use Rattle.lighting_frames.specs.Paper.Kinds.{longest_frame, kind_row, kind_length}
use Rattle.lighting_frames.specs.Paper.Frames.{Bytes, parse, parse_by}
use Rattle.lighting_panel.specs.Paper.Panel.{Panel, Step, panel_sound}
use Rattle.lighting_panel.specs.Engine.Executing.{frame_step, execute}
use Rattle.lighting_panel.specs.Engine.Judging.{decide, judged_by_station, judged_by_record, station_of}
use Rattle.lighting_frames.specs.Paper.Stations.{fresh_station}
use Rattle.lighting_outputs.specs.declared.Answer.TheVariants.{Refused}
use Rattle.lighting_frames.specs.declared.Kind.{Kind}
use Rattle.lighting_frames.specs.declared.Kind.TheVariants.{NoKind, ClockKind, CallKind}
use Rattle.lighting_frames.specs.declared.Frame.{Frame}
use Rattle.lighting_levels.proofs.Split.{eqb_miss}
use Rattle.lighting_frames.proofs.KindTable.{length_most}
use Rattle.lighting_outputs.specs.declared.refusals.Refusal.{Refusal}
use Rattle.lighting_outputs.specs.Paper.Answers.{refusal_number}
use Rattle.lighting_outputs.specs.declared.refusals.Refusal.TheVariants.{BrokenRecords, UnknownKind, WrongLength}

-- what refuses a string that is longer than any frame
abbrev too_long : Kind → Refusal
too_long NoKind = UnknownKind
too_long ClockKind = WrongLength
too_long (CallKind action) = WrongLength

parse_by_long : (p : Parameters) (c l : ℕ) (k : Kind) (b : Bytes) → l < length b → parse_by p c l k b ≡ Err (too_long k)
unfolding parse_by when◌then◌else◌
parse_by_long p c l NoKind b h = refl
parse_by_long p c l ClockKind b h = rw (eqb_miss {a = length b} {b = l} (λ e. omega arith))
parse_by_long p c l (CallKind action) b h = rw (eqb_miss {a = length b} {b = l} (λ e. omega arith))

abbrev refusal : Bytes → Refusal
refusal b = too_long (kind_row (byte_at b 0)).kind

parse_long : (p : Parameters) (c : ℕ) (b : Bytes) → longest_frame + 1 ≤ length b → parse p c b ≡ Err (refusal b)
unfolding parse
parse_long p c b h =
    parse_by_long p c (kind_row (byte_at b 0)).length (kind_row (byte_at b 0)).kind b
    (unfold kind_length in (omega (arith, length_most (byte_at b 0))))

first_kept : (b : Bytes) → byte_at (take (longest_frame + 1) b) 0 ≡ byte_at b 0
unfolding byte_at
first_kept [] = refl
first_kept (x ∷ b) = refl

-- 'A string longer than the longest frame is refused by its first byte and its length alone'
pub parse_first : (p : Parameters) (c : ℕ) (b : Bytes) → longest_frame + 1 ≤ length b → parse p c b ≡ parse p c (take (longest_frame + 1) b)
parse_first p c b h =
    parse_long p c b h
    ∙ ap (λ (x : ℕ). Err (too_long (kind_row x).kind)) (sym (first_kept b))
    ∙ sym (parse_long p c (take (longest_frame + 1) b) (omega (arith, length-take (longest_frame + 1) b)))

-- so the panel does with such a string what it does with its first bytes: neither gets past refusals 2 and 3
decide_long : (e : Panel) (b : Bytes) (f : Result Frame Refusal) → parse e.kept.parameters (length e.outputs) b ≡ f → decide e b ≡ judged_by_station e.kept.time (get_or e.stations (station_of f) fresh_station) b f
unfolding decide
decide_long e b f h = rw h

pub frame_step_first : (e : Panel) (b : Bytes) → longest_frame + 1 ≤ length b → frame_step e b ≡ frame_step e (take (longest_frame + 1) b)
unfolding frame_step
frame_step_first e b h =
    ap (λ (s : Step). when panel_sound e then s else record { panel = e; answer = Refused (refusal_number BrokenRecords) })
    (alike (refusal b) (parse_long e.kept.parameters (length e.outputs) b h))
  where
    refused : (b : Bytes) (r : Refusal) → parse e.kept.parameters (length e.outputs) b ≡ Err r → execute b e (decide e b) ≡ record { panel = e; answer = Refused (refusal_number r) }
    refused b r q = rw (decide_long e b (Err r) q) (unfold judged_by_station judged_by_record execute in refl)

    alike : (r : Refusal) → parse e.kept.parameters (length e.outputs) b ≡ Err r → execute b e (decide e b) ≡ execute (take (longest_frame + 1) b) e (decide e (take (longest_frame + 1) b))
    alike r q =
        refused b r q ∙ sym (refused (take (longest_frame + 1) b) r (sym (parse_first e.kept.parameters (length e.outputs) b h) ∙ q))
