-- Made by tools/laws.py: each definition by clauses, at the variant that a match has found.
use mathlib.Core.Path.{◌≡◌}
use Prim.Native.Nat.{ℕ}
use Rattle.lighting_frames.specs.Paper.Frames.{Bytes}
use Rattle.lighting_frames.specs.declared.Frame.{Frame}
use Rattle.lighting_frames.specs.declared.Station.{Station}
use Rattle.lighting_frames.specs.declared.Verdict.{Verdict}
use Rattle.lighting_outputs.specs.declared.refusals.Refusal.{Refusal}
use Rattle.lighting_panel.specs.Engine.Executing.{execute}
use Rattle.lighting_panel.specs.Engine.Judging.{judged_by_record, station_of}
use Rattle.lighting_panel.specs.Paper.Panel.{Panel, Step}
use Rattle.std.specs.Prelude.{Result}
use mathlib.Core.Bool.{Bool}

pub execute_on : (x0 : Bytes) (x1 : Panel) (x2 : Result Verdict Refusal) (k : Result Verdict Refusal) (r : Step) → x2 ≡ k → r ≡ execute x0 x1 k → r ≡ execute x0 x1 x2
execute_on x0 x1 x2 k r e p = rw e p

pub judged_by_record_on : (x0 : ℕ) (x1 : Station) (x2 : Bool) (x3 : Result Frame Refusal) (k : Result Frame Refusal) (r : Result Verdict Refusal) → x3 ≡ k → r ≡ judged_by_record x0 x1 x2 k → r ≡ judged_by_record x0 x1 x2 x3
judged_by_record_on x0 x1 x2 x3 k r e p = rw e p

pub station_of_on : (x0 : Result Frame Refusal) (k : Result Frame Refusal) (r : ℕ) → x0 ≡ k → r ≡ station_of k → r ≡ station_of x0
station_of_on x0 k r e p = rw e p
