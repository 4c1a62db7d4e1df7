-- DOCUMENT 01'S OWN NUMBER of stations: refusal 4 at its set, whatever the count of outputs.
use Rattle.std.specs.Prelude.{Ok, Err}
use mathlib.Core.Path.{◌≡◌, refl}
use Prim.Native.Nat.{ℕ}
use lib.Dec.{eqb, ltb}
use Rattle.lighting_levels.specs.Paper.Choice.{when◌then◌else◌}
use Rattle.lighting_outputs.specs.Paper.Parameters.{document01}
use Rattle.lighting_frames.specs.Paper.Frames.{called}
use Rattle.lighting_frames.specs.declared.Call.{Call}
use Rattle.lighting_frames.specs.declared.Frame.TheVariants.{Calls}
use Rattle.lighting_outputs.specs.declared.refusals.Refusal.TheVariants.{UnknownStation, UnknownOutput}

-- 'station over 7, or number 0' is 4, 'output not in the table' is 5
pub stations : (outputs c : ℕ) (call : Call)
    → called (document01 outputs) c call
    ≡ (when ltb call.station 8
    then (when eqb call.number 0 then Err UnknownStation else when ltb call.output c then Ok (Calls call) else Err UnknownOutput)
    else Err UnknownStation)
unfolding called
stations outputs c call = refl
