-- ELAPSED_ACTIVE_TIME: counted while Progress_Value is above zero, read in whole seconds, and at its top.
use mathlib.Core.Path.{◌≡◌}
use Prim.Native.Nat.{ℕ, ◌+◌, ◌*◌, ◌/◌, ◌≤◌, ◌<◌, min}
use native.Mathlib.Omega.{arith}
use Rattle.lighting_levels.specs.Paper.Choice.{when◌then◌else◌}
use Rattle.lighting_outputs.specs.Paper.Value.{progress_value, lit}
use Rattle.lighting_outputs.specs.Paper.Record.{with_burning}
use Rattle.lighting_outputs.specs.Paper.Passing.{lit_milliseconds, with_burned, after_events, fire, tick}
use Rattle.lighting_outputs.specs.Paper.Properties.{numbered, property_of, elapsed_active, read_property}
use Rattle.lighting_outputs.specs.Paper.Acting.{unchanged, acted}
use Rattle.lighting_outputs.specs.declared.Answer.TheVariants.{Value}
use Rattle.lighting_outputs.specs.declared.Output.{Output}
use Rattle.lighting_levels.proofs.Split.{leb_yes, leb_no}
use Rattle.lighting_outputs.proofs.Consequences.Reads.{reads}

-- 'Burning time gains a millisecond when Progress_Value is above zero', and nothing if it is not
pub burns : (t : ℕ) (o : Output) → 0 < progress_value t o → (tick t o).burning ≡ o.burning + 1
unfolding tick fire after_events with_burned with_burning lit_milliseconds lit when◌then◌else◌
burns t o h = rw (leb_yes {a = 1} {b = progress_value t o} h)

pub rests : (t : ℕ) (o : Output) → progress_value t o ≡ 0 → (tick t o).burning ≡ o.burning
unfolding tick fire after_events with_burned with_burning lit_milliseconds lit when◌then◌else◌
rests t o h = rw (leb_no {a = 1} {b = progress_value t o} (omega arith)) (omega arith)

-- property 0B reads the whole seconds s that have burned
pub seconds : (t s : ℕ) (o : Output) → s * 1000 ≤ o.burning → o.burning < s * 1000 + 1000 → s ≤ 4294967295 → reads t o 0x0b ≡ Value s
unfolding acted unchanged property_of numbered read_property elapsed_active when◌then◌else◌
seconds t s o h k m = let e : min 4294967295 (o.burning / 1000) ≡ s = omega arith in rw e

-- and at its top stays there
pub full : (t : ℕ) (o : Output) → 4294967295000 ≤ o.burning → reads t o 0x0b ≡ Value 4294967295
unfolding acted unchanged property_of numbered read_property elapsed_active when◌then◌else◌
full t o h = let e : min 4294967295 (o.burning / 1000) ≡ 4294967295 = omega arith in rw e
