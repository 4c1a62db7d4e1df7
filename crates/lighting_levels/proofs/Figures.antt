-- Made by tools/figures.py: figures, traps and worked lists of this layer, computed by the definitions.
use mathlib.Core.Path.{◌≡◌, refl}
use lib.Ieee.{of_bits}
use Rattle.lighting_levels.specs.Paper.Choice.{when◌then◌else◌, all_from, every}
use Rattle.lighting_levels.specs.Paper.Level.{real, bits, level_of, real_of, read_out, real_from_to, amount_of, limit_of, in_range, units_or, amount_units, level_units}
use Rattle.lighting_levels.specs.Paper.WorkedHalves.{halves_given, halves_said}

-- §5: REALs halfway between two units
pub halves_by_hand : halves_given ≡ halves_said
unfolding of_bits when◌then◌else◌ all_from every real bits level_of real_of read_out real_from_to amount_of limit_of in_range units_or amount_units level_units
halves_by_hand = refl
