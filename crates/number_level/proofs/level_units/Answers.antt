use native.Mathlib.Omega.{arith}
use Rattle.lighting_levels.specs.Paper.Level.{level_units, level_of}
use Rattle.lighting_levels.proofs.Ranges.{level_range}
use Rattle.number_level.proofs.Missing.{units_are}
use Rattle.number_level.proofs.level_units.Goals as goal

pub returns-clause-upper_bound : goal.returns-clause-upper_bound
unfolding level_units
returns-clause-upper_bound c =
    let e = units_are 0 c.level_of_real.result (level_of c.args.x) c.unwrap_or.result c.unwrap_or.ensures c.level_of_real.ensures in
    omega (arith, e, level_range c.args.x)
