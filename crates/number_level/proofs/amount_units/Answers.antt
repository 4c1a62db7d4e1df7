use native.Mathlib.Omega.{arith}
use Rattle.lighting_levels.specs.Paper.Level.{amount_units, amount_of}
use Rattle.lighting_levels.proofs.Ranges.{amount_range}
use Rattle.number_level.proofs.Missing.{units_are}
use Rattle.number_level.proofs.amount_units.Goals as goal

pub returns-clause-lower_bound : goal.returns-clause-lower_bound
unfolding amount_units
returns-clause-lower_bound c =
    let e = units_are 8192 c.amount_of_real.result (amount_of c.args.x) c.unwrap_or.result c.unwrap_or.ensures c.amount_of_real.ensures in
    let r = amount_range c.args.x in
    (omega (arith, e, r.0), omega (arith, e, r.1))
