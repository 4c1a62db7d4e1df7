use lib.Ieee.{to_bits}
use Rattle.lighting_levels.specs.Paper.Level.{bits}
use Rattle.number_level.proofs.Numbers.{found}
use Rattle.number_level.proofs.bits_of.Goals as goal

pub returns-then-is_nan : goal.returns-then-is_nan
unfolding bits to_bits
returns-then-is_nan c = rw (found c.args.x c.is_nan.ensures.value c.if-is_nan.true)
