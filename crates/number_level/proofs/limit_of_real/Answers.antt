use mathlib.Core.Path.{sym, ◌∙◌}
use lib.Ieee.{of_bits}
use Rattle.number_level.proofs.Tested.{under_one, from_one}
use Rattle.number_level.proofs.limit_of_real.Goals as goal

pub returns-then-x : goal.returns-then-x
unfolding of_bits
returns-then-x c = sym (under_one c.args.x c.if-x.true)

pub returns-else-x : goal.returns-else-x
unfolding of_bits
returns-else-x c = c.amount_of_real.ensures ∙ from_one c.args.x c.if-x.false
