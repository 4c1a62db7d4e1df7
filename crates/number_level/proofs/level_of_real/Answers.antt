use mathlib.Core.Path.{sym, ◌∙◌}
use lib.Ieee.{of_bits}
use Rattle.number_level.proofs.Tested.{at_zero, small, large, negative, no_limit}
use Rattle.number_level.proofs.level_of_real.Goals as goal
use Rattle.number_level.proofs.level_of_real.Goals.{else-x-2-via-then-x-2+else-x-3, else-x-2-via-else-x-2}

pub returns-then-x : goal.returns-then-x
unfolding of_bits
returns-then-x c = sym (at_zero c.args.x c.if-x.true)

pub returns-then-x-3 : goal.returns-then-x-3
unfolding of_bits
returns-then-x-3 c = sym (small c.args.x c.if-x-2.true c.if-x-3.true)

-- from 1 on, or not above 0 at all
pub returns-else-x-2 : goal.returns-else-x-2
unfolding of_bits
returns-else-x-2 c =
    elim c.else-x-2.branch [
      | else-x-2-via-then-x-2+else-x-3 w ↦ c.limit_of_real.ensures ∙ large c.args.x w.if-x-2.true w.if-x-3.false
      | else-x-2-via-else-x-2 w ↦ c.limit_of_real.ensures ∙ no_limit c.args.x c.if-x.false w.if-x-2.false ∙ sym (negative c.args.x c.if-x.false w.if-x-2.false)
    ]
