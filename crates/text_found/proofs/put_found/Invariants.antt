use Rattle.std.proofs.Common.{◌≡◌, take}
use Rattle.text_found.specs.Found.{with_found}
use Rattle.text_found.proofs.put_found.Given as goal

-- the page has what is found of the outputs before
abbrev pub invariant-loop-i : goal.invariant-loop-i
invariant-loop-i g l = l.page ≡ with_found l.fn.page l.report l.time (take l.i l.o-items)
