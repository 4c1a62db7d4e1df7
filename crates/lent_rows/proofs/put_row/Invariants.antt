use Rattle.std.proofs.Common.{◌≡◌, ◌∷◌, take}
use Rattle.text_printing.specs.Page.{with_text}
use Rattle.lent_rows.specs.Rows.{numbers_text}
use Rattle.lent_rows.proofs.put_row.Given as goal

-- the letter, and the numbers so far
abbrev pub invariant-loop-n : goal.invariant-loop-n
invariant-loop-n l = l.page ≡ with_text l.fn.page (l.letter ∷ numbers_text (take l.n-index l.row))
