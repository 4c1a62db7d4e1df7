use Rattle.std.proofs.Common.{◌≡◌, ◌++◌, ◌+◌, ◌≤◌, drop, length}
use Rattle.text_printing.specs.Writing.{decimal_by, decimal}
use Rattle.text_printing.proofs.Page.put_decimal.Given as goal

abbrev pub invariant-loop-rest : goal.invariant-loop-rest
invariant-loop-rest l = record {
  within : l.i ≤ 19;
  room : length l.bytes ≡ 20;
  digits : decimal_by l.i l.rest ++ drop (l.i + 1) l.bytes ≡ decimal l.n;
}

abbrev pub decreases-loop-rest : goal.decreases-loop-rest
decreases-loop-rest l = l.i
