use Rattle.std.proofs.Common.{◌+◌, ◌-◌, ◌≤◌, drop, length}
use Rattle.text_reading.specs.Reading.{fed_line, line_length}
use Rattle.text_reading.proofs.Lines.{Comes}
use Rattle.text_reading.proofs.feed_line.Given as goal

abbrev pub invariant-loop-i : goal.invariant-loop-i
invariant-loop-i l = record {
  within : l.i ≤ length l.s;
  comes : Comes l.reader l.s l.i (fed_line l.fn.w (drop l.from l.s)) (l.from + line_length (drop l.from l.s));
}

abbrev pub decreases-loop-i : goal.decreases-loop-i
decreases-loop-i l = length l.s - l.i
