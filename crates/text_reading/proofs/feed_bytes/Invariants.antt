use Rattle.std.proofs.Common.{◌≡◌, true, ◌+◌, ◌-◌, ◌≤◌, drop, length}
use Rattle.text_reading.specs.Reading.{may_begin, bytes_kept, fed_line, line_length}
use Rattle.text_reading.proofs.Lines.{Comes}
use Rattle.text_reading.proofs.Runs.{reader_with}
use Rattle.text_reading.proofs.feed_bytes.Given as goal

abbrev pub invariant-loop-i : goal.invariant-loop-i
invariant-loop-i l = record {
  begins : may_begin l.fn.w.named l.held ≡ true;
  room : length l.bytes ≡ bytes_kept;
  above : l.from ≤ l.i;
  within : l.i ≤ length l.s;
  comes : Comes (reader_with l.fn.w.named l.fn.w.line l.held l.bytes l.count) l.s l.i (fed_line l.fn.w (drop l.from l.s)) (l.from + line_length (drop l.from l.s));
}

abbrev pub decreases-loop-i : goal.decreases-loop-i
decreases-loop-i l = length l.s - l.i
