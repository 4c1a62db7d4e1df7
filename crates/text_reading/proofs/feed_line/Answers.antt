use Rattle.std.proofs.Common.{arith, ◌∙◌}
use Rattle.text_reading.proofs.Lines.{line_turn, line_newline, line_over}
use Rattle.text_reading.proofs.feed_line.Goals as goal

pub loop-i-preserved-then-i-s : goal.loop-i-preserved-then-i-s
loop-i-preserved-then-i-s c =
    let n = c.feed_bytes-run in
    let k = c.loop-i.invariant.comes in
    record {
      within = omega arith;
      comes = rw c.feed-reader.ensures (line_turn n.result.reader c.args.s.now n.result.next _ _ c.if-i-s.true c.if-c-eq10.false (n.ensures.s_value ∙ k.0, n.ensures.s_value_2 ∙ k.1));
    }

pub returns-after-loop-i : goal.returns-after-loop-i
returns-after-loop-i c =
    let k = line_over c.loop-i.reader c.args.s.now c.loop-i.i _ _ c.loop-i-test.false c.loop-i.invariant.comes in
    record { reader_value = k.0; next_value = k.1 }

pub returns-then-c-eq10 : goal.returns-then-c-eq10
returns-then-c-eq10 c =
    let n = c.feed_bytes-run in
    let l = c.loop-i.invariant.comes in
    let k = line_newline n.result.reader c.args.s.now n.result.next _ _ c.if-i-s.true c.if-c-eq10.true (n.ensures.s_value ∙ l.0, n.ensures.s_value_2 ∙ l.1) in
    record { reader_value = k.0; next_value = k.1 }
