use Rattle.std.proofs.Common.{arith, sym, ◌∙◌}
use Rattle.std.proofs.Math.ListN.{length-set}
use Rattle.text_reading.proofs.Runs.{reader_with, begins_again, byte_turn, blank_turn}
use Rattle.text_reading.proofs.feed_bytes.Goals as goal

pub loop-i-preserved-in-Some : goal.loop-i-preserved-in-Some
loop-i-preserved-in-Some c =
    let l = c.loop-i in
    let a = c.args in
    let w = reader_with a.w.named a.w.line l.held l.bytes l.count in
    let first = sym c.hex_value.ensures ∙ c.in-Some.is in
    let second = sym c.hex_value-in-Some.ensures ∙ c.in-Some-hex_value.is in
    let z = c.byte_pair in
    record {
      begins = begins_again a.w.named l.held l.invariant.begins;
      room = length-set l.bytes l.count z.result ∙ l.invariant.room;
      above = omega arith;
      within = omega arith;
      comes = byte_turn w l.invariant.begins a.s.now l.i _ _ _ _ z.result (omega arith) (omega arith) first second z.ensures l.invariant.comes;
    }

pub loop-i-preserved : goal.loop-i-preserved
loop-i-preserved c =
    let l = c.loop-i in
    let a = c.args in
    let w = reader_with a.w.named a.w.line l.held l.bytes l.count in
    let blank = sym c.is_blank.ensures ∙ c.if-is_blank.true in
    record {
      begins = l.invariant.begins;
      room = l.invariant.room;
      above = omega arith;
      within = omega arith;
      comes = blank_turn w l.invariant.begins a.s.now l.i _ _ c.loop-i-test.true blank l.invariant.comes;
    }
