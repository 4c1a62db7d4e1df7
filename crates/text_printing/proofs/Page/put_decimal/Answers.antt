use Rattle.std.proofs.Common.{◌≡◌, ◌-◌, arith, ◌∙◌, take, drop, set, length-drop}
use Rattle.std.proofs.lemmas.List.{take_all}
use Rattle.std.proofs.Math.ListN.{length-set}
use Rattle.text_printing.proofs.Decimals.{digit_turn, digit_last, digit_full}
use Rattle.text_printing.specs.Writing.{decimal}
use Rattle.text_printing.proofs.Page.put_decimal.Goals as goal
use Rattle.text_printing.proofs.Page.put_decimal.Goals.{then-loop-rest-test+else-i-gt0, else-loop-rest-test}

pub loop-rest-preserved : goal.loop-rest-preserved
loop-rest-preserved c =
    let l = c.loop-rest in
    record {
      within = omega arith;
      room = length-set l.bytes l.i c.last_digit.result ∙ l.invariant.room;
      digits = digit_turn l.i l.rest c.last_digit.result l.bytes _ (omega arith) (omega arith) (omega arith) c.last_digit.ensures l.invariant.digits;
    }

pub returns : goal.returns
returns c =
    let l = c.loop-rest in
    let d = c.last_digit-2 in
    let digits : drop l.i (set l.bytes l.i d.result) ≡ decimal c.args.n =
    elim c.loop-rest-test.branch [
      | then-loop-rest-test+else-i-gt0 w ↦ digit_full l.i l.rest d.result l.bytes _ (omega arith) (omega arith) d.ensures l.invariant.digits
      | else-loop-rest-test w ↦ digit_last l.i l.rest d.result l.bytes _ (omega arith) (omega arith) d.ensures l.invariant.digits
    ]
    in
    let all : take (20 - l.i) (drop l.i (set l.bytes l.i d.result)) ≡ drop l.i (set l.bytes l.i d.result) =
    take_all (20 - l.i) _ (omega (arith, length-drop l.i (set l.bytes l.i d.result), length-set l.bytes l.i d.result))
    in
    rw (all, digits) at c.put_all.ensures
