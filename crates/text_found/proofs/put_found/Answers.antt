use Rattle.std.proofs.Common.{rules, take}
use Rattle.text_found.specs.Partly.{FoundPartly}
use Rattle.text_found.proofs.Partly.{partly_begun, partly_more, partly}
use Rattle.text_found.proofs.put_found.Goals as goal

pub loop-i-init : goal.loop-i-init
loop-i-init g c = partly_begun c.args.report c.args.time 0 c.args.page.now c.put_head.ensures

pub loop-i-preserved : goal.loop-i-preserved
loop-i-preserved g c =
    partly_more c.args.report c.args.time c.loop-i.i c.args.page.now (take c.min.result c.args.outputs.now) _ c.loop-i-test.true c.loop-i.invariant c.in_ok-with_room.ensures.value c.put_output.ensures

pub returns-in_err-with_room-clause-err : goal.returns-in_err-with_room-clause-err
returns-in_err-with_room-clause-err g c =
    let h : FoundPartly c.args.page.now c.args.report c.args.time (take c.args.n c.args.outputs.now) c.with_room.new.page = partly c.args.report c.args.time c.loop-i.i c.args.page.now c.args.n c.min.result c.args.outputs.now c.min.ensures c.loop-i.invariant c.in_err-with_room.ensures.err.0 in
    search rules
