use Rattle.std.proofs.Common.{◌≡◌, ◌∙◌, take, arith}
use lib.Seq.{take_all}
use Rattle.text_printing.proofs.Pages.{with_text_then}
use Rattle.lent_rows.proofs.put_row.Goals as goal

pub returns : goal.returns
returns c =
    let e : take c.loop-n.n-index c.args.row.now ≡ c.args.row.now = take_all c.loop-n.n-index c.args.row.now (omega arith) in
    c.put-2.ensures ∙ rw (c.loop-n.invariant, e) (with_text_then _ _ _)
