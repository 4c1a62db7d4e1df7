use Rattle.std.proofs.Common.{sym}
use Rattle.text_printing.proofs.Pages.{with_text_part}
use Rattle.text_printing.proofs.Page.put_all.Goals as goal

pub returns-then-self : goal.returns-then-self
returns-then-self c =
    rw c.copy_from_slice.ensures.after
    (sym (with_text_part c.args.self.now c.args.s.now c.min-n.result c.if-self.true c.min-n.ensures))
