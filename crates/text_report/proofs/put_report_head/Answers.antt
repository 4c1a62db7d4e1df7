use Rattle.text_printing.proofs.Pages.{texts}
use Rattle.text_report.specs.Report.{report_head}
use Rattle.text_report.proofs.put_report_head.Goals as goal

pub returns : goal.returns
unfolding report_head
returns c = rw (c.put_all-2.ensures, c.put.ensures, c.put_moment.ensures, c.put_all.ensures) (simp texts)
