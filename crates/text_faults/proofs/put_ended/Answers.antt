use Rattle.text_printing.proofs.Pages.{texts}
use Rattle.text_faults.specs.Faults.{ended_line}
use Rattle.text_faults.proofs.put_ended.Goals as goal

pub returns : goal.returns
unfolding ended_line
returns c = rw (c.put.ensures, c.put_all.ensures, c.put_placed.ensures) (simp texts)
