use Rattle.text_printing.proofs.Pages.{texts}
use Rattle.text_faults.specs.Faults.{outside_words}
use Rattle.text_faults.proofs.put_outside.Goals as goal

pub returns : goal.returns
unfolding outside_words
returns c =
    rw (c.put_all-3.ensures, c.put_bounds.ensures, c.bounds.ensures, c.put_all-2.ensures, c.put_all.ensures, c.letters.ensures, c.put.ensures)
    (simp texts)
