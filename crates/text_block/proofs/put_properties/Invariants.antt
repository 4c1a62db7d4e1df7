use Rattle.text_printing.specs.Page.{Wrote}
use Rattle.text_block.specs.Block.{property_fields}
use Rattle.text_block.proofs.put_properties.Given as goal

abbrev pub invariant-loop-i : goal.invariant-loop-i
invariant-loop-i l = Wrote l.fn.page (property_fields l.t l.o l.k l.i) l.page
