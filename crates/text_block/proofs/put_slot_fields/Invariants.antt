use Rattle.text_printing.specs.Page.{Wrote}
use Rattle.text_block.specs.Block.{slot_fields}
use Rattle.text_block.proofs.put_slot_fields.Given as goal

abbrev pub invariant-loop-i : goal.invariant-loop-i
invariant-loop-i l = Wrote l.fn.page (slot_fields l.s l.i) l.page
