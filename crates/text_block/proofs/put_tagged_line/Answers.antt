use Rattle.text_printing.proofs.Pages.{texts}
use Rattle.text_block.specs.Block.{tagged_line}
use Rattle.text_block.proofs.Tagged.{own_bytes}
use Rattle.text_block.proofs.put_tagged_line.Goals as goal

pub returns : goal.returns
unfolding tagged_line
returns c =
    let own = own_bytes c.args.k c.tagged_body-body.result c.tagged_body-body.ensures c.from.result c.from.ensures in
    rw (c.put.ensures, c.put_hex_bytes.ensures, own, c.put_all.ensures) (simp texts)
