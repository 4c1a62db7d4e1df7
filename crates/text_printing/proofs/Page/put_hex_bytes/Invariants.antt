use Rattle.std.proofs.Common.{◌≡◌, take}
use Rattle.text_printing.specs.Page.{with_text}
use Rattle.text_printing.specs.Writing.{hex_bytes}
use Rattle.text_printing.proofs.Page.put_hex_bytes.Given as goal

abbrev pub invariant-loop-b : goal.invariant-loop-b
invariant-loop-b l = l.self ≡ with_text l.fn.self (hex_bytes (take l.b-index l.s))
