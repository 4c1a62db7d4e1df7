use Rattle.std.proofs.Common.{rules, arith}
use Rattle.tag_writing.proofs.Room.{body_written, body_most}
use Rattle.tag_writing.proofs.tagged_body.Goals as goal

pub overflow_cast-length : goal.overflow_cast-length
overflow_cast-length c = omega (arith, body_most c.args.k c.new-page.ensures c.put_command.ensures)

pub returns : goal.returns
returns c = search (rules, body_written c.args.k c.new-page.ensures c.put_command.ensures)
