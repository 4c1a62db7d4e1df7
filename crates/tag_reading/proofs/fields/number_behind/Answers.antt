use Rattle.std.proofs.Common.{arith}
use Rattle.lighting_levels.specs.Paper.Field.{byte_at}
use Rattle.tag_reading.proofs.Looking.{front}
use Rattle.tag_reading.proofs.fields.number_behind.Goals as goal

pub returns-in-1 : goal.returns-in-1
unfolding byte_at
returns-in-1 c = front c.args.left.now (λ i. omega (arith, c.type_inv.left i)) 1 3 c.in-1.is c.word32_at-word.ensures

pub returns-in-2 : goal.returns-in-2
unfolding byte_at
returns-in-2 c = front c.args.left.now (λ i. omega (arith, c.type_inv.left i)) 2 2 c.in-2.is c.word32_at-word.ensures

pub returns-in-3 : goal.returns-in-3
unfolding byte_at
returns-in-3 c = front c.args.left.now (λ i. omega (arith, c.type_inv.left i)) 3 1 c.in-3.is c.word32_at-word.ensures
