use Rattle.std.proofs.Common.{arith, ◌∙◌}
use Rattle.tag_reading.proofs.Looking.{between}
use Rattle.tag_reading.proofs.fields.field_in.Goals as goal

pub overflow_sub-count : goal.overflow_sub-count
overflow_sub-count c =
    omega (arith, between _ _ _ _ (c.from.ensures ∙ c.context_tag.ensures) (c.from-2.ensures ∙ c.context_tag-2.ensures) (c.from-3.ensures ∙ c.byte_at-tag.ensures) c.is_within.ensures c.if-is_within.true)

pub number_behind-requires : goal.number_behind-requires
number_behind-requires c =
    let b = between _ _ _ _ (c.from.ensures ∙ c.context_tag.ensures) (c.from-2.ensures ∙ c.context_tag-2.ensures) (c.from-3.ensures ∙ c.byte_at-tag.ensures) c.is_within.ensures c.if-is_within.true in
    (omega (arith, b), omega (arith, b))
