use Rattle.std.proofs.Common.{rules}
use Rattle.lighting_levels.proofs.Choosing.{ifs}
use Rattle.lighting_outputs.specs.Paper.Slots.{mask_filled}
use Rattle.lighting_outputs.proofs.Priorities.Mask.{shifted}
use Rattle.output_slots.proofs.mask_fill.Goals as goal

pub returns-then-i-lt-NO_SLOT : goal.returns-then-i-lt-NO_SLOT
unfolding mask_filled
returns-then-i-lt-NO_SLOT c = rw (shifted 16 c.args.i c.if-i-lt-NO_SLOT.true) (search (rules, ifs))
