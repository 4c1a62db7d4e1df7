use Rattle.lighting_outputs.specs.Paper.Slots.{is_live}
use Rattle.lighting_outputs.proofs.Priorities.Mask.{tested}
use Rattle.output_slots.proofs.is_live.Goals as goal

pub returns-then-i-lt-NO_SLOT : goal.returns-then-i-lt-NO_SLOT
unfolding is_live
returns-then-i-lt-NO_SLOT c = tested 16 c.args.s.live c.args.i c.if-i-lt-NO_SLOT.true
