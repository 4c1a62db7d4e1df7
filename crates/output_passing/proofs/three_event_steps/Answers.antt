use Rattle.lighting_levels.specs.Paper.Choice.{when◌then◌else◌}
use Rattle.lighting_outputs.specs.Engine.Advance.{advance, event_steps}
use Rattle.output_passing.proofs.three_event_steps.Goals as goal

pub returns : goal.returns
unfolding advance event_steps when◌then◌else◌
returns c = simp (c.two_event_steps.ensures, c.stretch.ensures, c.next_due-d.ensures)
