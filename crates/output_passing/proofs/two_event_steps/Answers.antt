use Rattle.lighting_levels.specs.Paper.Choice.{when◌then◌else◌}
use Rattle.lighting_outputs.specs.Engine.Advance.{event_steps}
use Rattle.output_passing.proofs.two_event_steps.Goals as goal

pub returns : goal.returns
unfolding event_steps when◌then◌else◌
returns c = simp (c.one_event_step.ensures, c.stretch.ensures, c.next_due-d.ensures)
