use Rattle.std.proofs.Common.{arith, ◌∙◌}
use lib.ListN.{length-take}
use Rattle.lighting_levels.specs.Paper.Field.{byte_at}
use Rattle.lighting_panel.specs.Engine.Judging.{restored}
use Rattle.lighting_frames.proofs.KindTable.{length_most}
use Rattle.station_frame.proofs.Bytes.{same_is}
use Rattle.station_frame.proofs.same_frame.Goals as goal

pub slice_bounds-f-end : goal.slice_bounds-f-end
unfolding byte_at
slice_bounds-f-end c = omega (arith, length_most (byte_at c.args.f 0))

pub slice_bounds-eq-end : goal.slice_bounds-eq-end
unfolding byte_at
slice_bounds-eq-end c = omega (arith, length_most (byte_at c.args.f 0), length-take c.kind_length.result c.args.f)

pub returns : goal.returns
unfolding restored byte_at
returns c = (rw c.kind_length.ensures at c.eq.ensures) ∙ same_is _ _
