use Rattle.station_frame.proofs.Bytes.{padded_by}
use Rattle.station_frame.proofs.pad.Goals as goal

pub returns : goal.returns
returns c = padded_by c.args.b.now _ c.copy_from_slice.ensures.after
