-- The panel is lent parts of the tables, up to the smaller of what is asked and the table's length: an
-- operation on the parts is one on the panel of the first n outputs and the first k stations, and the rest
-- stands by.
use mathlib.Core.Path.{◌≡◌}
use mathlib.Core.List.{List, ◌++◌}
use Prim.Native.Nat.{ℕ, ◌-◌, min}
use lib.ListN.{length, take, drop}
use Rattle.lighting_levels.proofs.Parts.{part_taken, part_left}
use Rattle.lighting_panel.specs.Paper.Panel.{Panel, panel_of}
use Rattle.lighting_outputs.specs.declared.Output.{Output}
use Rattle.lighting_frames.specs.declared.Station.{Station}
use Rattle.lighting_panel.specs.declared.PanelRecord.{PanelRecord}
use Rattle.lent_parts.specs.Lending.{lent, returned}

pub parts_joined :
    (op : Panel → Panel) (n i k j : ℕ) (o : List Output) (s : List Station) (t : PanelRecord) (q : Panel) → i ≡ min n (length o) →
    j ≡ min k (length s) →
    q ≡ op (panel_of (take (i - 0) o) (take (j - 0) s) t) →
    panel_of (q.outputs ++ drop (i - 0) o) (q.stations ++ drop (j - 0) s) q.kept ≡ returned n k (panel_of o s t) (op (lent n k (panel_of o s t)))
parts_joined op n i k j o s t q e f p =
    rw (p, part_taken n i o e, part_left n i o e, part_taken k j s f, part_left k j s f)
