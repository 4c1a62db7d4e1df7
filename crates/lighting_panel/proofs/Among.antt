-- A frame that is among those of a list.
use mathlib.Core.List.{List, [], ◌∷◌}
use Rattle.lighting_levels.specs.Paper.Choice.{Every}
use Rattle.lighting_frames.specs.Paper.Frames.{Bytes}
use Rattle.lighting_panel.specs.Paper.Demand.{Among, here, there}

-- of each string of a list
pub every_among : (P : Bytes → Type 0) (l : List Bytes) (b : Bytes) → Among b l → Every P l → P b
every_among P [] b m a = elim m [ ]
every_among P (x ∷ l) b here a = a.0
every_among P (x ∷ l) b (there m) a = every_among P l b m a.1
