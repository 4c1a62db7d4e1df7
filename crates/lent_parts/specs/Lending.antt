-- Parts of the tables are lent to the panel: the first so many outputs and the first so many stations. The
-- rest stands by.
use Rattle.std.specs.Prelude.{◌++◌, ℕ, take, drop}
use Rattle.lighting_outputs.specs.declared.Parameters.{Parameters}
use Rattle.lighting_frames.specs.Paper.Frames.{Bytes}
use Rattle.lighting_panel.specs.Paper.Panel.{Panel, Step, panel_of, start_step}
use Rattle.lighting_panel.specs.Engine.Executing.{frame_step}

-- the panel of the first n outputs and the first k stations
abbrev pub lent : ℕ → ℕ → Panel → Panel
lent n k e = panel_of (take n e.outputs) (take k e.stations) e.kept

-- that panel q after an operation, and the records that stand by
abbrev pub returned : ℕ → ℕ → Panel → Panel → Panel
returned n k e q = panel_of (q.outputs ++ drop n e.outputs) (q.stations ++ drop k e.stations) q.kept

-- that panel is started with the set p (§6) and the marks (§8)
unfoldable pub begun : ℕ → ℕ → Parameters → ℕ → Panel → Step
begun n k p marks e =
    let started = start_step p marks (lent n k e) in
    record { panel = returned n k e started.panel; answer = started.answer }

-- a string of bytes goes to that panel
unfoldable pub sent : ℕ → ℕ → Bytes → Panel → Step
sent n k b e =
    record { panel = returned n k e (frame_step (lent n k e) b).panel; answer = (frame_step (lent n k e) b).answer }
