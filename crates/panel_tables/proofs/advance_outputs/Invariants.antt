use Rattle.std.proofs.Common.{◌≡◌}
use Rattle.lighting_outputs.specs.Engine.Advance.{advance}
use Rattle.panel_tables.proofs.Loops.{mapped}
use Rattle.panel_tables.proofs.advance_outputs.Given as goal

-- the first i records are at the later time
abbrev pub invariant-loop-i : goal.invariant-loop-i
invariant-loop-i l = l.outputs ≡ mapped (advance l.from l.to) l.i l.initial.outputs
