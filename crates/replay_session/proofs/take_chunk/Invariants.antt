use Rattle.std.proofs.Common.{◌≡◌, ◌-◌, length, drop}
use Rattle.replay_line.specs.Tables.{panel_in, with_panel}
use Rattle.replay_line.specs.Taking.{through}
use Rattle.replay_session.proofs.Reaching.{GoodSoFar}
use Rattle.replay_session.proofs.take_chunk.Given as goal

-- the text that is left comes to what the whole text comes to, and the lines before were good, and the tables
-- are those that were lent
abbrev pub invariant-loop-i : goal.invariant-loop-i
invariant-loop-i g l = record {
  rest : through (panel_in l.tables) l.reader (drop l.i l.s) ≡ through (panel_in l.fn.tables) l.fn.reader l.s;
  lent : l.tables ≡ with_panel l.fn.tables (panel_in l.tables);
  before : GoodSoFar (panel_in l.fn.tables) l.fn.reader l.s l.i (panel_in l.tables) l.reader;
}

abbrev pub decreases-loop-i : goal.decreases-loop-i
decreases-loop-i g l = length l.s - l.i
