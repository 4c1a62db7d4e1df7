use Rattle.std.proofs.Common.{◌≡◌, true}
use Rattle.replay_line.specs.Tables.{panel_in, with_panel}
use Rattle.replay_line.specs.Taking.{Went}
use Rattle.replay_session.proofs.take_all.Given as goal

abbrev pub invariant-loop : goal.invariant-loop
invariant-loop g l = record {
  went : Went (panel_in l.fn.tables) l.fn.reader (panel_in l.tables) l.reader true;
  lent : l.tables ≡ with_panel l.fn.tables (panel_in l.tables);
}
