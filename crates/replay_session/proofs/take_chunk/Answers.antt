use Rattle.std.proofs.Common.{refl, ap}
use Rattle.replay_line.specs.Tables.{panel_in}
use Rattle.replay_line.specs.Taking.{through}
use Rattle.replay_line.proofs.Through.{went_on, broke_off, line_open}
use Rattle.replay_session.proofs.Reaching.{good_none, good_more, good_left, reached_in, on_err, lent_on}
use Rattle.replay_session.proofs.take_chunk.Goals as goal

pub loop-i-init : goal.loop-i-init
loop-i-init g c = record { rest = refl; lent = refl; before = good_none _ _ _ }

pub returns-in_err-with_room-clause-err : goal.returns-in_err-with_room-clause-err
returns-in_err-with_room-clause-err g c =
    let d = c.feed_line-fed in
    let k = c.take_line-good in
    on_err c.from_residual.result
    (reached_in c.loop-i.invariant.before d.result.next d.result.reader (panel_in k.new.tables) k.new.reader k.result d.ensures.reader_value d.ensures.next_value c.if-i-s.true (ap panel_in k.ensures.kept_after) k.ensures.reader_value k.ensures.good_value)

pub returns-then-not-good : goal.returns-then-not-good
returns-then-not-good g c =
    let a = c.args in
    let l = c.loop-i in
    let d = c.feed_line-fed in
    let k = c.take_line-good in
    let z = through (panel_in a.tables.now) a.reader.now a.s.now in
    let b = broke_off (panel_in l.tables) l.reader a.s.now l.i d.result.next d.result.reader d.ensures.reader_value d.ensures.next_value c.if-i-s.true (panel_in k.new.tables) k.new.reader k.result z (ap panel_in k.ensures.kept_after) k.ensures.reader_value k.ensures.good_value l.invariant.rest c.if-not-good.true in
    record { reader_value = b.0; good_value = b.1.0; kept_after = b.1.1; same_tables = lent_on a.tables.now l.tables _ l.invariant.lent k.ensures.kept_after; err = tt }

pub loop-i-preserved-else-not-good : goal.loop-i-preserved-else-not-good
loop-i-preserved-else-not-good g c =
    let a = c.args in
    let l = c.loop-i in
    let d = c.feed_line-fed in
    let k = c.take_line-good in
    let z = through (panel_in a.tables.now) a.reader.now a.s.now in
    record {
      rest = went_on (panel_in l.tables) l.reader a.s.now l.i d.result.next d.result.reader d.ensures.reader_value d.ensures.next_value c.if-i-s.true (panel_in k.new.tables) k.new.reader k.result z (ap panel_in k.ensures.kept_after) k.ensures.reader_value k.ensures.good_value l.invariant.rest c.if-not-good.false;
      lent = lent_on a.tables.now l.tables _ l.invariant.lent k.ensures.kept_after;
      before = good_more l.invariant.before d.result.next d.result.reader (panel_in k.new.tables) k.new.reader k.result d.ensures.reader_value d.ensures.next_value c.if-i-s.true (ap panel_in k.ensures.kept_after) k.ensures.reader_value k.ensures.good_value c.if-not-good.false;
    }

pub loop-i-preserved : goal.loop-i-preserved
loop-i-preserved g c =
    let a = c.args in
    let l = c.loop-i in
    let d = c.feed_line-fed in
    let z = through (panel_in a.tables.now) a.reader.now a.s.now in
    record {
      rest = line_open (panel_in l.tables) l.reader a.s.now l.i d.result.next d.result.reader d.ensures.reader_value d.ensures.next_value z c.if-i-s.false l.invariant.rest;
      lent = l.invariant.lent;
      before = good_left l.invariant.before d.result.next d.ensures.reader_value d.ensures.next_value c.if-i-s.false;
    }
