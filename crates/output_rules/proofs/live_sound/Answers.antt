-- The lowest live slot holds a level, so it is done with.
use Rattle.std.proofs.Common.{◌≡◌, ◌∙◌, ◌-◌, get_or, refl, true, arith, rules}
use lib.Bits.{and_le_l}
use lib.Count.{count_trailing_zeros}
use Rattle.lighting_outputs.specs.Paper.Rows.{is_level}
use Rattle.output_rules.proofs.LiveSlots.{low_within, low_done}
use Rattle.output_rules.proofs.live_sound.Goals as goal

pub loop-left-preserved : goal.loop-left-preserved
loop-left-preserved c =
    let m = c.loop-left.left in
    let levels = c.args.s.levels in
    let i = count_trailing_zeros 16 m in
    let some_left = low_within 16 m c.loop-left-test.true c.loop-left.invariant.fits in
    let level : is_level (get_or levels i 0) ≡ true = search rules in
    record {
      fits = omega (arith, and_le_l m (m - 1));
      tested = c.loop-left.invariant.tested ∙ low_done m levels some_left i (get_or levels i 0) refl refl level;
    }
