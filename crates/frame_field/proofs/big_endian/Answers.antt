use Rattle.std.proofs.Common.{arith, ◌∙◌, refl}
use Rattle.lighting_levels.specs.Paper.Field.{big_endian}
use Rattle.frame_field.proofs.Bytes.{byte_more, fits_more, room}
use Rattle.frame_field.proofs.big_endian.Goals as goal

pub loop-i-init : goal.loop-i-init
unfolding big_endian
loop-i-init g c = (refl, omega arith)

pub overflow_mul-n : goal.overflow_mul-n
overflow_mul-n g c =
    let r = room c.loop-i.i g.row.N c.loop-i.n c.loop-i.invariant.1 c.loop-i-test.true c.requires in
    record { fits = omega (arith, r) }

pub overflow_add-n : goal.overflow_add-n
overflow_add-n g c =
    let r = room c.loop-i.i g.row.N c.loop-i.n c.loop-i.invariant.1 c.loop-i-test.true c.requires in
    record { fits = omega (arith, r) }

pub loop-i-preserved : goal.loop-i-preserved
loop-i-preserved g c = (
  byte_more c.args.s.now c.loop-i.i c.args.at c.saturating_add.result 18446744073709551615 (omega arith) c.saturating_add.ensures
      c.loop-i.invariant.0 (c.from.ensures ∙ c.byte_at.ensures),
  fits_more c.loop-i.i c.loop-i.n _ c.loop-i.invariant.1 (omega arith),
)
