use Rattle.std.proofs.Common.{◌≡◌, ◌<◌, ◌^◌}
use Rattle.lighting_levels.specs.Paper.Field.{big_endian}
use Rattle.frame_field.proofs.big_endian.Given as goal

-- the number in the first i bytes
abbrev pub invariant-loop-i : goal.invariant-loop-i
invariant-loop-i g l = (l.n ≡ big_endian l.i l.s l.at) × (l.n < 256 ^ l.i)
