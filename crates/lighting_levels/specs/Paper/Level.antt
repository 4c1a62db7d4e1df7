-- A REAL (IEEE 754 binary32, `lib.Ieee`'s Float) as a whole number of 1 / 65,536 percent, and back: 'Levels'
-- and 'Frames'. A finite REAL `fin s m e` is the exact number a / c, with a = m * up e and c = down e,
-- negative where s is true.
use Prim.Native.Nat.{ℕ, suc, ◌+◌, ◌*◌, ◌/◌, ◌%◌, min, compare, Ordering, ◌-◌}
use Rattle.std.specs.Prelude.{Bool, true, false, leb, ltb, eqb, Float, Option, Some, None}
use Rattle.std.specs.Float.{nan, inf, fin, binary32}
use Rattle.std.specs.Float.Ieee.{up, down, round, of_bits, to_bits}
use Rattle.lighting_levels.specs.Paper.Choice.{when◌then◌else◌, ◌also◌}

-- 'a whole number of 1/65,536 percent': the units of one percent, which is the least level above 0, and of
-- 100 percent, the greatest
abbrev pub one_percent : ℕ
one_percent = 65536

abbrev pub least_level : ℕ
least_level = one_percent

abbrev pub greatest_level : ℕ
greatest_level = 6553600

-- and of 0.125 percent, the least rate or step
abbrev pub least_amount : ℕ
least_amount = 8192

-- 'The base is [..] IEEE 754 binary32 for REAL': a REAL's pattern, read, and the pattern of a REAL
unfoldable pub real : ℕ → Float
real b = of_bits binary32 b

unfoldable pub bits : Float → ℕ
bits x = to_bits binary32 x

-- 'the nearest unit'; §5 of the change requests, 'Halves go to the even unit', in place of 'a half going up':
-- THE ROUNDING RULE, the only place that has it. Of q whole units and a rest, by how twice the rest compares
-- with a unit; at a half, the even one of q and q + 1
abbrev pub rule : ℕ → Ordering → ℕ
rule q Ordering.lt = q
rule q Ordering.eq = q + q % 2
rule q Ordering.gt = suc q

-- the whole number nearest to a / c
abbrev pub nearest_to : ℕ → ℕ → ℕ
nearest_to a c = rule (a / c) (compare (a % c * 2) c)

-- 'a whole number of 1/65,536 percent': a / c percent in units
abbrev pub units_in : ℕ → ℕ → ℕ
units_in a c = nearest_to (a * one_percent) c

-- a / c from k eighths to 100, in units
abbrev pub from_to : ℕ → ℕ → ℕ → Option ℕ
from_to k a c = when leb (k * c) (a * 8) also leb a (100 * c) then Some (units_in a c) else None

-- 'A REAL from 0 to 100 becomes the nearest unit [..]; above 0 and below 1 it becomes 65,536'
abbrev pub level_in : ℕ → ℕ → Option ℕ
level_in a c = when eqb a 0 then Some 0 else when ltb a c then Some least_level else from_to 8 a c

-- 'Minus zero is 0. NaN, infinities, negatives and values above 100 are refused.'
unfoldable pub level_of : Float → Option ℕ
level_of nan = None
level_of (inf s) = None
level_of (fin true m e) = when eqb (m * up e) 0 then Some 0 else None
level_of (fin false m e) = level_in (m * up e) (down e)

-- 'A level is read out as one division by 65,536': the REAL nearest to n / 65,536. Of a level it is n /
-- 65,536 itself (proofs/Readout.antt, `exact`)
unfoldable pub real_of : ℕ → Float
real_of n = round binary32 false n one_percent

-- a level as it is read. No level is above 6,553,600; above that, which no record that meets the rules shows,
-- 100 percent stands
unfoldable pub read_out : ℕ → ℕ
read_out n = bits (real_of (min n greatest_level))

-- a REAL from k eighths to 100, in units
unfoldable pub real_from_to : ℕ → Float → Option ℕ
real_from_to k nan = None
real_from_to k (inf s) = None
real_from_to k (fin true m e) = None
real_from_to k (fin false m e) = from_to k (m * up e) (down e)

-- 'Rates (percent a second) and steps: REAL 0.125 to 100, to the nearest unit, [..] never raised to 65,536.'
unfoldable pub amount_of : Float → Option ℕ
unfolding real_from_to
amount_of x = real_from_to 1 x

-- '08 Min 1 and 09 Max 100 (REAL 1 to 100)'
unfoldable pub limit_of : Float → Option ℕ
unfolding real_from_to
limit_of x = real_from_to 8 x

-- 'REAL out of range' is a refusal: whether it is not met, and the units or, out of range, d
unfoldable pub in_range : Option ℕ → Bool
in_range (Some v) = true
in_range None = false

unfoldable pub units_or : ℕ → Option ℕ → ℕ
units_or d (Some v) = v
units_or d None = d

-- A rate or a step that is kept as a REAL, in units. It is asked of settings that meet the rules and of
-- commands that were taken: none has one out of range, for which the least stands
unfoldable pub amount_units : Float → ℕ
amount_units x = units_or least_amount (amount_of x)

-- a command's level that is kept as a REAL, in units. No command taken holds one out of range
unfoldable pub level_units : Float → ℕ
level_units x = units_or 0 (level_of x)

-- |g - s|
abbrev pub distance : ℕ → ℕ → ℕ
distance f g = (g - f) + (f - g)
