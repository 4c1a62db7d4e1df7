-- WHICH PATTERNS OF 32 BITS ARE OUT OF RANGE IN EVERY ROW: those of NaN and of both infinities, whose
-- exponent is all ones, and every one with the sign set but minus zero, 80000000.
use mathlib.Core.Path.{◌≡◌}
use mathlib.Core.Bool.{Bool, true, false, false≢true, cond}
use Prim.Native.Nat.{ℕ, zero, suc, ◌+◌, ◌*◌, ◌/◌, ◌%◌, ◌^◌, ◌<◌}
use native.Mathlib.Nat.{mul-pos}
use native.Mathlib.Omega.{arith}
use lib.Dec.{eqb}
use lib.Pow.{pow_pos}
use lib.Ieee.{Float, nan, inf, fin, binary32, up, down, odd, of_fields, of_bits}
use lib.Ieee.Exact.{HasValue, odd_sign}
use lib.Ieee.Fits.{down_pos}
use Rattle.lighting_levels.specs.Paper.Level.{real}
use Rattle.lighting_outputs.specs.declared.Range.TheVariants.{Percent, Limit, Amount}
use Rattle.lighting_levels.proofs.Split.{by_bool, by_eq, leb_yes}
use Rattle.lighting_outputs.proofs.Consequences.Outside.{Outside}

-- no level, no limit, no rate and no step
pub record OutsideAll (x : Float) : Type 0 where
  pub percent : Outside Percent x
  pub limit : Outside Limit x
  pub amount : Outside Amount x

-- a REAL of the value minus a / c, a above 0
pub negative : (x : Float) (a c : ℕ) → 0 < a → HasValue x true a c → OutsideAll x
negative nan a c some value = absurd value
negative (inf s) a c some value = absurd value
negative (fin false m e) a c some value = absurd (false≢true value.0)
negative (fin true m e) a c some value = record { percent = above; limit = tt; amount = tt }
  where
    above : 0 < m * up e
    above =
        by_eq (m * up e) 0
        (λ none test. let zero-value : 0 * c ≡ a * down e = rw none at value.1 in absurd (omega (arith, mul-pos some (down_pos e))))
        (λ above_zero test. omega arith)

-- NaN and the infinities
special : (minus : Bool) (digits : ℕ) → OutsideAll (cond (eqb digits 0) (inf minus) nan)
special minus digits =
    by_bool (eqb digits 0)
    (λ test. rw test (record { percent = tt; limit = tt; amount = tt }))
    (λ test. rw test (record { percent = tt; limit = tt; amount = tt }))

pub exponent_all_ones : (b : ℕ) → b % 0x8000_0000 / 0x80_0000 ≡ 255 → OutsideAll (real b)
unfolding real of_bits of_fields
exponent_all_ones b ones = rw ones (special _ (b % 0x80_0000))

-- a sign, an exponent and digits that are not all 0
signed : (field digits : ℕ) → 0 < field + digits → OutsideAll (of_fields binary32 true field digits)
unfolding of_fields
signed zero digits some = negative (odd 24 true digits 0 149) (digits * 2 ^ 0) (2 ^ 149) (omega arith) (odd_sign 24 true digits 0 149)
signed (suc field) digits some =
    by_bool (eqb (suc field) 255)
    (λ test. rw test (special true digits))
    (λ test. rw test
    (negative (odd 24 true (0x80_0000 + digits) field 149) ((0x80_0000 + digits) * 2 ^ field) (2 ^ 149)
    (mul-pos (omega arith) (pow_pos field))
    (odd_sign 24 true (0x80_0000 + digits) field 149)))

pub sign_set : (b : ℕ) → 0x8000_0000 < b → b < 0x1_0000_0000 → OutsideAll (real b)
unfolding real of_bits
sign_set b low high = rw (leb_yes {a = 0x8000_0000} {b = b} (omega arith)) (signed (b % 0x8000_0000 / 0x80_0000) (b % 0x80_0000) (omega arith))
