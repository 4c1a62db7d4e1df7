-- §5 of the change requests: 'Halves go to the even unit [..] do so for levels, rates and steps.' The
-- rounding fact (proofs/Rounding.antt) of REALs, and what moves by it.
use Rattle.std.specs.Prelude.{Option, Some, None}
use mathlib.Core.Path.{◌≡◌, sym, ap, ◌∙◌}
use mathlib.Core.Logic.{◌⊎◌, inl, inr}
use mathlib.Core.Bool.{false}
use Prim.Native.Nat.{ℕ, suc, ◌+◌, ◌*◌, ◌/◌, ◌%◌, ◌≤◌, ◌<◌}
use native.Mathlib.Nat.{mul-le-mul_right, mul-lt-mul_of_pos_right, le_of_mul-le-mul_right, lt_of_mul-lt-mul_right, one-mul, div-eq_of_lt-le, div-add-mod', mod-lt}
use native.Mathlib.Omega.{arith}
use lib.Dec.{leb}
use lib.Ieee.{Float, up, down}
use lib.Ieee.Exact.{HasValue}
use lib.Ieee.Fits.{down_pos}
use borrow.Author.Tests.{lt-ltb, le-ltb, le-leb, lt-leb, ne_eqb}
use Rattle.lighting_levels.specs.Paper.Choice.{when◌then◌else◌, ◌also◌}
use Rattle.lighting_levels.specs.Paper.Level.{one_percent, least_level, nearest_to, from_to, level_in, level_of, amount_of, limit_of, units_or, amount_units, level_units}
use Rattle.lighting_levels.proofs.Split.{by_bool}
use Rattle.lighting_levels.proofs.Readout.{by_value}
use Rattle.lighting_levels.proofs.Rounding.{twice_apart, Nearest, rounds, only, by_cases, nearest_same}

-- A REAL OF a / c PERCENT, TAKEN: its units are the whole number nearest to a / c × 65,536, of two the even
-- one
pub record Rounded (level : Option ℕ) (a c : ℕ) : Type 0 where
  pub units : ℕ
  pub becomes : level ≡ Some units
  pub nearest : Nearest (a * one_percent) c units

-- m / d, as a REAL has it, is a / c
module _ (a c m d : ℕ) (C : 0 < c) (D : 0 < d) (same : m * c ≡ a * d) where
  from : (k : ℕ) → k * c ≤ a * 8 → k * d ≤ m * 8
  from k low = let scaled : k * c * d ≤ a * 8 * d = mul-le-mul_right d low in le_of_mul-le-mul_right (omega arith) C

  to : a ≤ 100 * c → m ≤ 100 * d
  to high = let scaled : a * d ≤ 100 * c * d = mul-le-mul_right d high in le_of_mul-le-mul_right (omega arith) C

  rounded : (k : ℕ) → k * c ≤ a * 8 → a ≤ 100 * c → Rounded (from_to k m d) a c
  unfolding when◌then◌else◌
  rounded k low high = record {
    units = nearest_to (a * one_percent) c;
    becomes =
        rw (le-leb (k * d) (m * 8) (from k low), le-leb m (100 * d) (to high))
        (ap Some (nearest_same (m * one_percent) d (a * one_percent) c D C (omega arith)));
    nearest = rounds (a * one_percent) c C;
  }

  outside : (k : ℕ) → a * 8 < k * c ⊎ 100 * c < a → from_to k m d ≡ None
  unfolding when◌then◌else◌ ◌also◌
  outside k (inl low) =
      let scaled : a * 8 * d < k * c * d = mul-lt-mul_of_pos_right low D in
      rw (lt-leb (k * d) (m * 8) (lt_of_mul-lt-mul_right c (omega arith)))
  outside k (inr high) =
      let scaled : 100 * c * d < a * d = mul-lt-mul_of_pos_right high D in
      rw (lt-leb m (100 * d) (lt_of_mul-lt-mul_right c (omega arith))) (by_bool (leb (k * d) (m * 8)) (λ t. rw t) (λ t. rw t))

  level_rounded : c ≤ a → a ≤ 100 * c → Rounded (level_in m d) a c
  unfolding when◌then◌else◌
  level_rounded low high =
      let not-below : d ≤ m = omega (arith, from 8 (omega arith)) in
      rw (ne_eqb m 0 (λ z. omega arith), le-ltb m d not-below) (rounded 8 (omega arith) high)

  level_outside : 100 * c < a → level_in m d ≡ None
  unfolding when◌then◌else◌
  level_outside high =
      let scaled : 100 * c * d < a * d = mul-lt-mul_of_pos_right high D in
      let above : 100 * d < m = lt_of_mul-lt-mul_right c (omega arith) in
      rw (ne_eqb m 0 (λ z. omega arith), le-ltb m d (omega arith)) (outside 8 (inr high))

  level_raised : 0 < a → a < c → level_in m d ≡ Some least_level
  unfolding when◌then◌else◌
  level_raised low high =
      let lowest : 0 * d < a * d = mul-lt-mul_of_pos_right low D in
      let scaled : a * d < c * d = mul-lt-mul_of_pos_right high D in
      let below : m < d = lt_of_mul-lt-mul_right c (omega arith) in
      rw (ne_eqb m 0 (λ z. absurd (let none : m * c ≡ 0 = rw z (omega arith) in omega arith)), lt-ltb m d below)

module _ (a c : ℕ) (C : 0 < c) (x : Float) (v : HasValue x false a c) where
  -- RATES AND STEPS, from 0.125 percent; LIMITS (Min and Max) and LEVELS, from 1 percent
  pub amounts : c ≤ a * 8 → a ≤ 100 * c → Rounded (amount_of x) a c
  unfolding amount_of
  amounts low high = by_value (λ y. Rounded (amount_of y) a c) a c x v (λ m e same. rounded a c (m * up e) (down e) C (down_pos e) same 1 (omega arith) high)

  pub limits : c ≤ a → a ≤ 100 * c → Rounded (limit_of x) a c
  unfolding limit_of
  limits low high = by_value (λ y. Rounded (limit_of y) a c) a c x v (λ m e same. rounded a c (m * up e) (down e) C (down_pos e) same 8 (omega arith) high)

  pub levels : c ≤ a → a ≤ 100 * c → Rounded (level_of x) a c
  unfolding level_of
  levels low high = by_value (λ y. Rounded (level_of y) a c) a c x v (λ m e same. level_rounded a c (m * up e) (down e) C (down_pos e) same low high)

  -- and so are those that commands use
  pub amounts_used : c ≤ a * 8 → a ≤ 100 * c → Nearest (a * one_percent) c (amount_units x)
  unfolding amount_units units_or
  amounts_used low high = let r = amounts low high in rw r.becomes r.nearest

  pub levels_used : c ≤ a → a ≤ 100 * c → Nearest (a * one_percent) c (level_units x)
  unfolding level_units units_or
  levels_used low high = let r = levels low high in rw r.becomes r.nearest

  -- 'above 0 and below 1 it becomes 65,536', at whatever half: half a unit or less does not go to 0
  pub raised_to_one_percent : 0 < a → a < c → level_of x ≡ Some least_level
  unfolding level_of
  raised_to_one_percent low high =
      by_value (λ y. level_of y ≡ Some least_level) a c x v (λ m e same. level_raised a c (m * up e) (down e) C (down_pos e) same low high)

  -- WHAT IS OUT OF RANGE is refused before it is rounded, however near it comes to the range
  pub amounts_outside : a * 8 < c ⊎ 100 * c < a → amount_of x ≡ None
  unfolding amount_of
  amounts_outside out = by_value (λ y. amount_of y ≡ None) a c x v (λ m e same. outside a c (m * up e) (down e) C (down_pos e) same 1 (rw (one-mul c) out))

  pub limits_outside : a < c ⊎ 100 * c < a → limit_of x ≡ None
  unfolding limit_of
  limits_outside out = by_value (λ y. limit_of y ≡ None) a c x v (λ m e same. outside a c (m * up e) (down e) C (down_pos e) same 8 (eight out))
    where
      eight : a < c ⊎ 100 * c < a → a * 8 < 8 * c ⊎ 100 * c < a
      eight (inl low) = inl (omega arith)
      eight (inr high) = inr high

  pub levels_outside : 100 * c < a → level_of x ≡ None
  unfolding level_of
  levels_outside high = by_value (λ y. level_of y ≡ None) a c x v (λ m e same. level_outside a c (m * up e) (down e) C (down_pos e) same high)

-- BY HAND, of all of them: what is nearer than half a unit to n is n, be it even or odd
module _ (level : Option ℕ) (a c : ℕ) (C : 0 < c) (r : Rounded level a c) (n : ℕ) where
  is_nearest : Nearest (a * one_percent) c n → level ≡ Some n
  is_nearest near = r.becomes ∙ ap Some (only (a * one_percent) c r.units C r.nearest ∙ sym (only (a * one_percent) c n C near))

  pub less_than_half : twice_apart (a * one_percent) c n < c → level ≡ Some n
  less_than_half less = is_nearest (record { within = omega arith; even = λ half. absurd (omega arith) })

-- and n and a half units are n if n is even, else n + 1
pub and_a_half : (level : Option ℕ) (n : ℕ) → Rounded level (n * 2 + 1) (one_percent * 2) → level ≡ Some (n + n % 2)
and_a_half level n r = is_nearest level (n * 2 + 1) (one_percent * 2) (omega arith) r (n + n % 2) (record { within = omega arith; even = λ half. omega arith })

-- WHAT MOVES. 'A half going up' was floor(a / c + 1/2), where a / c now counts units
abbrev pub half_up : ℕ → ℕ → ℕ
half_up a c = (a * 2 + c) / (c * 2)

module _ (a c : ℕ) (C : 0 < c) where
  half_up_lem : (n : ℕ) → n * c * 2 ≤ a * 2 + c → a * 2 < n * c * 2 + c → half_up a c ≡ n
  half_up_lem n low high = div-eq_of_lt-le (c * 2) (omega arith) (omega arith)

  -- everything stays that is at no half, or at a half above an odd unit
  pub not_moved : (a % c * 2 ≡ c → a / c % 2 ≡ 1) → nearest_to a c ≡ half_up a c
  not_moved odd =
      let parts = div-add-mod' a c in
      let rest = mod-lt a C in
      by_cases (λ (n : ℕ). n ≡ half_up a c) a c (λ less. sym (half_up_lem (a / c) (omega arith) (omega arith)))
      (λ half. omega (arith, odd half, half_up_lem (a / c + 1) (omega arith) (omega arith)))
      (λ more. sym (half_up_lem (suc (a / c)) (omega arith) (omega arith)))

  -- and a half above an even unit becomes that unit, one less than it was
  pub one_less : a % c * 2 ≡ c → a / c % 2 ≡ 0 → (nearest_to a c ≡ a / c) × (half_up a c ≡ a / c + 1)
  one_less half even =
      let parts = div-add-mod' a c in (
        by_cases (λ (n : ℕ). n ≡ a / c) a c (λ less. absurd (omega arith)) (λ same. omega arith) (λ more. absurd (omega arith)),
        half_up_lem (a / c + 1) (omega arith) (omega arith),
      )
