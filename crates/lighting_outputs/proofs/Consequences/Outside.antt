-- REALs OUT OF RANGE, row by row: which they are. They are refused, and no others.
use Rattle.std.specs.Prelude.{Option, Some, None}
use mathlib.Core.Path.{◌≡◌, refl}
use mathlib.Core.Logic.{◌⊎◌, inl, inr}
use mathlib.Core.Bool.{true, false}
use mathlib.Core.List.{[], ◌∷◌, map}
use Prim.Native.Nat.{ℕ, suc, ◌*◌, ◌≤◌, ◌<◌}
use native.Mathlib.Omega.{arith}
use lib.Dec.{leb}
use lib.Ieee.{Float, nan, inf, fin, up, down}
use Rattle.lighting_levels.specs.Paper.Choice.{when◌then◌else◌}
use Rattle.lighting_outputs.specs.Paper.Parameters.{Parameters}
use Rattle.lighting_levels.specs.Paper.Level.{from_to, level_in, level_of, real_from_to}
use Rattle.lighting_outputs.specs.Paper.Rows.{row_of}
use Rattle.lighting_outputs.specs.Paper.Properties.{numbered, property_of}
use Rattle.lighting_outputs.specs.declared.Range.{Range}
use Rattle.lighting_outputs.specs.declared.Range.TheVariants.{Percent, Limit, Amount, Whole, Priority, ReadOnly}
use Rattle.lighting_levels.proofs.Split.{by_bool, by_eq, by_le, by_lt, eqb_miss, leb_no}

-- WHICH REALS ARE OUT OF RANGE. `fin s m e` is m * up e / down e, negative where s is true.
-- Of a level: 'NaN, infinities, negatives and values above 100'; minus zero is no negative
abbrev pub NoLevel : Float → Type 0
NoLevel nan = Unit {0}
NoLevel (inf s) = Unit {0}
NoLevel (fin true m e) = 0 < m * up e
NoLevel (fin false m e) = 100 * down e < m * up e

-- Of a number from so many eighths of a percent to 100: these, minus zero, and what is below the least
abbrev pub NotFrom : ℕ → Float → Type 0
NotFrom eighths nan = Unit {0}
NotFrom eighths (inf s) = Unit {0}
NotFrom eighths (fin true m e) = Unit {0}
NotFrom eighths (fin false m e) = m * up e * 8 < eighths * down e ⊎ 100 * down e < m * up e

-- By the row: 01, 17 and 18 are levels, 08 and 09 (Min and Max) are from 1 percent, 03 and 04 (a rate and a
-- step) from 0.125. The others hold no REAL
abbrev pub Outside : Range → Float → Type 0
Outside Percent x = NoLevel x
Outside Limit x = NotFrom 8 x
Outside Amount x = NotFrom 1 x
Outside (Whole low high) x = ⊥
Outside Priority x = ⊥
Outside ReadOnly x = ⊥

pub rows_with_a_real : (p : Parameters)
    → map (λ (n : ℕ). row_of p (property_of n)) (0x01 ∷ 0x17 ∷ 0x18 ∷ 0x08 ∷ 0x09 ∷ 0x03 ∷ 0x04 ∷ [])
    ≡ Percent ∷ Percent ∷ Percent ∷ Limit ∷ Limit ∷ Amount ∷ Amount ∷ []
unfolding property_of numbered when◌then◌else◌
rows_with_a_real p = refl

-- what is taken is not out of range
taken : {A : Type 0} {v : ℕ} → ◌≡◌ {A = Option ℕ} (Some v) None → A
taken units = let never : ◌≡◌ {A = ℕ} 0 1 = cc in absurd (omega arith)

-- the number a / c
module _ (eighths a c : ℕ) where
  from_outside : a * 8 < eighths * c ⊎ 100 * c < a → from_to eighths a c ≡ None
  unfolding when◌then◌else◌
  from_outside (inl low) = rw (leb_no {a = eighths * c} {b = a * 8} low)
  from_outside (inr high) =
      rw (leb_no {a = a} {b = 100 * c} high)
      (by_bool (leb (eighths * c) (a * 8)) (λ test. rw test) (λ test. rw test))

  from_only : from_to eighths a c ≡ None → a * 8 < eighths * c ⊎ 100 * c < a
  unfolding when◌then◌else◌
  from_only =
      by_le (eighths * c) (a * 8)
      (λ least test. rw test (by_le a (100 * c) (λ most test'. rw test' (λ out. taken out)) (λ high test'. rw test' (λ out. inr high))))
      (λ low test. rw test (λ out. inl low))

-- a level below 1 percent is raised, so that none from 0 to 100 is out of range
level_outside : (a c : ℕ) → 100 * c < a → level_in a c ≡ None
unfolding when◌then◌else◌
level_outside a c high =
    rw (eqb_miss {a = a} {b = 0} (λ none. omega arith), leb_no {a = suc a} {b = c} (omega arith)) (from_outside 8 a c (inr high))

level_only : (a c : ℕ) → level_in a c ≡ None → 100 * c < a
unfolding when◌then◌else◌
level_only a c =
    by_eq a 0
    (λ none test. rw test (λ out. taken out))
    (λ some test. rw test
    (by_lt a c (λ less test'. rw test' (λ out. taken out)) (λ least test'. rw test' (λ out. above least (from_only 8 a c out)))))
  where
    above : c ≤ a → a * 8 < 8 * c ⊎ 100 * c < a → 100 * c < a
    above least (inl low) = absurd (omega arith)
    above least (inr high) = high

-- LIMITS, RATES AND STEPS
pub amounts_refused : (eighths : ℕ) (x : Float) → NotFrom eighths x → real_from_to eighths x ≡ None
unfolding real_from_to
amounts_refused eighths nan out = refl
amounts_refused eighths (inf s) out = refl
amounts_refused eighths (fin true m e) out = refl
amounts_refused eighths (fin false m e) out = from_outside eighths (m * up e) (down e) out

pub amounts_only : (eighths : ℕ) (x : Float) → real_from_to eighths x ≡ None → NotFrom eighths x
unfolding real_from_to
amounts_only eighths nan out = tt
amounts_only eighths (inf s) out = tt
amounts_only eighths (fin true m e) out = tt
amounts_only eighths (fin false m e) out = from_only eighths (m * up e) (down e) out

-- LEVELS
pub levels_refused : (x : Float) → NoLevel x → level_of x ≡ None
unfolding level_of when◌then◌else◌
levels_refused nan out = refl
levels_refused (inf s) out = refl
levels_refused (fin true m e) out = rw (eqb_miss {a = m * up e} {b = 0} (λ none. omega arith))
levels_refused (fin false m e) out = level_outside (m * up e) (down e) out

pub levels_only : (x : Float) → level_of x ≡ None → NoLevel x
unfolding level_of when◌then◌else◌
levels_only nan = λ out. tt
levels_only (inf s) = λ out. tt
levels_only (fin true m e) = by_eq (m * up e) 0 (λ none test. rw test (λ out. taken out)) (λ some test out. omega arith)
levels_only (fin false m e) = level_only (m * up e) (down e)
