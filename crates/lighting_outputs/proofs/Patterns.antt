-- Between a REAL and its pattern nothing is lost, unless it is no number.
use Rattle.std.specs.Prelude.{Option, Some, None}
use mathlib.Core.Path.{◌≡◌, refl, sym, ap, ◌∙◌, subst}
use mathlib.Core.Bool.{Bool, true, false, not, false≢true}
use Prim.Native.Nat.{ℕ, ◌^◌, ◌<◌}
use native.Mathlib.Omega.{arith}
use lib.Dec.{T}
use lib.Ieee.{Float, nan, inf, fin, binary32, is_nan, fits}
use lib.Ieee.Bits.{to_bits-of_bits, of_bits-to_bits}
use Rattle.lighting_levels.proofs.Split.{by_bool}
use Rattle.lighting_levels.specs.Paper.Level.{real, bits, level_of, amount_of, in_range}
use Rattle.lighting_outputs.specs.Paper.Rows.{is_amount}
use Rattle.lighting_outputs.specs.Paper.Answers.{level_refusal}
use Rattle.lighting_outputs.specs.Paper.Requests.{level_field_refusal, amount_field_refusal}

pub only_nan : (x : Float) → is_nan x ≡ true → x ≡ nan
unfolding is_nan
only_nan nan h = refl
only_nan (inf s) h = absurd (false≢true h)
only_nan (fin s m e) h = absurd (false≢true h)

-- ---- a pattern, read and written
pub bits_kept : (b : ℕ) → b < 2 ^ 32 → is_nan (real b) ≡ false → bits (real b) ≡ b
unfolding real bits
bits_kept b h n = to_bits-of_bits binary32 b h (subst (λ (t : Bool). T (not t)) (sym n) tt)

-- a REAL, written and read
pub real_kept : (x : Float) → fits binary32 x ≡ true → real (bits x) ≡ x
unfolding real bits
real_kept x h = of_bits-to_bits binary32 x (subst T (sym h) tt)

-- ---- what a command takes is in range, and keeps its bits: a NaN is never taken
pub record Kept (f : Float → Option ℕ) (b : ℕ) (x : Float) : Type 0 where
  pub read : x ≡ real b
  pub written : bits x ≡ b
  pub in_range_lem : in_range (f x) ≡ true

kept : (f : Float → Option ℕ) (b : ℕ) → f nan ≡ None → b < 2 ^ 32 → in_range (f (real b)) ≡ true → Kept f b (real b)
unfolding in_range
kept f b o h t =
    let none : is_nan (real b) ≡ true → ⊥ =
    λ n. false≢true (sym (ap (λ (y : Float). in_range (f y)) (only_nan (real b) n) ∙ ap in_range o) ∙ t) in
    let number : is_nan (real b) ≡ false = by_bool (is_nan (real b)) (λ n. absurd (none n)) (λ n. n) in
    record { read = refl; written = bits_kept b h number; in_range_lem = t }

-- a level, and a rate or step, of a command
within_range : (l : Option ℕ) → level_refusal l ≡ None → in_range l ≡ true
unfolding in_range
within_range (Some v) h = refl
within_range None h = absurd (let z : ◌≡◌ {A = ℕ} 0 1 = cc in omega arith)

pub level_field_kept : (b : ℕ) → b < 2 ^ 32 → level_field_refusal (Some (real b)) ≡ None → Kept level_of b (real b)
unfolding level_field_refusal
level_field_kept b h r = kept level_of b (unfold level_of in refl) h (within_range (level_of (real b)) r)

pub amount_field_kept : (b : ℕ) → b < 2 ^ 32 → amount_field_refusal (Some (real b)) ≡ None → Kept amount_of b (real b)
unfolding amount_field_refusal
amount_field_kept b h r = kept amount_of b (unfold amount_of in refl) h (within_range (amount_of (real b)) r)

-- and one that is written to Ramp_Rate or Step_Increment
pub amount_kept : (b : ℕ) → b < 2 ^ 32 → is_amount (real b) ≡ true → Kept amount_of b (real b)
unfolding is_amount
amount_kept b h t = kept amount_of b (unfold amount_of in refl) h t

-- and one that is written to Ramp_Rate or Step_Increment
