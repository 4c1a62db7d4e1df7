-- Patterns and REALs by the tests that find those that are no number.
use mathlib.Core.Path.{◌≡◌, sym, ◌∙◌, subst}
use mathlib.Core.Bool.{Bool, true, false, not}
use Prim.Native.Nat.{ℕ}
use lib.Dec.{T}
use lib.Ieee.{Float, nan, binary32, nan_bits, is_nan, of_bits}
use lib.Ieee.Bits.{nan_bits_is}
use Rattle.lighting_outputs.proofs.Patterns.{only_nan}

-- a call's answer r to a test t that failed
pub failed : {r t : Bool} → r ≡ t → r ≡ false → T (not t)
failed p q = subst (λ (b : Bool). T (not b)) (sym q ∙ p) tt

-- and one that passed: the REAL, or the one that the pattern stands for, is no number
pub found : {r : Bool} (x : Float) → r ≡ is_nan x → r ≡ true → x ≡ nan
found x p q = only_nan x (sym p ∙ q)

pub read : {r : Bool} (n : ℕ) → r ≡ nan_bits binary32 n → r ≡ true → of_bits binary32 n ≡ nan
read n p q = found (of_bits binary32 n) (p ∙ nan_bits_is binary32 n) q
