-- The first n entries of a list, and the rest, taken up to the smaller of n and the list's length.
use mathlib.Core.Path.{◌≡◌, sym, ap, ◌∙◌}
use mathlib.Core.List.{List}
use Prim.Native.Nat.{ℕ, ◌-◌, min}
use native.Mathlib.Omega.{arith}
use lib.ListN.{length, take, drop, drop_of_length-le}
use lib.Seq.{take_all}
use Rattle.lighting_levels.proofs.Split.{by_le}

pub part_taken : {A : Type 0} (n k : ℕ) (l : List A) → k ≡ min n (length l) → take (k - 0) l ≡ take n l
part_taken n k l e =
    by_le n (length l)
    (λ h z. let q : k - 0 ≡ n = omega (arith, e, h) in ap (λ (i : ℕ). take i l) q)
    (λ h z. take_all (k - 0) l (omega (arith, e, h)) ∙ sym (take_all n l (omega (arith, h))))

pub part_left : {A : Type 0} (n k : ℕ) (l : List A) → k ≡ min n (length l) → drop (k - 0) l ≡ drop n l
part_left n k l e =
    by_le n (length l)
    (λ h z. let q : k - 0 ≡ n = omega (arith, e, h) in ap (λ (i : ℕ). drop i l) q)
    (λ h z. drop_of_length-le l {i = k - 0} (omega (arith, e, h)) ∙ sym (drop_of_length-le l {i = n} (omega (arith, h))))
