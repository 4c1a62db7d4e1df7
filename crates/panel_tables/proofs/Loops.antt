-- A loop that changes each record of a table in turn, of any type: what it has done up to an index.
use mathlib.Core.Path.{◌≡◌, refl, ap, ◌∙◌}
use mathlib.Core.List.{List, [], ◌∷◌, map}
use Prim.Native.Nat.{ℕ, zero, suc, ◌+◌, ◌<◌, ◌≤◌}
use native.Mathlib.Numerals.{add-one}
use native.Mathlib.Omega.{arith}
use lib.ListN.{length, get_or, set}

module _ {A : Type 0} where
  -- the first i records changed by f, and the others as they were
  abbrev pub mapped : (A → A) → ℕ → List A → List A
  mapped f zero xs = xs
  mapped f (suc i) [] = []
  mapped f (suc i) (x ∷ xs) = f x ∷ mapped f i xs

  stored : (f : A → A) (i : ℕ) (xs : List A) (d : A) → i < length xs → set (mapped f i xs) i (f (get_or (mapped f i xs) i d)) ≡ mapped f (suc i) xs
  stored f zero [] d h = absurd (omega arith)
  stored f zero (x ∷ xs) d h = refl
  stored f (suc i) [] d h = refl
  stored f (suc i) (x ∷ xs) d h = ap (λ (r : List A). f x ∷ r) (stored f i xs d (omega arith))

  pub mapped_more : (f : A → A) (i : ℕ) (xs ys : List A) (d y : A) → i < length xs → ys ≡ mapped f i xs → y ≡ f (get_or ys i d)
      → set ys i y ≡ mapped f (i + 1) xs
  mapped_more f i xs ys d y h e g = rw (add-one, g, e) (stored f i xs d h)

  past : (f : A → A) (i : ℕ) (xs : List A) → length xs ≤ i → mapped f i xs ≡ map f xs
  past f zero [] h = refl
  past f zero (x ∷ xs) h = absurd (omega arith)
  past f (suc i) [] h = refl
  past f (suc i) (x ∷ xs) h = ap (λ (r : List A). f x ∷ r) (past f i xs (omega arith))

  pub mapped_all : (f : A → A) (i : ℕ) (xs ys : List A) → ys ≡ mapped f i xs → length xs ≤ i → ys ≡ map f xs
  mapped_all f i xs ys e h = e ∙ past f i xs h
