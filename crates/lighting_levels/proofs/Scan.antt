-- A loop that tests one number after another, up to e: what a turn, an early end and its end say of the whole
-- test. And the test whether a number is in a list.
use Prim.Native.Nat.{ℕ, zero, suc, ◌+◌, ◌-◌, ◌≤◌, ◌<◌}
use mathlib.Core.Path.{◌≡◌, refl, sym, ap, ◌∙◌}
use mathlib.Core.Bool.{Bool, true, false}
use mathlib.Core.List.{List, [], ◌∷◌}
use native.Mathlib.Omega.{arith}
use lib.Dec.{eqb}
use Rattle.lighting_levels.specs.Paper.Choice.{when◌then◌else◌, ◌also◌, all_from}
use Rattle.lighting_levels.proofs.Split.{also_both, also_yes, by_eq, by_lt}

module _ (t : ℕ → Bool) (e : ℕ) where
  opened : (i : ℕ) (b : Bool) → i < e → t i ≡ b → all_from t (e - i) i ≡ (b also all_from t (e - (i + 1)) (i + 1))
  unfolding all_from
  opened i b h q =
      let unchanged : e - i ≡ suc (e - (i + 1)) = omega arith in
      ap (λ (n : ℕ). all_from t n i) unchanged ∙ ap (λ (x : Bool). x also all_from t (e - (i + 1)) (i + 1)) q

  pub scan_on : (i : ℕ) → i < e → t i ≡ true → all_from t (e - i) i ≡ all_from t (e - (i + 1)) (i + 1)
  unfolding when◌then◌else◌
  scan_on i h q = opened i true h q

  pub scan_off : (i : ℕ) → i < e → t i ≡ false → all_from t (e - i) i ≡ false
  unfolding when◌then◌else◌
  scan_off i h q = opened i false h q

  pub scan_done : (i : ℕ) → e ≤ i → all_from t (e - i) i ≡ true
  unfolding all_from
  scan_done i h =
      let none : e - i ≡ 0 = omega arith in
      ap (λ (n : ℕ). all_from t n i) none

-- all of them, and each of them
pub all_each : (t : ℕ → Bool) (n i j : ℕ) → all_from t n i ≡ true → i ≤ j → j < i + n → t j ≡ true
unfolding all_from
all_each t zero i j h p q = absurd (omega arith)
all_each t (suc n) i j h p q =
    by_eq i j (λ r e. rw (← r) (also_both h).0) (λ r e. all_each t n (i + 1) j (also_both h).1 (omega arith) (omega arith))

pub each_all : (t : ℕ → Bool) (n i : ℕ) → ((j : ℕ) → i ≤ j → j < i + n → t j ≡ true) → all_from t n i ≡ true
unfolding all_from
each_all t zero i f = refl
each_all t (suc n) i f =
    also_yes (f i (omega arith) (omega arith)) (each_all t n (i + 1) (λ j p q. f j (omega arith) (omega arith)))

-- numbers that pass may be skipped
pub all_skip : (t : ℕ → Bool) (e w : ℕ) → ((i : ℕ) → i < w → t i ≡ true) → all_from t e 0 ≡ all_from t (e - w) w
all_skip t e zero f = ap (λ (j : ℕ). all_from t j 0) (omega arith)
all_skip t e (suc w) f =
    all_skip t e w (λ i h. f i (omega arith))
    ∙ by_lt
    w
    e
    (λ l x. scan_on t e w l (f w (omega arith)) ∙ ap (λ (j : ℕ). all_from t (e - j) j) (omega arith))
    (λ l x. scan_done t e w l ∙ sym (scan_done t e (suc w) (omega arith)))

-- A NUMBER OF A LIST, by the test
abbrev pub is_in : ℕ → List ℕ → Bool
is_in n [] = false
is_in n (m ∷ l) = when eqb n m then true else is_in n l
