-- The rounding fact, proved once: `nearest_to` sees only the value of a fraction, keeps the order, leaves a
-- whole number as it is, and gives the nearest number, of two the even one. What stands above `twice_apart`
-- needs of a half only that it becomes the whole part or the next number.
use mathlib.Core.Path.{◌≡◌, refl, sym, ap, subst}
use mathlib.Core.Logic.{inl, inr}
use mathlib.Core.Bool.{not}
use Prim.Native.Nat.{ℕ, suc, ◌*◌, ◌/◌, ◌%◌, ◌≤◌, ◌<◌, compare, Ordering}
use native.Mathlib.Nat.{le_trans, le_of_eq, le_antisymm, eq-or-lt_of_le, mul-le-mul_right, mul-lt-mul_of_pos_right, eq_of_mul-eq-mul_right, div-add-mod', mod-lt, div-one}
use native.Mathlib.Omega.{arith}
use lib.Dec.{T, is_le, compare_is_eq, eqb, leb→le, nleb→lt, eqb→eq, eqb_refl}
use lib.Arith.{lt_of_le-ne}
use lib.Ieee.Nearest.{div_mono}
use Rattle.lighting_levels.specs.Paper.Level.{rule, nearest_to, distance}
use Rattle.lighting_levels.proofs.Split.{by_eq, by_lt}

-- ---- what `compare` says
abbrev Cmp : Ordering → ℕ → ℕ → Type 0
Cmp Ordering.lt a b = a < b
Cmp Ordering.eq a b = a ≡ b
Cmp Ordering.gt a b = b < a

cmp : (a b : ℕ) → Cmp (compare a b) a b
cmp a b = go (compare a b) (leb→le a b) (nleb→lt a b) (eqb→eq a b) (λ (e : a ≡ b). subst (λ (x : ℕ). T (eqb a x)) e (eqb_refl a))
  where
    go : (o : Ordering) → (T (is_le o) → a ≤ b) → (T (not (is_le o)) → b < a) → (T (compare_is_eq o) → a ≡ b) → (a ≡ b → T (compare_is_eq o)) → Cmp o a b
    go Ordering.lt h k e n = lt_of_le-ne (h tt) n
    go Ordering.eq h k e n = e tt
    go Ordering.gt h k e n = k tt

-- `nearest_to a c` by its three cases
pub by_cases : (P : ℕ → Type 0) (a c : ℕ) → (a % c * 2 < c → P (rule (a / c) Ordering.lt)) → (a % c * 2 ≡ c → P (rule (a / c) Ordering.eq)) → (c < a % c * 2 → P (rule (a / c) Ordering.gt))
    → P (nearest_to a c)
by_cases P a c f g h = go (compare (a % c * 2) c) (cmp (a % c * 2) c)
  where
    go : (o : Ordering) → Cmp o (a % c * 2) c → P (rule (a / c) o)
    go Ordering.lt k = f k
    go Ordering.eq k = g k
    go Ordering.gt k = h k

-- ---- the order
rule_ge : (w : ℕ) (o : Ordering) → w ≤ rule w o
rule_ge w Ordering.lt = omega arith
rule_ge w Ordering.eq = omega arith
rule_ge w Ordering.gt = omega arith

rule_le : (w : ℕ) (o : Ordering) → rule w o ≤ suc w
rule_le w Ordering.lt = omega arith
rule_le w Ordering.eq = omega arith
rule_le w Ordering.gt = omega arith

-- two fractions with the same whole part w, and rests r / b ≤ t / d
module _ (w r b t d : ℕ) (h : r * d ≤ t * b) (B : 0 < b) (D : 0 < d) where
  half_then_less : b ≤ r * 2 → t * 2 < d → ⊥
  half_then_less x y =
      let p : b * d ≤ r * 2 * d = mul-le-mul_right d x in
      let q : t * 2 * b < d * b = mul-lt-mul_of_pos_right y B in
      omega arith

  more_then_half : b < r * 2 → t * 2 ≤ d → ⊥
  more_then_half x y =
      let p : b * d < r * 2 * d = mul-lt-mul_of_pos_right x D in
      let q : t * 2 * b ≤ d * b = mul-le-mul_right b y in
      omega arith

  same_whole : (o p : Ordering) → Cmp o (r * 2) b → Cmp p (t * 2) d → rule w o ≤ rule w p
  same_whole Ordering.lt p x y = rule_ge w p
  same_whole Ordering.eq Ordering.lt x y = absurd (half_then_less (le_of_eq (sym x)) y)
  same_whole Ordering.eq Ordering.eq x y = le_of_eq refl
  same_whole Ordering.eq Ordering.gt x y = rule_le w Ordering.eq
  same_whole Ordering.gt Ordering.lt x y = absurd (half_then_less (omega arith) y)
  same_whole Ordering.gt Ordering.eq x y = absurd (more_then_half x (le_of_eq y))
  same_whole Ordering.gt Ordering.gt x y = le_of_eq refl

-- with the same whole part w taken off both, the rests are in the fractions' order
rest : (a b c d : ℕ) → a / b ≡ c / d → a * d ≤ c * b → a % b * d ≤ c % d * b
rest a b c d e h =
    omega (arith, ap (λ (z : ℕ). z * d) (div-add-mod' a b), ap (λ (z : ℕ). z * b) (div-add-mod' c d), ap (λ (z : ℕ). z * b * d) e)

pub nearest_mono : (a b c d : ℕ) → 0 < b → 0 < d → a * d ≤ c * b → nearest_to a b ≤ nearest_to c d
nearest_mono a b c d B D h =
    elim (eq-or-lt_of_le (div_mono a b c d B D h)) [
      | inl e ↦
          rw e
          (same_whole (c / d) (a % b) b (c % d) d (rest a b c d e h) B D (compare (a % b * 2) b) (compare (c % d * 2) d) (cmp (a % b * 2) b) (cmp (c % d * 2) d))
      | inr l ↦ le_trans (rule_le (a / b) (compare (a % b * 2) b)) (le_trans l (rule_ge (c / d) (compare (c % d * 2) d)))
    ]

pub nearest_same : (a b c d : ℕ) → 0 < b → 0 < d → a * d ≡ c * b → nearest_to a b ≡ nearest_to c d
nearest_same a b c d B D e = le_antisymm (nearest_mono a b c d B D (le_of_eq e)) (nearest_mono c d a b D B (le_of_eq (sym e)))

pub nearest_whole : (n : ℕ) → nearest_to n 1 ≡ n
nearest_whole n = rw (let z : n % 1 ≡ 0 = omega arith in z) (div-one n)

-- THE ROUNDING FACT (§5): `nearest_to a c` is within half a unit of a / c, and even where it is half a unit
-- from it; and it is the only such number. Twice |a / c - n|, counted in parts of 1 / c: at half a unit it is
-- c
abbrev pub twice_apart : ℕ → ℕ → ℕ → ℕ
twice_apart a c n = distance (a * 2) (n * c * 2)

pub record Nearest (a c n : ℕ) : Type 0 where
  pub within : twice_apart a c n ≤ c
  pub even : twice_apart a c n ≡ c → n % 2 ≡ 0

-- at a half the whole part and the number above it are both half a unit away
half_way : (a c n : ℕ) → a / c ≤ n → n ≤ suc (a / c) → a % c * 2 ≡ c → twice_apart a c n ≡ c
half_way a c n low high half =
    let parts = div-add-mod' a c in
    by_eq n (a / c) (λ e u. let scaled = ap (λ (z : ℕ). z * c) e in omega arith)
    (λ e u. let next : n ≡ suc (a / c) = omega arith in let scaled = ap (λ (z : ℕ). z * c) next in omega arith)

pub rounds : (a c : ℕ) → 0 < c → Nearest a c (nearest_to a c)
rounds a c C =
    let parts = div-add-mod' a c in
    let below = mod-lt a C in
    by_cases (Nearest a c) a c (λ less. record { within = omega arith; even = λ e. absurd (omega arith) })
    (λ half. record { within = le_of_eq (half_way a c _ (rule_ge (a / c) Ordering.eq) (rule_le (a / c) Ordering.eq) half); even = λ e. omega arith })
    (λ more. record { within = omega arith; even = λ e. absurd (omega arith) })

-- two such numbers would be neighbours, half a unit from a / c both, and both even
not_both : (a c n m : ℕ) → 0 < c → Nearest a c n → Nearest a c m → n < m → ⊥
not_both a c n m C lower upper l =
    let scaled : suc n * c ≤ m * c = mul-le-mul_right c l in
    let next : m * c ≡ suc n * c = omega (arith, lower.within, upper.within) in
    let neighbours : m ≡ suc n = eq_of_mul-eq-mul_right c C m (suc n) next in
    omega (arith, lower.even (omega (arith, lower.within, upper.within)), upper.even (omega (arith, lower.within, upper.within)))

pub only : (a c n : ℕ) → 0 < c → Nearest a c n → n ≡ nearest_to a c
only a c n C near =
    let found = rounds a c C in
    by_eq n (nearest_to a c) (λ e u. e)
    (λ e u.
    by_lt n (nearest_to a c) (λ l s. absurd (not_both a c n (nearest_to a c) C near found l))
    (λ l s. absurd (not_both a c (nearest_to a c) n C found near (omega arith))))
