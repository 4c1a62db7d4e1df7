-- Splitting a proof on a test that computes. Each lemma hands both cases the fact on the numbers and the
-- test's value as an equation, so that `rw` can put the value into the goal; the goal is read off where the
-- lemma is called.
use mathlib.Core.Path.{◌≡◌, refl, sym, ◌∙◌}
use mathlib.Core.Logic.{◌≢◌}
use mathlib.Core.Bool.{Bool, true, false, false≢true}
use Prim.Native.Nat.{ℕ, suc, ◌≤◌, ◌<◌}
use native.Mathlib.Omega.{arith}
use Rattle.lighting_levels.specs.Paper.Choice.{when◌then◌else◌, ◌also◌}
use lib.Dec.{T, leb, ltb, eqb, leb→le, le→leb, eqb→eq, eqb_refl, nleb→lt}

-- A CONJUNCTION, made and taken apart
pub also_yes : {a b : Bool} → a ≡ true → b ≡ true → (a also b) ≡ true
unfolding when◌then◌else◌
also_yes p q = rw p q

pub also_both : {a b : Bool} → (a also b) ≡ true → (a ≡ true) × (b ≡ true)
unfolding when◌then◌else◌
also_both {a = true} h = (refl, h)
also_both {a = false} h = absurd (false≢true h)

pub also_left : (a b : Bool) → (a also b) ≡ true → a ≡ true
also_left a b h = (also_both h).0

pub also_right : (a b : Bool) → (a also b) ≡ true → b ≡ true
also_right a b h = (also_both h).1

pub unless : {a b : Bool} → (when a then false else b) ≡ true → (a ≡ false) × (b ≡ true)
unfolding when◌then◌else◌
unless {a = true} h = absurd (false≢true h)
unless {a = false} h = (refl, h)

-- a choice that did not come to its second value took the first
pub passed : {A : Type 0} (t : Bool) (a b c : A) → (b ≡ c → ⊥) → (when t then a else b) ≡ c → (t ≡ true) × (a ≡ c)
unfolding when◌then◌else◌
passed true a b c n h = (refl, h)
passed false a b c n h = absurd (n h)

pub on_true : (b : Bool) → T b → b ≡ true
on_true true h = refl
on_true false h = elim h [ ]

pub on_false : (b : Bool) → (T b → ⊥) → b ≡ false
on_false true h = absurd (h tt)
on_false false h = refl

-- a Bool, with its value as an equation
pub by_bool : {P : Type 0} (b : Bool) → (b ≡ true → P) → (b ≡ false → P) → P
by_bool true yes' no' = yes' refl
by_bool false yes' no' = no' refl

pub T_of : {b : Bool} → b ≡ true → T b
T_of {b} e = rw e tt

pub eqb_hit : {a b : ℕ} → a ≡ b → eqb a b ≡ true
eqb_hit {a} {b} p = rw p (on_true (eqb b b) (eqb_refl b))

pub eqb_miss : {a b : ℕ} → a ≢ b → eqb a b ≡ false
eqb_miss {a} {b} p = on_false (eqb a b) (λ h. p (eqb→eq a b h))

pub leb_yes : {a b : ℕ} → a ≤ b → leb a b ≡ true
leb_yes {a} {b} p = on_true (leb a b) (le→leb a b p)

pub leb_no : {a b : ℕ} → b < a → leb a b ≡ false
leb_no {a} {b} p = on_false (leb a b) (λ h. omega (arith, leb→le a b h))

pub eq_of : {a b : ℕ} → eqb a b ≡ true → a ≡ b
eq_of {a} {b} e = eqb→eq a b (T_of e)

pub le_of : {a b : ℕ} → leb a b ≡ true → a ≤ b
le_of {a} {b} e = leb→le a b (T_of e)

pub by_eq : {P : Type 0} (a b : ℕ) → (a ≡ b → eqb a b ≡ true → P) → (a ≢ b → eqb a b ≡ false → P) → P
by_eq a b f g =
    by_bool
    (eqb a b)
    (λ e. f (eqb→eq a b (T_of e)) e)
    (λ e. g (λ p. false≢true (rw e at (eqb_hit p))) e)

pub by_le : {P : Type 0} (a b : ℕ) → (a ≤ b → leb a b ≡ true → P) → (b < a → leb a b ≡ false → P) → P
by_le a b f g =
    by_bool (leb a b) (λ e. f (leb→le a b (T_of e)) e) (λ e. g (nleb→lt a b (rw e tt)) e)

pub by_lt : {P : Type 0} (a b : ℕ) → (a < b → ltb a b ≡ true → P) → (b ≤ a → ltb a b ≡ false → P) → P
by_lt a b f g = by_le (suc a) b f (λ h e. g (omega arith) e)

pub not_le : {a b : ℕ} → leb a b ≡ false → b < a
not_le {a} {b} h = by_le a b (λ l e. absurd (false≢true (sym h ∙ e))) (λ l e. l)

pub not_lt : {a b : ℕ} → ltb a b ≡ false → b ≤ a
not_lt {a} {b} h = omega (arith, not_le {a = suc a} {b = b} h)

pub ruleset parts = (also_left, also_right, le_of, eq_of)

pub ruleset tests = (also_yes, leb_yes, eqb_hit)
