-- Tests. A definition chooses by clauses, or by an `if` that stays shut: a proof about code then reads its
-- parts off a goal, and a proof about the definitions opens `when◌then◌else◌` and computes.
use Rattle.std.specs.Prelude.{ℕ, zero, suc, ◌+◌, Bool, true, false, List, [], ◌∷◌}

infix 5 when◌then◌else◌
unfoldable pub when◌then◌else◌ : {A : Type 0} → Bool → A → A → A
when◌then◌else◌ true a b = a
when◌then◌else◌ false a b = b

-- the one and the other
infixr 32 ◌also◌
abbrev pub ◌also◌ : Bool → Bool → Bool
a also b = when a then b else false

-- each of the n numbers from i on
unfoldable pub all_from : (ℕ → Bool) → ℕ → ℕ → Bool
all_from t zero i = true
all_from t (suc n) i = t i also all_from t n (i + 1)

-- P of every one of a list, as a fact (its laws: proofs/Every.antt)
abbrev pub Every : {A : Type 0} → (A → Type 0) → List A → Type 0
Every P [] = Unit {0}
Every P (x ∷ l) = P x × Every P l

-- every one of a list
unfoldable pub every : {A : Type 0} → (A → Bool) → List A → Bool
every f [] = true
every f (x ∷ l) = f x also every f l
