-- The table of properties at a number that a match has found.
use mathlib.Core.Path.{◌≡◌, refl, ◌∙◌}
use mathlib.Core.Bool.{Bool, true, cond, false≢true}
use mathlib.Core.List.{List, [], ◌∷◌}
use Prim.Native.Nat.{ℕ, ◌≤◌, ◌<◌, ◌-◌}
use native.Mathlib.Omega.{arith}
use lib.Dec.{eqb}
use Rattle.lighting_levels.specs.Paper.Choice.{when◌then◌else◌, ◌also◌}
use Rattle.lighting_outputs.specs.Paper.Properties.{properties, number_of, numbered, property_of}
use Rattle.lighting_outputs.specs.declared.Property.{Property}
use Rattle.lighting_outputs.specs.declared.Property.TheVariants.{SlotValue, Unknown}
use Rattle.lighting_levels.proofs.Choosing.{if_le, if_nle, if_ne}
use Rattle.lighting_levels.proofs.Scan.{is_in}
use Rattle.lighting_levels.proofs.Keys.{Missed}
use Rattle.lighting_levels.proofs.Split.{also_both, by_bool, by_eq}

-- the table at a number, by its own tests
abbrev pub row_at : List Property → ℕ → Property
row_at [] n = Unknown
row_at (first ∷ rest) n = cond (eqb n (number_of first)) first (row_at rest n)

row_numbered : (l : List Property) (n : ℕ) → row_at l n ≡ numbered l n
unfolding numbered when◌then◌else◌
row_numbered [] n = refl
row_numbered (first ∷ rest) n = by_bool (eqb n (number_of first)) (λ e. rw e) (λ e. rw e (row_numbered rest n))

-- a key k
pub property_of_on : (n k : ℕ) (r : Property) → n ≡ k → r ≡ property_of k → r ≡ property_of n
property_of_on n k r e p = rw e p

-- a key that an arm of a match names
pub property_of_key : (n k : ℕ) (r : Property) → n ≡ k → k < 33 → r ≡ row_at properties k → r ≡ property_of n
unfolding property_of
property_of_key n k r e h p =
    property_of_on n k r e (if_nle _ _ _ _ _ h (p ∙ row_numbered properties k))

-- '21 to 30 slots 1 to 16'
pub property_of_slot : (n : ℕ) → 33 ≤ n → n ≤ 48 → SlotValue (n - 33) ≡ property_of n
unfolding property_of
property_of_slot n low high = if_le _ _ _ _ _ low (if_le _ _ _ _ _ high refl)

-- the keys of the match, the last first: 0, and the numbers of the table
abbrev keys_after : List ℕ → List Property → List ℕ
keys_after ks [] = ks
keys_after ks (x ∷ l) = keys_after (number_of x ∷ ks) l

abbrev pub keys : List ℕ
keys = keys_after (0 ∷ []) properties

-- every number of a table is a key
abbrev pub all_in : List Property → List ℕ → Bool
all_in [] ks = true
all_in (x ∷ l) ks = is_in (number_of x) ks also all_in l ks

missed : (n m : ℕ) (ks : List ℕ) → is_in m ks ≡ true → Missed ks n → n ≡ m → ⊥
unfolding when◌then◌else◌
missed n m [] h o e = false≢true h
missed n m (k ∷ ks) h o e = by_eq m k (λ p q. o.1 (e ∙ p)) (λ p q. missed n m ks (rw q at h) o.0 e)

past : (l : List Property) (n : ℕ) (ks : List ℕ) → all_in l ks ≡ true → Missed ks n → Unknown ≡ numbered l n
unfolding numbered
past [] n ks h o = refl
past (x ∷ l) n ks h o =
    if_ne _ _ _ _ _ (missed n (number_of x) ks (also_both h).0 o) (past l n ks (also_both h).1 o)

-- below the slots, and above
pub property_of_none : (n : ℕ) → Missed keys n → n < 33 → Unknown ≡ property_of n
unfolding property_of when◌then◌else◌
property_of_none n o high = if_nle _ _ _ _ _ high (past properties n keys refl o)

pub property_of_above : (n : ℕ) → 48 < n → Unknown ≡ property_of n
unfolding property_of
property_of_above n low = if_le 33 n _ _ _ (omega arith) (if_nle _ _ _ _ _ low refl)
