-- The laws by which `search` makes a choice where code has branched: of a test, its fact and the branch.
use Prim.Native.Nat.{ℕ, ◌≤◌, ◌<◌}
use mathlib.Core.Path.{◌≡◌, sym, ap, ◌∙◌}
use mathlib.Core.Bool.{Bool, true, false}
use lib.Dec.{ltb, leb, eqb}
use borrow.Author.Tests.{lt-ltb, le-ltb, le-leb, lt-leb, eq-eqb, ne_eqb}
use Rattle.lighting_levels.specs.Paper.Choice.{when◌then◌else◌}

pub if_true : {A : Type 0} (t : Bool) (r a b : A) → t ≡ true → r ≡ a → r ≡ (when t then a else b)
unfolding when◌then◌else◌
if_true t r a b e p = rw e p

pub if_false : {A : Type 0} (t : Bool) (r a b : A) → t ≡ false → r ≡ b → r ≡ (when t then a else b)
unfolding when◌then◌else◌
if_false t r a b e p = rw e p

pub if_lt : {A : Type 0} (m n : ℕ) (r a b : A) → m < n → r ≡ a → r ≡ (when ltb m n then a else b)
if_lt m n r a b h = if_true (ltb m n) r a b (lt-ltb m n h)

pub if_nlt : {A : Type 0} (m n : ℕ) (r a b : A) → n ≤ m → r ≡ b → r ≡ (when ltb m n then a else b)
if_nlt m n r a b h = if_false (ltb m n) r a b (le-ltb m n h)

pub if_le : {A : Type 0} (m n : ℕ) (r a b : A) → m ≤ n → r ≡ a → r ≡ (when leb m n then a else b)
if_le m n r a b h = if_true (leb m n) r a b (le-leb m n h)

pub if_nle : {A : Type 0} (m n : ℕ) (r a b : A) → n < m → r ≡ b → r ≡ (when leb m n then a else b)
if_nle m n r a b h = if_false (leb m n) r a b (lt-leb m n h)

pub if_eq : {A : Type 0} (m n : ℕ) (r a b : A) → m ≡ n → r ≡ a → r ≡ (when eqb m n then a else b)
if_eq m n r a b h = if_true (eqb m n) r a b (eq-eqb m n h)

pub if_ne : {A : Type 0} (m n : ℕ) (r a b : A) → (m ≡ n → ⊥) → r ≡ b → r ≡ (when eqb m n then a else b)
if_ne m n r a b h = if_false (eqb m n) r a b (ne_eqb m n h)

-- the test is the result f of a call
pub if_flag : {A : Type 0} (f t : Bool) (r a b : A) → f ≡ t → f ≡ true → r ≡ a → r ≡ (when t then a else b)
if_flag f t r a b e h = if_true t r a b (sym e ∙ h)

pub if_nflag : {A : Type 0} (f t : Bool) (r a b : A) → f ≡ t → f ≡ false → r ≡ b → r ≡ (when t then a else b)
if_nflag f t r a b e h = if_false t r a b (sym e ∙ h)

pub ruleset ifs = (if_true, if_false, if_lt, if_nlt, if_le, if_nle, if_eq, if_ne, if_flag, if_nflag)

-- a choice by a key in an arm of a match, where the number is another key
pub if_other : {A : Type 0} (k i j : ℕ) (r a b : A) → k ≡ j → eqb j i ≡ false → r ≡ b → r ≡ (when eqb k i then a else b)
if_other k i j r a b e h = if_false (eqb k i) r a b (ap (λ (x : ℕ). eqb x i) e ∙ h)

-- the last test of several is the answer itself
pub if_itself : (t r : Bool) → r ≡ t → r ≡ (when t then true else false)
unfolding when◌then◌else◌
if_itself true r e = e
if_itself false r e = e
