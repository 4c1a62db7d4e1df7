-- What the tests of a REAL against 0, 0.125, 1 and 100 say of its level and its amount.
use Rattle.std.specs.Prelude.{Option, Some, None}
use mathlib.Core.Path.{◌≡◌, refl, sym, ◌∙◌, subst}
use mathlib.Core.Bool.{Bool, true, false, true≢false, false≢true}
use Prim.Native.Nat.{ℕ, ◌*◌, ◌≤◌}
use native.Mathlib.Omega.{arith}
use lib.IntN.{ℤ, pos}
use lib.Dec.{T, leb, eqb, leb→le, eqb→eq}
use lib.Ieee.{Float, nan, inf, fin, up, down, lt, le, eq}
use lib.Ieee.Fits.{down_pos, and_l}
use lib.Ieee.Order.{le_of_values}
use borrow.Author.Tests.{ltb-true, ltb-false, le-ltb, lt-ltb, le-leb, lt-leb, eq-eqb, ne_eqb}
use Rattle.lighting_levels.specs.Paper.Choice.{when◌then◌else◌, ◌also◌}
use Rattle.lighting_levels.specs.Paper.Level.{amount_of, limit_of, level_of}
use Rattle.number_level.proofs.Scaled.{eighth, hundred}

abbrev pub one : Float
one = fin false 1 (pos 0)

abbrev pub nil : Float
nil = fin false 0 (pos 0)

both_no : (p q : Bool) (a b : Option ℕ) → (T p → T q → ⊥) → (when p also q then a else b) ≡ b
unfolding when◌then◌else◌
both_no true true a b h = absurd (h tt tt)
both_no true false a b h = refl
both_no false q a b h = refl

no : {b : Bool} → b ≡ false → T b → ⊥
no e t = subst T e t

-- ---- outside 0.125 to 100
pub too_low_lem : (x : Float) → le eighth x ≡ false → amount_of x ≡ None
unfolding amount_of
too_low_lem nan h = refl
too_low_lem (inf s) h = refl
too_low_lem (fin true m e) h = refl
too_low_lem (fin false m e) h =
    both_no (leb (1 * down e) (m * up e * 8)) (leb (m * up e) (100 * down e)) _ _
    (λ p q. no h (le_of_values eighth (fin false m e) 1 8 (m * up e) (down e) (omega arith) (down_pos e) (refl, refl) (refl, refl) (leb→le _ _ p)))

pub too_high_lem : (x : Float) → le x hundred ≡ false → amount_of x ≡ None
unfolding amount_of
too_high_lem nan h = refl
too_high_lem (inf s) h = refl
too_high_lem (fin true m e) h = refl
too_high_lem (fin false m e) h =
    both_no (leb (1 * down e) (m * up e * 8)) (leb (m * up e) (100 * down e)) _ _
    (λ p q. no h (le_of_values (fin false m e) hundred (m * up e) (down e) 100 1 (down_pos e) (omega arith) (refl, refl) (refl, refl) (omega (arith, leb→le (m * up e) (100 * down e) q))))

-- ---- below 1, and not below 1
pub under_one : (x : Float) → lt x one ≡ true → limit_of x ≡ None
unfolding limit_of lt when◌then◌else◌
under_one nan h = refl
under_one (inf s) h = refl
under_one (fin true m e) h = refl
under_one (fin false m e) h = rw (lt-leb (8 * down e) (m * up e * 8) (omega (arith, ltb-true (m * up e * 1) (1 * down e) h)))

pub from_one : (x : Float) → lt x one ≡ false → amount_of x ≡ limit_of x
unfolding limit_of amount_of lt when◌then◌else◌
from_one nan h = refl
from_one (inf s) h = refl
from_one (fin true m e) h = refl
from_one (fin false m e) h =
    let k : 1 * down e ≤ m * up e * 1 = ltb-false (m * up e * 1) (1 * down e) h in
    rw (le-leb (1 * down e) (m * up e * 8) (omega arith), le-leb (8 * down e) (m * up e * 8) (omega arith))

-- ---- 0, above 0, and neither
zero_is : (s : Bool) (m : ℕ) (e : ℤ) → m * up e ≡ 0 → level_of (fin s m e) ≡ Some 0
unfolding level_of when◌then◌else◌
zero_is true m e h = rw (eq-eqb (m * up e) 0 h)
zero_is false m e h = rw (eq-eqb (m * up e) 0 h)

pub at_zero : (x : Float) → eq x nil ≡ true → level_of x ≡ Some 0
unfolding level_of eq when◌then◌else◌
at_zero nan h = absurd (false≢true h)
at_zero (inf s) h = absurd (false≢true h)
at_zero (fin s m e) h =
    let k = eqb→eq (m * up e * 1) (0 * down e) (and_l (eqb (m * up e * 1) (0 * down e)) _ (subst T (sym h) tt)) in
    zero_is s m e (omega arith)

pub small : (x : Float) → lt nil x ≡ true → lt x one ≡ true → level_of x ≡ Some 65536
unfolding level_of lt when◌then◌else◌
small nan h k = absurd (false≢true h)
small (inf true) h k = absurd (false≢true h)
small (inf false) h k = absurd (false≢true k)
small (fin true m e) h k = absurd (false≢true h)
small (fin false m e) h k =
    let p = ltb-true (0 * down e) (m * up e * 1) h in
    let q = ltb-true (m * up e * 1) (1 * down e) k in
    rw (ne_eqb (m * up e) 0 (λ z. omega arith), lt-ltb (m * up e) (down e) (omega arith))

pub large : (x : Float) → lt nil x ≡ true → lt x one ≡ false → limit_of x ≡ level_of x
unfolding level_of limit_of lt when◌then◌else◌
large nan h k = refl
large (inf s) h k = refl
large (fin true m e) h k = absurd (false≢true h)
large (fin false m e) h k =
    let p = ltb-true (0 * down e) (m * up e * 1) h in
    let q = ltb-false (m * up e * 1) (1 * down e) k in
    rw (ne_eqb (m * up e) 0 (λ z. omega arith), le-ltb (m * up e) (down e) (omega arith))

is_nil : (s : Bool) (m : ℕ) (e : ℤ) → m * up e ≡ 0 → eq (fin s m e) nil ≡ true
unfolding eq
is_nil true m e h = rw (eq-eqb (m * up e * 1) (0 * down e) (omega arith), eq-eqb (m * up e * 1) 0 (omega arith))
is_nil false m e h = rw (eq-eqb (m * up e * 1) (0 * down e) (omega arith))

pub negative : (x : Float) → eq x nil ≡ false → lt nil x ≡ false → level_of x ≡ None
unfolding level_of lt when◌then◌else◌
negative nan h k = refl
negative (inf s) h k = refl
negative (fin true m e) h k = rw (ne_eqb (m * up e) 0 (λ z. true≢false (sym (is_nil true m e z) ∙ h)))
negative (fin false m e) h k =
    let q = ltb-false (0 * down e) (m * up e * 1) k in
    absurd (true≢false (sym (is_nil false m e (omega arith)) ∙ h))

pub no_limit : (x : Float) → eq x nil ≡ false → lt nil x ≡ false → limit_of x ≡ None
unfolding limit_of lt
no_limit nan h k = refl
no_limit (inf s) h k = refl
no_limit (fin true m e) h k = refl
no_limit (fin false m e) h k =
    let q = ltb-false (0 * down e) (m * up e * 1) k in
    absurd (true≢false (sym (is_nil false m e (omega arith)) ∙ h))
