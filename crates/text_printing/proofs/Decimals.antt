-- The digits of a number, found from the last one to the first.
use mathlib.Core.Path.{◌≡◌, sym, ap, ◌∙◌}
use mathlib.Core.List.{[], ◌∷◌, ◌++◌, append_assoc, append-nil}
use Prim.Native.Nat.{ℕ, zero, suc, ◌+◌, ◌-◌, ◌/◌, ◌%◌, ◌≤◌, ◌<◌}
use native.Mathlib.Omega.{arith}
use lib.ListN.{length, drop, set, length-set}
use lib.Seq.{drop-cons, get_or-set_same, drop-set-lt}
use Rattle.lighting_levels.specs.Paper.Choice.{when◌then◌else◌}
use Rattle.lighting_frames.specs.Paper.Frames.{Bytes}
use Rattle.lighting_levels.proofs.Split.{leb_yes, leb_no}
use Rattle.text_printing.specs.Writing.{decimal_by, decimal}

-- one digit stored before the others
stored : (i x : ℕ) (b : Bytes) → i < length b → drop i (set b i x) ≡ x ∷ drop (suc i) b
stored i x b h =
    drop-cons (set b i x) i 0 (omega (arith, length-set b i x))
    ∙ ap (λ (y : ℕ). y ∷ drop (suc i) (set b i x)) (get_or-set_same b i x 0 h)
    ∙ ap (λ (l : Bytes). x ∷ l) (drop-set-lt (suc i) b i x (omega arith))

turned : (k n x : ℕ) (b : Bytes) → 10 ≤ n → suc k < length b → x ≡ 48 + n % 10
    → decimal_by k (n / 10) ++ drop (suc k) (set b (suc k) x) ≡ decimal_by (suc k) n ++ drop (suc (suc k)) b
unfolding decimal_by when◌then◌else◌
turned k n x b h l e =
    rw (leb_no {a = suc n} {b = 10} (omega arith), stored (suc k) x b l, e) (sym (append_assoc (decimal_by k (n / 10)) ((48 + n % 10) ∷ []) (drop (suc (suc k)) b)))

-- a turn of the loop
pub digit_turn : (i n x : ℕ) (b d : Bytes) → 0 < i → 10 ≤ n → i < length b → x ≡ 48 + n % 10
    → decimal_by i n ++ drop (i + 1) b ≡ d → decimal_by (i - 1) (n / 10) ++ drop (i - 1 + 1) (set b i x) ≡ d
digit_turn zero n x b d p h l e q = absurd (omega arith)
digit_turn (suc k) n x b d p h l e q =
    let back : suc k - 1 ≡ k = omega arith in
    let one : k + 1 ≡ suc k = omega arith in
    let two : suc k + 1 ≡ suc (suc k) = omega arith in
    rw (back, one) (turned k n x b h l e ∙ rw two at q)

-- its ends: the number has one digit left, or there is no room for more
pub digit_last : (i n x : ℕ) (b d : Bytes) → n < 10 → i < length b → x ≡ 48 + n % 10 → decimal_by i n ++ drop (i + 1) b ≡ d → drop i (set b i x) ≡ d
unfolding decimal_by when◌then◌else◌
digit_last zero n x b d h l e q = rw (stored zero x b l, e) q
digit_last (suc k) n x b d h l e q =
    let two : suc k + 1 ≡ suc (suc k) = omega arith in
    rw (stored (suc k) x b l, e) (rw (two, leb_yes {a = suc n} {b = 10} h) at q)

pub digit_full : (i n x : ℕ) (b d : Bytes) → i ≤ 0 → i < length b → x ≡ 48 + n % 10 → decimal_by i n ++ drop (i + 1) b ≡ d → drop i (set b i x) ≡ d
unfolding decimal_by
digit_full zero n x b d h l e q = rw (stored zero x b l, e) q
digit_full (suc k) n x b d h l e q = absurd (omega arith)

pub digit_start : (n : ℕ) → decimal_by 19 n ++ [] ≡ decimal n
unfolding decimal
digit_start n = append-nil (decimal_by 19 n)
