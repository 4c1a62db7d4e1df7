-- The slots tested from the lowest live one on: each is taken out of the mask once its level is tested.
use mathlib.Core.Path.{◌≡◌, refl, sym, ap, ◌∙◌}
use mathlib.Core.Logic.{◌≢◌}
use mathlib.Core.Bool.{Bool, true, false, false≢true}
use mathlib.Core.List.{List}
use Prim.Native.Nat.{ℕ, zero, suc, ◌+◌, ◌-◌, ◌*◌, ◌/◌, ◌%◌, ◌^◌, ◌<◌}
use native.Mathlib.Nat.{div-one, zero-div}
use native.Mathlib.Omega.{arith}
use lib.Bits.{bit_and, and_step, and_self}
use lib.Count.{count_trailing_zeros, trailing_of_zero}
use lib.ListN.{get_or}
use Rattle.lighting_levels.specs.Paper.Choice.{when◌then◌else◌, ◌also◌, all_from}
use Rattle.lighting_outputs.specs.Paper.Slots.{is_live}
use Rattle.lighting_outputs.specs.declared.Slots.{Slots}
use Rattle.lighting_outputs.specs.Paper.Rows.{is_level}
use Rattle.lighting_outputs.specs.Paper.Rules.{slot_sound, slots_sound}
use Rattle.lighting_outputs.proofs.Priorities.Mask.{halved}
use Rattle.lighting_levels.proofs.Scan.{all_each, each_all}
use Rattle.lighting_levels.proofs.Split.{by_bool, by_eq}

-- THE LOWEST BIT SET of m, by its trailing zeros: there is one
pub low_within : (n m : ℕ) → 0 < m → m < 2 ^ n → count_trailing_zeros n m < n
unfolding count_trailing_zeros
low_within zero m h k = absurd (omega (arith, h, k))
low_within (suc n) m h k =
    by_eq (m % 2) 1
    (λ p e. rw p (omega arith))
    (λ p e. let z : m % 2 ≡ 0 = omega arith in rw z (let r = low_within n (m / 2) (omega (arith, h)) (omega (arith, k)) in omega (arith, r)))

low_set : (n m : ℕ) → count_trailing_zeros n m < n → m / 2 ^ count_trailing_zeros n m % 2 ≡ 1
unfolding count_trailing_zeros
low_set zero m h = absurd (omega (arith, h))
low_set (suc n) m h =
    by_eq (m % 2) 1
    (λ p e. rw (p, div-one m) p)
    (λ p e. let z : m % 2 ≡ 0 = omega arith in rw (z, halved (count_trailing_zeros n (m / 2)) m) (low_set n (m / 2) (let k = rw z at h in omega (arith, k))))

positive : (n m : ℕ) → count_trailing_zeros n m < n → 0 < m
positive n m h = by_eq m 0 (λ p e. let k = rw p at h in absurd (omega (arith, k, trailing_of_zero n))) (λ p e. omega arith)

-- AND WITH m - 1 clears it
odd_low : (m : ℕ) → m % 2 ≡ 1 → bit_and m (m - 1) ≡ m / 2 * 2
odd_low m p =
    let e : (m - 1) / 2 ≡ m / 2 = omega arith in
    let f : (m - 1) % 2 ≡ 0 = omega arith in
    let g = rw (e, f, and_self (m / 2)) at (and_step m (m - 1)) in
    omega (arith, g)

even_low : (m : ℕ) → m % 2 ≡ 0 → 0 < m / 2 → bit_and m (m - 1) ≡ bit_and (m / 2) (m / 2 - 1) * 2
even_low m p h =
    let e : (m - 1) / 2 ≡ m / 2 - 1 = omega arith in
    let f : (m - 1) % 2 ≡ 1 = omega arith in
    let g = rw (e, f, p) at (and_step m (m - 1)) in
    omega (arith, g)

low_cleared : (n m : ℕ) → count_trailing_zeros n m < n → bit_and m (m - 1) / 2 ^ count_trailing_zeros n m % 2 ≡ 0
unfolding count_trailing_zeros
low_cleared zero m h = absurd (omega (arith, h))
low_cleared (suc n) m h =
    by_eq (m % 2) 1
    (λ p e. rw (p, div-one (bit_and m (m - 1))) (omega (arith, odd_low m p)))
    (λ p e.
    let z : m % 2 ≡ 0 = omega arith in
    let k : count_trailing_zeros n (m / 2) < n = let q = rw z at h in omega (arith, q) in
    let half : bit_and m (m - 1) / 2 ≡ bit_and (m / 2) (m / 2 - 1) = omega (arith, even_low m z (positive n (m / 2) k)) in
    rw (z, halved (count_trailing_zeros n (m / 2)) (bit_and m (m - 1)), half) (low_cleared n (m / 2) k))

low_others : (n m j : ℕ) → count_trailing_zeros n m < n → j ≢ count_trailing_zeros n m → bit_and m (m - 1) / 2 ^ j % 2 ≡ m / 2 ^ j % 2
unfolding count_trailing_zeros
low_others zero m j h d = absurd (omega (arith, h))
low_others (suc n) m zero h d =
    by_eq (m % 2) 1
    (λ p e. let b = rw p at d in absurd (b refl))
    (λ p e.
    let z : m % 2 ≡ 0 = omega arith in
    let k : count_trailing_zeros n (m / 2) < n = let q = rw z at h in omega (arith, q) in
    rw (div-one m, div-one (bit_and m (m - 1))) (omega (arith, even_low m z (positive n (m / 2) k))))
low_others (suc n) m (suc i) h d =
    by_eq (m % 2) 1
    (λ p e. let half : bit_and m (m - 1) / 2 ≡ m / 2 = omega (arith, odd_low m p) in rw (halved i (bit_and m (m - 1)), halved i m, half))
    (λ p e.
    let z : m % 2 ≡ 0 = omega arith in
    let k : count_trailing_zeros n (m / 2) < n = let q = rw z at h in omega (arith, q) in
    let half : bit_and m (m - 1) / 2 ≡ bit_and (m / 2) (m / 2 - 1) = omega (arith, even_low m z (positive n (m / 2) k)) in
    let b = rw z at d in
    rw (halved i (bit_and m (m - 1)), halved i m, half) (low_others n (m / 2) i k (λ q. b (ap suc q))))

-- slots of a mask and levels
abbrev pub slots_with : ℕ → List ℕ → Slots
slots_with m l = record { live = m; levels = l }

-- a test of numbers that gives the same for each gives the same for all
all_same : (t u : ℕ → Bool) → ((j : ℕ) → t j ≡ u j) → (n i : ℕ) → all_from t n i ≡ all_from u n i
unfolding all_from
all_same t u f zero i = refl
all_same t u f (suc n) i = ap (λ (x : Bool). x also all_from t n (i + 1)) (f i) ∙ ap (λ (x : Bool). u i also x) (all_same t u f n (i + 1))

-- THE LOWEST LIVE SLOT i of the mask m, with the level v
module _ (m : ℕ) (l : List ℕ) (h : count_trailing_zeros 16 m < 16) (i v : ℕ) (e : i ≡ count_trailing_zeros 16 m) (n : v ≡ get_or l i 0) where
  -- a level: the slot is done with
  pub low_done : is_level v ≡ true → slots_sound (slots_with m l) ≡ slots_sound (slots_with (bit_and m (m - 1)) l)
  unfolding slots_sound
  low_done k = all_same (slot_sound (slots_with m l)) (slot_sound (slots_with (bit_and m (m - 1)) l)) same 16 0
    where
      at : slot_sound (slots_with m l) i ≡ slot_sound (slots_with (bit_and m (m - 1)) l) i
      at = unfold slot_sound is_live when◌then◌else◌ in (rw (e, low_set 16 m h, low_cleared 16 m h) (rw (n, e) at k))

      same : (j : ℕ) → slot_sound (slots_with m l) j ≡ slot_sound (slots_with (bit_and m (m - 1)) l) j
      same j = by_eq j i (λ p z. rw p at) (λ p z. unfold slot_sound is_live in (rw (low_others 16 m j h (λ q. p (q ∙ sym e)))))

  -- none: the test fails
  pub low_broken : is_level v ≡ false → slots_sound (slots_with m l) ≡ false
  unfolding slots_sound
  low_broken k =
      by_bool (all_from (slot_sound (slots_with m l)) 16 0)
      (λ z. absurd (false≢true (sym broken ∙ all_each (slot_sound (slots_with m l)) 16 0 i z (omega arith) (omega (arith, e, h)))))
      (λ z. z)
    where
      broken : slot_sound (slots_with m l) i ≡ false
      broken = unfold slot_sound is_live when◌then◌else◌ in (rw (e, low_set 16 m h) (rw (n, e) at k))

-- NO LIVE SLOT
pub none_live : (s : Slots) → s.live ≡ 0 → slots_sound s ≡ true
unfolding slots_sound
none_live s e =
    each_all (slot_sound s) 16 0 (λ j h k. unfold slot_sound is_live when◌then◌else◌ in (rw (e, zero-div (2 ^ j))))
