-- The mask's operations, as the code makes them, are those on the slots.
use Rattle.std.specs.Prelude.{Option, Some, None}
use mathlib.Core.Path.{◌≡◌, refl, sym, ap, ◌∙◌}
use mathlib.Core.Bool.{Bool, true, false, not, false≢true}
use mathlib.Core.List.{List, [], ◌∷◌}
use Prim.Native.Nat.{ℕ, zero, suc, ◌+◌, ◌-◌, ◌*◌, ◌/◌, ◌%◌, ◌^◌, ◌≤◌, ◌<◌}
use native.Mathlib.Nat.{div-eq_of_lt, lt_of_lt_of_le, zero-mul, one-mul, div-one}
use native.Mathlib.Omega.{arith}
use lib.Dec.{eqb}
use lib.Bits.{bit_and, bit_or, and_step, or_step, or_zero_r, and_mask, and_high}
use lib.Pow.{pow-add, pow_pos, pow-lt, mod-pow-add, shl_exact, shr-shr, pow_mono}
use native.Mathlib.Numerals.{add-one}
use lib.Count.{count_trailing_zeros}
use lib.ListN.{set, get_or, length, length-set, get_or-eq_default}
use Rattle.lighting_levels.proofs.Split.{by_eq, by_lt, by_bool, eqb_miss, leb_yes}
use Rattle.lighting_levels.specs.Paper.Choice.{when◌then◌else◌}
use Rattle.lighting_levels.specs.Paper.Field.{bit_set}
use Rattle.lighting_outputs.specs.Paper.Slots.{slot_count, Slots, view, slots_of, slot, put, first_live, winner, is_live, mask_emptied, mask_filled, level_set, level_at}

length_view : (m : ℕ) (l : List ℕ) → length (view m l) ≡ length l
unfolding view when◌then◌else◌
length_view m [] = refl
length_view m (v ∷ l) = ap suc (length_view (m / 2) l)

-- a number made of a digit and the rest shows them
view_digit : (m x d v : ℕ) (l : List ℕ) → m ≡ x * 2 + d → d < 2
    → view m (v ∷ l) ≡ (when eqb d 1 then Some v else None) ∷ view x l
unfolding view when◌then◌else◌
view_digit m x d v l p h =
    let e : m % 2 ≡ d = omega arith in
    let f : m / 2 ≡ x = omega arith in
    rw (e, f)

view_or : (m i v : ℕ) (l : List ℕ) → view (bit_or m (2 ^ i)) (set l i v) ≡ set (view m l) i (Some v)
unfolding view when◌then◌else◌
view_or m i v [] = refl
view_or m zero v (w ∷ l) = view_digit (bit_or m 1) (m / 2) 1 v l (omega (arith, or_step m 1, or_zero_r (m / 2))) (omega arith)
view_or m (suc i) v (w ∷ l) =
    let e : 2 ^ suc i / 2 ≡ 2 ^ i = omega arith in
    let f : 2 ^ suc i % 2 ≡ 0 = omega arith in
    view_digit
    (bit_or m (2 ^ suc i))
    (bit_or (m / 2) (2 ^ i))
    (m % 2)
    w
    (set l i v)
    (omega (arith, rw (e, f) at (or_step m (2 ^ suc i))))
    (omega arith)
    ∙ ap (λ (z : List (Option ℕ)). (when eqb (m % 2) 1 then Some w else None) ∷ z) (view_or (m / 2) i v l)

view_mod : (m n : ℕ) (l : List ℕ) → length l ≤ n → view (m % 2 ^ n) l ≡ view m l
unfolding view when◌then◌else◌
view_mod m n [] h = refl
view_mod m zero (v ∷ l) h = absurd (omega arith)
view_mod m (suc n) (v ∷ l) h =
    view_digit
    (m % 2 ^ suc n)
    (m / 2 % 2 ^ n)
    (m % 2)
    v
    l
    (omega (arith, rw (add-one n) at (mod-pow-add m n 1)))
    (omega arith)
    ∙ ap (λ (z : List (Option ℕ)). (when eqb (m % 2) 1 then Some v else None) ∷ z) (view_mod (m / 2) n l (omega arith))

-- bit i cleared, and any level v left in its place
view_and : (m i n v : ℕ) (l : List ℕ) → i < n → length l ≤ n
    → view (bit_and m ((2 ^ n - 1) - 2 ^ i)) (set l i v) ≡ set (view m l) i None
unfolding view when◌then◌else◌
view_and m i n v [] h k = refl
view_and m i zero v (w ∷ l) h k = absurd (omega arith)
view_and m zero (suc n) v (w ∷ l) h k =
    let p : 0 < 2 ^ n = pow_pos n in
    let e : ((2 ^ suc n - 1) - 1) / 2 ≡ 2 ^ n - 1 = omega arith in
    let f : ((2 ^ suc n - 1) - 1) % 2 ≡ 0 = omega arith in
    view_digit
    (bit_and m ((2 ^ suc n - 1) - 1))
    (m / 2 % 2 ^ n)
    0
    v
    l
    (omega (arith, and_mask (m / 2) n, rw (e, f) at (and_step m ((2 ^ suc n - 1) - 1))))
    (omega arith)
    ∙ ap (λ (z : List (Option ℕ)). None ∷ z) (view_mod (m / 2) n l (omega arith))
view_and m (suc i) (suc n) v (w ∷ l) h k =
    let p : 2 ^ i < 2 ^ n = pow-lt (omega arith) in
    let e : ((2 ^ suc n - 1) - 2 ^ suc i) / 2 ≡ (2 ^ n - 1) - 2 ^ i = omega arith in
    let f : ((2 ^ suc n - 1) - 2 ^ suc i) % 2 ≡ 1 = omega arith in
    view_digit
    (bit_and m ((2 ^ suc n - 1) - 2 ^ suc i))
    (bit_and (m / 2) ((2 ^ n - 1) - 2 ^ i))
    (m % 2)
    w
    (set l i v)
    (omega (arith, rw (e, f) at (and_step m ((2 ^ suc n - 1) - 2 ^ suc i))))
    (omega arith)
    ∙ ap
    (λ (z : List (Option ℕ)). (when eqb (m % 2) 1 then Some w else None) ∷ z)
    (view_and (m / 2) i n v l (omega arith) (omega arith))

-- A SLOT PUT: for the sixteen slots the guard never bites
pub put_slots : (s : Slots) (i : ℕ) (x : Option ℕ) → length s.levels ≡ slot_count → i < slot_count → slots_of (put s i x) ≡ set (slots_of s) i x
unfolding put slots_of mask_emptied mask_filled level_set when◌then◌else◌
put_slots s i None h k = rw (leb_yes {a = suc i} {b = slot_count} k) (view_and s.live i slot_count 0 s.levels k (omega arith))
put_slots s i (Some v) h k = rw (leb_yes {a = suc i} {b = slot_count} k) (view_or s.live i v s.levels)

set_size : (l : List ℕ) (i v : ℕ) → length (level_set l i v) ≡ length l
unfolding level_set when◌then◌else◌
set_size l i v = by_lt i slot_count (λ p e. rw e (length-set l i v)) (λ p e. rw e)

pub put_size : (s : Slots) (i : ℕ) (x : Option ℕ) → length (put s i x).levels ≡ length s.levels
unfolding put
put_size s i None = set_size s.levels i 0
put_size s i (Some v) = set_size s.levels i v

pub slots_size : (s : Slots) → length (slots_of s) ≡ length s.levels
unfolding slots_of
slots_size s = length_view s.live s.levels

-- THE WINNER is what the trailing zeros of the mask say
zeros_view : (n m : ℕ) (l : List ℕ) → length l ≡ n → count_trailing_zeros n m ≡ first_live (view m l)
unfolding when◌then◌else◌ count_trailing_zeros view first_live
zeros_view n m [] h = rw (← h)
zeros_view zero m (v ∷ l) h = absurd (omega arith)
zeros_view (suc n) m (v ∷ l) h =
    by_eq
    (m % 2)
    1
    (λ p e. rw (e, p))
    (λ p e. let z : m % 2 ≡ 0 = omega arith in
    rw (e, z) (ap suc (zeros_view n (m / 2) l (omega arith))))

pub winner_zeros : (s : Slots) → length s.levels ≡ slot_count → count_trailing_zeros slot_count s.live ≡ winner s
unfolding winner slots_of
winner_zeros s h = zeros_view slot_count s.live s.levels h

-- WHETHER A SLOT IS LIVE, by the mask
abbrev pub alive : Option ℕ → Bool
alive None = false
alive (Some v) = true

pub halved : (i m : ℕ) → m / 2 ^ suc i ≡ m / 2 / 2 ^ i
halved i m = sym (shr-shr m 1 i ∙ ap (λ (k : ℕ). m / 2 ^ k) (omega arith))

slot_view : (m i : ℕ) (l : List ℕ) → i < length l
    → get_or (view m l) i None ≡ (when bit_set m i then Some (get_or l i 0) else None)
unfolding view
slot_view m i [] h = absurd (omega arith)
slot_view m zero (v ∷ l) h = rw (div-one m)
slot_view m (suc i) (v ∷ l) h = rw (halved i m) (slot_view (m / 2) i l (omega arith))

pub slot_is : (s : Slots) (i : ℕ) → i < length s.levels → slot s i ≡ (when is_live s i then Some (get_or s.levels i 0) else None)
unfolding is_live slots_of
slot_is s i h = slot_view s.live i s.levels h

pub is_live_slot : (s : Slots) (i : ℕ) → i < length s.levels → is_live s i ≡ alive (slot s i)
unfolding when◌then◌else◌
is_live_slot s i h = rw (slot_is s i h) (by_bool (is_live s i) (λ e. rw e) (λ e. rw e))

pub dead_past : (m i : ℕ) → m < 65536 → slot_count ≤ i → bit_set m i ≡ false
dead_past m i h k = ap (λ (x : ℕ). eqb (x % 2) 1) (div-eq_of_lt (lt_of_lt_of_le h (pow_mono k)))

-- A BIT TESTED in a word of so many bits, the slots' sixteen or the stations' thirty-two (§8): a shifted mask
-- leaves bit i alone, where it stands
pub shifted : (width i : ℕ) → i < width → (1 * 2 ^ i) % 2 ^ width ≡ 2 ^ i
shifted width i h = shl_exact 1 i width (omega arith) (omega arith) ∙ one-mul (2 ^ i)

bit_left : (m i : ℕ) → bit_and m (2 ^ i) ≡ (m / 2 ^ i % 2) * 2 ^ i
bit_left m i =
    let bit : 2 ^ (1 + i) - 2 ^ i ≡ 2 ^ i = omega (arith, pow-add 2 1 i) in
    ap (bit_and m) (sym bit) ∙ and_high m 1 i

pub tested : (width m i : ℕ) → i < width → not (eqb (bit_and m ((1 * 2 ^ i) % 2 ^ width)) 0) ≡ bit_set m i
tested width m i h =
    rw
    (shifted width i h, bit_left m i)
    (by_eq
    (m / 2 ^ i % 2)
    1
    (λ p e. rw (p, one-mul (2 ^ i), eqb_miss {a = 2 ^ i} {b = 0} (omega (arith, pow_pos i))))
    (λ p e. let z : m / 2 ^ i % 2 ≡ 0 = omega arith in rw (z, zero-mul (2 ^ i))))

-- a live slot is one of the sixteen and holds its level; one that is not live holds nothing
pub slot_live : (d : ℕ) (s : Slots) (i : ℕ) → length s.levels ≡ slot_count → s.live < 65536 → is_live s i ≡ true → slot s i ≡ Some (level_at d s i)
unfolding level_at when◌then◌else◌
slot_live d s i size mask live =
    by_lt i slot_count
    (λ h e. rw (e, slot_is s i (omega arith), live))
    (λ h e. absurd (false≢true (sym (dead_past s.live i mask h) ∙ (unfold is_live in live))))

pub slot_dead : (s : Slots) (i : ℕ) → length s.levels ≡ slot_count → is_live s i ≡ false → slot s i ≡ None
unfolding when◌then◌else◌
slot_dead s i size dead =
    by_lt i slot_count
    (λ h e. rw (slot_is s i (omega arith), dead))
    (λ h e. get_or-eq_default (slots_of s) None (omega (arith, slots_size s)))
