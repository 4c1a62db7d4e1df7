-- One text put on a page after another.
use mathlib.Core.Path.{◌≡◌, refl, sym, ap, ◌∙◌}
use mathlib.Core.List.{[], ◌∷◌, ◌++◌, append_assoc, append-nil}
use Prim.Native.Nat.{ℕ, suc, ◌+◌, ◌-◌, ◌/◌, ◌%◌, ◌^◌, ◌≤◌, ◌<◌, min, max}
use native.Mathlib.Omega.{arith}
use native.Mathlib.Numerals.{add-one}
use lib.ListN.{length, take, drop, get_or, set, length-append, drop_of_length-le}
use lib.Seq.{sets, length-sets, sets-eq, set_out, take-suc, take_at, take_all, length-take-le}
use borrow.Rule.Slice.PartMut.{put_mid}
use Rattle.std.proofs.lemmas.List.{take-append-drop}
use Rattle.std.proofs.lemmas.Slice.{put_mid-paste}
use Rattle.lighting_frames.specs.Paper.Frames.{Bytes}
use Rattle.lighting_levels.proofs.Split.{by_le}
use Rattle.text_printing.specs.declared.Page.{Page}
use Rattle.text_printing.specs.Page.{with_text}
use Rattle.text_printing.specs.Writing.{hex2, hex4, hex8, hex_bytes}
use Rattle.std.specs.Int.{w32, to_be_bytes}

sets_append : (l : Bytes) (i : ℕ) (x y : Bytes) → sets l i (x ++ y) ≡ sets (sets l i x) (i + length x) y
sets_append l i [] y = ap (λ (n : ℕ). sets l n y) (omega arith)
sets_append l i (a ∷ x) y =
    sets_append (set l i a) (suc i) x y ∙ ap (λ (n : ℕ). sets (sets (set l i a) (suc i) x) n y) (omega arith)

sets_out : (l : Bytes) (i : ℕ) (x : Bytes) → length l ≤ i → sets l i x ≡ l
sets_out l i [] h = refl
sets_out l i (a ∷ x) h = rw (set_out l i a h) (sets_out l (suc i) x (omega arith))

-- a page with other bytes behind the same reference, and another mark
abbrev pub page_as : Page → Bytes → ℕ → Page
page_as p x m = record { bytes = record p.bytes { now = x }; mark = m }

page_with : (p : Page) {x y : Bytes} {m n : ℕ} → x ≡ y → m ≡ n → page_as p x m ≡ page_as p y n
page_with p e f = rw (e, f) refl

-- the page is as long as it was
pub length_with_text : (p : Page) (x : Bytes) → length (with_text p x).bytes.now ≡ length p.bytes.now
unfolding with_text
length_with_text p x = length-sets p.bytes.now p.mark x

-- one after the other
pub with_text_then : (p : Page) (x y : Bytes) → with_text (with_text p x) y ≡ with_text p (x ++ y)
unfolding with_text
with_text_then p x y =
    let n : length (x ++ y) ≡ length x + length y = length-append x y in
    let e : length (sets p.bytes.now p.mark x) ≡ length p.bytes.now = length-sets p.bytes.now p.mark x in
    page_with p (place ∙ sym (sets_append p.bytes.now p.mark x y)) (omega arith)
  where
    place : sets (sets p.bytes.now p.mark x) (max p.mark (min (p.mark + length x) (length p.bytes.now))) y ≡ sets (sets p.bytes.now p.mark x) (p.mark + length x) y
    place =
        by_le (p.mark + length x) (length p.bytes.now)
        (λ h t. ap (λ (k : ℕ). sets (sets p.bytes.now p.mark x) k y) (omega arith))
        (λ h t.
        sets_out (sets p.bytes.now p.mark x) (max p.mark (min (p.mark + length x) (length p.bytes.now))) y (omega (arith, length-sets p.bytes.now p.mark x))
        ∙ sym (sets_out (sets p.bytes.now p.mark x) (p.mark + length x) y (omega (arith, length-sets p.bytes.now p.mark x))))

-- nothing, and a text past the page's end
pub with_text_none : (p : Page) → with_text p [] ≡ p
unfolding with_text
with_text_none p = page_with p refl (omega arith)

pub with_text_out : (p : Page) (x : Bytes) → length p.bytes.now ≤ p.mark → with_text p x ≡ p
unfolding with_text
with_text_out p x h = page_with p (sets_out p.bytes.now p.mark x h) (omega arith)

-- a text that is put in pieces, and one that may be none: what a function that puts several names in its
-- attribute
pub ruleset texts = (with_text_then, with_text_none, append_assoc, append-nil)

-- one byte
pub with_text_byte : (p : Page) (c : ℕ) → p.mark < length p.bytes.now → with_text p (c ∷ []) ≡ page_as p (set p.bytes.now p.mark c) (p.mark + 1)
unfolding with_text
with_text_byte p c h = page_with p refl (omega arith)

-- as much of a text as there is room for, copied in one stretch
sets_part : (p s : Bytes) (m n : ℕ) → n ≡ min (length s) (length p - m) → sets (sets p m (take n s)) (m + n) (drop n s) ≡ sets p m (take n s)
sets_part p s m n e =
    by_le (length s) n
    (λ h t. rw (drop_of_length-le s h) refl)
    (λ h t. sets_out (sets p m (take n s)) (m + n) (drop n s) (omega (arith, length-sets p m (take n s))))

part_filled : (p s : Bytes) (m n : ℕ) → m < length p → n ≡ min (length s) (length p - m) → put_mid m (m + n - m) p (take n s) ≡ sets p m s
part_filled p s m n h e =
    put_mid-paste m (m + n - m) p (take n s) (take n s) n refl (omega arith) (sym l)
    ∙ ap (λ (x : Bytes). take m p ++ x ++ drop (m + n) p) (take_all n (take n s) (omega (arith, l)))
    ∙ sym (rw l at (sets-eq (take n s) p m (omega (arith, l))))
    ∙ sym (sets_part p s m n e)
    ∙ sym (rw l at (sets_append p m (take n s) (drop n s)))
    ∙ ap (λ (x : Bytes). sets p m x) (take-append-drop n s)
  where
    l : length (take n s) ≡ n
    l = length-take-le n s (omega arith)

pub with_text_part : (p : Page) (s : Bytes) (n : ℕ) → p.mark < length p.bytes.now → n ≡ min (length s) (length p.bytes.now - p.mark)
    → with_text p s ≡ page_as p (put_mid p.mark (p.mark + n - p.mark) p.bytes.now (take n s)) (p.mark + n)
unfolding with_text
with_text_part p s n h e = page_with p (sym (part_filled p.bytes.now s p.mark n h e)) (omega arith)

-- a turn of a loop that writes bytes in hexadecimal
hex_append : (x y : Bytes) → hex_bytes (x ++ y) ≡ hex_bytes x ++ hex_bytes y
unfolding hex_bytes
hex_append [] y = refl
hex_append (b ∷ x) y = ap (λ (l : Bytes). hex2 b ++ l) (hex_append x y) ∙ sym (append_assoc (hex2 b) (hex_bytes x) (hex_bytes y))

pub hex_more : (l : Bytes) (i : ℕ) → i < length l → hex_bytes (take (i + 1) l) ≡ hex_bytes (take i l) ++ hex2 (get_or l i 0)
unfolding hex_bytes
hex_more l i h = rw (add-one, take-suc l i 0 h, hex_append (take i l) (get_or l i 0 ∷ []), append-nil)

-- and eight digits are those of a number's four bytes
pub hex_octets : (v : ℕ) → v < 2 ^ 32 → hex8 v ≡ hex_bytes (to_be_bytes w32 v)
unfolding hex8 hex4 hex2 hex_bytes
hex_octets v h =
    let one : v / 65536 / 256 ≡ v / 256 ^ 3 % 256 = omega arith in
    let two : v / 65536 % 256 ≡ v / 256 ^ 2 % 256 = omega arith in
    let three : v % 65536 / 256 ≡ v / 256 ^ 1 % 256 = omega arith in
    let four : v % 65536 % 256 ≡ v % 256 = omega arith in
    rw (one, two, three, four) refl

-- what is written can be read: it stands after what stood before the mark, if there was room
pub written : (p : Page) (x : Bytes) → p.mark + length x ≤ length p.bytes.now
    → ((with_text p x).mark ≡ p.mark + length x) × (take (with_text p x).mark (with_text p x).bytes.now ≡ take p.mark p.bytes.now ++ x)
unfolding with_text
written p x h =
    let e : max p.mark (min (p.mark + length x) (length p.bytes.now)) ≡ p.mark + length x = omega arith in
    (e, rw (e, sets-eq x p.bytes.now p.mark h) (take_at (take p.mark p.bytes.now ++ x) (drop (p.mark + length x) p.bytes.now) (p.mark + length x) n))
  where
    n : length (take p.mark p.bytes.now ++ x) ≡ p.mark + length x
    n = length-append (take p.mark p.bytes.now) x ∙ ap (λ (k : ℕ). k + length x) (length-take-le p.mark p.bytes.now (omega arith))
