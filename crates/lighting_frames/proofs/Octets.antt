-- A number spelled in octets, and read back: one law for every width.
use mathlib.Core.Path.{◌≡◌, refl, sym, ap, ap₂, ◌∙◌}
use mathlib.Core.List.{◌∷◌, ◌++◌, []}
use Prim.Native.Nat.{ℕ, zero, suc, ◌+◌, ◌*◌, ◌/◌, ◌%◌, ◌^◌, ◌≤◌, ◌<◌}
use native.Mathlib.Nat.{mod-one, mod-lt, mod-eq_of_lt, one-le-pow, pow-succ', add_comm, mul_assoc, mul-add-mod_self_right, add-mul-div_right}
use native.Mathlib.Omega.{arith}
use lib.Arith.{digits_div, mod-mul}
use lib.ListN.{length, take, drop, replicate, length-append}
use lib.Seq.{append_snoc, drop-cons, get_or-append_seam}
use Rattle.lighting_levels.specs.Paper.Field.{byte_at, big_endian, octets}
use Rattle.lighting_frames.specs.Paper.Frames.{Bytes, Octets}
use Rattle.lighting_levels.proofs.Fields.{joined, below, single}

pub length_octets : (n v : ℕ) → length (octets n v) ≡ n
unfolding octets
length_octets zero v = refl
length_octets (suc n) v = ap suc (length_octets n v)

-- each number of a string of bytes is one
pub octet : (b : Bytes) (at : ℕ) → Octets b → byte_at b at < 256
unfolding byte_at
octet [] at h = omega arith
octet (x ∷ b) zero h = h.0
octet (x ∷ b) (suc at) h = octet b at h.1

-- a part of one is one, and so are one behind another, one byte again and again, and what a number is spelled
-- in
pub taken_octets : (n : ℕ) (b : Bytes) → Octets b → Octets (take n b)
taken_octets zero b o = tt
taken_octets (suc n) [] o = tt
taken_octets (suc n) (x ∷ b) o = (o.0, taken_octets n b o.1)

pub dropped_octets : (n : ℕ) (b : Bytes) → Octets b → Octets (drop n b)
dropped_octets zero b o = o
dropped_octets (suc n) [] o = tt
dropped_octets (suc n) (x ∷ b) o = dropped_octets n b o.1

pub appended_octets : (a b : Bytes) → Octets a → Octets b → Octets (a ++ b)
appended_octets [] b o p = p
appended_octets (x ∷ a) b o p = (o.0, appended_octets a b o.1 p)

pub repeated_octets : (n x : ℕ) → x < 256 → Octets (replicate n x)
repeated_octets zero x h = tt
repeated_octets (suc n) x h = (h, repeated_octets n x h)

pub spelled_octets : (n v : ℕ) → Octets (octets n v)
unfolding octets
spelled_octets zero v = tt
spelled_octets (suc n) v = (mod-lt (v / 256 ^ n) (omega arith), spelled_octets n v)

-- a word of four
pub word : (b : Bytes) → Octets b → (at : ℕ) → big_endian 4 b at < 2 ^ 32
word b o at = below b (λ i. octet b i o) 4 at

one_more : (b : Bytes) (n at : ℕ) → big_endian (suc n) b at ≡ byte_at b at * 256 ^ n + big_endian n b (suc at)
one_more b n at =
    let front : 1 + n ≡ suc n = omega arith in
    let next : at + 1 ≡ suc at = omega arith in
    rw (single b at, front, next) at (joined b 1 n at)

-- WHAT WAS SPELLED, read behind whatever stands before it
pub spelled : (n v : ℕ) (front rest : Bytes) → big_endian n (front ++ (octets n v ++ rest)) (length front) ≡ v % 256 ^ n
unfolding big_endian octets byte_at
spelled zero v front rest = sym (mod-one v)
spelled (suc n) v front rest =
    let x = v / 256 ^ n % 256 in
    let b = front ++ (x ∷ (octets n v ++ rest)) in
    let snoc : (front ++ (x ∷ [])) ++ (octets n v ++ rest) ≡ b = append_snoc front x (octets n v ++ rest) in
    let size : length (front ++ (x ∷ [])) ≡ suc (length front) = length-append front (x ∷ []) ∙ omega arith in
    let later : big_endian n b (suc (length front)) ≡ v % 256 ^ n = rw (snoc, size) at (spelled n v (front ++ (x ∷ [])) rest) in
    one_more b n (length front)
    ∙ ap₂ (λ (a c : ℕ). a * 256 ^ n + c) (get_or-append_seam front x (octets n v ++ rest) 0) later
    ∙ sym (mod-mul v {m = 256} {c = 256 ^ n} (omega arith) (one-le-pow n 256 (omega arith)))
    ∙ ap (λ (m : ℕ). v % m) (sym (pow-succ' 256 n))

-- only the low octets count
low_octets : (n c y : ℕ) → octets n (c * 256 ^ n + y) ≡ octets n y
unfolding octets
low_octets zero c y = refl
low_octets (suc n) c y =
    let p = 256 ^ n in
    let high : c * 256 ^ suc n + y ≡ c * 256 * p + y = rw (pow-succ' 256 n, ← mul_assoc c 256 p) in
    let head : (c * 256 * p + y) / p % 256 ≡ y / p % 256 =
    ap (λ (z : ℕ). z / p % 256) (add_comm (c * 256 * p) y)
    ∙ ap (λ (z : ℕ). z % 256) (add-mul-div_right y (c * 256) (one-le-pow n 256 (omega arith)) ∙ add_comm (y / p) (c * 256))
    ∙ mul-add-mod_self_right c 256 (y / p) in
    rw high (ap₂ (λ (z : ℕ) (l : Bytes). z ∷ l) head (low_octets n (c * 256) y))

-- WHAT WAS READ, spelled again
pub respelled : (n : ℕ) (b : Bytes) (at : ℕ) → Octets b → at + n ≤ length b → octets n (big_endian n b at) ≡ take n (drop at b)
unfolding octets byte_at
respelled zero b at o h = refl
respelled (suc n) b at o h =
    let x = byte_at b at in
    let y = big_endian n b (suc at) in
    let p = 256 ^ n in
    let small : y < p = below b (λ i. octet b i o) n (suc at) in
    let head : (x * p + y) / p % 256 ≡ x = ap (λ (z : ℕ). z % 256) (digits_div x small) ∙ mod-eq_of_lt (octet b at o) in
    rw (one_more b n at, drop-cons b at 0 (omega arith))
    (ap₂ (λ (z : ℕ) (l : Bytes). z ∷ l) head (low_octets n x y ∙ respelled n b (suc at) o (omega arith)))
