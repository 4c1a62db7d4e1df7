-- One byte more of a number.
use mathlib.Core.Path.{◌≡◌, sym, ◌∙◌}
use mathlib.Core.List.{List}
use Prim.Native.Nat.{ℕ, ◌+◌, ◌*◌, ◌^◌, ◌<◌, ◌≤◌, min}
use native.Mathlib.Numerals.{add-one}
use native.Mathlib.Nat.{pow-suc, pow-le-pow_right}
use native.Mathlib.Omega.{arith}
use lib.Dec.{lit<}
use lib.ListN.{length}
use Rattle.lighting_levels.specs.Paper.Field.{byte_at, big_endian}
use Rattle.lighting_levels.proofs.Fields.{single, joined_within}

-- the place of the byte is `greatest_count`, where that is less
pub byte_more : (b : List ℕ) (n at i greatest_count : ℕ) {x y : ℕ} → length b ≤ greatest_count → i ≡ min (at + n) greatest_count
    → x ≡ big_endian n b at → y ≡ byte_at b i → x * 256 + y ≡ big_endian (n + 1) b at
byte_more b n at i greatest_count h k p q = joined_within b n 1 at i greatest_count h k p (q ∙ sym (single b i))

pub fits_more : (n x y : ℕ) → x < 256 ^ n → y < 256 → x * 256 + y < 256 ^ (n + 1)
fits_more n x y h l = rw (add-one, pow-suc 256 n) (omega arith)

-- a number of six bytes and one more, which is all that 64 bits are asked for
pub room : (n top x : ℕ) → x < 256 ^ n → n < top → top ≤ 7 → x * 256 + 256 ≤ 256 ^ 7
room n top x h l m =
    let k : n ≤ 6 = omega arith in
    let p : 256 ^ n ≤ 256 ^ 6 = pow-le-pow_right {n = 256} (lit< tt) k in
    omega arith
