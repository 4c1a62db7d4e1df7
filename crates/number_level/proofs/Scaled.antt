-- A REAL from 0.125 to 100 times 2 ^ 26 is a whole number, which `as u64` gives, and 1,024 of it are a unit.
use Rattle.std.specs.Prelude.{Some}
use mathlib.Core.Path.{◌≡◌, sym, ap, ◌∙◌}
use mathlib.Core.Bool.{Bool, true, false, not, ◌&&◌}
use Prim.Native.Nat.{ℕ, zero, suc, ◌-◌, ◌*◌, ◌%◌, ◌^◌, ◌≤◌, ◌<◌}
use native.Mathlib.Nat.{le_trans, lt_of_le_of_lt, lt_of_not-le, not-le_of_lt, le_of_suc-le-suc, mul-one, mul_assoc, mul-le-mul_right, le_of_mul-le-mul_right}
use native.Mathlib.Omega.{arith}
use lib.IntN.{ℤ, pos, negsuc}
use lib.Dec.{T, leb, ltb, eqb, ltb→lt, le→leb, lit<, lit≤}
use lib.Pow.{pow-add, pow_mono}
use lib.Ieee.{Float, nan, inf, fin, binary32, binary64, up, down, mul, le, fits, is_nan, of_int, in_float, in_unsigned, to_unsigned}
use lib.Ieee.Digits.{back}
use lib.Ieee.Fits.{down_pos, and_i, and_l, and_r, fits_widens}
use lib.Ieee.Back.{unsigned_back}
use lib.Ieee.Scale.{round_same}
use lib.Ieee.Positive.{positive, le→cross, between}
use borrow.Author.Tests.{le-leb}
use Rattle.lighting_levels.specs.Paper.Choice.{when◌then◌else◌}
use Rattle.lighting_levels.specs.Paper.Level.{nearest_to, amount_of}
use Rattle.lighting_levels.proofs.Rounding.{nearest_same, nearest_mono}

abbrev pub eighth : Float
eighth = fin false 1 (negsuc 2)

abbrev pub hundred : Float
hundred = fin false 25 (pos 2)

-- 2 ^ 26
abbrev pub scale : Float
scale = fin false 1 (pos 26)

-- ---- what fits an f32 has at most 24 digits
digits_lt : (s : Bool) (m : ℕ) (e : ℤ) → T (fits binary32 (fin s m e)) → m < 2 ^ 24
unfolding fits
digits_lt s zero e t = lit< tt
digits_lt s (suc m) e t =
    let A = eqb (suc m % 2) 1 in
    let B = ltb (suc m) (2 ^ 24) in
    let C = leb (down e) (2 ^ 149) in
    ltb→lt (suc m) (2 ^ 24) (and_r A B (and_l (A && B) C (and_l (A && B && C) (ltb (suc m * up e) (2 ^ 128 * down e)) t)))

few : (k m : ℕ) → 1 * 2 ^ k ≤ m * 1 * 8 → m < 2 ^ 24 → k ≤ 26
few k m h l =
    le_of_suc-le-suc (lt_of_not-le (λ (g : 27 ≤ k).
    let p : 2 ^ 27 ≤ 2 ^ k = pow_mono g in
    not-le_of_lt l (omega arith)))

-- ---- times 2 ^ 26 it is whole
whole : (m : ℕ) (e : ℤ) → m < 2 ^ 24 → 1 * down e ≤ m * up e * 8 → (n : ℕ) × (n * down e ≡ m * up e * 67108864)
whole m (pos k) l h = (m * 2 ^ k * 67108864, mul-one (m * 2 ^ k * 67108864))
whole m (negsuc k) l h =
    let j : suc k ≤ 26 = few (suc k) m h l in (
      m * 2 ^ (26 - suc k),
      mul_assoc m (2 ^ (26 - suc k)) (2 ^ suc k)
          ∙ ap (λ (x : ℕ). m * x) (sym (pow-add 2 (26 - suc k) (suc k)) ∙ ap (λ (x : ℕ). 2 ^ x) (back 26 (suc k) j))
          ∙ ap (λ (x : ℕ). x * 67108864) (sym (mul-one m)),
    )

times : (m : ℕ) (e : ℤ) (n : ℕ) → n * down e ≡ m * up e * 67108864 → mul binary64 (fin false m e) scale ≡ of_int binary64 (pos n)
unfolding mul of_int
times m e n h = round_same binary64 false (m * up e * 67108864) (down e * 1) n 1 (omega (arith, down_pos e)) (lit< tt) (omega arith)

pub record Scaled (x : Float) : Type 0 where
  pub n : ℕ
  pub is : mul binary64 x scale ≡ of_int binary64 (pos n)
  pub small : n ≤ 6710886400
  pub wide : T (fits binary64 x && not (is_nan x))
  pub amount : amount_of x ≡ Some (nearest_to n 1024)

pub scaled : (x : Float) → T (fits binary32 x) → T (le eighth x) → T (le x hundred) → Scaled x
unfolding amount_of is_nan when◌then◌else◌
scaled x f h k = go x f h k (between eighth x hundred tt tt h k)
  where
    go : (x : Float) → T (fits binary32 x) → T (le eighth x) → T (le x hundred) → T (positive x) → Scaled x
    go nan f h k p = elim p [ ]
    go (inf s) f h k p = elim p [ ]
    go (fin true m e) f h k p = elim p [ ]
    go (fin false m e) f h k p =
        let lo : 1 * down e ≤ m * up e * 8 = le→cross eighth (fin false m e) tt p h in
        let hi : m * up e * 1 ≤ 100 * down e = le→cross (fin false m e) hundred p tt k in
        let w = whole m e (digits_lt false m e f) lo in
        let D : 0 < down e = down_pos e in
        let q : w.0 * down e ≡ m * up e * 67108864 = w.1 in
        record {
          n = w.0;
          is = times m e w.0 q;
          small = le_of_mul-le-mul_right (omega arith) D;
          wide = and_i (fits binary64 (fin false m e)) true (fits_widens (fin false m e) f) tt;
          amount =
              rw (le-leb (1 * down e) (m * up e * 8) lo, le-leb (m * up e) (100 * down e) (omega arith))
              (ap Some (nearest_same (m * up e * 65536) (down e) w.0 1024 D (lit< tt) (omega arith)));
        }

-- its units fit a u32: they are at most those of 100
pub few_units : (n : ℕ) → n ≤ 6710886400 → nearest_to n 1024 ≤ 6553600
few_units n h = nearest_mono n 1024 6710886400 1024 (lit< tt) (lit< tt) (mul-le-mul_right 1024 h)

-- so `as u64` asks no more, and gives n
in_float_lem : (n : ℕ) → n ≤ 6710886400 → T (in_float binary64 (pos n))
unfolding in_float
in_float_lem n h = le→leb n (2 ^ 53) (le_trans h (lit≤ tt))

pub cast : {x : Float} → (s : Scaled x) → T (in_unsigned binary64 64 (mul binary64 x scale)) × (to_unsigned 64 (mul binary64 x scale) ≡ s.n)
cast s = rw s.is (unsigned_back binary64 64 s.n (in_float_lem s.n s.small) (lt_of_le_of_lt s.small (lit< tt)))
