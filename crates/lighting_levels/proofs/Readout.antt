-- A level is read out exactly, and comes back when it is written, unless it is one of 1 to 65,535.
use Rattle.std.specs.Prelude.{Some}
use mathlib.Core.Path.{◌≡◌, sym, ap, ◌∙◌}
use mathlib.Core.Bool.{true, false, true≢false}
use Prim.Native.Nat.{ℕ, suc, ◌*◌, ◌^◌, ◌≤◌, ◌<◌, min, max}
use native.Mathlib.Nat.{lt_of_le_of_lt, mul_assoc, mul-le-mul_right}
use native.Mathlib.Omega.{arith}
use lib.IntN.{ℤ}
use lib.Dec.{eqb, lit<}
use lib.Ieee.{Float, nan, inf, fin, binary32, up, down, round}
use lib.Ieee.Exact.{HasValue, round_exact}
use lib.Ieee.Fits.{down_pos, round-fits}
use lib.Ieee.Bits.{of_bits-to_bits}
use borrow.Author.Tests.{lt-ltb, le-ltb, le-leb, eq-eqb, ne_eqb}
use Rattle.lighting_levels.specs.Paper.Choice.{when◌then◌else◌}
use Rattle.lighting_levels.specs.Paper.Level.{one_percent, least_level, greatest_level, real, bits, level_in, level_of, real_of, read_out}
use Rattle.lighting_levels.proofs.Split.{by_eq, by_lt}
use Rattle.lighting_levels.proofs.Rounding.{nearest_same, nearest_whole}

-- ---- "nothing lost": the REAL of a level n has exactly the value n / 65,536
pub exact : (n : ℕ) → n ≤ greatest_level → HasValue (real_of n) false n one_percent
unfolding real_of
exact n h = round_exact binary32 false n one_percent n 133 (lit< tt) (omega arith) (lt_of_le_of_lt (mul-le-mul_right (2 ^ 133) h) (lit< tt)) (sym (mul_assoc n (2 ^ 133) least_level))

-- what a level becomes that was read out and is written again
abbrev pub returned : ℕ → ℕ
returned n = when eqb n 0 then 0 else max n least_level

-- ---- a / c is n / 65,536
module _ (a c n : ℕ) (C : 0 < c) (h : n ≤ greatest_level) (e : a * one_percent ≡ n * c) where
  zero_back : n ≡ 0 → level_in a c ≡ Some (returned n)
  unfolding when◌then◌else◌
  zero_back z =
      let k : n * c ≡ 0 = rw z (omega arith) in
      rw (eq-eqb a 0 (omega arith), z)

  low_back : 0 < n → n < least_level → level_in a c ≡ Some (returned n)
  unfolding when◌then◌else◌
  low_back p l =
      let k : suc n * c ≤ least_level * c = mul-le-mul_right c l in
      let j : 1 * c ≤ n * c = mul-le-mul_right c p in
      let m : max n least_level ≡ least_level = omega arith in
      rw (ne_eqb a 0 (λ z. omega arith), lt-ltb a c (omega arith), ne_eqb n 0 (λ z. omega arith), m)

  high_back : least_level ≤ n → level_in a c ≡ Some (returned n)
  unfolding when◌then◌else◌
  high_back l =
      let k : least_level * c ≤ n * c = mul-le-mul_right c l in
      let j : n * c ≤ greatest_level * c = mul-le-mul_right c h in
      let m : max n least_level ≡ n = omega arith in
      rw (ne_eqb a 0 (λ z. omega arith), le-ltb a c (omega arith), le-leb (8 * c) (a * 8) (omega arith), le-leb a (100 * c) (omega arith), ne_eqb n 0 (λ z. omega arith), m)
      (ap Some (nearest_same (a * one_percent) c n 1 C (lit< tt) (omega arith) ∙ nearest_whole n))

  back : level_in a c ≡ Some (returned n)
  back = by_eq n 0 (λ z t. zero_back z) (λ z t. by_lt n least_level (λ l u. low_back (omega arith) l) (λ l u. high_back l))

-- a REAL that is a / c is finite and has no minus
pub by_value : (P : Float → Type 0) (a c : ℕ) (x : Float) → HasValue x false a c → ((m : ℕ) (e : ℤ) → m * up e * c ≡ a * down e → P (fin false m e)) → P x
by_value P a c nan v f = absurd v
by_value P a c (inf s) v f = absurd v
by_value P a c (fin true m e) v f = absurd (true≢false v.0)
by_value P a c (fin false m e) v f = f m e v.1

value_back : (x : Float) (n : ℕ) → n ≤ greatest_level → HasValue x false n one_percent → level_of x ≡ Some (returned n)
unfolding level_of
value_back x n h v = by_value (λ y. level_of y ≡ Some (returned n)) n one_percent x v (λ m e same. back (m * up e) (down e) n (down_pos e) h same)

pub round_trip : (n : ℕ) → n ≤ greatest_level → level_of (real_of n) ≡ Some (returned n)
round_trip n h = value_back (real_of n) n h (exact n h)

-- "Only 1 to 65,535 .. do not return when written"
pub comes_back : (n : ℕ) → n ≤ greatest_level → least_level * min 1 n ≤ n → level_of (real_of n) ≡ Some n
unfolding when◌then◌else◌
comes_back n h l =
    round_trip n h
    ∙ ap Some (by_eq n 0 (λ z t. rw t (sym z)) (λ z t. rw t (omega arith)))

pub is_raised : (n : ℕ) → 0 < n → n < least_level → level_of (real_of n) ≡ Some least_level
unfolding when◌then◌else◌
is_raised n p l = round_trip n (omega arith) ∙ ap Some (rw (ne_eqb n 0 (λ z. omega arith)) (omega arith))

-- ---- the same by way of the bits: what `read_out` gives at a level is the pattern of the REAL equal to it
pub read_real : (n : ℕ) → real (bits (real_of n)) ≡ real_of n
unfolding real bits real_of
read_real n = of_bits-to_bits binary32 (round binary32 false n one_percent) (round-fits binary32 false n one_percent)

pub read_out_lem : (n : ℕ) → n ≤ greatest_level → read_out n ≡ bits (real_of n)
unfolding read_out
read_out_lem n h = let e : min n greatest_level ≡ n = omega arith in rw e

pub read_exact : (n : ℕ) → n ≤ greatest_level → HasValue (real (read_out n)) false n one_percent
read_exact n h = rw (read_out_lem n h, read_real n) (exact n h)

pub written_back : (n : ℕ) → n ≤ greatest_level → least_level * min 1 n ≤ n → level_of (real (read_out n)) ≡ Some n
written_back n h l = rw (read_out_lem n h, read_real n) (comes_back n h l)

pub written_raised : (n : ℕ) → 0 < n → n < least_level → level_of (real (read_out n)) ≡ Some least_level
written_raised n p l = rw (read_out_lem n (omega arith), read_real n) (is_raised n p l)
