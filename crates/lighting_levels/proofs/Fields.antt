-- Numbers in bytes: one law for every width.
use mathlib.Core.Path.{◌≡◌, refl, sym, ap, ◌∙◌}
use mathlib.Core.List.{List}
use Prim.Native.Nat.{ℕ, zero, suc, ◌+◌, ◌*◌, ◌^◌, ◌≤◌, ◌<◌, min}
use native.Mathlib.Nat.{add-zero, add-suc, pow-suc}
use native.Mathlib.Omega.{arith}
use lib.ListN.{length, get_or-eq_default}
use Rattle.lighting_levels.specs.Paper.Field.{byte_at, big_endian}
use Rattle.lighting_levels.proofs.Split.{by_le}

module _ (b : List ℕ) where
  -- m bytes and n more
  pub joined : (m n at : ℕ) → big_endian (m + n) b at ≡ big_endian m b at * 256 ^ n + big_endian n b (at + m)
  unfolding big_endian
  joined m zero at = rw (add-zero m) (omega arith)
  joined m (suc n) at =
      let i : at + (m + n) ≡ at + m + n = omega arith in
      rw (add-suc m n, i, pow-suc 256 n) (omega (arith, ap (λ (v : ℕ). v * 256) (joined m n at)))

  -- it fits its bytes
  pub below : ((i : ℕ) → byte_at b i < 256) → (n at : ℕ) → big_endian n b at < 256 ^ n
  unfolding big_endian
  below h zero at = omega arith
  below h (suc n) at = rw (pow-suc 256 n) (omega (arith, h (at + n), below h n at))

  -- past the end all is 0
  past : (n at : ℕ) → length b ≤ at → big_endian n b at ≡ 0
  unfolding big_endian byte_at
  past zero at h = refl
  past (suc n) at h = omega (arith, past n at h, get_or-eq_default b 0 {n = at + n} (omega arith))

  -- so a place may be brought down to any that is not within
  pub as_far : (n at greatest_count : ℕ) → length b ≤ greatest_count → big_endian n b (min at greatest_count) ≡ big_endian n b at
  as_far n at greatest_count h =
      by_le at greatest_count
      (λ l e. let m : min at greatest_count ≡ at = omega arith in rw m)
      (λ l e. past n (min at greatest_count) (omega arith) ∙ sym (past n at (omega arith)))

  -- one byte
  pub single : (at : ℕ) → big_endian 1 b at ≡ byte_at b at
  unfolding big_endian
  single at = let i : at + 0 ≡ at = omega arith in rw i (omega arith)

  -- m bytes and n more, the second read from i on: their place, or top, if that is less
  pub joined_within : (m n at i greatest_count : ℕ) {x y : ℕ} → length b ≤ greatest_count → i ≡ min (at + m) greatest_count → x ≡ big_endian m b at → y ≡ big_endian n b i
      → x * 256 ^ n + y ≡ big_endian (m + n) b at
  joined_within m n at i greatest_count h k p q = rw (p, q, k, as_far n (at + m) greatest_count h) (sym (joined m n at))
