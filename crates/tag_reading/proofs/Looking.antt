-- The octets behind a tag, and a field at the head of what is left.
use Rattle.std.specs.Prelude.{None}
use mathlib.Core.Path.{◌≡◌, sym, ◌∙◌}
use mathlib.Core.Bool.{Bool, true, false}
use mathlib.Core.List.{List}
use Prim.Native.Nat.{ℕ, ◌+◌, ◌-◌, ◌/◌, ◌^◌, ◌≤◌, ◌<◌}
use native.Mathlib.Nat.{mul-add-div_right, div-eq_of_lt, one-le-pow}
use native.Mathlib.Omega.{arith}
use lib.ListN.{length}
use borrow.Author.Tests.{lt-ltb, le-ltb}
use Rattle.lighting_levels.specs.Paper.Choice.{when◌then◌else◌}
use Rattle.lighting_levels.specs.Paper.Field.{byte_at, big_endian}
use Rattle.lighting_outputs.specs.Paper.Rows.{within}
use Rattle.lighting_frames.specs.Paper.Tags.{context_tag, field_in, holds}
use Rattle.lighting_outputs.proofs.Rules.Facts.{Within}
use Rattle.lighting_levels.proofs.Fields.{joined, below}
use Rattle.lighting_outputs.proofs.Rules.Tied.{within_of}

-- of m + n octets the first m
pub front : (b : List ℕ) → ((i : ℕ) → byte_at b i < 256) → (m n : ℕ) {count word : ℕ} → count ≡ m → word ≡ big_endian (m + n) b 1 → word / 256 ^ n ≡ big_endian count b 1
front b octet m n e w =
    rw (e, w, joined b m n 1, mul-add-div_right (one-le-pow n 256 (omega arith)) (big_endian m b 1) (big_endian n b (1 + m)), div-eq_of_lt (below b octet n (1 + m))) (omega arith)

-- A FIELD with its tag at the head, and of `count` octets, or not
module _ (number least most : ℕ) (left : List ℕ) {low high tag : ℕ} {flag : Bool}
    (l : low ≡ context_tag number least) (h : high ≡ context_tag number most) (t : tag ≡ byte_at left 0) (w : flag ≡ within low high tag) where
  pub between : flag ≡ true → Within (context_tag number least) (context_tag number most) tag
  between f = rw (l, h) at (within_of low high tag (sym w ∙ f))

  tagged : (b : Bool) → flag ≡ b → within (context_tag number least) (context_tag number most) (byte_at left 0) ≡ b
  tagged b f = rw (l, h, t) at (sym w ∙ f)

  module _ {count none : ℕ} (z : none ≡ context_tag number 0) (c : count ≡ tag - none) (f : flag ≡ true) where
    counted : count ≡ byte_at left 0 - context_tag number 0
    counted = rw (t, z) at c

    pub found : {value : ℕ} → count < length left → value ≡ big_endian count left 1 → holds count value ≡ field_in number (record { least = least; most = most }) left
    unfolding field_in when◌then◌else◌
    found s v = rw (tagged true f, ← counted, lt-ltb _ _ s, v)

    pub cut_short : length left ≤ count → None ≡ field_in number (record { least = least; most = most }) left
    unfolding field_in when◌then◌else◌
    cut_short s = rw (tagged true f, ← counted, le-ltb _ _ s)

  pub elsewhere : flag ≡ false → None ≡ field_in number (record { least = least; most = most }) left
  unfolding field_in when◌then◌else◌
  elsewhere f = rw (tagged false f)
