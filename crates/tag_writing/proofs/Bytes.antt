-- A number's octets, and a field's bytes.
use Rattle.std.specs.Prelude.{Option, Some}
use mathlib.Core.Path.{◌≡◌, refl, ap}
use mathlib.Core.List.{List, [], ◌∷◌}
use Prim.Native.Nat.{ℕ, zero, suc, ◌-◌, ◌/◌, ◌%◌, ◌≤◌}
use native.Mathlib.Omega.{arith}
use lib.ListN.{take, drop}
use lib.Seq.{take_all}
use Rattle.std.specs.Int.{w32, to_be_bytes}
use Rattle.lighting_levels.specs.Paper.Field.{octets}
use Rattle.lighting_frames.specs.Paper.Tags.{field_size}
use Rattle.lighting_frames.specs.declared.TagContent.{TagContent}
use Rattle.lighting_frames.proofs.Octets.{length_octets}

octets_four : (v : ℕ) → to_be_bytes w32 v ≡ octets 4 v
unfolding octets
octets_four v = let whole : v ≡ v / 1 = omega arith in ap (λ (x : ℕ). v / 0x100_0000 % 0x100 ∷ (v / 0x1_0000 % 0x100 ∷ (v / 0x100 % 0x100 ∷ (x % 0x100 ∷ [])))) whole

-- fewer octets are the last of the four
last : (count v : ℕ) → count ≤ 4 → drop (4 - count) (octets 4 v) ≡ octets count v
unfolding octets
last zero v h = refl
last (suc zero) v h = refl
last (suc (suc zero)) v h = refl
last (suc (suc (suc zero))) v h = refl
last (suc (suc (suc (suc zero)))) v h = refl
last (suc (suc (suc (suc (suc n))))) v h = absurd (omega arith)

-- as a part of a number's four bytes, taken from a place on
pub last_octets : (count v : ℕ) (bytes : List ℕ) → bytes ≡ to_be_bytes w32 v → count ≤ 4 → take (4 - (4 - count)) (drop (4 - count) bytes) ≡ octets count v
last_octets count v bytes e h =
    let n : 4 - (4 - count) ≡ count = omega arith in
    rw (e, octets_four v, last count v h, n) (take_all count (octets count v) (omega (arith, length_octets count v)))

-- A FIELD, written
pub count_most : {field : Option TagContent} {content : TagContent} → field ≡ Some content → field_size field ≤ 5 → content.count ≤ 4
unfolding field_size
count_most e h = omega (arith, rw e at h)
