-- The bytes of a frame, and the numbers in it: document 01, Frames. A bit of a mask. Definitions only.
use Rattle.std.specs.Prelude.{ℕ, zero, suc, ◌+◌, ◌*◌, ◌/◌, ◌%◌, ◌^◌, Bool, List, [], ◌∷◌, eqb, get_or}

-- the byte at a place, and 0 past the end
unfoldable pub byte_at : List ℕ → ℕ → ℕ
byte_at b at = get_or b at 0

-- "Numbers are big-endian": the number in the n bytes from `at` on, the first the most significant
unfoldable pub big_endian : ℕ → List ℕ → ℕ → ℕ
big_endian zero b at = 0
big_endian (suc n) b at = big_endian n b at * 256 + byte_at b (at + n)

-- and the other way: a number in n bytes
unfoldable pub octets : ℕ → ℕ → List ℕ
octets zero v = []
octets (suc n) v = v / 256 ^ n % 256 ∷ octets n v

-- A BIT OF A MASK: whether bit i is set, the lowest being bit 0
abbrev pub bit_set : ℕ → ℕ → Bool
bit_set mask i = eqb (mask / 2 ^ i % 2) 1
