-- How long a number or an answer is at most as text.
use mathlib.Core.Path.{◌≡◌, refl}
use mathlib.Core.List.{[], ◌∷◌}
use Prim.Native.Nat.{ℕ, zero, suc, ◌*◌, ◌/◌, ◌≤◌}
use native.Mathlib.Omega.{arith}
use lib.ListN.{length, length-append}
use lib.Dec.{ltb}
use Rattle.lighting_levels.specs.Paper.Choice.{when◌then◌else◌}
use Rattle.lighting_frames.specs.Paper.Frames.{Bytes}
use Rattle.lighting_outputs.specs.declared.Answer.{Answer}
use Rattle.lighting_outputs.specs.declared.Answer.TheVariants.{Done, Value, Absent, Refused}
use Rattle.lighting_levels.proofs.Split.{by_bool}
use Rattle.text_printing.specs.Writing.{hex2, hex4, hex8, hex_bytes, decimal_by, decimal, answer_line}

decimal_by_length : (k n : ℕ) → length (decimal_by k n) ≤ suc k
unfolding decimal_by when◌then◌else◌
decimal_by_length zero n = omega arith
decimal_by_length (suc k) n =
    by_bool (ltb n 10)
    (λ e. rw e (omega arith))
    (λ e. rw e (simp length-append (omega (arith, decimal_by_length k (n / 10)))))

-- a decimal number
pub decimal_length : (n : ℕ) → length (decimal n) ≤ 20
unfolding decimal
decimal_length n = decimal_by_length 19 n

-- eight hexadecimal digits
pub hex_length : (n : ℕ) → length (hex8 n) ≡ 8
unfolding hex8 hex4 hex2
hex_length n = refl

-- bytes, two digits each
pub hex_bytes_length : (l : Bytes) → length (hex_bytes l) ≡ 2 * length l
unfolding hex_bytes hex2
hex_bytes_length [] = refl
hex_bytes_length (b ∷ l) = omega (arith, hex_bytes_length l)

-- an answer's line: 29 is that of `Refused` and a number
pub answer_length : (a : Answer) → length (answer_line a) ≤ 29
unfolding answer_line
answer_length Done = omega arith
answer_length (Value v) = simp (length-append, hex_length) (omega arith)
answer_length Absent = omega arith
answer_length (Refused n) = simp length-append (omega (arith, decimal_length n))
