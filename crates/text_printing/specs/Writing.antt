-- Numbers and answers as text.
use Rattle.std.specs.Prelude.{[], ◌∷◌, ◌++◌, ℕ, zero, suc, ◌+◌, ◌/◌, ◌%◌, ltb}
use Rattle.lighting_levels.specs.Paper.Choice.{when◌then◌else◌}
use Rattle.lighting_frames.specs.Paper.Frames.{Bytes}
use Rattle.lighting_outputs.specs.declared.Answer.{Answer}
use Rattle.lighting_outputs.specs.declared.Answer.TheVariants.{Done, Value, Absent, Refused}
use Rattle.text_printing.specs.Text.{text}

-- HEXADECIMAL, in upper case: `0` to `9`, `A` to `F`
unfoldable pub hex_digit : ℕ → ℕ
hex_digit d = when ltb d 10 then 48 + d else 55 + d

-- two digits of 8 bits, four of 16, eight of 32; zeros in front are written
unfoldable pub hex2 : ℕ → Bytes
hex2 v = hex_digit (v / 16) ∷ (hex_digit (v % 16) ∷ [])

unfoldable pub hex4 : ℕ → Bytes
hex4 v = hex2 (v / 256) ++ hex2 (v % 256)

unfoldable pub hex8 : ℕ → Bytes
hex8 v = hex4 (v / 65536) ++ hex4 (v % 65536)

-- bytes, with no blank between them
unfoldable pub hex_bytes : Bytes → Bytes
hex_bytes [] = []
hex_bytes (b ∷ l) = hex2 b ++ hex_bytes l

-- DECIMAL, with no zero in front: k more digits may stand before the last. 64 bits take 20 digits at most
unfoldable pub decimal_by : ℕ → ℕ → Bytes
decimal_by zero n = (48 + n % 10) ∷ []
decimal_by (suc k) n = when ltb n 10 then (48 + n % 10) ∷ [] else decimal_by k (n / 10) ++ ((48 + n % 10) ∷ [])

unfoldable pub decimal : ℕ → Bytes
decimal n = decimal_by 19 n

-- AN ANSWER'S LINE: `Done`, `Value` and eight hexadecimal digits, `Absent`, `Refused` and a number; 10 ends
-- the line
abbrev pub newline : Bytes
newline = text "\n"

abbrev pub value_word : Bytes
value_word = text "Value "

abbrev pub refused_word : Bytes
refused_word = text "Refused "

unfoldable pub answer_line : Answer → Bytes
answer_line Done = text "Done\n"
answer_line (Value v) = value_word ++ (hex8 v ++ newline)
answer_line Absent = text "Absent\n"
answer_line (Refused n) = refused_word ++ (decimal n ++ newline)
