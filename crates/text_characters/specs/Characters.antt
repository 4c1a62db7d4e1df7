-- The characters of a list: blanks and hexadecimal digits.
use Rattle.std.specs.Prelude.{Bool, true, Option, Some, None, ℕ, ◌+◌, ◌-◌, ◌*◌, ◌%◌, ltb, eqb}
use Rattle.lighting_levels.specs.Paper.Choice.{when◌then◌else◌}

-- a blank, a tab, or the carriage return before a newline
unfoldable pub is_blank : ℕ → Bool
is_blank c = when eqb c 32 then true else when eqb c 9 then true else eqb c 13

-- what a hexadecimal digit is worth: 0 to 9, A to F, a to f; any other character is none
unfoldable pub hex_value : ℕ → Option ℕ
hex_value c =
    when ltb c 48 then None
    else when ltb c 58 then Some (c - 48)
    else when ltb c 65 then None
    else when ltb c 71 then Some (c - 55)
    else when ltb c 97 then None
    else when ltb c 103 then Some (c - 87)
    else None

-- a byte is its two digits, the first the more significant
unfoldable pub byte_pair : ℕ → ℕ → ℕ
byte_pair d v = d % 16 * 16 + v % 16
