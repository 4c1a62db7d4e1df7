-- What is found of an output after a list, as text: demand 3's values.
use Rattle.std.specs.Prelude.{List, [], ◌∷◌, ◌++◌, ℕ, zero, suc, ◌+◌, Option, Some, None}
use Rattle.lighting_levels.specs.Paper.Choice.{when◌then◌else◌}
use Rattle.lighting_frames.specs.Paper.Frames.{Bytes}
use Rattle.lighting_outputs.specs.Paper.Slots.{is_live, level_at}
use Rattle.lighting_outputs.specs.Paper.Value.{present_value, progress_value, in_process}
use Rattle.lighting_outputs.specs.Paper.Answers.{value_of}
use Rattle.lighting_outputs.specs.Paper.Tenants.{for_service}
use Rattle.lighting_outputs.specs.Paper.Properties.{property_of, read_property}
use Rattle.lighting_frames.specs.Paper.Tags.{tag_bytes, command_tags}
use Rattle.lighting_outputs.specs.declared.Answer.{Answer}
use Rattle.lighting_outputs.specs.declared.Command.{Command}
use Rattle.lighting_outputs.specs.declared.Output.{Output}
use Rattle.lighting_outputs.specs.declared.Slots.{Slots}
use Rattle.text_printing.specs.Text.{text}
use Rattle.text_printing.specs.Writing.{hex8, hex_bytes, decimal, newline}

-- for what is not there
abbrev pub missing : Bytes
missing = text " -"

-- a slot: its level in units, or `-`
unfoldable pub level_field : ℕ → Bytes
level_field v = text " " ++ decimal v

unfoldable pub slot_level : Slots → ℕ → Bytes
slot_level s i = level_field (level_at 0 s i)

unfoldable pub slot_field : Slots → ℕ → Bytes
slot_field s i = when is_live s i then slot_level s i else missing

-- the first n slots
unfoldable pub slot_fields : Slots → ℕ → Bytes
slot_fields s zero = []
slot_fields s (suc n) = slot_fields s n ++ slot_field s n

-- a property as it reads: its value in eight hexadecimal digits, or `-` where it has none
unfoldable pub hex_field : ℕ → Bytes
hex_field v = text " " ++ hex8 v

abbrev value_field : Option ℕ → Bytes
value_field None = missing
value_field (Some v) = hex_field v

unfoldable pub answer_field : Answer → Bytes
answer_field a = value_field (value_of a)

-- as a service station reads it (§8)
unfoldable pub property_field : ℕ → Output → ℕ → Bytes
property_field t o k = answer_field (read_property for_service t o (property_of k))

-- n properties from the number k on
unfoldable pub property_fields : ℕ → Output → ℕ → ℕ → Bytes
property_fields t o k zero = []
property_fields t o k (suc n) = property_fields t o k n ++ property_field t o (k + n)

-- A LINE with a number, and the lines of the output i at the time t
unfoldable pub number_line : Bytes → ℕ → Bytes
number_line word n = word ++ (decimal n ++ newline)

unfoldable pub slots_line : Slots → Bytes
slots_line s = text "slots" ++ (slot_fields s 16 ++ newline)

unfoldable pub present_line : Output → Bytes
present_line o = number_line (text "pv ") (present_value o.settings o.slots)

unfoldable pub progress_line : ℕ → Output → Bytes
progress_line t o = number_line (text "progress ") (progress_value t o)

unfoldable pub process_line : Output → Bytes
process_line o = number_line (text "inprocess ") (in_process o.activity)

-- a line with n properties from the number k on
unfoldable pub properties_line : Bytes → ℕ → Output → ℕ → ℕ → Bytes
properties_line word t o k n = word ++ (property_fields t o k n ++ newline)

-- the last command as the writer of tags has it (§1)
unfoldable pub tagged_line : Command → Bytes
tagged_line k = text "tagged " ++ (hex_bytes (tag_bytes (command_tags k)) ++ newline)

-- THE LINES of the output i at the time t. The settings of document 01 are properties 01 to 0A, the last
-- command is properties 0F to 14, the relay is properties 17 to 1B (§3)
unfoldable pub lines : ℕ → ℕ → Output → List Bytes
lines i t o =
    number_line (text "output ") i
    ∷ slots_line o.slots
    ∷ present_line o
    ∷ progress_line t o
    ∷ process_line o
    ∷ properties_line (text "settings") t o 0x01 10
    ∷ properties_line (text "last") t o 0x0f 6
    ∷ number_line (text "burning ") o.burning
    ∷ tagged_line o.last
    ∷ properties_line (text "relay") t o 0x17 5
    ∷ []

-- one after the other
unfoldable pub joined : List Bytes → Bytes
joined [] = []
joined (x ∷ l) = x ++ joined l

unfoldable pub block : ℕ → ℕ → Output → Bytes
block i t o = joined (lines i t o)
