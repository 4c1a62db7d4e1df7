-- The text of a list of frames, read one byte at a time. Only newlines are not fed: they end a line.
use Rattle.std.specs.Prelude.{Bool, true, false, Option, Some, None, Result, Ok, Err, [], ◌∷◌, ℕ, suc, ◌+◌, min, ltb, eqb, set, replicate, take}
use Rattle.lighting_levels.specs.Paper.Choice.{when◌then◌else◌}
use Rattle.lighting_frames.specs.Paper.Kinds.{longest_frame}
use Rattle.lighting_frames.specs.Paper.Frames.{Bytes}
use Rattle.text_characters.specs.Characters.{is_blank, hex_value, byte_pair}
use Rattle.text_heading.specs.declared.Heading.{Heading}
use Rattle.text_heading.specs.declared.Named.{Named}
use Rattle.text_heading.specs.declared.HeadingFault.{HeadingFault}
use Rattle.text_heading.specs.Heading.{fresh_heading, heading_step, run, ended}
use Rattle.text_reading.specs.declared.Fault.TheVariants.{InHeading, NoDigit, HalfByte}
use Rattle.text_reading.specs.declared.Held.{Held}
use Rattle.text_reading.specs.declared.Held.TheVariants.{Blank, Comment, Naming, Whole, Half, Dash, Spoilt}
use Rattle.text_reading.specs.declared.Line.{Line}
use Rattle.text_reading.specs.declared.Line.TheVariants.{Nothing, Started, Frame, Wrong}
use Rattle.text_reading.specs.declared.Reader.{Reader}

-- WHAT A LINE HOLDS after one more character c, and v, what it is worth as a digit. A first digit of a byte:
unfoldable pub digit_held : Option ℕ → Held
digit_held (Some v) = Half v
digit_held None = Spoilt NoDigit

-- the first line that says something names the outputs
unfoldable pub naming_held : Heading → Option ℕ → ℕ → Held
naming_held h v c = Naming (heading_step h v c)

-- the first character that is no blank: `#` begins a comment; before the list has named its outputs, all else
-- is to name them; after that, `-` is the empty string, and all else is to be bytes
unfoldable pub opened : Bool → Option ℕ → ℕ → Held
opened named v c =
    when is_blank c then Blank
    else when eqb c 35 then Comment
    else when named then (when eqb c 45 then Dash else digit_held v)
    else naming_held fresh_heading v c

-- blanks stand between bytes, and not within one
unfoldable pub byte_held : Option ℕ → ℕ → Held
byte_held v c = when is_blank c then Whole else digit_held v

unfoldable pub half_held : Option ℕ → ℕ → Held
half_held (Some v) c = Whole
half_held None c = when is_blank c then Spoilt HalfByte else Spoilt NoDigit

unfoldable pub dashed : ℕ → Held
dashed c = when is_blank c then Dash else Spoilt NoDigit

unfoldable pub step : Bool → Held → Option ℕ → ℕ → Held
step named Blank v c = opened named v c
step named Comment v c = Comment
step named (Naming h) v c = naming_held h v c
step named Whole v c = byte_held v c
step named (Half d) v c = half_held v c
step named Dash v c = dashed c
step named (Spoilt f) v c = Spoilt f

-- whether the first digit of a byte may come next
unfoldable pub may_begin : Bool → Held → Bool
may_begin named Blank = named
may_begin named Comment = false
may_begin named (Naming h) = false
may_begin named Whole = named
may_begin named (Half d) = false
may_begin named Dash = false
may_begin named (Spoilt f) = false

-- THE READER FED. Of a string it keeps one byte more than the longest frame has
abbrev pub bytes_kept : ℕ
bytes_kept = longest_frame + 1

unfoldable pub pushed : Reader → ℕ → Reader
pushed w x =
    when ltb w.count bytes_kept
    then record { named = w.named; line = w.line; held = w.held; bytes = set w.bytes w.count x; count = w.count + 1 }
    else w

unfoldable pub joined : Reader → ℕ → ℕ → Reader
joined w d v = pushed w (byte_pair d v)

-- a byte is stored by its second digit
unfoldable pub joined_by : Reader → ℕ → Option ℕ → Reader
joined_by w d (Some v) = joined w d v
joined_by w d None = w

unfoldable pub stored_by : Reader → Held → Option ℕ → Reader
stored_by w Blank v = w
stored_by w Comment v = w
stored_by w (Naming h) v = w
stored_by w Whole v = w
stored_by w (Half d) v = joined_by w d v
stored_by w Dash v = w
stored_by w (Spoilt f) v = w

unfoldable pub with_held : Reader → Held → Reader
with_held w h = record { named = w.named; line = w.line; held = h; bytes = w.bytes; count = w.count }

unfoldable pub feed : Reader → ℕ → Reader
feed w c = with_held (stored_by w w.held (hex_value c)) (step w.named w.held (hex_value c) c)

-- all the characters of a text
abbrev pub fed : Reader → Bytes → Reader
fed w x = run feed w x

-- the characters before the first newline, and how many they are
unfoldable pub fed_line : Reader → Bytes → Reader
fed_line w [] = w
fed_line w (c ∷ x) = when eqb c 10 then w else fed_line (feed w c) x

unfoldable pub line_length : Bytes → ℕ
line_length [] = 0
line_length (c ∷ x) = when eqb c 10 then 0 else suc (line_length x)

-- A LINE'S END
unfoldable pub heading_line : Result Named HeadingFault → Line
heading_line (Ok q) = Started q
heading_line (Err f) = Wrong (InHeading f)

unfoldable pub line_of : Held → Line
line_of Blank = Nothing
line_of Comment = Nothing
line_of (Naming h) = heading_line (ended h)
line_of Whole = Frame
line_of (Half d) = Wrong HalfByte
line_of Dash = Frame
line_of (Spoilt f) = Wrong f

-- the bytes that the line holds
unfoldable pub content : Reader → Bytes
content w = take w.count w.bytes

-- the next line's start. Lines are counted as far as 64 bits go
unfoldable pub next_line : Reader → Reader
next_line w =
    record {
      named = w.named;
      line = min (w.line + 1) 18446744073709551615;
      held = Blank;
      bytes = w.bytes;
      count = 0;
    }

unfoldable pub with_named : Reader → Reader
with_named w = record { named = true; line = w.line; held = w.held; bytes = w.bytes; count = w.count }

unfoldable pub fresh_reader : Reader
fresh_reader = record { named = false; line = 1; held = Blank; bytes = replicate bytes_kept 0; count = 0 }
