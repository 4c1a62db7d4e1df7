-- A row of numbers in text, as far as it is read.
use Rattle.std.specs.Prelude.{ℕ, List, [], ◌∷◌, ◌++◌, ◌+◌, ◌*◌, ◌%◌, nat_lt, nat_eq, if◌then◌else◌, Option, Some, None, unwrap_or, slice_set, replicate, min}
use Rattle.std.specs.Char.{is_ascii_digit}
use Rattle.lighting_frames.specs.Paper.Frames.{Bytes}
use Rattle.text_printing.specs.Writing.{decimal, newline}
use Rattle.lent_rows.specs.declared.Row.{Row}

-- nothing of a row
abbrev pub no_row : Row
no_row = record { letter = None; numbers = replicate 49 0; count = 0; pending = None }

-- a digit more at the end of a number, which stops at the greatest
abbrev pub digit_after : ℕ → ℕ → ℕ
digit_after n c = min (n * 10 + c % 16) 18446744073709551615

-- a number more, where there is one and room for it
abbrev pub with_number : Row → Option ℕ → Row
with_number r None = record r { pending = None }
with_number r (Some n) =
    (if nat_lt r.count 49 then record r { numbers = slice_set r.numbers r.count n; count = r.count + 1; pending = None } else record r { pending = None })

-- the number under way ends
abbrev pub closed : Row → Row
closed r = with_number r r.pending

-- a character more, after the letter or in its place
abbrev pub fed_by : Row → ℕ → Option ℕ → Row
fed_by r c None = (if nat_eq c 0 then r else record r { letter = Some c })
fed_by r c (Some l) =
    (if is_ascii_digit c then record r { pending = Some (digit_after (unwrap_or r.pending 0) c) } else closed r)

abbrev pub fed : Row → ℕ → Row
fed r c = fed_by r c r.letter

-- A ROW AS TEXT: its letter, a blank before each number, a newline
unfoldable pub numbers_text : List ℕ → Bytes
numbers_text [] = []
numbers_text (n ∷ l) = 32 ∷ (decimal n ++ numbers_text l)

abbrev pub row_text : ℕ → List ℕ → Bytes
row_text letter l = letter ∷ (numbers_text l ++ newline)
