-- The line that says what is wrong with a list, and where.
use Rattle.std.specs.Prelude.{◌++◌, ℕ}
use Rattle.lighting_frames.specs.Paper.Frames.{Bytes}
use Rattle.text_printing.specs.Text.{text}
use Rattle.text_printing.specs.Writing.{decimal, newline}
use Rattle.text_heading.specs.Words.{letters, bounds}
use Rattle.text_heading.specs.declared.Word.{Word}
use Rattle.text_heading.specs.declared.Bounds.{Bounds}
use Rattle.text_heading.specs.declared.HeadingFault.{HeadingFault}
use Rattle.text_heading.specs.declared.HeadingFault.TheVariants.{NoOutputs, BadCount, BadWord, BadMarks, Outside}
use Rattle.text_reading.specs.declared.Fault.{Fault}
use Rattle.text_reading.specs.declared.Fault.TheVariants.{InHeading, NoDigit, HalfByte}

-- IN THE LINE THAT NAMES THE OUTPUTS. A number out of range: §6 refuses such a start with 17
unfoldable pub bounds_words : Bounds → Bytes
bounds_words b = decimal b.least ++ (text " to " ++ decimal b.most)

unfoldable pub outside_words : Word → Bytes
outside_words w = text "`" ++ (letters w ++ (text "` is to be " ++ (bounds_words (bounds w) ++ text ": Refused 17")))

unfoldable pub heading_words : HeadingFault → Bytes
heading_words NoOutputs = text "the first line is to be `outputs N`"
heading_words BadCount = text "N is to be 1 to 64"
heading_words BadWord =
    text "after `outputs N` may come `stations S`, `fade F`, `duration D` and `tenants HEX`, each once"
heading_words BadMarks = text "HEX is to be 1 to 8 hexadecimal digits"
heading_words (Outside w) = outside_words w

-- IN ANY LINE
unfoldable pub fault_words : Fault → Bytes
fault_words (InHeading f) = heading_words f
fault_words NoDigit = text "a character that is no hexadecimal digit"
fault_words HalfByte = text "half a byte"

unfoldable pub placed : ℕ → Bytes
placed k = text "line " ++ (decimal k ++ text ": ")

unfoldable pub fault_line : ℕ → Fault → Bytes
fault_line k f = placed k ++ (fault_words f ++ newline)

-- a list with no `outputs N` at all
unfoldable pub ended_line : ℕ → Bytes
ended_line k = placed k ++ (text "the list ends before `outputs N`" ++ newline)
