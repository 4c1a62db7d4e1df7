-- A line of a list, taken: what it does to the tables, and the text that it writes. The tables stand ready
-- for 64 outputs and 32 stations; the panel is the first so many of them, and the rest stand by. Definitions
-- only.
use Rattle.std.specs.Prelude.{Bool, true, false, eqb, [], ◌∷◌, ◌≡◌}
use Rattle.lighting_levels.specs.Paper.Choice.{when◌then◌else◌}
use Rattle.lighting_frames.specs.Paper.Frames.{Bytes}
use Rattle.lighting_panel.specs.Paper.Panel.{Panel, Step}
use Rattle.lent_parts.specs.Lending.{lent, begun, sent}
use Rattle.text_heading.specs.declared.Named.{Named}
use Rattle.text_reading.specs.declared.Line.{Line}
use Rattle.text_reading.specs.declared.Line.TheVariants.{Nothing, Started, Frame, Wrong}
use Rattle.text_reading.specs.declared.Reader.{Reader}
use Rattle.text_reading.specs.Reading.{line_of, content, next_line, with_named, feed, fresh_reader}
use Rattle.text_printing.specs.Writing.{answer_line}
use Rattle.text_faults.specs.Faults.{fault_line}

-- the panel that is in use: as many outputs and as many stations as the kept set says
abbrev pub in_use : Panel → Panel
in_use e = lent e.kept.parameters.outputs e.kept.parameters.stations e

-- the line that names a set and marks starts the panel of so many outputs and stations with them
abbrev pub started_with : Named → Panel → Panel
started_with s e = (begun s.parameters.outputs s.parameters.stations s.parameters s.tenants e).panel

-- a string of bytes goes to the panel that is in use
abbrev pub sent_on : Bytes → Panel → Step
sent_on b e = sent e.kept.parameters.outputs e.kept.parameters.stations b e

-- what a line leaves: the tables, the text that it writes, the reader at the next line, and whether it was a
-- good one
pub record Taken : Type 0 where
  pub panel : Panel
  pub text : Bytes
  pub reader : Reader
  pub good : Bool

unfoldable pub taken_by : Panel → Reader → Line → Taken
taken_by p w Nothing = record { panel = p; text = []; reader = next_line w; good = true }
taken_by p w (Started s) = record { panel = started_with s p; text = []; reader = with_named (next_line w); good = true }
taken_by p w Frame =
    record {
      panel = (sent_on (content w) p).panel;
      text = answer_line (sent_on (content w) p).answer;
      reader = next_line w;
      good = true;
    }
taken_by p w (Wrong f) = record { panel = p; text = fault_line w.line f; reader = next_line w; good = false }

-- a line that the reader has come to the end of
unfoldable pub taken : Panel → Reader → Taken
taken p w = taken_by p w (line_of w.held)

-- A TEXT, character after character: a newline ends a line, and a bad line ends the list. What the tables and
-- the reader are then, and whether every line was a good one
pub record Through : Type 0 where
  pub panel : Panel
  pub reader : Reader
  pub good : Bool

unfoldable pub through : Panel → Reader → Bytes → Through
through p w [] = record { panel = p; reader = w; good = true }
through p w (c ∷ x) =
    when eqb c 10
    then (
    when (taken p w).good
    then through (taken p w).panel (taken p w).reader x
    else record { panel = (taken p w).panel; reader = (taken p w).reader; good = false }
    )
    else through p (feed w c) x

-- Some text came, and the tables p and the reader w came to q and v; g says whether every line was a good
-- one. Which text, no definition says: it comes from outside
pub record Went (p : Panel) (w : Reader) (q : Panel) (v : Reader) (g : Bool) : Type 0 where
  pub came : Bytes
  pub panel : q ≡ (through p w came).panel
  pub reader : v ≡ (through p w came).reader
  pub good : g ≡ (through p w came).good

-- ALL OF A LIST'S TEXT: the last line may lack its newline, and is taken at the end, unless a bad line ended
-- the list
unfoldable pub closed : Through → Panel
closed z = when z.good then (taken z.panel z.reader).panel else z.panel

unfoldable pub finished : Panel → Bytes → Panel
finished p x = closed (through p fresh_reader x)

pub record Replayed (p q : Panel) : Type 0 where
  pub came : Bytes
  pub panel : q ≡ finished p came
