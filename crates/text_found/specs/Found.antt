-- What is found, as text: a line `--`, and then an output after the other, as a block of lines or as a line
-- of the report. Definitions only.
use Rattle.std.specs.Prelude.{Bool, List, [], ◌∷◌, ◌++◌, ℕ, suc, ◌-◌, ltb, length}
use Rattle.lighting_levels.specs.Paper.Choice.{when◌then◌else◌, ◌also◌}
use Rattle.lighting_frames.specs.Paper.Frames.{Bytes}
use Rattle.lighting_outputs.specs.declared.Output.{Output}
use Rattle.text_block.specs.Block.{block}
use Rattle.text_report.specs.Report.{report_line, report_head}
use Rattle.text_printing.specs.declared.Page.{Page}
use Rattle.text_printing.specs.Page.{with_text}
use Rattle.text_printing.specs.Text.{text}

unfoldable pub found_head : Bool → ℕ → Bytes
found_head report t = text "--\n" ++ (when report then report_head t else [])

unfoldable pub found_output : Bool → ℕ → ℕ → Output → Bytes
found_output report i t o = when report then report_line i t o else block i t o

-- A PAGE with more than 1,024 free bytes is written on from its mark, and any other from its start, once it
-- was written out
unfoldable pub roomy : ℕ → ℕ → Bool
roomy size at = ltb at size also ltb 1024 (size - at)

unfoldable pub marked : ℕ → ℕ → ℕ
marked size at = when roomy size at then at else 0

-- room made on a page: to write it out moves its mark and changes none of its bytes
unfoldable pub with_room : Page → Page
with_room p = record p { mark = marked (length p.bytes.now) p.mark }

-- the output i at the time t, for which there is room first
unfoldable pub with_output : Page → Bool → ℕ → ℕ → Output → Page
with_output s report t i o = with_text (with_room s) (found_output report i t o)

-- outputs one after the other, the first of them with the number i
unfoldable pub with_outputs : Page → Bool → ℕ → ℕ → List Output → Page
with_outputs s report t i [] = s
with_outputs s report t i (o ∷ l) = with_outputs (with_output s report t i o) report t (suc i) l

-- ALL THAT IS FOUND at the time t: the head, and every output of a list
unfoldable pub with_found : Page → Bool → ℕ → List Output → Page
with_found s report t l = with_outputs (with_text s (found_head report t)) report t 0 l
