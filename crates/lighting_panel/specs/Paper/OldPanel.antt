-- THE PANEL AS IT STOOD BEFORE §6: no set in its record, no marks, 1 to 64 outputs, eight stations, a day.
-- What §6 did not move it shares with today's panel; where today's reads a number of the set, it reads
-- document 01's, which is written there with 64 outputs, the most that it allows. That each such definition
-- is then document 01's own clause, with its numbers, the theorems of `Consequences/Numbers.antt` say.
-- proofs/OldPanel.antt and proofs/FourHours.antt: 'The old panel's set now ends in 14,400,000, 86,400,000,
-- and equals it on lists without a longer fade time' (§7).
use Rattle.std.specs.Prelude.{Bool, List, [], ◌∷◌, map, ℕ, leb, eqb, get_or, length, replicate, Result}
use Rattle.lighting_levels.specs.Paper.Choice.{when◌then◌else◌, ◌also◌, every}
use Rattle.lighting_outputs.specs.declared.Parameters.{Parameters}
use Rattle.lighting_outputs.specs.Paper.Parameters.{document01}
use Rattle.lighting_outputs.specs.Paper.Fresh.{fresh_output}
use Rattle.lighting_outputs.specs.Paper.Rules.{sound}
use Rattle.lighting_frames.specs.Paper.Frames.{Bytes, parse}
use Rattle.lighting_frames.specs.Paper.Stations.{fresh_station, station_sound}
use Rattle.lighting_panel.specs.Paper.Panel.{Panel, panel_of, Station}
use Rattle.lighting_panel.specs.Paper.Demand.{Found, found}
use Rattle.lighting_panel.specs.Engine.Judging.{station_of, judged_by_station}
use Rattle.lighting_panel.specs.Engine.Executing.{execute}
use Rattle.lighting_outputs.specs.declared.Output.{Output}
use Rattle.lighting_outputs.specs.declared.Answer.{Answer}
use Rattle.lighting_outputs.specs.declared.Answer.TheVariants.{Done, Refused}
use Rattle.lighting_frames.specs.declared.Verdict.{Verdict}
use Rattle.lighting_outputs.specs.declared.refusals.Refusal.{Refusal}
use Rattle.lighting_outputs.specs.Paper.Answers.{refusal_number}
use Rattle.lighting_outputs.specs.declared.refusals.Refusal.TheVariants.{BrokenRecords}

-- 'beside it stand eight station records and the panel time'
pub record OldPanel : Type 0 where
  pub outputs : List Output
  pub stations : List Station
  pub time : ℕ

pub record OldStep : Type 0 where
  pub panel : OldPanel
  pub answer : Answer

-- today's panel without its set and its marks, and the old one with a set beside its time, and no mark: to it
-- every station is a service station (§8)
abbrev pub without_set : Panel → OldPanel
without_set e = record { outputs = e.outputs; stations = e.stations; time = e.kept.time }

abbrev pub with_set : Parameters → OldPanel → Panel
with_set p e = panel_of e.outputs e.stations (record { time = e.time; parameters = p; tenants = 0 })

-- document 01's numbers, where a definition asks for a set
abbrev numbers : Parameters
numbers = document01 64

-- refusal 1: '0 or over 64 outputs, station records not eight', 'or a record rule broken'
unfoldable pub old_counts : ℕ → ℕ → Bool
old_counts outputs stations = leb 1 outputs also leb outputs 64 also eqb stations 8

unfoldable pub old_sound : OldPanel → Bool
old_sound e =
    old_counts (length e.outputs) (length e.stations)
    also every (sound numbers e.time) e.outputs
    also every station_sound e.stations

-- the start: 'writes every lent record fresh and answers Done, or meets 1 by its counts alone'
unfoldable pub old_start : OldPanel → OldStep
old_start e =
    when old_counts (length e.outputs) (length e.stations)
    then record {
      panel =
          record {
            outputs = replicate (length e.outputs) fresh_output;
            stations = replicate (length e.stations) fresh_station;
            time = 0;
          };
      answer = Done;
    }
    else record { panel = e; answer = Refused (refusal_number BrokenRecords) }

-- one frame: judged by its station's record, and carried out, which neither reads a set nor changes it
unfoldable pub old_decide : OldPanel → Bytes → Result Verdict Refusal
old_decide e b =
    let f = parse numbers (length e.outputs) b in
    judged_by_station e.time (get_or e.stations (station_of f) fresh_station) b f

unfoldable pub old_execute : Bytes → OldPanel → Result Verdict Refusal → OldStep
old_execute b e v = let done = execute b (with_set numbers e) v in record { panel = without_set done.panel; answer = done.answer }

unfoldable pub old_frame : OldPanel → Bytes → OldStep
old_frame e b = when old_sound e then old_execute b e (old_decide e b) else record { panel = e; answer = Refused (refusal_number BrokenRecords) }

-- a list of frames; and what is found
unfoldable pub old_after : OldPanel → List Bytes → OldPanel
old_after e [] = e
old_after e (b ∷ l) = old_after (old_frame e b).panel l

unfoldable pub old_answers : OldPanel → List Bytes → List Answer
old_answers e [] = []
old_answers e (b ∷ l) = (old_frame e b).answer ∷ old_answers (old_frame e b).panel l

abbrev pub old_found : OldPanel → List Found
old_found e = map (found e.time) e.outputs
