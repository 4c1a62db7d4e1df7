-- The engine: the panel that judges a frame by its station's record and goes from due moment to due moment;
-- and the start. What it judges over a list, Plain.antt judges from the list alone (`judged`).
use Rattle.std.specs.Prelude.{Bool, List, ℕ, eqb, length, replicate}
use Rattle.lighting_levels.specs.Paper.Choice.{when◌then◌else◌, ◌also◌, every}
use Rattle.lighting_outputs.specs.declared.Parameters.{Parameters}
use Rattle.lighting_outputs.specs.Paper.Parameters.{four_hours}
use Rattle.lighting_outputs.specs.Paper.Startable.{startable}
use Rattle.lighting_outputs.specs.Paper.Fresh.{fresh_for}
use Rattle.lighting_frames.specs.Paper.Stations.{fresh_station, station_sound}
use Rattle.lighting_outputs.specs.Paper.Rules.{sound}
use Rattle.lighting_outputs.specs.declared.Output.{Output}
use Rattle.lighting_outputs.specs.declared.Answer.{Answer}
use Rattle.lighting_outputs.specs.declared.Answer.TheVariants.{Done, Refused}
pub use Rattle.lighting_frames.specs.declared.Station.{Station}
pub use Rattle.lighting_panel.specs.declared.PanelRecord.{PanelRecord}
use Rattle.lighting_outputs.specs.Paper.Answers.{refusal_number}
use Rattle.lighting_outputs.specs.declared.refusals.Refusal.TheVariants.{BrokenRecords, BadParameters}

-- 'The outputs stand in a lent table [..]; beside it stand [..] station records and the panel time'. All that
-- is lent beside the two tables stands in one record, `kept`: the time, the set of parameters, which 'are
-- kept in the panel's record' (§6), and the marks of the stations (§8)
pub record Panel : Type 0 where
  pub outputs : List Output
  pub stations : List Station
  pub kept : PanelRecord

abbrev pub panel_of : List Output → List Station → PanelRecord → Panel
panel_of outputs stations kept = record { outputs = outputs; stations = stations; kept = kept }

-- that record fresh, and at another time: the set and the marks stay. The marks are kept as they are given:
-- no bit of them is tested, and those at or above the number of stations mean nothing
abbrev pub fresh_record : Parameters → ℕ → PanelRecord
fresh_record p marks = record { time = 0; parameters = p; tenants = marks }

-- some record, which stands where a record past the end of a list is asked for
abbrev pub any_record : PanelRecord
any_record = fresh_record (four_hours 1) 0

abbrev pub with_time : PanelRecord → ℕ → PanelRecord
with_time kept t = record { time = t; parameters = kept.parameters; tenants = kept.tenants }

-- what an operation leaves and answers
pub record Step : Type 0 where
  pub panel : Panel
  pub answer : Answer

abbrev pub panel_result : Panel → Answer → Step
panel_result panel answer = record { panel = panel; answer = answer }

-- 'Refusals 1 (now exactly that many records)': so many output records and so many station records
unfoldable pub counts_sound : Parameters → ℕ → ℕ → Bool
counts_sound p outputs stations = eqb outputs p.outputs also eqb stations p.stations

-- what refusal 1 tests, by the set p: the counts, 'or a record rule broken'
unfoldable pub rules_kept : Parameters → Panel → Bool
rules_kept p e =
    counts_sound p (length e.outputs) (length e.stations)
    also every (sound p e.kept.time) e.outputs
    also every station_sound e.stations

-- 'kept ones out of range meet 1': the kept set is tested first, and by it the rest
unfoldable pub panel_sound : Panel → Bool
panel_sound e = startable e.kept.parameters also rules_kept e.kept.parameters e

-- THE START: 'writes every lent record fresh and answers Done, or meets 1 by its counts alone'; '(17: a start
-- with a parameter out of range; tested before 1, tables unwritten)'. 'At the start a 32-bit word's bit n'
-- marks station n (§8): it takes that word, the marks, and refuses none
unfoldable pub fresh_panel : Parameters → ℕ → Panel
fresh_panel p marks =
    record {
      outputs = replicate p.outputs (fresh_for p);
      stations = replicate p.stations fresh_station;
      kept = fresh_record p marks;
    }

unfoldable pub start_step : Parameters → ℕ → Panel → Step
start_step p marks e =
    when startable p
    then (
    when counts_sound p (length e.outputs) (length e.stations)
    then record { panel = fresh_panel p marks; answer = Done }
    else record { panel = e; answer = Refused (refusal_number BrokenRecords) }
    )
    else record { panel = e; answer = Refused (refusal_number BadParameters) }
