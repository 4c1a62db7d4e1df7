-- The words of a list's first line: their letters, and each one's number in what is named.
use Rattle.std.specs.Prelude.{Bool, true, Option, ℕ, ltb, eqb, slice_get}
use Rattle.lighting_levels.specs.Paper.Choice.{when◌then◌else◌}
use Rattle.lighting_outputs.specs.declared.Parameters.{Parameters}
use Rattle.lighting_outputs.specs.Paper.Rows.{within}
use Rattle.lighting_outputs.specs.Paper.Startable.{most_stations, most_outputs, least_time, most_fade, most_duration}
use Rattle.lighting_frames.specs.Paper.Frames.{Bytes}
use Rattle.text_printing.specs.Text.{text}
use Rattle.text_heading.specs.declared.Word.{Word}
use Rattle.text_heading.specs.declared.Word.TheVariants.{Outputs, Stations, Fade, Duration, Tenants}
use Rattle.text_heading.specs.declared.Bounds.{Bounds}
use Rattle.text_heading.specs.declared.Came.{Came}
use Rattle.text_heading.specs.declared.Named.{Named}

unfoldable pub letters : Word → Bytes
letters Outputs = text "outputs"
letters Stations = text "stations"
letters Fade = text "fade"
letters Duration = text "duration"
letters Tenants = text "tenants"

-- the letter after the first k, none after the last
abbrev pub letter : Word → ℕ → Option ℕ
letter w k = slice_get (letters w) k

-- HOW A WORD'S NUMBER IS WRITTEN: the marks of tenants in up to eight hexadecimal digits (§8), every other
-- number in decimal digits, however many
unfoldable pub base : Word → ℕ
base Outputs = 10
base Stations = 10
base Fade = 10
base Duration = 10
base Tenants = 16

-- whether after k digits one more may come
unfoldable pub may_follow : Word → ℕ → Bool
may_follow w k = when eqb (base w) 10 then true else ltb k 8

-- A WORD'S NUMBER in what is named: in the set of parameters (§6), or the marks
unfoldable pub number_in : Word → Named → ℕ
number_in Outputs q = q.parameters.outputs
number_in Stations q = q.parameters.stations
number_in Fade q = q.parameters.fade
number_in Duration q = q.parameters.duration
number_in Tenants q = q.tenants

unfoldable pub set_with : Word → ℕ → Parameters → Parameters
set_with Outputs n p = record { stations = p.stations; outputs = n; fade = p.fade; duration = p.duration }
set_with Stations n p = record { stations = n; outputs = p.outputs; fade = p.fade; duration = p.duration }
set_with Fade n p = record { stations = p.stations; outputs = p.outputs; fade = n; duration = p.duration }
set_with Duration n p = record { stations = p.stations; outputs = p.outputs; fade = p.fade; duration = n }
set_with Tenants n p = p

unfoldable pub marks_with : Word → ℕ → ℕ → ℕ
marks_with Outputs n t = t
marks_with Stations n t = t
marks_with Fade n t = t
marks_with Duration n t = t
marks_with Tenants n t = n

unfoldable pub with_number : Word → ℕ → Named → Named
with_number w n q = record { parameters = set_with w n q.parameters; tenants = marks_with w n q.tenants }

-- §6: its range, as Startable.antt has it. Whether the four of the set are within theirs is the test
-- `startable` (proofs/Range.antt). §8: any word of 32 bits may be the marks
unfoldable pub bounds : Word → Bounds
bounds Outputs = record { least = 1; most = most_outputs }
bounds Stations = record { least = 1; most = most_stations }
bounds Fade = record { least = least_time; most = most_fade }
bounds Duration = record { least = least_time; most = most_duration }
bounds Tenants = record { least = 0; most = 4294967295 }

unfoldable pub fits : Word → Named → Bool
fits w q = within (bounds w).least (bounds w).most (number_in w q)

-- WHICH WORDS HAVE COME. `outputs` is the first, so that it always has
unfoldable pub has_come : Word → Came → Bool
has_come Outputs m = true
has_come Stations m = m.stations
has_come Fade m = m.fade
has_come Duration m = m.duration
has_come Tenants m = m.tenants

unfoldable pub with_come : Word → Came → Came
with_come Outputs m = m
with_come Stations m = record { stations = true; fade = m.fade; duration = m.duration; tenants = m.tenants }
with_come Fade m = record { stations = m.stations; fade = true; duration = m.duration; tenants = m.tenants }
with_come Duration m = record { stations = m.stations; fade = m.fade; duration = true; tenants = m.tenants }
with_come Tenants m = record { stations = m.stations; fade = m.fade; duration = m.duration; tenants = true }
