-- §6: WHICH SETS OF PARAMETERS may be started, and kept: 'stations 1 to 32, outputs 1 to 64', the longest
-- fade time and the longest duration from 100 ms, to four hours (§7) and to a day. One test, apart from every
-- definition that uses the numbers.
use Rattle.std.specs.Prelude.{Bool, ℕ}
use Rattle.lighting_levels.specs.Paper.Choice.{◌also◌}
use Rattle.lighting_outputs.specs.Paper.Parameters.{Parameters}
use Rattle.lighting_outputs.specs.Paper.Rows.{within}

-- the ends of the four ranges
abbrev pub most_stations : ℕ
most_stations = 32

abbrev pub most_outputs : ℕ
most_outputs = 64

abbrev pub least_time : ℕ
least_time = 100

-- §7: 14,400,000 'becomes the greatest value of the longest fade parameter, of Fade_Time and of every fade
-- time': these two are within the parameter
abbrev pub most_fade : ℕ
most_fade = 14400000

abbrev pub most_duration : ℕ
most_duration = 86400000

unfoldable pub startable : Parameters → Bool
startable p =
    within 1 most_stations p.stations
    also within 1 most_outputs p.outputs
    also within least_time most_fade p.fade
    also within least_time most_duration p.duration
