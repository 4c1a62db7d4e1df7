-- §7 BY NUMBER: fade times at four hours and one more, and at a day and one more, by all three ways, to
-- today's panel and to the old one; and lists that show which frames the theorem asks. proofs/Figures.antt
-- computes them.
use Rattle.std.specs.Prelude.{Bool, true, false, List, [], ◌∷◌, ◌++◌, map, ℕ, ◌+◌, replicate}
use Rattle.lighting_levels.specs.Paper.Field.{octets}
use Rattle.lighting_outputs.specs.Paper.Parameters.{four_hours}
use Rattle.lighting_outputs.specs.Paper.Fresh.{fresh_output}
use Rattle.lighting_frames.specs.Paper.Frames.{Bytes}
use Rattle.lighting_frames.specs.Paper.Stations.{fresh_station}
use Rattle.lighting_frames.specs.Paper.WorkedTags.{body}
use Rattle.lighting_panel.specs.Paper.Panel.{Panel, fresh_panel}
use Rattle.lighting_panel.specs.Paper.Demand.{answers}
use Rattle.lighting_panel.specs.Paper.OldPanel.{OldPanel, old_start, old_answers}
use Rattle.lighting_panel.specs.Paper.FourHours.{carries_longer}
use Rattle.lighting_panel.specs.Paper.Worked.{call, clock_at, asked}
use Rattle.lighting_panel.specs.Paper.WorkedSets.{of, none, nth, property_written, fades_over, fades_in_tags, stops_for, stops_in_tags}
use Rattle.lighting_outputs.specs.declared.Answer.{Answer}
use Rattle.lighting_outputs.specs.declared.Answer.TheVariants.{Done, Value, Refused}

-- today's panel of one output, and the old one, both started
abbrev today : Panel
today = fresh_panel (four_hours 1) 0

abbrev old : OldPanel
old = (old_start (record { outputs = fresh_output ∷ []; stations = replicate 8 fresh_station; time = 5 })).panel

-- AT THE TOP: a fade time written, in kind 12 and in tag 4, in so many octets; durations and blink times,
-- which keep a day; at last Fade_Time is read
abbrev by_all_ways : ℕ → ℕ → ℕ → List Bytes
by_all_ways n count time = property_written n 0x02 time ∷ fades_over (n + 1) time ∷ fades_in_tags (n + 2) count time ∷ []

abbrev top_frames : List Bytes
top_frames =
    by_all_ways 1 3 14399999
    ++ by_all_ways 4 3 14400000
    ++ by_all_ways 7 3 14400001
    ++ by_all_ways 10 4 86400000
    ++ by_all_ways 13 4 86400001
    ++ stops_for 16 14400001
    ∷ stops_for 17 86400000
    ∷ stops_for 18 86400001
    ∷ stops_in_tags 19 3 14400001
    ∷ stops_in_tags 20 4 86400000
    ∷ stops_in_tags 21 4 86400001
    ∷ property_written 22 0x06 14400001
    ∷ property_written 23 0x06 86400000
    ∷ property_written 24 0x06 86400001
    ∷ property_written 25 0x07 14400001
    ∷ property_written 26 0x07 86400000
    ∷ property_written 27 0x07 86400001
    ∷ asked 0 28 0 0 0x02
    ∷ []

abbrev three : Answer → List Answer
three a = replicate 3 a

-- to 14,400,000, and to 14,400,001 and a day, as a fade time; then what Fade_Time is
abbrev top_answers : Answer → Answer → ℕ → List Answer
top_answers top longer kept =
    three Done
    ++ three top
    ++ three longer
    ++ three longer
    ++ three (Refused 12)
    ++ Done
    ∷ Done
    ∷ Refused 12
    ∷ Done
    ∷ Done
    ∷ Refused 12
    ∷ Done
    ∷ Done
    ∷ Refused 12
    ∷ Done
    ∷ Done
    ∷ Refused 12
    ∷ Value kept
    ∷ []

-- today's panel at the top and with a longest fade of one millisecond less; the old panel
abbrev pub top_given : List (List Answer)
top_given =
    answers today top_frames
    ∷ answers (fresh_panel (of 8 1 14399999 86400000) 0) top_frames
    ∷ old_answers old top_frames
    ∷ []

abbrev pub top_said : List (List Answer)
top_said =
    top_answers Done (Refused 12) 14400000
    ∷ top_answers (Refused 12) (Refused 12) 14399999
    ∷ top_answers Done Done 86400000
    ∷ []

-- THE PREMISE IS NEEDED, of each of the three ways: the old panel takes what today's refuses, and something
-- else is found: Fade_Time; and whether the output is under way, a millisecond later
abbrev longer_lists : List (List Bytes)
longer_lists =
    (property_written 1 0x02 14400001 ∷ asked 0 2 1 0 0x02 ∷ [])
    ∷ (fades_over 1 14400001 ∷ asked 0 2 1 0 0x0e ∷ [])
    ∷ (fades_in_tags 1 3 14400001 ∷ asked 0 2 1 0 0x0e ∷ [])
    ∷ []

abbrev pub longer_given : List (List (List Answer))
longer_given = map (λ (l : List Bytes). answers today l ∷ old_answers old l ∷ []) longer_lists

abbrev pub longer_said : List (List (List Answer))
longer_said =
    ((Refused 12 ∷ Value 1000 ∷ []) ∷ (Done ∷ Value 14400001 ∷ []) ∷ [])
    ∷ ((Refused 12 ∷ Value 0 ∷ []) ∷ (Done ∷ Value 1 ∷ []) ∷ [])
    ∷ ((Refused 12 ∷ Value 0 ∷ []) ∷ (Done ∷ Value 1 ∷ []) ∷ [])
    ∷ []

-- OF THESE IT IS NOT ASKED: each carries 14,400,001 and the old panel does not answer it with Done. Cut
-- short; of station 8; to output 1; a level out of range; that number again with other bytes; in tags out
-- of order, and foreign to STOP; a duration out of range too; a number below the last, and a time before
-- that of the clock
abbrev fades : ℕ → ℕ → ℕ → ℕ → ℕ → ℕ → Bytes
fades station n time output level duration =
    call 0x12 station n time output (octets 4 level ++ octets 4 14400001 ++ octets 4 duration)

abbrev unasked_frames : List Bytes
unasked_frames =
    nth 1 0x12 (octets 4 0x4248_0000 ++ octets 4 14400001)
    ∷ fades 8 1 0 0 0x4248_0000 100
    ∷ fades 0 1 0 1 0x4248_0000 100
    ∷ fades 0 1 0 0 0x42c8_0001 100
    ∷ fades 0 1 0 0 0x4248_0000 100
    ∷ nth 2 0x1b (body (0x4b ∷ octets 3 14400001 ++ 0x09 ∷ 2 ∷ []))
    ∷ nth 3 0x1b (body (0x09 ∷ 0 ∷ 0x4b ∷ octets 3 14400001))
    ∷ fades 0 4 0 0 0x4248_0000 86400001
    ∷ fades 0 3 0 0 0x4248_0000 100
    ∷ []

abbrev late_frame : Bytes
late_frame = fades 0 5 999 0 0x4248_0000 100

abbrev unasked_list : List Bytes
unasked_list = unasked_frames ++ clock_at 1000 ∷ late_frame ∷ []

abbrev pub unasked_given : List (List Answer)
unasked_given = answers today unasked_list ∷ old_answers old unasked_list ∷ []

abbrev unasked_answers : List Answer
unasked_answers =
    Refused 3
    ∷ Refused 4
    ∷ Refused 5
    ∷ Refused 11
    ∷ Refused 6
    ∷ Refused 14
    ∷ Refused 15
    ∷ Refused 12
    ∷ Refused 7
    ∷ Done
    ∷ Refused 8
    ∷ []

abbrev pub unasked_said : List (List Answer)
unasked_said = unasked_answers ∷ unasked_answers ∷ []

-- WHAT A FRAME CARRIES: those above carry a longer fade time; at its ends by all three ways; and the same
-- number where it is none: as Blink_Time, as a duration plain and in tags, as the rate of kind 14, in a clock
abbrev pub carried_given : List (List Bool)
carried_given =
    map carries_longer (late_frame ∷ unasked_frames)
    ∷ map carries_longer (by_all_ways 1 3 14400000)
    ∷ map carries_longer (by_all_ways 1 3 14400001)
    ∷ map carries_longer (by_all_ways 1 4 86400000)
    ∷ map carries_longer (by_all_ways 1 4 86400001)
    ∷ map carries_longer
    (property_written 1 0x06 14400001
    ∷ stops_for 1 14400001
    ∷ stops_in_tags 1 3 14400001
    ∷ nth 1 0x14 (octets 4 0x4248_0000 ++ octets 4 14400001 ++ none)
    ∷ clock_at 14400001
    ∷ [])
    ∷ []

abbrev pub carried_said : List (List Bool)
carried_said =
    replicate 10 true
    ∷ replicate 3 false
    ∷ replicate 3 true
    ∷ replicate 3 true
    ∷ replicate 3 false
    ∷ replicate 5 false
    ∷ []
