-- §6 BY NUMBER: sets of parameters at their ends and one past them, and lists of frames to panels that were
-- started with small and large sets, beside what the papers say. proofs/Figures.antt computes them.
use Rattle.std.specs.Prelude.{List, [], ◌∷◌, ◌++◌, map, ℕ, ◌+◌}
use Rattle.lighting_levels.specs.Paper.Field.{octets}
use Rattle.lighting_outputs.specs.declared.Parameters.{Parameters}
use Rattle.lighting_frames.specs.Paper.Frames.{Bytes}
use Rattle.lighting_frames.specs.Paper.WorkedTags.{body, half}
use Rattle.lighting_panel.specs.Paper.Panel.{Panel, start_step, fresh_panel}
use Rattle.lighting_panel.specs.Engine.Executing.{frame_step}
use Rattle.lighting_panel.specs.Paper.Demand.{answers}
use Rattle.lighting_panel.specs.Paper.Worked.{call, clock_at, asked}
use Rattle.lighting_outputs.specs.declared.Answer.{Answer}
use Rattle.lighting_outputs.specs.declared.Answer.TheVariants.{Done, Value, Refused}

abbrev pub of : ℕ → ℕ → ℕ → ℕ → Parameters
of stations outputs fade duration = record { stations = stations; outputs = outputs; fade = fade; duration = duration }

-- WHICH SETS may be started: 'stations 1 to 32, outputs 1 to 64', the longest fade time 100 to 14,400,000
-- (§7), the longest duration 100 to 86,400,000. The number alone is out of its range
abbrev ends : List (List Parameters)
ends =
    map (λ (n : ℕ). of n 2 1000 2000) (0 ∷ 1 ∷ 32 ∷ 33 ∷ [])
    ∷ map (λ (n : ℕ). of 2 n 1000 2000) (0 ∷ 1 ∷ 64 ∷ 65 ∷ [])
    ∷ map (λ (n : ℕ). of 2 2 n 2000) (99 ∷ 100 ∷ 14400000 ∷ 14400001 ∷ [])
    ∷ map (λ (n : ℕ). of 2 2 1000 n) (99 ∷ 100 ∷ 86400000 ∷ 86400001 ∷ [])
    ∷ []

abbrev of_ends : {A : Type 0} → (Parameters → A) → List (List A)
of_ends f = map (λ (l : List Parameters). map f l) ends

-- a start over tables of just that size, and a clock to a panel that keeps such a set and is fresh: 'kept
-- ones out of range meet 1'
abbrev pub ends_given : List (List Answer)
ends_given = of_ends (λ (p : Parameters). (start_step p 0 (fresh_panel p 0)).answer)

abbrev pub ends_said : List (List Answer)
ends_said =
    (Refused 17 ∷ Done ∷ Done ∷ Refused 17 ∷ [])
    ∷ (Refused 17 ∷ Done ∷ Done ∷ Refused 17 ∷ [])
    ∷ (Refused 17 ∷ Done ∷ Done ∷ Refused 17 ∷ [])
    ∷ (Refused 17 ∷ Done ∷ Done ∷ Refused 17 ∷ [])
    ∷ []

abbrev pub kept_given : List (List Answer)
kept_given = of_ends (λ (p : Parameters). (frame_step (fresh_panel p 0) (clock_at 5)).answer)

abbrev pub kept_said : List (List Answer)
kept_said =
    (Refused 1 ∷ Done ∷ Done ∷ Refused 1 ∷ [])
    ∷ (Refused 1 ∷ Done ∷ Done ∷ Refused 1 ∷ [])
    ∷ (Refused 1 ∷ Done ∷ Done ∷ Refused 1 ∷ [])
    ∷ (Refused 1 ∷ Done ∷ Done ∷ Refused 1 ∷ [])
    ∷ []

-- OTHER TABLES: '17 [..] tested before 1', 'exactly that many records'. A start with a set of two stations
-- and two outputs over tables that are one short, fit, and are one long, in each of the two; one with 33
-- stations over the same
abbrev lent_sizes : List Panel
lent_sizes =
    map (λ (p : Parameters). fresh_panel p 0)
    (of 1 2 100 100 ∷ of 2 2 100 100 ∷ of 3 2 100 100 ∷ of 2 1 100 100 ∷ of 2 3 100 100 ∷ [])

abbrev pub sizes_given : List (List Answer)
sizes_given =
    map (λ (e : Panel). (start_step (of 2 2 1000 2000) 0 e).answer) lent_sizes
    ∷ map (λ (e : Panel). (start_step (of 33 2 1000 2000) 0 e).answer) lent_sizes
    ∷ []

abbrev pub sizes_said : List (List Answer)
sizes_said =
    (Refused 1 ∷ Done ∷ Refused 1 ∷ Refused 1 ∷ Refused 1 ∷ [])
    ∷ (Refused 17 ∷ Refused 17 ∷ Refused 17 ∷ Refused 17 ∷ Refused 17 ∷ [])
    ∷ []

-- FRAMES AT A SET: of its last station and of the next number; then from station 0 the longest fade and one
-- more as Fade_Time, in kind 12 and in tag 4; the longest duration and one more, in kind 10 and in tag 5; and
-- blink times, which no number of the set bounds. The numbers in tags have so many octets
abbrev pub none : Bytes
none = octets 4 0xffff_ffff

abbrev pub nth : ℕ → ℕ → Bytes → Bytes
nth n kind added = call kind 0 n 0 0 added

abbrev pub property_written : ℕ → ℕ → ℕ → Bytes
property_written n property value = nth n 0x04 (property ∷ octets 4 value)

abbrev pub fades_over : ℕ → ℕ → Bytes
fades_over n time = nth n 0x12 (octets 4 0x4248_0000 ++ octets 4 time ++ none)

abbrev pub fades_in_tags : ℕ → ℕ → ℕ → Bytes
fades_in_tags n count time = nth n 0x1b (body (0x09 ∷ 2 ∷ half ++ (0x48 + count) ∷ octets count time))

abbrev pub stops_for : ℕ → ℕ → Bytes
stops_for n time = nth n 0x10 (octets 4 time)

abbrev pub stops_in_tags : ℕ → ℕ → ℕ → Bytes
stops_in_tags n count time = nth n 0x1b (body (0x09 ∷ 0 ∷ (0x58 + count) ∷ octets count time))

abbrev frames_at : ℕ → ℕ → ℕ → List Bytes
frames_at last fade duration =
    asked last 100 0 0 0x02
    ∷ asked (last + 1) 100 0 0 0x02
    ∷ property_written 101 0x02 fade
    ∷ property_written 102 0x02 (fade + 1)
    ∷ fades_over 103 fade
    ∷ fades_over 104 (fade + 1)
    ∷ fades_in_tags 105 2 fade
    ∷ fades_in_tags 106 2 (fade + 1)
    ∷ stops_for 107 duration
    ∷ stops_for 108 (duration + 1)
    ∷ stops_in_tags 109 2 duration
    ∷ stops_in_tags 110 2 (duration + 1)
    ∷ property_written 111 0x06 86400000
    ∷ property_written 112 0x06 86400001
    ∷ property_written 113 0x07 86400000
    ∷ property_written 114 0x07 86400001
    ∷ []

-- what the first read answers, then 4; each number at its longest is taken, and one more is 12
abbrev answers_with : ℕ → List Answer
answers_with fresh =
    Value fresh
    ∷ Refused 4
    ∷ Done
    ∷ Refused 12
    ∷ Done
    ∷ Refused 12
    ∷ Done
    ∷ Refused 12
    ∷ Done
    ∷ Refused 12
    ∷ Done
    ∷ Refused 12
    ∷ Done
    ∷ Refused 12
    ∷ Done
    ∷ Refused 12
    ∷ []

abbrev pub frames_given : List (List Answer)
frames_given =
    answers (fresh_panel (of 3 1 5000 700) 0) (frames_at 2 5000 700)
    ∷ answers (fresh_panel (of 32 1 700 5000) 0) (frames_at 31 700 5000)
    ∷ answers (fresh_panel (of 1 1 65534 256) 0) (frames_at 0 65534 256)
    ∷ []

abbrev pub frames_said : List (List Answer)
frames_said = answers_with 1000 ∷ answers_with 700 ∷ answers_with 1000 ∷ []

-- 'A FRESH FADE_TIME is the smaller of 1,000 and the longest fade'
abbrev pub fresh_fades_given : List (List Answer)
fresh_fades_given =
    map (λ (fade : ℕ). answers (fresh_panel (of 1 1 fade 100) 0) (asked 0 1 0 0 0x02 ∷ []))
    (100 ∷ 999 ∷ 1000 ∷ 1001 ∷ [])

abbrev pub fresh_fades_said : List (List Answer)
fresh_fades_said = (Value 100 ∷ []) ∷ (Value 999 ∷ []) ∷ (Value 1000 ∷ []) ∷ (Value 1000 ∷ []) ∷ []

-- 'A MOVEMENT may last up to the larger of the longest fade and 800,000 ms': a ramp from 0 to 100 percent at
-- 0.125 percent a second, where the longest fade is 100 ms. Halfway 50 percent; under way until its end
abbrev pub ramp_given : List Answer
ramp_given =
    answers (fresh_panel (of 1 1 100 100) 0)
    (call 0x14 0 1 0 0 (octets 4 0x42c8_0000 ++ octets 4 0x3e00_0000 ++ none)
    ∷ asked 0 2 400000 0 0x0d
    ∷ asked 0 3 799999 0 0x0e
    ∷ asked 0 4 800000 0 0x0e
    ∷ asked 0 5 800000 0 0x0d
    ∷ [])

abbrev pub ramp_said : List Answer
ramp_said = Done ∷ Value 0x4248_0000 ∷ Value 1 ∷ Value 0 ∷ Value 0x42c8_0000 ∷ []
