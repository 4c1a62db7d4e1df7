-- 'Bench figures' 1 to 8, figure 4 as §5 of the change requests has it, and the 'Traps' that one output shows
-- (Worked.antt has those that only a list shows): what the definitions give, beside what the papers say.
-- proofs/Figures.antt proves them equal.
use Rattle.std.specs.Prelude.{List, [], ◌∷◌, map, ℕ}
use Rattle.lighting_levels.specs.Paper.Level.{real, level_of}
use Rattle.lighting_outputs.specs.Paper.Slots.{is_live}
use Rattle.lighting_outputs.specs.Paper.Value.{present_value, progress_value, in_process}
use Rattle.lighting_outputs.specs.Engine.Advance.{advance}
use Rattle.lighting_outputs.specs.Paper.Writing.{written}
use Rattle.lighting_outputs.specs.Paper.Commands.{commanded}
use Rattle.lighting_outputs.specs.Paper.Properties.{changed, flag}
use Rattle.lighting_outputs.specs.Paper.Fresh.{fresh_output}
use Rattle.lighting_outputs.specs.Paper.Answers.{level_answered}
use Rattle.lighting_outputs.specs.declared.Answer.{Answer}
use Rattle.lighting_outputs.specs.declared.Answer.TheVariants.{Value, Refused}
use Rattle.lighting_outputs.specs.declared.Duration.{Duration}
use Rattle.lighting_outputs.specs.declared.Duration.TheVariants.{Lasts, Omitted}
use Rattle.lighting_outputs.specs.declared.Operation.{Operation}
use Rattle.lighting_outputs.specs.declared.Operation.TheVariants.{FadeToOver, RampToAtRate, StepDown, Goto}
use Rattle.lighting_outputs.specs.declared.Property.TheVariants.{BlinkEnable, BlinkTime, BlinkWarnDelay}
use Rattle.lighting_outputs.specs.declared.Output.{Output}

-- an output that an operation was ordered of at t
abbrev pub ordered : ℕ → Operation → Duration → Output → Output
ordered t operation duration o = commanded t o (record { operation = operation; duration = duration })

-- what it shows at `to`, brought there from t
abbrev presents : ℕ → ℕ → Output → Answer
presents t to o = Value (present_value (advance t to o).settings (advance t to o).slots)

abbrev progresses : ℕ → ℕ → Output → Answer
progresses t to o = Value (progress_value to (advance t to o))

abbrev moves : ℕ → ℕ → Output → Answer
moves t to o = Value (in_process (advance t to o).activity)

-- 50 percent in slot 16
abbrev pub half : Output
half = written 0 fresh_output 15 3276800

-- figures 5 to 7: the movements that they speak of
abbrev pub fade_up : Output
fade_up = ordered 0 (FadeToOver (real 0x4248_0000) 1000) Omitted fresh_output

abbrev pub fade_down : Output
fade_down = ordered 0 (FadeToOver (real 0) 1000) Omitted half

abbrev pub ramp_up : Output
ramp_up = ordered 0 (RampToAtRate (real 0x3f80_0000) (real 0x4040_0000)) Omitted fresh_output

abbrev pub slow_ramp : Output
slow_ramp = ordered 0 (RampToAtRate (real 0x42c8_0000) (real 0x3e00_0000)) Omitted fresh_output

-- figure 8: 'Blink_Enable 1, B 700, D 120,000, 50 percent in slot 16, zero there at 1,000'
abbrev warned : Output
warned = written 1000 (changed (changed (changed half BlinkEnable 1) BlinkTime 700) BlinkWarnDelay 120000) 15 0

-- WHAT THE DEFINITIONS GIVE, figure after figure
abbrev pub given : List (List Answer)
given =
    map (λ (b : ℕ). level_answered (level_of (real b))) (0x4248_0000 ∷ [])
    ∷ map (λ (b : ℕ). level_answered (level_of (real b))) (0x3f00_0000 ∷ 0x0000_0001 ∷ 0x8000_0000 ∷ [])
    ∷ map (λ (b : ℕ). level_answered (level_of (real b))) (0x42c8_0000 ∷ 0x42c8_0001 ∷ 0xbf80_0000 ∷ 0x7fc0_0000 ∷ [])
    ∷ map (λ (b : ℕ). level_answered (level_of (real b))) (0x3f80_0040 ∷ 0x3f80_00c0 ∷ [])
    ∷ (progresses 0 333 fade_up ∷ progresses 0 999 fade_up ∷ progresses 0 1000 fade_up ∷ [])
    ∷ (progresses 0 333 fade_down ∷ [])
    ∷ (progresses 0 333 ramp_up ∷ moves 0 333 ramp_up ∷ moves 0 334 ramp_up ∷ moves 0 799999 slow_ramp ∷ moves 0 800000 slow_ramp ∷ [])
    ∷ (presents 1000 1000 warned
    ∷ presents 1000 1699 warned
    ∷ presents 1000 1700 warned
    ∷ presents 1000 121699 warned
    ∷ presents 1000 121700 warned
    ∷ Value (flag (is_live (advance 1000 121700 warned).slots 15))
    ∷ [])
    ∷ []

-- AND WHAT THE PAPERS SAY
abbrev pub said : List (List Answer)
said =
    (Value 3276800 ∷ [])
    ∷ (Value 65536 ∷ Value 65536 ∷ Value 0 ∷ [])
    ∷ (Value 6553600 ∷ Refused 11 ∷ Refused 11 ∷ Refused 11 ∷ [])
    ∷ (Value 65536 ∷ Value 65538 ∷ [])
    ∷ (Value 1091174 ∷ Value 3273523 ∷ Value 3276800 ∷ [])
    ∷ (Value 2185626 ∷ [])
    ∷ (Value 65470 ∷ Value 1 ∷ Value 0 ∷ Value 1 ∷ Value 0 ∷ [])
    ∷ (Value 0 ∷ Value 0 ∷ Value 3276800 ∷ Value 3276800 ∷ Value 0 ∷ Value 0 ∷ [])
    ∷ []

-- TRAPS that one output shows: 'step down lighting a dark output at Min; a fade started from Present_Value
-- instead of Progress_Value; a duration read in seconds'; and a warning without delay
abbrev fade_turned : Output
fade_turned = ordered 500 (FadeToOver (real 0) 1000) Omitted (advance 0 500 fade_up)

abbrev short : Output
short = ordered 0 (Goto (real 0x4248_0000)) (Lasts 100) fresh_output

-- 'if D is above 0, slot X empties with it', and with D = 0 it keeps its 0
abbrev warned_briefly : Output
warned_briefly = written 1000 (changed (changed half BlinkEnable 1) BlinkTime 700) 15 0

abbrev pub traps_given : List Answer
traps_given =
    presents 0 0 (ordered 0 StepDown Omitted fresh_output)
    ∷ presents 0 0 (ordered 0 StepDown Omitted half)
    ∷ progresses 500 500 fade_turned
    ∷ progresses 500 1000 fade_turned
    ∷ presents 0 99 short
    ∷ presents 0 100 short
    ∷ presents 1000 1700 warned_briefly
    ∷ Value (flag (is_live (advance 1000 1700 warned_briefly).slots 5))
    ∷ Value (flag (is_live (advance 1000 1700 warned_briefly).slots 15))
    ∷ []

abbrev pub traps_said : List Answer
traps_said = Value 0 ∷ Value 2949120 ∷ Value 1638400 ∷ Value 819200 ∷ Value 3276800 ∷ Value 0 ∷ Value 0 ∷ Value 0 ∷ Value 1 ∷ []
