-- WRONG IN TWO PLACES AT ONCE: frames of one output whose first wrong field decides, with the answers that
-- the papers give. proofs/Figures.antt computes them.
use Rattle.std.specs.Prelude.{List, [], ◌∷◌, ◌++◌, ℕ, replicate}
use Rattle.lighting_levels.specs.Paper.Field.{octets}
use Rattle.lighting_frames.specs.Paper.Frames.{Bytes}
use Rattle.lighting_panel.specs.Paper.Worked.{call}
use Rattle.lighting_outputs.specs.declared.Answer.{Answer}
use Rattle.lighting_outputs.specs.declared.Answer.TheVariants.{Refused}

-- 50 percent; the least REAL above 100, and the greatest below 0.125; 99 is no fade time and no duration
abbrev half : Bytes
half = octets 4 0x4248_0000

abbrev too_high : Bytes
too_high = octets 4 0x42c8_0001

abbrev too_low : Bytes
too_low = octets 4 0x3dff_ffff

abbrev bad : Bytes
bad = octets 4 99

-- frame n to output 0, at 0
abbrev nth : ℕ → ℕ → Bytes → Bytes
nth n kind body = call kind 0 n 0 0 body

abbrev pub frames_of_order : List Bytes
frames_of_order =
    -- FADE_TO_OVER: level, fade time and duration; then fade time and duration
    nth 1 0x12 (too_high ++ bad ++ bad)
    ∷ nth 2 0x12 (half ++ bad ++ bad)
    -- RAMP_TO_AT_RATE: rate and duration
    ∷ nth 3 0x14 (half ++ too_low ++ bad)
    -- FADE_TO and GOTO: level and duration; the duration alone
    ∷ nth 4 0x11 (too_high ++ bad)
    ∷ nth 5 0x19 (half ++ bad)
    -- STEP_UP_BY: step and duration
    ∷ nth 6 0x17 (too_low ++ bad)
    -- the first again, in tags: operation 2, level, fade time 63 and duration 63, both in one octet
    ∷ nth 7 0x1b (11 ∷ 0x09 ∷ 2 ∷ 0x1c ∷ too_high ++ 0x49 ∷ 99 ∷ 0x59 ∷ 99 ∷ replicate 6 0)
    -- kind 02: priority and REAL. Kind 04: a property that is only read, and a REAL; Min, out of range and
    -- over Max
    ∷ nth 8 0x02 (6 ∷ too_high)
    ∷ nth 9 0x04 (0x0c ∷ too_high)
    ∷ nth 10 0x04 (0x08 ∷ too_high)
    ∷ []

abbrev pub answers_in_order : List Answer
answers_in_order =
    Refused 11
    ∷ Refused 12
    ∷ Refused 11
    ∷ Refused 11
    ∷ Refused 12
    ∷ Refused 11
    ∷ Refused 11
    ∷ Refused 10
    ∷ Refused 9
    ∷ Refused 11
    ∷ []
