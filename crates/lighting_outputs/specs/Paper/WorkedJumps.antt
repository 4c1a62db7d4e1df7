-- §4 of the change requests by hand: movements under way at clock jumps about 4,294,967,296 ms (2^32) and of
-- 2^40, as the engine passes them, beside what one reckons on paper. proofs/Figures.antt proves them equal.
use Rattle.std.specs.Prelude.{List, [], ◌∷◌, ℕ, ◌+◌}
use Rattle.lighting_levels.specs.Paper.Level.{real}
use Rattle.lighting_outputs.specs.Paper.Value.{progress_value, in_process}
use Rattle.lighting_outputs.specs.Engine.Advance.{advance}
use Rattle.lighting_outputs.specs.Paper.Fresh.{fresh_output}
use Rattle.lighting_outputs.specs.Paper.Figures.{ordered, fade_up, fade_down, ramp_up, slow_ramp}
use Rattle.lighting_outputs.specs.declared.Duration.TheVariants.{Omitted}
use Rattle.lighting_outputs.specs.declared.Operation.TheVariants.{FadeToOver}
use Rattle.lighting_outputs.specs.declared.Output.{Output}

-- Progress_Value, In_Process and what has burned at `to`, of an output brought there from t
abbrev shown : ℕ → ℕ → Output → List ℕ
shown t to o = progress_value to (advance t to o) ∷ in_process (advance t to o).activity ∷ (advance t to o).burning ∷ []

-- after a jump of n milliseconds from the movement's start
abbrev jumps : ℕ → Output → List ℕ
jumps n o = shown 0 n o

-- and from its middle, at 500 ms
abbrev jumps_on : ℕ → Output → List ℕ
jumps_on n o = shown 500 (500 + n) (advance 0 500 o)

-- a fade to 50 percent over 1,000 ms that begins 500 ms before 2^32, so that the low 32 bits of panel time
-- turn to 0 in its middle
abbrev across : Output
across = ordered 4294966796 (FadeToOver (real 0x4248_0000) 1000) Omitted fresh_output

-- and one over 10,000 ms: way times milliseconds, 3,276,800 × 9,999, takes more than 32 bits, as does rate
-- times milliseconds of the slow ramp, 8,192 × 799,999
abbrev long_fade : Output
long_fade = ordered 0 (FadeToOver (real 0x4248_0000) 10000) Omitted fresh_output

-- up over 1,000 ms; down to 0 over as long; up by one percent at 3 percent a second (334 ms); up by 100 at
-- 0.125 (800,000 ms)
abbrev pub jumps_given : List (List ℕ)
jumps_given =
    jumps 4294967295 fade_up
    ∷ jumps 4294967296 fade_up
    ∷ jumps 4294967297 fade_up
    -- 2^32 + 5 ms are not 5, at which it would be at 16,384 and moving; nor are 2^32 + 999 the last of its
    -- milliseconds
    ∷ jumps 4294967301 fade_up
    ∷ jumps 4294968295 fade_up
    ∷ jumps 1099511627776 fade_up
    ∷ jumps_on 4294967295 fade_up
    ∷ jumps_on 4294967296 fade_up
    ∷ jumps_on 4294968295 fade_up
    -- a fall burns its 1,000 ms, however long the jump
    ∷ jumps 4294967296 fade_down
    ∷ jumps 4294968295 fade_down
    ∷ jumps_on 4294967297 fade_down
    ∷ jumps 1099511627776 fade_down
    ∷ jumps 4294967297 ramp_up
    ∷ jumps 4294967629 ramp_up
    ∷ jumps 4295767295 slow_ramp
    ∷ jumps 1099511627776 slow_ramp
    -- and across 2^32 the formula goes on: at 499, 500, 501, 999 and 1,000 ms
    ∷ shown 4294966796 4294967295 across
    ∷ shown 4294966796 4294967296 across
    ∷ shown 4294966796 4294967297 across
    ∷ shown 4294966796 4294967795 across
    ∷ shown 4294966796 4294967796 across
    -- a millisecond before their ends
    ∷ shown 0 9999 long_fade
    ∷ shown 0 799999 slow_ramp
    ∷ []

abbrev pub jumps_said : List (List ℕ)
jumps_said =
    (3276800 ∷ 0 ∷ 4294967294 ∷ [])
    ∷ (3276800 ∷ 0 ∷ 4294967295 ∷ [])
    ∷ (3276800 ∷ 0 ∷ 4294967296 ∷ [])
    ∷ (3276800 ∷ 0 ∷ 4294967300 ∷ [])
    ∷ (3276800 ∷ 0 ∷ 4294968294 ∷ [])
    ∷ (3276800 ∷ 0 ∷ 1099511627775 ∷ [])
    ∷ (3276800 ∷ 0 ∷ 4294967794 ∷ [])
    ∷ (3276800 ∷ 0 ∷ 4294967795 ∷ [])
    ∷ (3276800 ∷ 0 ∷ 4294968794 ∷ [])
    ∷ (0 ∷ 0 ∷ 1000 ∷ [])
    ∷ (0 ∷ 0 ∷ 1000 ∷ [])
    ∷ (0 ∷ 0 ∷ 1000 ∷ [])
    ∷ (0 ∷ 0 ∷ 1000 ∷ [])
    ∷ (65536 ∷ 0 ∷ 4294967296 ∷ [])
    ∷ (65536 ∷ 0 ∷ 4294967628 ∷ [])
    ∷ (6553600 ∷ 0 ∷ 4295767294 ∷ [])
    ∷ (6553600 ∷ 0 ∷ 1099511627775 ∷ [])
    ∷ (1635123 ∷ 1 ∷ 498 ∷ [])
    ∷ (1638400 ∷ 1 ∷ 499 ∷ [])
    ∷ (1641676 ∷ 1 ∷ 500 ∷ [])
    ∷ (3273523 ∷ 1 ∷ 998 ∷ [])
    ∷ (3276800 ∷ 0 ∷ 999 ∷ [])
    ∷ (3276472 ∷ 1 ∷ 9998 ∷ [])
    ∷ (6553591 ∷ 1 ∷ 799998 ∷ [])
    ∷ []
