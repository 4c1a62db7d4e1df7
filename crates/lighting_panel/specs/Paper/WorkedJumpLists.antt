-- §4 in a worked list: far jumps, by clocks and by first arrivals. proofs/Figures.antt computes the answers.
use Rattle.std.specs.Prelude.{List, [], ◌∷◌, ◌++◌, ℕ, ◌+◌}
use Rattle.lighting_levels.specs.Paper.Field.{octets}
use Rattle.lighting_frames.specs.Paper.Frames.{Bytes}
use Rattle.lighting_panel.specs.Paper.Worked.{call, clock_at, asked}
use Rattle.lighting_outputs.specs.declared.Answer.{Answer}
use Rattle.lighting_outputs.specs.declared.Answer.TheVariants.{Done, Value}

-- A LIST: fades of output 1 over 1,000 ms, up to 50 percent and down to 0 by turns, each followed by a jump
-- of a clock or of a first arrival, and by reads of Progress_Value, In_Process and the seconds burned
abbrev fades : ℕ → ℕ → ℕ → Bytes
fades number time percent = call 0x12 3 number time 1 (octets 4 percent ++ octets 4 1000 ++ octets 4 0xffff_ffff)

-- the three reads, from this number on
abbrev looks : ℕ → ℕ → List Bytes
looks number time = asked 2 number time 1 0x0d ∷ asked 2 (number + 1) time 1 0x0e ∷ asked 2 (number + 2) time 1 0x0b ∷ []

abbrev pub frames_of_jumps : List Bytes
frames_of_jumps =
    -- 2^32 - 1 on from 1,000, by a clock
    (fades 1 1000 0x4248_0000 ∷ clock_at 4294968295 ∷ [])
    ++ looks 1 4294968295
    -- 2^32, by the first read
    ++ (fades 2 4294968295 0 ∷ [])
    ++ looks 4 8589935591
    -- 2^32 + 1, by a clock
    ++ (fades 3 8589935591 0x4248_0000 ∷ clock_at 12884902888 ∷ [])
    ++ looks 7 12884902888
    -- 2^32 + 999, by the first read
    ++ (fades 4 12884902888 0 ∷ [])
    ++ looks 10 17179871183
    -- 2^40, by a clock
    ++ (fades 5 17179871183 0x4248_0000 ∷ clock_at 1116691498959 ∷ [])
    ++ looks 13 1116691498959

abbrev pub answers_to_jumps : List Answer
answers_to_jumps =
    (Done ∷ Done ∷ Value 0x4248_0000 ∷ Value 0 ∷ Value 4294967 ∷ [])
    ++ (Done ∷ Value 0 ∷ Value 0 ∷ Value 4294968 ∷ [])
    ++ (Done ∷ Done ∷ Value 0x4248_0000 ∷ Value 0 ∷ Value 8589935 ∷ [])
    ++ (Done ∷ Value 0 ∷ Value 0 ∷ Value 8589936 ∷ [])
    ++ (Done ∷ Done ∷ Value 0x4248_0000 ∷ Value 0 ∷ Value 1108101564 ∷ [])
