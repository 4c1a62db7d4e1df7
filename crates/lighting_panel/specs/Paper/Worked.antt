-- A worked list: bench figures 9 and 10 and the traps that only a list shows, as frames to a panel of two
-- outputs, with the answers that the paper gives. proofs/Figures.antt computes them.
use Rattle.std.specs.Prelude.{List, [], ◌∷◌, ◌++◌, ℕ}
use Rattle.lighting_levels.specs.Paper.Field.{octets}
use Rattle.lighting_frames.specs.Paper.Frames.{Bytes}
use Rattle.lighting_outputs.specs.declared.Answer.{Answer}
use Rattle.lighting_outputs.specs.declared.Answer.TheVariants.{Done, Value, Absent, Refused}

abbrev pub call : ℕ → ℕ → ℕ → ℕ → ℕ → Bytes → Bytes
call kind station number time output body = kind ∷ station ∷ octets 4 number ++ octets 6 time ++ output ∷ body

abbrev pub clock_at : ℕ → Bytes
clock_at time = 1 ∷ octets 6 time

-- figure 9: 'Slot 8 to 50 percent: 02 02 00000001 0000000003E8 00 08 42480000'
abbrev nine : Bytes
nine = call 2 2 1 1000 0 (8 ∷ octets 4 0x4248_0000)

abbrev nine_other : Bytes
nine_other = call 2 2 1 1000 0 (8 ∷ octets 4 0x4248_0001)

-- figure 10: a fade of output 1 to 50 percent over 99 or 100 ms, with a duration
abbrev ten : ℕ → ℕ → ℕ → Bytes
ten number fade duration = call 0x12 3 number 2000 1 (octets 4 0x4248_0000 ++ octets 4 fade ++ octets 4 duration)

-- a read of a property
abbrev pub asked : ℕ → ℕ → ℕ → ℕ → ℕ → Bytes
asked station number time output property = call 5 station number time output (property ∷ [])

-- STEP_DOWN_BY of output 1 by 12.5 percent
abbrev step_down : Bytes
step_down = call 0x18 4 1 2200 1 (octets 4 0x4148_0000 ++ octets 4 0xffff_ffff)

abbrev pub frames : List Bytes
frames =
    nine
    ∷ clock_at 2000
    -- 'Sent again at panel time 2,000: Done, nothing altered. With last byte 01: refused 6'
    ∷ nine
    ∷ nine_other
    ∷ asked 2 2 2000 0 0x0c
    -- an older number, and a frame that is late
    ∷ nine
    ∷ asked 5 1 1999 0 0x0c
    -- a refused frame takes its number: the same bytes again are a copy, others are refused 6
    ∷ ten 1 99 0
    ∷ ten 1 99 0
    ∷ ten 1 100 0
    ∷ ten 2 100 86400001
    ∷ ten 3 100 86400000
    ∷ asked 2 3 2050 1 0x0d
    -- a step sent three times, the last of them late
    ∷ step_down
    ∷ step_down
    ∷ clock_at 3000
    ∷ step_down
    ∷ asked 2 4 3000 1 0x0c
    -- the seconds that both have burned: output 1 was dark in the first of its thousand milliseconds, at the
    -- beginning of its fade (§2 of the change requests)
    ∷ asked 2 5 3000 0 0x0b
    ∷ asked 2 6 3000 1 0x0b
    -- a clock that comes again, and a late one
    ∷ clock_at 3000
    ∷ clock_at 2999
    ∷ asked 2 7 3000 0 0x28
    ∷ asked 2 8 3000 1 0x28
    ∷ []

abbrev pub expected : List Answer
expected =
    Done
    ∷ Done
    ∷ Done
    ∷ Refused 6
    ∷ Value 0x4248_0000
    ∷ Refused 7
    ∷ Refused 8
    ∷ Refused 12
    ∷ Refused 12
    ∷ Refused 6
    ∷ Refused 12
    ∷ Done
    ∷ Value 0x41c8_0000
    ∷ Done
    ∷ Done
    ∷ Done
    ∷ Done
    ∷ Value 0x4216_0000
    ∷ Value 2
    ∷ Value 0
    ∷ Done
    ∷ Refused 8
    ∷ Value 0x4248_0000
    ∷ Absent
    ∷ []
