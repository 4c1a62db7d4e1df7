-- §1 in a worked list: commands in tags, with the answers that the papers give. proofs/Figures.antt computes
-- them.
use Rattle.std.specs.Prelude.{List, ◌∷◌, ◌++◌, []}
use Rattle.lighting_levels.specs.Paper.Field.{octets}
use Rattle.lighting_frames.specs.Paper.Frames.{Bytes}
use Rattle.lighting_panel.specs.Paper.Worked.{call, asked}
use Rattle.lighting_outputs.specs.declared.Answer.{Answer}
use Rattle.lighting_outputs.specs.declared.Answer.TheVariants.{Done, Value, Refused}
use Rattle.lighting_frames.specs.Paper.WorkedTags.{sized, body, half}

-- A LIST: GOTO 50 percent in tags, and plain
abbrev goes : Bytes
goes = call 0x1b 0 1 1000 0 (body (0x09 ∷ 0x09 ∷ half))

abbrev pub frames_in_tags : List Bytes
frames_in_tags =
    goes
    ∷ goes
    -- the same command plain, under its number: other bytes
    ∷ call 0x19 0 1 1000 0 (octets 4 0x4248_0000 ++ octets 4 0xffff_ffff)
    ∷ asked 1 1 1000 0 0x0f
    ∷ asked 1 2 1000 0 0x0c
    -- refused 14, and again: its number and its time are kept
    ∷ call 0x1b 0 2 2000 0 (body (0x09 ∷ 0x0b ∷ []))
    ∷ call 0x1b 0 2 2000 0 (body (0x09 ∷ 0x0b ∷ []))
    ∷ call 0x15 0 2 2000 0 (octets 4 0xffff_ffff)
    ∷ asked 1 3 1999 0 0x0c
    -- refused 15 likewise
    ∷ call 0x1b 0 3 3000 0 (body (0x09 ∷ 0x01 ∷ []))
    ∷ call 0x15 0 3 3000 0 (octets 4 0xffff_ffff)
    -- 5 comes before 14; a body that breaks off is 14
    ∷ call 0x1b 0 4 3000 2 (body (0x09 ∷ 0x0b ∷ []))
    ∷ call 0x1b 0 4 3000 0 (sized 1 (0x09 ∷ []))
    -- what was lit since 1,000 has burned 2 s
    ∷ asked 1 3 3000 0 0x0b
    ∷ asked 1 4 3000 0 0x0f
    ∷ []

abbrev pub answers_in_tags : List Answer
answers_in_tags =
    Done
    ∷ Done
    ∷ Refused 6
    ∷ Value 9
    ∷ Value 0x4248_0000
    ∷ Refused 14
    ∷ Refused 14
    ∷ Refused 6
    ∷ Refused 8
    ∷ Refused 15
    ∷ Refused 6
    ∷ Refused 5
    ∷ Refused 14
    ∷ Value 2
    ∷ Value 9
    ∷ []
