-- §5 in a worked list: REALs halfway between two units, in every frame that carries one. proofs/Figures.antt
-- computes the answers.
use Rattle.std.specs.Prelude.{List, [], ◌∷◌, ◌++◌, ℕ, ◌+◌}
use Rattle.lighting_levels.specs.Paper.Field.{octets}
use Rattle.lighting_frames.specs.Paper.Frames.{Bytes}
use Rattle.lighting_panel.specs.Paper.Worked.{call, asked}
use Rattle.lighting_frames.specs.Paper.WorkedTags.{body}
use Rattle.lighting_outputs.specs.declared.Answer.{Answer}
use Rattle.lighting_outputs.specs.declared.Answer.TheVariants.{Done, Value, Refused}

-- A LIST: every field that is rounded, of commands in tags one. Station 1 writes to output 0 and reads it at
-- 1,000; station 2 orders and reads output 1
abbrev puts : ℕ → ℕ → ℕ → Bytes
puts number property value = call 4 1 number 1000 0 (property ∷ octets 4 value)

abbrev looks : ℕ → ℕ → Bytes
looks number property = asked 1 number 1000 0 property

abbrev orders : ℕ → ℕ → ℕ → Bytes → Bytes
orders kind number time fields = call kind 2 number time 1 (fields ++ octets 4 0xffff_ffff)

abbrev shows : ℕ → ℕ → ℕ → Bytes
shows number time property = asked 2 number time 1 property

-- a command at 20,000, and the Present_Value that it leaves
abbrev leaves : ℕ → ℕ → Bytes → List Bytes
leaves kind number fields = orders kind number 20000 fields ∷ shows (number + 1) 20000 0x0c ∷ []

abbrev pub frames_of_halves : List Bytes
frames_of_halves =
    -- slot 8 and Relinquish_Default
    (call 2 1 1 1000 0 (8 ∷ octets 4 0x3f80_0040) ∷ looks 2 0x28 ∷ call 2 1 3 1000 0 (8 ∷ octets 4 0x3f80_00c0) ∷ looks 4 0x28 ∷ [])
    ++ (puts 5 0x01 0x3f80_0040 ∷ looks 6 0x01 ∷ [])
    -- Min 65,537: a Max of 65,536.5 is below it; one of 65,537.5 is 65,538, as is a Min of 65,538.5
    ++ (puts 7 0x08 0x3f80_0080 ∷ puts 8 0x09 0x3f80_0040 ∷ puts 9 0x09 0x3f80_00c0 ∷ looks 10 0x09 ∷ puts 11 0x08 0x3f80_0140 ∷ looks 12 0x08 ∷ [])
    -- 18 at 65,536.5 is below a 17 of 65,537; at 65,538 it is not below a 17 of 65,538.5
    ++ (puts 13 0x18 0x3f80_0040 ∷ looks 14 0x18 ∷ puts 15 0x17 0x3f80_0080 ∷ puts 16 0x17 0x3f80_0140 ∷ looks 17 0x17 ∷ puts 18 0x18 0x3f80_0100 ∷ [])
    -- RAMP_TO_AT_RATE from 0 to 1 percent at 8,192.5, which is 8,192: by 65,527.8 after 7,999 ms; from 1 to 2
    -- percent at 8,193.5, which is 8,194: by 57,358 after 7,000 ms
    ++ (orders 0x14 1 1000 (octets 4 0x3f80_0000 ++ octets 4 0x3e00_0200) ∷ shows 2 8999 0x0d ∷ [])
    ++ (orders 0x14 3 10000 (octets 4 0x4000_0000 ++ octets 4 0x3e00_0600) ∷ shows 4 17000 0x0d ∷ shows 5 17000 0x11 ∷ [])
    -- from 2 percent STEP_UP_BY 65,537.5, STEP_DOWN_BY 65,536.5, STEP_UP_BY 65,536.5
    ++ leaves 0x17 6 (octets 4 0x3f80_00c0)
    ++ leaves 0x18 8 (octets 4 0x3f80_0040)
    ++ leaves 0x17 10 (octets 4 0x3f80_0040)
    ++ (shows 12 20000 0x12 ∷ [])
    -- the levels of FADE_TO, FADE_TO_OVER, RAMP_TO, RAMP_TO_AT_RATE and GOTO, in tags too: 65,536.5 and
    -- 65,538.5 by turns, and at the end 65,537.5
    ++ leaves 0x11 13 (octets 4 0x3f80_0040)
    ++ leaves 0x12 15 (octets 4 0x3f80_0140 ++ octets 4 1000)
    ++ leaves 0x13 17 (octets 4 0x3f80_0040)
    ++ leaves 0x14 19 (octets 4 0x3f80_0140 ++ octets 4 0x3f80_0000)
    ++ (call 0x1b 2 21 20000 1 (body (0x09 ∷ 0x09 ∷ 0x1c ∷ octets 4 0x3f80_0040)) ∷ shows 22 20000 0x0c ∷ [])
    ++ leaves 0x19 23 (octets 4 0x3f80_00c0)
    ++ (shows 25 20000 0x10 ∷ [])
    -- Step_Increment 65,536.5, a step up and one down; Ramp_Rate 8,192.5, which is 8,192: to 3 percent, by
    -- 57,344 after 7,000 ms
    ++ (call 4 2 26 20000 1 (0x04 ∷ octets 4 0x3f80_0040) ∷ shows 27 20000 0x04 ∷ [])
    ++ leaves 0x15 28 []
    ++ leaves 0x16 30 []
    ++ (call 4 2 32 30000 1 (0x03 ∷ octets 4 0x3e00_0200) ∷ shows 33 30000 0x03 ∷ orders 0x13 34 30000 (octets 4 0x4040_0000) ∷ shows 35 37000 0x0d ∷ [])

abbrev pub answers_to_halves : List Answer
answers_to_halves =
    (Done ∷ Value 0x3f80_0000 ∷ Done ∷ Value 0x3f80_0100 ∷ [])
    ++ (Done ∷ Value 0x3f80_0000 ∷ [])
    ++ (Done ∷ Refused 13 ∷ Done ∷ Value 0x3f80_0100 ∷ Done ∷ Value 0x3f80_0100 ∷ [])
    ++ (Done ∷ Value 0x3f80_0000 ∷ Done ∷ Done ∷ Value 0x3f80_0100 ∷ Refused 16 ∷ [])
    -- 65,527; 65,536 + 57,358
    ++ (Done ∷ Value 0x3f7f_f700 ∷ [])
    ++ (Done ∷ Value 0x3ff0_0700 ∷ Value 0x3e00_0600 ∷ [])
    -- 131,072 + 65,538; less 65,536; and 65,536 more
    ++ (Done ∷ Value 0x4040_0080 ∷ Done ∷ Value 0x4000_0080 ∷ Done ∷ Value 0x4040_0080 ∷ Value 0x3f80_0040 ∷ [])
    -- 65,536 and 65,538 by turns
    ++ (Done ∷ Value 0x3f80_0000 ∷ Done ∷ Value 0x3f80_0100 ∷ Done ∷ Value 0x3f80_0000 ∷ Done ∷ Value 0x3f80_0100 ∷ [])
    ++ (Done ∷ Value 0x3f80_0000 ∷ Done ∷ Value 0x3f80_0100 ∷ Value 0x3f80_00c0 ∷ [])
    -- 65,538 + 65,536, and less again; 65,538 + 57,344
    ++ (Done ∷ Value 0x3f80_0040 ∷ Done ∷ Value 0x4000_0080 ∷ Done ∷ Value 0x3f80_0100 ∷ [])
    ++ (Done ∷ Value 0x3e00_0200 ∷ Done ∷ Value 0x3ff0_0100 ∷ [])
