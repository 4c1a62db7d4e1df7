-- §1 BY HAND: commands with their octets, bodies with the refusal that each meets, and a list of frames with
-- its answers. proofs/Figures.antt computes them.
use Rattle.std.specs.Prelude.{List, ◌∷◌, ◌++◌, map, [], ℕ, ◌-◌, length, replicate}
use Rattle.lighting_outputs.specs.Paper.Answers.{as_request}
use Rattle.lighting_outputs.specs.Paper.Parameters.{document01}
use Rattle.lighting_levels.specs.Paper.Level.{real}
use Rattle.lighting_levels.specs.Paper.Field.{octets}
use Rattle.lighting_frames.specs.Paper.Tags.{command_tags, tag_bytes, read_body}
use Rattle.lighting_frames.specs.Paper.Frames.{Bytes, tagged_request}
use Rattle.lighting_outputs.specs.Paper.Fresh.{fresh_output}
use Rattle.lighting_outputs.specs.Paper.Tenants.{for_service}
use Rattle.lighting_outputs.specs.Paper.Acting.{served}
use Rattle.lighting_outputs.specs.declared.Answer.{Answer}
use Rattle.lighting_outputs.specs.declared.Answer.TheVariants.{Done, Refused}
use Rattle.lighting_outputs.specs.declared.Duration.{Duration}
use Rattle.lighting_outputs.specs.declared.Duration.TheVariants.{Lasts, Cancels, Omitted}
use Rattle.lighting_outputs.specs.declared.Operation.{Operation}
use Rattle.lighting_outputs.specs.declared.Operation.TheVariants.{Stop, FadeTo, FadeToOver, RampTo, RampToAtRate, StepUp, StepDown, StepUpBy, StepDownBy, Goto, Relinquish}

-- COMMANDS, and the octets of each: the eleven operations, whole numbers at each end of 1, 2, 3 and 4 octets
abbrev written : Operation → Duration → Bytes
written operation duration = tag_bytes (command_tags (record { operation = operation; duration = duration }))

abbrev pub commands_written : List Bytes
commands_written =
    written Stop Omitted
    ∷ written Stop Cancels
    ∷ written (FadeTo (real 0x4248_0000)) Omitted
    ∷ written (FadeToOver (real 0x4248_0000) 1000) Omitted
    ∷ written (FadeToOver (real 0x4248_0000) 65536) (Lasts 86400000)
    ∷ written (RampTo (real 0x3f80_0000)) Omitted
    ∷ written (RampToAtRate (real 0x42c8_0000) (real 0x3e00_0000)) (Lasts 100)
    ∷ written StepUp Omitted
    ∷ written StepDown (Lasts 255)
    ∷ written (StepUpBy (real 0x4148_0000)) (Lasts 256)
    ∷ written (StepDownBy (real 0x4148_0000)) (Lasts 65535)
    ∷ written (Goto (real 0x8000_0000)) (Lasts 16777215)
    ∷ written Relinquish (Lasts 16777216)
    ∷ []

abbrev pub their_octets : List Bytes
their_octets =
    (0x09 ∷ 0x00 ∷ [])
    ∷ (0x09 ∷ 0x00 ∷ 0x59 ∷ 0x00 ∷ [])
    ∷ (0x09 ∷ 0x01 ∷ 0x1c ∷ 0x42 ∷ 0x48 ∷ 0x00 ∷ 0x00 ∷ [])
    ∷ (0x09 ∷ 0x02 ∷ 0x1c ∷ 0x42 ∷ 0x48 ∷ 0x00 ∷ 0x00 ∷ 0x4a ∷ 0x03 ∷ 0xe8 ∷ [])
    ∷ (0x09 ∷ 0x02 ∷ 0x1c ∷ 0x42 ∷ 0x48 ∷ 0x00 ∷ 0x00 ∷ 0x4b ∷ 0x01 ∷ 0x00 ∷ 0x00 ∷ 0x5c ∷ 0x05 ∷ 0x26 ∷ 0x5c ∷ 0x00 ∷ [])
    ∷ (0x09 ∷ 0x03 ∷ 0x1c ∷ 0x3f ∷ 0x80 ∷ 0x00 ∷ 0x00 ∷ [])
    ∷ (0x09 ∷ 0x04 ∷ 0x1c ∷ 0x42 ∷ 0xc8 ∷ 0x00 ∷ 0x00 ∷ 0x2c ∷ 0x3e ∷ 0x00 ∷ 0x00 ∷ 0x00 ∷ 0x59 ∷ 0x64 ∷ [])
    ∷ (0x09 ∷ 0x05 ∷ [])
    ∷ (0x09 ∷ 0x06 ∷ 0x59 ∷ 0xff ∷ [])
    ∷ (0x09 ∷ 0x07 ∷ 0x3c ∷ 0x41 ∷ 0x48 ∷ 0x00 ∷ 0x00 ∷ 0x5a ∷ 0x01 ∷ 0x00 ∷ [])
    ∷ (0x09 ∷ 0x08 ∷ 0x3c ∷ 0x41 ∷ 0x48 ∷ 0x00 ∷ 0x00 ∷ 0x5a ∷ 0xff ∷ 0xff ∷ [])
    ∷ (0x09 ∷ 0x09 ∷ 0x1c ∷ 0x80 ∷ 0x00 ∷ 0x00 ∷ 0x00 ∷ 0x5b ∷ 0xff ∷ 0xff ∷ 0xff ∷ [])
    ∷ (0x09 ∷ 0x0a ∷ 0x5c ∷ 0x01 ∷ 0x00 ∷ 0x00 ∷ 0x00 ∷ [])
    ∷ []

-- BODIES: L, then the bytes, then zeros; and what a fresh output answers
abbrev pub sized : ℕ → Bytes → Bytes
sized size tags = size ∷ (tags ++ replicate (17 - length tags) 0)

abbrev pub body : Bytes → Bytes
body tags = sized (length tags) tags

abbrev met : List Bytes → List Answer
met bodies =
    map
    (λ (b : Bytes).
    (served for_service 0 (fresh_output ∷ []) 0 (as_request (tagged_request (document01 1) (read_body b)))).answer)
    bodies

abbrev pub half : Bytes
half = 0x1c ∷ octets 4 0x4248_0000

-- L: 0, 1 and 18; a tag above 5; an application tag; a zero byte inside L; a tag again; a falling one; tag 0
-- of two octets, a level of three, a fade time of five; content past L; a byte beyond L; an operation above
-- 10, with what it would need or not
abbrev pub fourteen : List Answer
fourteen =
    met (
    sized 0 []
    ∷ sized 1 (0x09 ∷ [])
    ∷ sized 18 (0x09 ∷ 0x02 ∷ half ++ (0x4c ∷ octets 4 100 ++ 0x5c ∷ octets 4 100))
    ∷ body (0x09 ∷ 0x00 ∷ 0x69 ∷ 0x00 ∷ [])
    ∷ body (0x09 ∷ 0x00 ∷ 0x21 ∷ 0x05 ∷ [])
    ∷ body (0x09 ∷ 0x00 ∷ 0x00 ∷ [])
    ∷ body (0x09 ∷ 0x00 ∷ 0x09 ∷ 0x00 ∷ [])
    ∷ body (0x09 ∷ 0x02 ∷ 0x4a ∷ 0x03 ∷ 0xe8 ∷ half)
    ∷ body (0x0a ∷ 0x00 ∷ 0x00 ∷ [])
    ∷ body (0x09 ∷ 0x01 ∷ 0x1b ∷ 0x42 ∷ 0x48 ∷ 0x00 ∷ [])
    ∷ body (0x09 ∷ 0x02 ∷ half ++ (0x4d ∷ 0x04 ∷ octets 4 1000))
    ∷ sized 6 (0x09 ∷ 0x01 ∷ half)
    ∷ sized 2 (0x09 ∷ 0x00 ∷ 0x00 ∷ 0x01 ∷ [])
    ∷ body (0x09 ∷ 0x0b ∷ [])
    ∷ body (0x09 ∷ 0x0b ∷ half ++ (0x5a ∷ 0x00 ∷ 0x64 ∷ []))
    -- and 14 comes before 15: a level missing, and a byte beyond L
    ∷ sized 2 (0x09 ∷ 0x01 ∷ 0x01 ∷ [])
    ∷ [])

-- a level missing; the operation missing; a level that is foreign; a fade time that is; a duration, and a
-- fade time, that begin with 00; and 15 comes before 11: a NaN, and a step that is foreign
abbrev pub fifteen : List Answer
fifteen =
    met (
    body (0x09 ∷ 0x01 ∷ [])
    ∷ body half
    ∷ body (0x09 ∷ 0x00 ∷ half)
    ∷ body (0x09 ∷ 0x05 ∷ 0x49 ∷ 0x64 ∷ [])
    ∷ body (0x09 ∷ 0x00 ∷ 0x5a ∷ 0x00 ∷ 0x64 ∷ [])
    ∷ body (0x09 ∷ 0x02 ∷ half ++ (0x4b ∷ 0x00 ∷ 0x03 ∷ 0xe8 ∷ []))
    ∷ body (0x09 ∷ 0x01 ∷ 0x1c ∷ octets 4 0x7fc0_0000 ++ (0x3c ∷ octets 4 0x4148_0000))
    ∷ [])

-- then as the plain kind has them: 101 percent, NaN, a rate of 0.1; a level before a fade time; a fade time
-- of 99, a duration of 99, of 86,400,001, of FFFFFFFF; and those that are taken
abbrev pub ranges : List Answer
ranges =
    met (
    body (0x09 ∷ 0x01 ∷ 0x1c ∷ octets 4 0x42ca_0000)
    ∷ body (0x09 ∷ 0x01 ∷ 0x1c ∷ octets 4 0x7fc0_0000)
    ∷ body (0x09 ∷ 0x04 ∷ half ++ (0x2c ∷ octets 4 0x3dcc_cccd))
    ∷ body (0x09 ∷ 0x02 ∷ 0x1c ∷ octets 4 0x42ca_0000 ++ (0x49 ∷ 0x63 ∷ []))
    ∷ body (0x09 ∷ 0x02 ∷ half ++ (0x49 ∷ 0x63 ∷ []))
    ∷ body (0x09 ∷ 0x00 ∷ 0x59 ∷ 0x63 ∷ [])
    ∷ body (0x09 ∷ 0x00 ∷ 0x5c ∷ octets 4 86400001)
    ∷ body (0x09 ∷ 0x00 ∷ 0x5c ∷ octets 4 0xffff_ffff)
    ∷ body (0x09 ∷ 0x00 ∷ [])
    ∷ body (0x09 ∷ 0x00 ∷ 0x59 ∷ 0x00 ∷ [])
    ∷ body (0x09 ∷ 0x02 ∷ half ++ (0x49 ∷ 0x64 ∷ 0x5c ∷ octets 4 86400000))
    ∷ [])

abbrev pub refused : List (List Answer)
refused = fourteen ∷ fifteen ∷ ranges ∷ []

abbrev pub refusals : List (List Answer)
refusals =
    replicate 16 (Refused 14)
    ∷ replicate 7 (Refused 15)
    ∷ (replicate 4 (Refused 11) ++ replicate 4 (Refused 12) ++ replicate 3 Done)
    ∷ []
