-- REALs AT THE ENDS OF THEIR RANGES AND OUTSIDE, each written to each property that holds one, of a fresh
-- output: what kind 04 answers, beside what the papers say. proofs/Figures.antt proves them equal.
use Rattle.std.specs.Prelude.{List, [], ◌∷◌, map, ℕ, replicate}
use Rattle.lighting_outputs.specs.Paper.Parameters.{document01}
use Rattle.lighting_outputs.specs.Paper.Answers.{as_request}
use Rattle.lighting_outputs.specs.Paper.Properties.{property_of, change_of}
use Rattle.lighting_outputs.specs.Paper.Fresh.{fresh_output}
use Rattle.lighting_outputs.specs.Paper.Acting.{served}
use Rattle.lighting_outputs.specs.Paper.Tenants.{for_service}
use Rattle.lighting_outputs.specs.declared.Answer.{Answer}
use Rattle.lighting_outputs.specs.declared.Answer.TheVariants.{Done, Refused}

abbrev write : ℕ → ℕ → Answer
write n x = (served for_service 0 (fresh_output ∷ []) 0 (as_request (change_of (document01 1) (property_of n) x))).answer

-- two NaNs, both infinities, -1, the least negative, the least above 100
abbrev never : List ℕ
never = 0x7fc0_0000 ∷ 0xff80_0001 ∷ 0x7f80_0000 ∷ 0xff80_0000 ∷ 0xbf80_0000 ∷ 0x8000_0001 ∷ 0x42c8_0001 ∷ []

-- 0 and minus zero; the greatest below 0.125, and that; the greatest below 1, and that; 100
abbrev ends : List ℕ
ends = 0 ∷ 0x8000_0000 ∷ 0x3dff_ffff ∷ 0x3e00_0000 ∷ 0x3f7f_ffff ∷ 0x3f80_0000 ∷ 0x42c8_0000 ∷ []

abbrev holding : List ℕ
holding = 0x01 ∷ 0x03 ∷ 0x04 ∷ 0x08 ∷ 0x09 ∷ 0x17 ∷ 0x18 ∷ []

abbrev pub outside_given : List (List Answer)
outside_given = map (λ (x : ℕ). map (λ (n : ℕ). write n x) holding) never

abbrev pub outside_said : List (List Answer)
outside_said = replicate 7 (replicate 7 (Refused 11))

-- each property with the seven ends. A level below 1 percent is raised to it; 17 must stay above 45 percent
-- and 18 below 50, else 16
abbrev pub ends_given : List (List Answer)
ends_given = map (λ (n : ℕ). map (write n) ends) holding

abbrev pub ends_said : List (List Answer)
ends_said =
    replicate 7 Done
    ∷ (Refused 11 ∷ Refused 11 ∷ Refused 11 ∷ Done ∷ Done ∷ Done ∷ Done ∷ [])
    ∷ (Refused 11 ∷ Refused 11 ∷ Refused 11 ∷ Done ∷ Done ∷ Done ∷ Done ∷ [])
    ∷ (Refused 11 ∷ Refused 11 ∷ Refused 11 ∷ Refused 11 ∷ Refused 11 ∷ Done ∷ Done ∷ [])
    ∷ (Refused 11 ∷ Refused 11 ∷ Refused 11 ∷ Refused 11 ∷ Refused 11 ∷ Done ∷ Done ∷ [])
    ∷ (Refused 16 ∷ Refused 16 ∷ Refused 16 ∷ Refused 16 ∷ Refused 16 ∷ Refused 16 ∷ Done ∷ [])
    ∷ (Done ∷ Done ∷ Done ∷ Done ∷ Done ∷ Done ∷ Refused 16 ∷ [])
    ∷ []
