-- §5 of the change requests by hand: REALs halfway between two units, and the patterns beside them, beside
-- what one reckons on paper. proofs/Figures.antt proves them equal. From 1 to 2 percent 128 patterns are a
-- unit (3F800080 is 65,537 units), from 64 percent on two, from 0.125 to 0.25 percent 1,024.
use Rattle.std.specs.Prelude.{List, [], ◌∷◌, map, ℕ, Float, Option, Some, None}
use Rattle.lighting_levels.specs.Paper.Level.{real, level_of, limit_of, amount_of}

-- the units of patterns, read as levels, as limits (Min and Max), as rates or steps
abbrev units : (Float → Option ℕ) → List ℕ → List (Option ℕ)
units reads patterns = map (λ (b : ℕ). reads (real b)) patterns

-- 65,536.5 and 65,537.5, each between its two neighbours
abbrev about_one_percent : List ℕ
about_one_percent = 0x3f80_003f ∷ 0x3f80_0040 ∷ 0x3f80_0041 ∷ 0x3f80_00bf ∷ 0x3f80_00c0 ∷ 0x3f80_00c1 ∷ []

-- from 64 percent on every second REAL is halfway: 4,194,304.5, 4,194,305, 4,194,305.5; 6,553,598.5,
-- 6,553,599, 6,553,599.5
abbrev about_most : List ℕ
about_most = 0x4280_0001 ∷ 0x4280_0002 ∷ 0x4280_0003 ∷ 0x42c7_fffd ∷ 0x42c7_fffe ∷ 0x42c7_ffff ∷ []

-- 8,192.5 and 8,193.5 with their neighbours; 65,534.5 and 65,535.5
abbrev about_an_eighth : List ℕ
about_an_eighth = 0x3e00_01ff ∷ 0x3e00_0200 ∷ 0x3e00_0201 ∷ 0x3e00_05ff ∷ 0x3e00_0600 ∷ 0x3e00_0601 ∷ 0x3f7f_fe80 ∷ 0x3f7f_ff80 ∷ []

-- below 1 percent a level is raised, at whatever half, and a limit is refused: 0.5, 1.5, 8,192.5, 65,534.5
-- and 65,535.5 units
abbrev below_one_percent : List ℕ
below_one_percent = 0x3700_0000 ∷ 0x37c0_0000 ∷ 0x3e00_0200 ∷ 0x3f7f_fe80 ∷ 0x3f7f_ff80 ∷ []

-- half a unit above 100 percent, and half a unit below 0.125: rounded, they would be in range
abbrev just_outside : List ℕ
just_outside = 0x42c8_0001 ∷ 0x3dff_fc00 ∷ []

abbrev pub halves_given : List (List (Option ℕ))
halves_given =
    units level_of about_one_percent
    ∷ units limit_of about_one_percent
    ∷ units amount_of about_one_percent
    ∷ units level_of about_most
    ∷ units limit_of about_most
    ∷ units amount_of about_most
    ∷ units amount_of about_an_eighth
    ∷ units level_of below_one_percent
    ∷ units limit_of below_one_percent
    ∷ units limit_of just_outside
    ∷ units amount_of just_outside
    ∷ []

abbrev one_percent_said : List (Option ℕ)
one_percent_said = Some 65536 ∷ Some 65536 ∷ Some 65537 ∷ Some 65537 ∷ Some 65538 ∷ Some 65538 ∷ []

abbrev most_said : List (Option ℕ)
most_said = Some 4194304 ∷ Some 4194305 ∷ Some 4194306 ∷ Some 6553598 ∷ Some 6553599 ∷ Some 6553600 ∷ []

abbrev pub halves_said : List (List (Option ℕ))
halves_said =
    one_percent_said
    ∷ one_percent_said
    ∷ one_percent_said
    ∷ most_said
    ∷ most_said
    ∷ most_said
    ∷ (Some 8192 ∷ Some 8192 ∷ Some 8193 ∷ Some 8193 ∷ Some 8194 ∷ Some 8194 ∷ Some 65534 ∷ Some 65536 ∷ [])
    ∷ (Some 65536 ∷ Some 65536 ∷ Some 65536 ∷ Some 65536 ∷ Some 65536 ∷ [])
    ∷ (None ∷ None ∷ None ∷ None ∷ None ∷ [])
    ∷ (None ∷ None ∷ [])
    ∷ (None ∷ None ∷ [])
    ∷ []
