-- §8 IN A LIST: a panel of eight stations whose marks have bits 0, 8 and 31 set. Station 0 is a tenant, and
-- bits 8 and 31 mean nothing. Frames, with the answers that the paper gives; proofs/Figures.antt computes
-- them.
use Rattle.std.specs.Prelude.{List, [], ◌∷◌, ℕ}
use Rattle.lighting_levels.specs.Paper.Field.{octets}
use Rattle.lighting_outputs.specs.Paper.Parameters.{four_hours}
use Rattle.lighting_frames.specs.Paper.Frames.{Bytes}
use Rattle.lighting_panel.specs.Paper.Panel.{fresh_panel}
use Rattle.lighting_panel.specs.Paper.Demand.{answers}
use Rattle.lighting_panel.specs.Paper.Worked.{call, asked}
use Rattle.lighting_outputs.specs.declared.Answer.{Answer}
use Rattle.lighting_outputs.specs.declared.Answer.TheVariants.{Done, Value, Absent, Refused}

-- a level written into a slot by its priority
abbrev writes : ℕ → ℕ → ℕ → ℕ → ℕ → Bytes
writes station number time priority level = call 2 station number time 0 (priority ∷ octets 4 level)

abbrev tenant_frames : List Bytes
tenant_frames =
    -- 50.5 percent into slot 1; the tenant and a service station read Present_Value and slot 1
    writes 1 1 1000 1 0x424a_0000
    ∷ asked 0 1 1000 0 0x21
    ∷ asked 1 2 1000 0 0x21
    ∷ asked 1 3 1000 0 0x0c
    ∷ asked 0 2 1000 0 0x0c
    -- 80.25 percent; a copy of the tenant's read gets the kept answer, a new one reads anew
    ∷ writes 1 4 2000 1 0x42a0_8000
    ∷ asked 0 2 1000 0 0x0c
    ∷ asked 0 3 2000 0 0x0c
    -- the tenant writes as any station does: 25.75 percent into slot 7, which it reads exact; and slot 2
    ∷ writes 0 4 2000 7 0x41ce_0000
    ∷ asked 0 5 2000 0 0x27
    ∷ writes 0 6 2000 2 0x41ce_0000
    ∷ asked 0 7 2000 0 0x22
    ∷ asked 1 5 2000 0 0x22
    -- slot 1 emptied: 25.75 percent of slot 2 is shown, 25 to the tenant
    ∷ call 3 1 6 2000 0 (1 ∷ [])
    ∷ asked 0 8 2000 0 0x0c
    ∷ asked 1 7 2000 0 0x0c
    -- an unknown property, an output that is not there, an older number, a late frame; no station 8
    ∷ asked 0 9 2000 0 0x15
    ∷ asked 0 10 2000 1 0x0c
    ∷ asked 0 1 2000 0 0x0c
    ∷ asked 0 10 1999 0 0x0c
    ∷ asked 8 1 2000 0 0x0c
    ∷ []

abbrev pub tenant_given : List Answer
tenant_given = answers (fresh_panel (four_hours 1) 0x8000_0101) tenant_frames

abbrev pub tenant_said : List Answer
tenant_said =
    Done
    ∷ Absent
    ∷ Value 0x424a_0000
    ∷ Value 0x424a_0000
    ∷ Value 0x4248_0000
    ∷ Done
    ∷ Value 0x4248_0000
    ∷ Value 0x42a0_0000
    ∷ Done
    ∷ Value 0x41ce_0000
    ∷ Done
    ∷ Absent
    ∷ Value 0x41ce_0000
    ∷ Done
    ∷ Value 0x41c8_0000
    ∷ Value 0x41ce_0000
    ∷ Refused 9
    ∷ Refused 5
    ∷ Refused 7
    ∷ Refused 8
    ∷ Refused 4
    ∷ []
