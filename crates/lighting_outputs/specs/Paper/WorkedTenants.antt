-- §8 BY NUMBER: what a tenant and a service station read, side by side, beside what the paper says.
-- proofs/Figures.antt proves them equal.
use Rattle.std.specs.Prelude.{Bool, true, List, [], ◌∷◌, ◌++◌, map, ℕ, None}
use Rattle.lighting_levels.specs.Paper.Level.{real}
use Rattle.lighting_outputs.specs.Paper.Slots.{filled}
use Rattle.lighting_outputs.specs.Paper.Tenants.{is_tenant, for_tenant, for_service}
use Rattle.lighting_outputs.specs.Paper.Properties.{property_of, read_property}
use Rattle.lighting_outputs.specs.Paper.Fresh.{fresh_output}
use Rattle.lighting_outputs.specs.declared.Activity.{Activity}
use Rattle.lighting_outputs.specs.declared.Activity.TheVariants.{Moving, Warned}
use Rattle.lighting_outputs.specs.declared.Answer.{Answer}
use Rattle.lighting_outputs.specs.declared.Answer.TheVariants.{Value, Absent, Refused}
use Rattle.lighting_outputs.specs.declared.Duration.TheVariants.{Lasts}
use Rattle.lighting_outputs.specs.declared.Operation.TheVariants.{FadeToOver}
use Rattle.lighting_outputs.specs.declared.Output.{Output}
use Rattle.lighting_outputs.specs.declared.Pace.TheVariants.{Fade}
use Rattle.lighting_outputs.specs.declared.Phase.TheVariants.{Delay}
use Rattle.lighting_outputs.specs.declared.Slots.{Slots}

-- an output at 10,000 ms: 50.5 percent in slot 1, 30 in slot 3, 25.75 in slot 7, 60 in slot 16; on its way
-- from 10.25 percent, half of it gone, so at 30.375; every setting is another than a fresh one
abbrev four_live : Slots
four_live = filled (filled (filled (filled fresh_output.slots 0 3309568) 2 1966080) 6 1687552) 15 3932160

abbrev under_way : Activity
under_way = Moving (record { owner = 0; start = 671744; target = 3309568; length = 1000; over = 10500; pace = Fade })

abbrev output_with : Slots → Activity → Output
output_with slots activity =
    record {
      settings =
          record {
            default = 1310720;
            fade = 2000;
            ramp = real 0x4148_0000;
            step = real 0x40e0_0000;
            enable = true;
            blink = 700;
            delay = 120000;
            min = 131072;
            max = 5898240;
            slot = 8;
          };
      slots = slots;
      activity = activity;
      timer = None;
      burning = 12345678;
      last = record { operation = FadeToOver (real 0x424a_0000) 1000; duration = Lasts 5000 };
      relay = record { active = 3932160; inactive = 2621440; reverse = true; binary = true };
    }

-- what is read of it: by a tenant, and by a service station
abbrev both_read : Output → ℕ → List Answer
both_read o n = read_property for_tenant 10000 o (property_of n) ∷ read_property for_service 10000 o (property_of n) ∷ []

abbrev alike : Answer → List Answer
alike a = a ∷ a ∷ []

-- EACH PROPERTY FROM 01 TO 30
abbrev all_read : Output → List (List Answer)
all_read o =
    map (both_read o)
    ((0x01 ∷ 0x02 ∷ 0x03 ∷ 0x04 ∷ 0x05 ∷ 0x06 ∷ 0x07 ∷ 0x08 ∷ 0x09 ∷ 0x0a ∷ 0x0b ∷ 0x0c ∷ 0x0d ∷ 0x0e ∷ 0x0f ∷ [])
    ++
    (0x10 ∷ 0x11 ∷ 0x12 ∷ 0x13 ∷ 0x14 ∷ 0x15 ∷ 0x16 ∷ 0x17 ∷ 0x18 ∷ 0x19 ∷ 0x1a ∷ 0x1b ∷ 0x1c ∷ 0x1d ∷ 0x1e ∷ 0x1f ∷ [])
    ++
    (0x20 ∷ 0x21 ∷ 0x22 ∷ 0x23 ∷ 0x24 ∷ 0x25 ∷ 0x26 ∷ 0x27 ∷ [])
    ++ (0x28 ∷ 0x29 ∷ 0x2a ∷ 0x2b ∷ 0x2c ∷ 0x2d ∷ 0x2e ∷ 0x2f ∷ 0x30 ∷ []))

abbrev pub side_by_side_given : List (List Answer)
side_by_side_given = all_read (output_with four_live under_way)

abbrev pub side_by_side_said : List (List Answer)
side_by_side_said =
    -- the settings
    alike (Value 0x41a0_0000)
    ∷ alike (Value 2000)
    ∷ alike (Value 0x4148_0000)
    ∷ alike (Value 0x40e0_0000)
    ∷ alike (Value 1)
    ∷ alike (Value 700)
    ∷ alike (Value 120000)
    ∷ alike (Value 0x4000_0000)
    ∷ alike (Value 0x42b4_0000)
    ∷ alike (Value 9)
    -- burning time, whole seconds to both
    ∷ alike (Value 12345)
    -- Present_Value 50.5 and Progress_Value 30.375 percent: 50 and 30 to a tenant
    ∷ (Value 0x4248_0000 ∷ Value 0x424a_0000 ∷ [])
    ∷ (Value 0x41f0_0000 ∷ Value 0x41f3_0000 ∷ [])
    ∷ alike (Value 1)
    -- the last command
    ∷ alike (Value 2)
    ∷ alike (Value 0x424a_0000)
    ∷ alike Absent
    ∷ alike Absent
    ∷ alike (Value 1000)
    ∷ alike (Value 5000)
    -- 15 and 16 are none; the relay; 1C to 20 are none
    ∷ alike (Refused 9)
    ∷ alike (Refused 9)
    ∷ alike (Value 0x4270_0000)
    ∷ alike (Value 0x4220_0000)
    ∷ alike (Value 1)
    ∷ alike (Value 1)
    ∷ alike (Value 0)
    ∷ alike (Refused 9)
    ∷ alike (Refused 9)
    ∷ alike (Refused 9)
    ∷ alike (Refused 9)
    ∷ alike (Refused 9)
    -- slots 1 to 6, of which 1 and 3 are live
    ∷ (Absent ∷ Value 0x424a_0000 ∷ [])
    ∷ alike Absent
    ∷ (Absent ∷ Value 0x41f0_0000 ∷ [])
    ∷ alike Absent
    ∷ alike Absent
    ∷ alike Absent
    -- slots 7 to 16
    ∷ alike (Value 0x41ce_0000)
    ∷ alike Absent
    ∷ alike Absent
    ∷ alike Absent
    ∷ alike Absent
    ∷ alike Absent
    ∷ alike Absent
    ∷ alike Absent
    ∷ alike Absent
    ∷ alike (Value 0x4270_0000)
    ∷ []

-- IN A WARNING slot 6 is live, here with 50.5 percent, and slot 8 holds 0: slots 5 to 8
abbrev warned : Output
warned =
    output_with
    (filled (filled fresh_output.slots 5 3309568) 7 0)
    (Warned (record { phase = Delay; owner = 7; level = 3309568; turn = 9000; over = 12000 }))

abbrev pub warned_given : List (List Answer)
warned_given = map (both_read warned) (0x25 ∷ 0x26 ∷ 0x27 ∷ 0x28 ∷ 0x0c ∷ 0x0d ∷ [])

abbrev pub warned_said : List (List Answer)
warned_said =
    alike Absent
    ∷ (Absent ∷ Value 0x424a_0000 ∷ [])
    ∷ alike Absent
    ∷ alike (Value 0)
    ∷ (Value 0x4248_0000 ∷ Value 0x424a_0000 ∷ [])
    ∷ (Value 0x4248_0000 ∷ Value 0x424a_0000 ∷ [])
    ∷ []

-- LEVELS of 0, 1 unit, 65,535, 65,536 and 65,537 units, 99 percent, a unit below 100 percent, and 100: as
-- Progress_Value of an output at the beginning of a way
abbrev at : ℕ → Output
at level =
    output_with four_live
    (Moving (record { owner = 0; start = level; target = 6553600; length = 1000; over = 11000; pace = Fade }))

abbrev pub rounded_given : List (List Answer)
rounded_given =
    map (λ (level : ℕ). both_read (at level) 0x0d) (0 ∷ 1 ∷ 65535 ∷ 65536 ∷ 65537 ∷ 6488064 ∷ 6553599 ∷ 6553600 ∷ [])

abbrev pub rounded_said : List (List Answer)
rounded_said =
    alike (Value 0)
    ∷ (Value 0 ∷ Value 0x3780_0000 ∷ [])
    ∷ (Value 0 ∷ Value 0x3f7f_ff00 ∷ [])
    ∷ alike (Value 0x3f80_0000)
    ∷ (Value 0x3f80_0000 ∷ Value 0x3f80_0080 ∷ [])
    ∷ alike (Value 0x42c6_0000)
    ∷ (Value 0x42c6_0000 ∷ Value 0x42c7_fffe ∷ [])
    ∷ alike (Value 0x42c8_0000)
    ∷ []

-- THE MARKS: of words with bit 0, bit 7, bits 0 and 31, all bits and none the stations 0, 1, 6, 7, 8 and 31
abbrev pub marks_given : List (List Bool)
marks_given =
    map
    (λ (marks : ℕ). map (is_tenant marks) (0 ∷ 1 ∷ 6 ∷ 7 ∷ 8 ∷ 31 ∷ []))
    (0x0000_0001 ∷ 0x0000_0080 ∷ 0x8000_0001 ∷ 0xffff_ffff ∷ 0 ∷ [])

abbrev pub marks_said : List (List Bool)
marks_said =
    (for_tenant ∷ for_service ∷ for_service ∷ for_service ∷ for_service ∷ for_service ∷ [])
    ∷ (for_service ∷ for_service ∷ for_service ∷ for_tenant ∷ for_service ∷ for_service ∷ [])
    ∷ (for_tenant ∷ for_service ∷ for_service ∷ for_service ∷ for_service ∷ for_tenant ∷ [])
    ∷ (for_tenant ∷ for_tenant ∷ for_tenant ∷ for_tenant ∷ for_tenant ∷ for_tenant ∷ [])
    ∷ (for_service ∷ for_service ∷ for_service ∷ for_service ∷ for_service ∷ for_service ∷ [])
    ∷ []
