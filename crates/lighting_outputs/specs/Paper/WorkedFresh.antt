-- A FRESH OUTPUT, read: what kind 05 answers to the number of each property, beside what the papers say.
-- proofs/Figures.antt proves them equal.
use Rattle.std.specs.Prelude.{List, [], ◌∷◌, map, ℕ}
use Rattle.lighting_outputs.specs.Paper.Parameters.{document01}
use Rattle.lighting_outputs.specs.Paper.Slots.{Slots, emptied}
use Rattle.lighting_outputs.specs.Paper.Properties.{property_of}
use Rattle.lighting_outputs.specs.Paper.Fresh.{fresh_for}
use Rattle.lighting_outputs.specs.Paper.Acting.{acted}
use Rattle.lighting_outputs.specs.Paper.Tenants.{for_service}
use Rattle.lighting_outputs.specs.declared.Answer.{Answer}
use Rattle.lighting_outputs.specs.declared.Answer.TheVariants.{Value, Absent}
use Rattle.lighting_outputs.specs.declared.Output.{Output}
use Rattle.lighting_outputs.specs.declared.OutputRequest.TheVariants.{Read}

abbrev fresh : Output
fresh = fresh_for (document01 1)

abbrev read : ℕ → Answer
read n = (acted for_service 0 fresh (Read (property_of n))).answer

-- 01 to 0B and 0C to 0E; 0F to 14, the last command; 17 to 1B (§3); 21 to 30, the slots
abbrev pub fresh_given : List (List Answer)
fresh_given =
    map read (0x01 ∷ 0x02 ∷ 0x03 ∷ 0x04 ∷ 0x05 ∷ 0x06 ∷ 0x07 ∷ 0x08 ∷ 0x09 ∷ 0x0a ∷ 0x0b ∷ [])
    ∷ map read (0x0c ∷ 0x0d ∷ 0x0e ∷ [])
    ∷ map read (0x0f ∷ 0x10 ∷ 0x11 ∷ 0x12 ∷ 0x13 ∷ 0x14 ∷ [])
    ∷ map read (0x17 ∷ 0x18 ∷ 0x19 ∷ 0x1a ∷ 0x1b ∷ [])
    ∷ map read (0x21 ∷ 0x22 ∷ 0x23 ∷ 0x24 ∷ 0x25 ∷ 0x26 ∷ 0x27 ∷ 0x28 ∷ 0x29 ∷ 0x2a ∷ 0x2b ∷ 0x2c ∷ 0x2d ∷ 0x2e ∷ 0x2f ∷ 0x30 ∷ [])
    ∷ []

-- '01 Relinquish_Default 0; 02 Fade_Time 1,000; 03 Ramp_Rate 10; 04 Step_Increment 5; 05 Blink_Enable 0 [..];
-- 06 Blink_Time 0 and 07 Blink_Warn_Delay 0 [..]; 08 Min 1 and 09 Max 100 [..]; 0A Lighting_Command_Priority
-- 16'; 'last operation STOP without duration, burning time 0'; 'no live slot'; of §3 '50 and 45', '0 normal',
-- 'starts inactive'
abbrev pub fresh_said : List (List Answer)
fresh_said =
    (Value 0
    ∷ Value 1000
    ∷ Value 0x4120_0000
    ∷ Value 0x40a0_0000
    ∷ Value 0
    ∷ Value 0
    ∷ Value 0
    ∷ Value 0x3f80_0000
    ∷ Value 0x42c8_0000
    ∷ Value 16
    ∷ Value 0
    ∷ [])
    ∷ (Value 0 ∷ Value 0 ∷ Value 0 ∷ [])
    ∷ (Value 0 ∷ Absent ∷ Absent ∷ Absent ∷ Absent ∷ Absent ∷ [])
    ∷ (Value 0x4248_0000 ∷ Value 0x4234_0000 ∷ Value 0 ∷ Value 0 ∷ Value 0 ∷ [])
    ∷ (Absent ∷ Absent ∷ Absent ∷ Absent ∷ Absent ∷ Absent ∷ Absent ∷ Absent ∷ Absent ∷ Absent ∷ Absent ∷ Absent ∷ Absent ∷ Absent ∷ Absent ∷ Absent ∷ [])
    ∷ []

-- 'no live slot': slots 1, 6 and 16 are as emptying leaves them
abbrev pub emptied_given : List Slots
emptied_given = map (emptied fresh.slots) (0 ∷ 5 ∷ 15 ∷ [])

abbrev pub emptied_said : List Slots
emptied_said = fresh.slots ∷ fresh.slots ∷ fresh.slots ∷ []
