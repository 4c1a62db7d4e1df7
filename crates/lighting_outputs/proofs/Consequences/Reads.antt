-- KIND 05, by the property's NUMBER: what each of 01 to 14, 17 to 1B and 21 to 30 reads as, of every output
-- at every time, to a service station and to a tenant (§8).
use Rattle.std.specs.Prelude.{Option, Some, None}
use mathlib.Core.Path.{◌≡◌, refl}
use mathlib.Core.Bool.{Bool, true, false, not}
use mathlib.Core.List.{[], ◌∷◌, map}
use Prim.Native.Nat.{ℕ, ◌+◌, ◌*◌, ◌/◌, ◌≤◌, ◌<◌}
use native.Mathlib.Omega.{arith}
use native.Mathlib.Nat.{add-sub_cancel_left}
use Rattle.lighting_levels.specs.Paper.Choice.{when◌then◌else◌}
use Rattle.lighting_levels.specs.Paper.Level.{bits, read_out}
use Rattle.lighting_outputs.specs.Paper.Slots.{slot_count, slot6, slot}
use Rattle.lighting_outputs.specs.Paper.Value.{present_value, progress_value, in_process}
use Rattle.lighting_outputs.specs.Paper.Properties.{numbered, property_of, level_answer, level_or_absent, slot_answer, flag, elapsed_active, real_answer, read_property, real_field_answer, time_field_answer, last_duration}
use Rattle.lighting_outputs.specs.Paper.Relay.{relay_state}
use Rattle.lighting_outputs.specs.Paper.Acting.{unchanged, acted}
use lib.Ieee.{Float}
use Rattle.lighting_outputs.specs.Paper.Operations.{operation_number, fields_of}
use Rattle.lighting_outputs.specs.Paper.Record.{with_command}
use Rattle.lighting_outputs.specs.Paper.Tenants.{for_tenant, for_service, whole_percent, shown_level, hidden}
use Rattle.lighting_outputs.specs.declared.Operation.{Operation}
use Rattle.lighting_outputs.specs.declared.Operation.TheVariants.{Stop, FadeTo, FadeToOver, RampTo, RampToAtRate, StepUp, StepDown, StepUpBy, StepDownBy, Goto, Relinquish}
use Rattle.lighting_outputs.specs.declared.Duration.TheVariants.{Omitted}
use Rattle.lighting_outputs.specs.declared.Effect.{Effect}
use Rattle.lighting_outputs.specs.declared.Timer.{Timer}
use Rattle.lighting_outputs.specs.declared.Answer.{Answer}
use Rattle.lighting_outputs.specs.declared.Answer.TheVariants.{Done, Value, Absent, Refused}
use Rattle.lighting_outputs.specs.declared.OutputRequest.TheVariants.{Read}
use Rattle.lighting_outputs.specs.declared.Property.TheVariants.{SlotValue}
use Rattle.lighting_outputs.specs.declared.Output.{Output}
use Rattle.lighting_levels.proofs.Split.{leb_yes, leb_no}
use Rattle.lighting_outputs.proofs.Rules.Rows.{unlisted}

-- a read of property n of the output o at t, a frame of kind 05 whose byte 13 is n, by a tenant or by a
-- service station (§8); and by a service station
abbrev pub reads_as : Bool → ℕ → Output → ℕ → Answer
reads_as tenant t o n = (acted tenant t o (Read (property_of n))).answer

abbrev pub reads : ℕ → Output → ℕ → Answer
reads t o n = reads_as for_service t o n

-- 'Properties': 01 to 0B, and of the 'Read only' 0E, In_Process. They are exact for a tenant too
pub read_numbers : (tenant : Bool) (t : ℕ) (o : Output)
    → map (reads_as tenant t o) (0x01 ∷ 0x02 ∷ 0x03 ∷ 0x04 ∷ 0x05 ∷ 0x06 ∷ 0x07 ∷ 0x08 ∷ 0x09 ∷ 0x0a ∷ 0x0b ∷ 0x0e ∷ [])
    ≡ Value (read_out o.settings.default)
    ∷ Value o.settings.fade
    ∷ Value (bits o.settings.ramp)
    ∷ Value (bits o.settings.step)
    ∷ Value (when o.settings.enable then 1 else 0)
    ∷ Value o.settings.blink
    ∷ Value o.settings.delay
    ∷ Value (read_out o.settings.min)
    ∷ Value (read_out o.settings.max)
    ∷ Value (o.settings.slot + 1)
    ∷ Value (elapsed_active o.burning)
    ∷ Value (in_process o.activity)
    ∷ []
unfolding acted unchanged property_of numbered read_property level_answer real_answer flag when◌then◌else◌
read_numbers tenant t o = refl

-- 'Read only: 0C Present_Value, 0D Progress_Value', which a tenant reads 'rounded down to whole percent' (§8)
pub read_levels : (t : ℕ) (o : Output)
    → map (reads t o) (0x0c ∷ 0x0d ∷ [])
    ≡ Value (read_out (present_value o.settings o.slots)) ∷ Value (read_out (progress_value t o)) ∷ []
unfolding acted unchanged property_of numbered read_property shown_level level_answer when◌then◌else◌
read_levels t o = refl

pub read_rounded : (t : ℕ) (o : Output)
    → map (reads_as for_tenant t o) (0x0c ∷ 0x0d ∷ [])
    ≡ Value (read_out (present_value o.settings o.slots / 65536 * 65536))
    ∷ Value (read_out (progress_value t o / 65536 * 65536))
    ∷ []
unfolding acted unchanged property_of numbered read_property shown_level whole_percent level_answer when◌then◌else◌
read_rounded t o = refl

-- 'Binary_Active_Value and Binary_Inactive_Value (properties 17 and 18, levels [..]) and Polarity (19, 0
-- normal, 1 reverse [..]). Binary_Present_Value (1A, read only, 1 active, 0 inactive) [..] The relay's state
-- (1B, read only) is that value, or its opposite under reverse'
pub read_relay : (tenant : Bool) (t : ℕ) (o : Output)
    → map (reads_as tenant t o) (0x17 ∷ 0x18 ∷ 0x19 ∷ 0x1a ∷ 0x1b ∷ [])
    ≡ Value (read_out o.relay.active)
    ∷ Value (read_out o.relay.inactive)
    ∷ Value (when o.relay.reverse then 1 else 0)
    ∷ Value (when o.relay.binary then 1 else 0)
    ∷ Value (when (when o.relay.reverse then not o.relay.binary else o.relay.binary) then 1 else 0)
    ∷ []
unfolding acted unchanged property_of numbered read_property level_answer flag relay_state when◌then◌else◌
read_relay tenant t o = refl

-- '0F last operation (kind minus 10), 10 its level, 11 rate, 12 step, 13 fade time, 14 duration (Absent where
-- it had none)', after a command without a duration
pub read_last : (tenant : Bool) (t : ℕ) (o : Output) (r : Effect) (timer : Option Timer) (x y : Float) (f : ℕ)
    → map
    (λ (k : Operation). map (reads_as tenant t (with_command o r timer (record { operation = k; duration = Omitted })))
    (0x0f ∷ 0x10 ∷ 0x11 ∷ 0x12 ∷ 0x13 ∷ 0x14 ∷ []))
    (Stop ∷ FadeTo x ∷ FadeToOver x f ∷ RampTo x ∷ RampToAtRate x y ∷ StepUp ∷ StepDown ∷ StepUpBy x ∷ StepDownBy x ∷ Goto x ∷ Relinquish ∷ [])
    ≡ (Value 0 ∷ Absent ∷ Absent ∷ Absent ∷ Absent ∷ Absent ∷ [])
    ∷ (Value 1 ∷ Value (bits x) ∷ Absent ∷ Absent ∷ Absent ∷ Absent ∷ [])
    ∷ (Value 2 ∷ Value (bits x) ∷ Absent ∷ Absent ∷ Value f ∷ Absent ∷ [])
    ∷ (Value 3 ∷ Value (bits x) ∷ Absent ∷ Absent ∷ Absent ∷ Absent ∷ [])
    ∷ (Value 4 ∷ Value (bits x) ∷ Value (bits y) ∷ Absent ∷ Absent ∷ Absent ∷ [])
    ∷ (Value 5 ∷ Absent ∷ Absent ∷ Absent ∷ Absent ∷ Absent ∷ [])
    ∷ (Value 6 ∷ Absent ∷ Absent ∷ Absent ∷ Absent ∷ Absent ∷ [])
    ∷ (Value 7 ∷ Absent ∷ Absent ∷ Value (bits x) ∷ Absent ∷ Absent ∷ [])
    ∷ (Value 8 ∷ Absent ∷ Absent ∷ Value (bits x) ∷ Absent ∷ Absent ∷ [])
    ∷ (Value 9 ∷ Value (bits x) ∷ Absent ∷ Absent ∷ Absent ∷ Absent ∷ [])
    ∷ (Value 10 ∷ Absent ∷ Absent ∷ Absent ∷ Absent ∷ Absent ∷ [])
    ∷ []
unfolding acted unchanged property_of numbered read_property real_answer real_field_answer time_field_answer last_duration operation_number fields_of with_command when◌then◌else◌
read_last tenant t o r timer x y f = refl

-- 'property unknown' is 9: 00, 15 and 16, 1C to 20 and 31 on
pub read_between : (tenant : Bool) (t : ℕ) (o : Output)
    → map (reads_as tenant t o) (0x15 ∷ 0x16 ∷ []) ≡ Refused 9 ∷ Refused 9 ∷ []
unfolding acted unchanged property_of numbered read_property when◌then◌else◌
read_between tenant t o = refl

pub read_unknown : (tenant : Bool) (t : ℕ) (o : Output) (n : ℕ) → 0x1b < n → n < 0x21
    → reads_as tenant t o n ≡ Refused 9
unfolding acted unchanged property_of numbered read_property when◌then◌else◌
read_unknown tenant t o n h k = rw (leb_no {a = 0x21} {b = n} k, unlisted n h)

pub read_past : (tenant : Bool) (t : ℕ) (o : Output) (n : ℕ) → 0x30 < n → reads_as tenant t o n ≡ Refused 9
unfolding acted unchanged property_of numbered read_property when◌then◌else◌
read_past tenant t o n h = rw (leb_yes {a = 0x21} {b = n} (omega arith), leb_no {a = n} {b = 0x30} h)

pub read_none : (tenant : Bool) (t : ℕ) (o : Output) → reads_as tenant t o 0 ≡ Refused 9
unfolding acted unchanged property_of numbered read_property when◌then◌else◌
read_none tenant t o = refl

-- '21 to 30 slots 1 to 16 (Absent if not live)'
abbrev slot_as : Option ℕ → Answer
slot_as None = Absent
slot_as (Some v) = Value (read_out v)

slot_number : (i : ℕ) → i < slot_count → property_of (0x21 + i) ≡ SlotValue i
unfolding property_of when◌then◌else◌
slot_number i h =
    rw (
      leb_yes {a = 0x21} {b = 0x21 + i} (omega arith),
      leb_yes {a = 0x21 + i} {b = 0x30} (omega arith),
      add-sub_cancel_left 0x21 i,
    )

pub read_slots : (t : ℕ) (o : Output) (i : ℕ) → i < slot_count → reads t o (0x21 + i) ≡ slot_as (slot o.slots i)
unfolding acted unchanged read_property hidden slot_answer when◌then◌else◌
read_slots t o i h = rw (slot_number i h) (by (slot o.slots i))
  where
    by : (x : Option ℕ) → level_or_absent x ≡ slot_as x
    by None = unfold level_or_absent in refl
    by (Some v) = unfold level_or_absent level_answer in refl

-- 'A tenant reading slots 1 to 6 gets Absent' (§8), live or not; slots 7 to 16 it reads as anyone
pub hides : (i : ℕ) → i < 6 → hidden for_tenant i ≡ true
unfolding hidden when◌then◌else◌
hides i h = leb_yes {a = i} {b = slot6} (omega arith)

pub hides_no_more : (i : ℕ) → 6 ≤ i → hidden for_tenant i ≡ false
unfolding hidden when◌then◌else◌
hides_no_more i h = leb_no {a = i} {b = slot6} (omega arith)

hides_from_none : (i : ℕ) → hidden for_service i ≡ false
unfolding hidden when◌then◌else◌
hides_from_none i = refl

pub read_hidden : (t : ℕ) (o : Output) (i : ℕ) → i < 6 → reads_as for_tenant t o (0x21 + i) ≡ Absent
unfolding acted unchanged read_property when◌then◌else◌
read_hidden t o i h = rw (slot_number i (omega arith), hides i h)

pub read_shown : (t : ℕ) (o : Output) (i : ℕ) → 6 ≤ i → i < slot_count
    → reads_as for_tenant t o (0x21 + i) ≡ reads t o (0x21 + i)
unfolding acted unchanged read_property when◌then◌else◌
read_shown t o i h k = rw (slot_number i k, hides_no_more i h, hides_from_none i)

-- what is refused is not Done
pub refused : {A : Type 0} {r : ℕ} → ◌≡◌ {A = Answer} (Refused r) Done → A
refused h = let z : ◌≡◌ {A = ℕ} 0 1 = cc in absurd (omega arith)
