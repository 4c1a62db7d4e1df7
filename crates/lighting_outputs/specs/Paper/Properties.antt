-- 'An output's record': the table of properties, what a write of each asks and changes, and what each reads
-- as.
use Rattle.std.specs.Prelude.{Bool, List, [], ◌∷◌, ℕ, ◌+◌, ◌-◌, ◌/◌, ◌%◌, min, ltb, leb, eqb, Float, Option, Some, None, Ok, Err}
use Rattle.lighting_levels.specs.Paper.Choice.{when◌then◌else◌}
use Rattle.lighting_outputs.specs.Paper.Parameters.{Parameters}
use Rattle.lighting_outputs.specs.Paper.Answers.{refusal_number}
use Rattle.lighting_levels.specs.Paper.Level.{real, bits, read_out, level_of, limit_of}
use Rattle.lighting_outputs.specs.Paper.Slots.{Slots, slot}
use Rattle.lighting_outputs.specs.Paper.Value.{present_value, progress_value, in_process}
use Rattle.lighting_outputs.specs.Paper.Relay.{relay_state}
use Rattle.lighting_outputs.specs.Paper.Tenants.{shown_level, hidden}
use Rattle.lighting_outputs.specs.Paper.Record.{with_settings}
use Rattle.lighting_outputs.specs.Paper.Rows.{within, is_priority, row_of, is_amount}
use Rattle.lighting_outputs.specs.Paper.Operations.{operation_number, fields_of}
use Rattle.lighting_outputs.specs.declared.Settings.{Settings}
use Rattle.lighting_outputs.specs.declared.Relay.{Relay}
use Rattle.lighting_outputs.specs.declared.Activity.{Activity}
use Rattle.lighting_outputs.specs.declared.Activity.TheVariants.{Still, Moving, Warned}
use Rattle.lighting_outputs.specs.declared.Duration.{Duration}
use Rattle.lighting_outputs.specs.declared.Duration.TheVariants.{Lasts, Cancels, Omitted}
use Rattle.lighting_outputs.specs.declared.Output.{Output}
use Rattle.lighting_outputs.specs.declared.Answer.{Answer}
use Rattle.lighting_outputs.specs.declared.Answer.TheVariants.{Value, Absent, Refused}
use Rattle.lighting_outputs.specs.declared.Property.{Property}
use Rattle.lighting_outputs.specs.declared.Property.TheVariants.{RelinquishDefault, FadeTime, RampRate, StepIncrement, BlinkEnable, BlinkTime, BlinkWarnDelay, MinValue, MaxValue, CommandPriority, ElapsedActiveTime, PresentValue, ProgressValue, InProcess, LastOperation, LastLevel, LastRate, LastStep, LastFadeTime, LastDuration, BinaryActiveValue, BinaryInactiveValue, Polarity, BinaryPresentValue, RelayState, SlotValue, Unknown}
use Rattle.lighting_outputs.specs.declared.Range.{Range}
use Rattle.lighting_outputs.specs.declared.Range.TheVariants.{Percent, Limit, Amount, Whole, Priority, ReadOnly}
use Rattle.lighting_outputs.specs.Paper.Answers.{Asked}
use Rattle.lighting_outputs.specs.declared.OutputRequest.TheVariants.{Change}
use Rattle.lighting_outputs.specs.declared.refusals.Refusal.TheVariants.{NotWritable, BadPriority, RealOutOfRange, WholeOutOfRange}

-- THE TABLE: each property's number; 00 is none
abbrev pub number_of : Property → ℕ
number_of Unknown = 0
number_of RelinquishDefault = 0x01
number_of FadeTime = 0x02
number_of RampRate = 0x03
number_of StepIncrement = 0x04
number_of BlinkEnable = 0x05
number_of BlinkTime = 0x06
number_of BlinkWarnDelay = 0x07
number_of MinValue = 0x08
number_of MaxValue = 0x09
number_of CommandPriority = 0x0a
number_of ElapsedActiveTime = 0x0b
number_of PresentValue = 0x0c
number_of ProgressValue = 0x0d
number_of InProcess = 0x0e
number_of LastOperation = 0x0f
number_of LastLevel = 0x10
number_of LastRate = 0x11
number_of LastStep = 0x12
number_of LastFadeTime = 0x13
number_of LastDuration = 0x14
number_of BinaryActiveValue = 0x17
number_of BinaryInactiveValue = 0x18
number_of Polarity = 0x19
number_of BinaryPresentValue = 0x1a
number_of RelayState = 0x1b
number_of (SlotValue i) = 0x21 + i

abbrev pub properties : List Property
properties =
    RelinquishDefault
    ∷ FadeTime
    ∷ RampRate
    ∷ StepIncrement
    ∷ BlinkEnable
    ∷ BlinkTime
    ∷ BlinkWarnDelay
    ∷ MinValue
    ∷ MaxValue
    ∷ CommandPriority
    ∷ ElapsedActiveTime
    ∷ PresentValue
    ∷ ProgressValue
    ∷ InProcess
    ∷ LastOperation
    ∷ LastLevel
    ∷ LastRate
    ∷ LastStep
    ∷ LastFadeTime
    ∷ LastDuration
    ∷ BinaryActiveValue
    ∷ BinaryInactiveValue
    ∷ Polarity
    ∷ BinaryPresentValue
    ∷ RelayState
    ∷ []

-- the property of a number, '21 to 30 slots 1 to 16'
unfoldable pub numbered : List Property → ℕ → Property
numbered [] n = Unknown
numbered (first ∷ rest) n = when eqb n (number_of first) then first else numbered rest n

unfoldable pub property_of : ℕ → Property
property_of n =
    when leb 0x21 n then (when leb n 0x30 then SlotValue (n - 0x21) else Unknown) else numbered properties n

-- the one is the other
unfoldable pub same : Property → Property → Bool
same one other = eqb (number_of one) (number_of other)

-- WRITES, kind 04: the value x, of 32 bits, as the property's row (Rows.antt) has it kept, or the refusal
-- that it meets: 'property unknown, or not writable' is 9, a priority's is 10, a REAL's 11, a whole number's
-- 12
unfoldable pub change_to : Property → Option ℕ → Asked
change_to property (Some v) = Ok (Change property v)
change_to property None = Err RealOutOfRange

unfoldable pub change_by : Range → Property → ℕ → Asked
change_by Percent property x = change_to property (level_of (real x))
change_by Limit property x = change_to property (limit_of (real x))
change_by Amount property x = when is_amount (real x) then Ok (Change property x) else Err RealOutOfRange
change_by (Whole low high) property x = when within low high x then Ok (Change property x) else Err WholeOutOfRange
change_by Priority property x = when is_priority x then Ok (Change property (x - 1)) else Err BadPriority
change_by ReadOnly property x = Err NotWritable

unfoldable pub change_of : Parameters → Property → ℕ → Asked
change_of p property x = change_by (row_of p property) property x

-- WHAT A WRITE CHANGES: of the settings the property, whose kept value is v. A slot stands in one byte
unfoldable pub settings_with : Settings → Property → ℕ → Settings
settings_with c property v =
    record {
      default = when same RelinquishDefault property then v else c.default;
      fade = when same FadeTime property then v else c.fade;
      ramp = when same RampRate property then real v else c.ramp;
      step = when same StepIncrement property then real v else c.step;
      enable = when same BlinkEnable property then eqb v 1 else c.enable;
      blink = when same BlinkTime property then v else c.blink;
      delay = when same BlinkWarnDelay property then v else c.delay;
      min = when same MinValue property then v else c.min;
      max = when same MaxValue property then v else c.max;
      slot = when same CommandPriority property then v % 256 else c.slot;
    }

-- and the settings of the relay (§3): its Binary_Present_Value is never written
unfoldable pub relay_with : Relay → Property → ℕ → Relay
relay_with r property v =
    record {
      active = when same BinaryActiveValue property then v else r.active;
      inactive = when same BinaryInactiveValue property then v else r.inactive;
      reverse = when same Polarity property then eqb v 1 else r.reverse;
      binary = r.binary;
    }

-- an end to a movement, and to nothing else
unfoldable pub end_movement : Activity → Activity
end_movement Still = Still
end_movement (Moving m) = Still
end_movement (Warned w) = Warned w

-- 'Writing 08 or 09 ends the movement'
unfoldable pub activity_with : Activity → Property → Activity
activity_with a property = when same MinValue property then end_movement a else when same MaxValue property then end_movement a else a

-- '0B Elapsed_Active_Time, written only with 0'
unfoldable pub burning_with : ℕ → Property → ℕ
burning_with b property = when same ElapsedActiveTime property then 0 else b

unfoldable pub changed : Output → Property → ℕ → Output
changed o property v =
    with_settings
    o
    (settings_with o.settings property v)
    (relay_with o.relay property v)
    (activity_with o.activity property)
    (burning_with o.burning property)

-- 'Min over Max', which is 13
unfoldable pub min_over_max : Settings → Bool
min_over_max c = ltb c.max c.min

-- READS. '01, 08, 09, 0C, 0D and slots read as levels', and so do 17 and 18, which are levels
unfoldable pub level_answer : ℕ → Answer
level_answer v = Value (read_out v)

-- '21 to 30 slots 1 to 16 (Absent if not live)'
unfoldable pub level_or_absent : Option ℕ → Answer
level_or_absent None = Absent
level_or_absent (Some v) = level_answer v

unfoldable pub slot_answer : Slots → ℕ → Answer
slot_answer s i = level_or_absent (slot s i)

unfoldable pub flag : Bool → ℕ
flag on = when on then 1 else 0

-- 'Elapsed_Active_Time reads floor(burning / 1,000), at most 4,294,967,295'
unfoldable pub elapsed_active : ℕ → ℕ
elapsed_active burning = min 4294967295 (burning / 1000)

-- '10 its level, 11 rate, 12 step, 13 fade time, 14 duration (Absent where it had none)', the REALs as they
-- were written
unfoldable pub real_answer : Float → Answer
real_answer amount = Value (bits amount)

unfoldable pub real_field_answer : Option Float → Answer
real_field_answer (Some amount) = real_answer amount
real_field_answer None = Absent

unfoldable pub time_field_answer : Option ℕ → Answer
time_field_answer (Some fade) = Value fade
time_field_answer None = Absent

unfoldable pub last_duration : Duration → Answer
last_duration (Lasts d) = Value d
last_duration Cancels = Value 0
last_duration Omitted = Absent

-- kind 05: what a property reads as at the time t, to a tenant or to a service station (§8); 'property
-- unknown' is 9
unfoldable pub read_property : Bool → ℕ → Output → Property → Answer
read_property tenant t o RelinquishDefault = level_answer o.settings.default
read_property tenant t o FadeTime = Value o.settings.fade
read_property tenant t o RampRate = real_answer o.settings.ramp
read_property tenant t o StepIncrement = real_answer o.settings.step
read_property tenant t o BlinkEnable = Value (flag o.settings.enable)
read_property tenant t o BlinkTime = Value o.settings.blink
read_property tenant t o BlinkWarnDelay = Value o.settings.delay
read_property tenant t o MinValue = level_answer o.settings.min
read_property tenant t o MaxValue = level_answer o.settings.max
read_property tenant t o CommandPriority = Value (o.settings.slot + 1)
read_property tenant t o ElapsedActiveTime = Value (elapsed_active o.burning)
read_property tenant t o PresentValue = level_answer (shown_level tenant (present_value o.settings o.slots))
read_property tenant t o ProgressValue = level_answer (shown_level tenant (progress_value t o))
read_property tenant t o InProcess = Value (in_process o.activity)
read_property tenant t o LastOperation = Value (operation_number o.last.operation)
read_property tenant t o LastLevel = real_field_answer (fields_of o.last.operation).level
read_property tenant t o LastRate = real_field_answer (fields_of o.last.operation).rate
read_property tenant t o LastStep = real_field_answer (fields_of o.last.operation).step
read_property tenant t o LastFadeTime = time_field_answer (fields_of o.last.operation).fade
read_property tenant t o LastDuration = last_duration o.last.duration
read_property tenant t o BinaryActiveValue = level_answer o.relay.active
read_property tenant t o BinaryInactiveValue = level_answer o.relay.inactive
read_property tenant t o Polarity = Value (flag o.relay.reverse)
read_property tenant t o BinaryPresentValue = Value (flag o.relay.binary)
read_property tenant t o RelayState = Value (flag (relay_state o.relay))
read_property tenant t o (SlotValue i) = when hidden tenant i then Absent else slot_answer o.slots i
read_property tenant t o Unknown = Refused (refusal_number NotWritable)
