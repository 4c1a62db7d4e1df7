-- WHAT A PROPERTY'S VALUE MUST BE: one row a property. By it a write is judged (`change_by`, Properties.antt)
-- and so is what a record keeps (`settings_sound`, Rules.antt).
use Rattle.std.specs.Prelude.{Bool, true, false, ℕ, ◌-◌, ltb, leb, eqb, Float}
use Rattle.lighting_levels.specs.Paper.Choice.{when◌then◌else◌, ◌also◌}
use Rattle.lighting_outputs.specs.Paper.Parameters.{Parameters, longest_blink}
use Rattle.lighting_levels.specs.Paper.Level.{least_level, greatest_level, real, in_range, amount_of}
use Rattle.lighting_outputs.specs.Paper.Slots.{slot_count, slot6}
use Rattle.lighting_outputs.specs.declared.Property.{Property}
use Rattle.lighting_outputs.specs.declared.Property.TheVariants.{RelinquishDefault, FadeTime, RampRate, StepIncrement, BlinkEnable, BlinkTime, BlinkWarnDelay, MinValue, MaxValue, CommandPriority, ElapsedActiveTime, PresentValue, ProgressValue, InProcess, LastOperation, LastLevel, LastRate, LastStep, LastFadeTime, LastDuration, BinaryActiveValue, BinaryInactiveValue, Polarity, BinaryPresentValue, RelayState, SlotValue, Unknown}
use Rattle.lighting_outputs.specs.declared.Range.{Range}
use Rattle.lighting_outputs.specs.declared.Range.TheVariants.{Percent, Limit, Amount, Whole, Priority, ReadOnly}

-- THE ROWS. 'Fade times: 100 to 86,400,000' ends at the set's longest fade time; blink times are 'each up to
-- 86,400,000'; '0B Elapsed_Active_Time, written only with 0'. Those of §3: 'both are in Relinquish_Default's
-- range', 'Polarity (19, 0 normal, 1 reverse)'
abbrev pub row_of : Parameters → Property → Range
row_of p RelinquishDefault = Percent
row_of p FadeTime = Whole 100 p.fade
row_of p RampRate = Amount
row_of p StepIncrement = Amount
row_of p BlinkEnable = Whole 0 1
row_of p BlinkTime = Whole 0 longest_blink
row_of p BlinkWarnDelay = Whole 0 longest_blink
row_of p MinValue = Limit
row_of p MaxValue = Limit
row_of p CommandPriority = Priority
row_of p ElapsedActiveTime = Whole 0 0
row_of p PresentValue = ReadOnly
row_of p ProgressValue = ReadOnly
row_of p InProcess = ReadOnly
row_of p LastOperation = ReadOnly
row_of p LastLevel = ReadOnly
row_of p LastRate = ReadOnly
row_of p LastStep = ReadOnly
row_of p LastFadeTime = ReadOnly
row_of p LastDuration = ReadOnly
row_of p BinaryActiveValue = Percent
row_of p BinaryInactiveValue = Percent
row_of p Polarity = Whole 0 1
row_of p BinaryPresentValue = ReadOnly
row_of p RelayState = ReadOnly
row_of p (SlotValue i) = ReadOnly
row_of p Unknown = ReadOnly

-- A whole number from low to high
unfoldable pub within : ℕ → ℕ → ℕ → Bool
within low high v = leb low v also leb v high

-- 'slot levels and Relinquish_Default 0 or 65,536 to 6,553,600'
unfoldable pub is_level : ℕ → Bool
is_level v = when eqb v 0 then true else within least_level greatest_level v

-- 'REAL 0.125 to 100'
unfoldable pub is_amount : Float → Bool
is_amount x = in_range (amount_of x)

-- a slot that a frame may name, counted from 0: any of the sixteen but slot 6; and its priority: not '0, 6 or
-- over 16'
unfoldable pub is_slot : ℕ → Bool
is_slot i = when eqb i slot6 then false else ltb i slot_count

unfoldable pub is_priority : ℕ → Bool
is_priority n = when eqb n 0 then false else is_slot (n - 1)

-- WHAT IS KEPT meets its row: v a level in units, a REAL's pattern, the number itself or the slot
unfoldable pub meets : Range → ℕ → Bool
meets Percent v = is_level v
meets Limit v = within least_level greatest_level v
meets Amount v = is_amount (real v)
meets (Whole low high) v = within low high v
meets Priority v = is_slot v
meets ReadOnly v = false
