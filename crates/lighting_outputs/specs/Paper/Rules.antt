-- 'Record rules', as the test that the engine makes on every lent record. Slots are counted from 0: 7 to 16
-- are 6 to 15.
use Rattle.std.specs.Prelude.{Bool, true, false, not, ℕ, ◌+◌, ◌-◌, ltb, leb, eqb, get_or, Option, Some, None}
use Rattle.lighting_levels.specs.Paper.Choice.{when◌then◌else◌, ◌also◌, all_from}
use Rattle.lighting_outputs.specs.Paper.Parameters.{Parameters, longest_movement}
use Rattle.lighting_outputs.specs.Paper.Slots.{Slots, slot_count, slot16, slot6, is_live, winner}
use Rattle.lighting_outputs.specs.Paper.Value.{present_value}
use Rattle.lighting_outputs.specs.Paper.Relay.{binary_at}
use Rattle.lighting_outputs.specs.Paper.Passing.{phase_end}
use Rattle.lighting_outputs.specs.Paper.Rows.{is_level, row_of, within, is_amount, is_slot, meets}
use Rattle.lighting_outputs.specs.declared.Property.TheVariants.{RelinquishDefault, FadeTime, BlinkTime, BlinkWarnDelay, MinValue, MaxValue, CommandPriority, BinaryActiveValue, BinaryInactiveValue}
use Rattle.lighting_outputs.specs.declared.Settings.{Settings}
use Rattle.lighting_outputs.specs.declared.Relay.{Relay}
use Rattle.lighting_outputs.specs.declared.Movement.{Movement}
use Rattle.lighting_outputs.specs.declared.Warning.{Warning}
use Rattle.lighting_outputs.specs.declared.Activity.{Activity}
use Rattle.lighting_outputs.specs.declared.Activity.TheVariants.{Still, Moving, Warned}
use Rattle.lighting_outputs.specs.declared.Timer.{Timer}
use Rattle.lighting_outputs.specs.declared.Output.{Output}

-- 'settings in range, Min at most Max': each meets the row of its property (Rows.antt). A flag is always in
-- range. The levels, the times, the REALs
unfoldable pub levels_sound : Parameters → Settings → Bool
levels_sound p c =
    meets (row_of p RelinquishDefault) c.default
    also meets (row_of p MinValue) c.min
    also meets (row_of p MaxValue) c.max
    also leb c.min c.max

unfoldable pub times_sound : Parameters → Settings → Bool
times_sound p c =
    meets (row_of p FadeTime) c.fade also meets (row_of p BlinkTime) c.blink also meets (row_of p BlinkWarnDelay) c.delay

-- Ramp_Rate and Step_Increment, which are kept as REALs: 'REAL 0.125 to 100', as their row has it
unfoldable pub reals_sound : Settings → Bool
reals_sound c = is_amount c.ramp also is_amount c.step

unfoldable pub settings_sound : Parameters → Settings → Bool
settings_sound p c =
    levels_sound p c also times_sound p c also reals_sound c also meets (row_of p CommandPriority) c.slot

-- a live slot holds a level
unfoldable pub slot_sound : Slots → ℕ → Bool
slot_sound s i = when is_live s i then is_level (get_or s.levels i 0) else true

unfoldable pub slots_sound : Slots → Bool
slots_sound s = all_from (slot_sound s) slot_count 0

-- 'began no later than panel time' (what is left of it is not longer than it lasts), 'lasts 1 to 86,400,000
-- ms', up to the longest movement (§6), 'every due moment is after panel time'
unfoldable pub span_sound : Parameters → ℕ → Movement → Bool
span_sound p t m = ltb t m.over also leb (m.over - t) m.length also within 1 (longest_movement p) m.length

-- 'a movement belongs to the winner' w, 'starts from 0 to Max, aims at Present_Value' v
unfoldable pub movement_sound : Parameters → ℕ → ℕ → ℕ → ℕ → Movement → Bool
movement_sound p t first high v m =
    ltb m.owner slot_count also eqb m.owner first also leb m.start high also eqb m.target v also span_sound p t m

-- 'a warning, whose own slot is 7 to 16 and whose Y is a slot level'. Its end is not before that of its
-- phase, here e, so that both are after panel time and stay so. In Delay the turn is past, and no due moment
unfoldable pub warning_by : ℕ → Warning → ℕ → Bool
warning_by t w e = within (slot6 + 1) slot16 w.owner also is_level w.level also ltb t e also leb e w.over

unfoldable pub warning_sound : ℕ → Warning → Bool
warning_sound t w = warning_by t w (phase_end w w.phase)

-- 'slot 6 live exactly during a warning'. l: whether slot 6 is live; first: the winner; high: Max; v:
-- Present_Value
unfoldable pub activity_by : Parameters → ℕ → Bool → ℕ → ℕ → ℕ → Activity → Bool
activity_by p t l first high v Still = not l
activity_by p t l first high v (Moving m) = when l then false else movement_sound p t first high v m
activity_by p t l first high v (Warned g) = l also warning_sound t g

unfoldable pub activity_sound : Parameters → ℕ → Settings → Slots → Activity → Bool
activity_sound p t c s a = activity_by p t (is_live s slot6) (winner s) c.max (present_value c s) a

-- 'no duration tied to slot 6', and its moment after panel time
unfoldable pub timer_sound : ℕ → Option Timer → Bool
timer_sound t None = true
timer_sound t (Some timer) = is_slot timer.slot also ltb t timer.due

-- §3: 'both are in Relinquish_Default's range, the inactive value is below the active one, and
-- Binary_Present_Value is as judging leaves it'. A polarity is always in range. v: Present_Value
unfoldable pub agrees : Bool → Bool → Bool
agrees one other = when one then other else not other

unfoldable pub relay_sound : Parameters → ℕ → Relay → Bool
relay_sound p v r =
    meets (row_of p BinaryActiveValue) r.active
    also meets (row_of p BinaryInactiveValue) r.inactive
    also ltb r.inactive r.active
    also agrees r.binary (binary_at v r)

-- an output's record at panel time t; 'burning time is at most panel time'
unfoldable pub sound : Parameters → ℕ → Output → Bool
sound p t o =
    settings_sound p o.settings
    also slots_sound o.slots
    also activity_sound p t o.settings o.slots o.activity
    also timer_sound t o.timer
    also leb o.burning t
    also relay_sound p (present_value o.settings o.slots) o.relay
