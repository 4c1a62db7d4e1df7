-- 'Writes and commands', kinds 02 and 03, with the 'Blink warning'.
use Rattle.std.specs.Prelude.{Bool, true, ℕ, ◌+◌, ◌-◌, ltb, leb, eqb, get_or}
use Rattle.lighting_levels.specs.Paper.Choice.{when◌then◌else◌, ◌also◌, all_from}
use Rattle.lighting_outputs.specs.declared.Settings.{Settings}
use Rattle.lighting_outputs.specs.declared.Phase.{Phase}
use Rattle.lighting_outputs.specs.declared.Phase.TheVariants.{Blink, Delay}
use Rattle.lighting_outputs.specs.declared.Warning.{Warning}
use Rattle.lighting_outputs.specs.declared.Activity.{Activity}
use Rattle.lighting_outputs.specs.declared.Activity.TheVariants.{Still, Moving, Warned}
use Rattle.lighting_outputs.specs.declared.Output.{Output}
use Rattle.lighting_outputs.specs.Paper.Slots.{Slots, slot_count, slot6, is_live, winner, emptied, filled}
use Rattle.lighting_outputs.specs.Paper.Value.{present_value}
use Rattle.lighting_outputs.specs.Paper.Record.{with_effect}

-- 'A movement goes on if P is above its owner's number [..]; else it ends', warnings aside
unfoldable pub end_movement_unless_above : ℕ → Activity → Activity
end_movement_unless_above i Still = Still
end_movement_unless_above i (Moving m) = when ltb m.owner i then Moving m else Still
end_movement_unless_above i (Warned w) = Warned w

-- 'Kinds 02 and 03 store in [..] slot P'
unfoldable pub stored : Output → ℕ → ℕ → Output
stored o i v = with_effect o (filled o.slots i v) (end_movement_unless_above i o.activity)

-- WHETHER A ZERO WRITTEN TO SLOT X STARTS A WARNING. Slot i is 'zero or empty', and so is each from i on
unfoldable pub zero_or_empty : Slots → ℕ → Bool
zero_or_empty s i = when is_live s i then eqb (get_or s.levels i 0) 0 else true

unfoldable pub zero_or_empty_from : Slots → ℕ → Bool
zero_or_empty_from s i = all_from (zero_or_empty s) (slot_count - i) i

-- 'if Blink_Enable is 1, Blink_Time B plus delay D is above 0'
unfoldable pub blinks : Settings → Bool
blinks c = c.enable also ltb 0 (c.blink + c.delay)

-- 'Relinquish_Default and slots X + 1 to 16 are zero or empty'
unfoldable pub zero_or_empty_above : Settings → Slots → ℕ → Bool
zero_or_empty_above c s x = eqb c.default 0 also zero_or_empty_from s (x + 1)

-- 'X from 7 to 16' (a frame's priority is at most 16), 'slots 1 to X - 1 are empty' (the winner, `first`, is
-- no lower), 'Present_Value Y was above 0'. That no warning is running, `written_by` sees to
unfoldable pub warns_by : Settings → Slots → ℕ → ℕ → ℕ → Bool
warns_by c s x first y = ltb slot6 x also blinks c also leb x first also ltb 0 y also zero_or_empty_above c s x

unfoldable pub warns : Settings → Slots → ℕ → Bool
warns c s x = warns_by c s x (winner s) (present_value c s)

-- A WARNING STARTS at t: 'Slot X gets 0. Slot 6 holds 0 for B ms, then Y for D ms'. With B = 0 it holds Y at
-- once
unfoldable pub first_level : Settings → ℕ → ℕ
first_level c y = when eqb c.blink 0 then y else 0

unfoldable pub first_phase : Settings → Phase
first_phase c = when eqb c.blink 0 then Delay else Blink

unfoldable pub warning_from : ℕ → Settings → ℕ → ℕ → Warning
warning_from t c x y =
    record { phase = first_phase c; owner = x; level = y; turn = t + c.blink; over = t + c.blink + c.delay }

unfoldable pub warned_by : ℕ → Output → ℕ → ℕ → Output
warned_by t o x y =
    with_effect o (filled (filled o.slots x 0) slot6 (first_level o.settings y)) (Warned (warning_from t o.settings x y))

unfoldable pub warned : ℕ → Output → ℕ → Output
warned t o x = warned_by t o x (present_value o.settings o.slots)

-- 'During a warning: kind 02 of zero at P above 6 empties slots 6 and P; [any other] empties slot 6 and
-- stores'
unfoldable pub ended_empty : Output → ℕ → Output
ended_empty o i = with_effect o (emptied (emptied o.slots slot6) i) Still

unfoldable pub ended_stored : Output → ℕ → ℕ → Output
ended_stored o i v = with_effect o (filled (emptied o.slots slot6) i v) Still

unfoldable pub written_warned : Output → ℕ → ℕ → Output
written_warned o i v = when eqb v 0 then (when ltb slot6 i then ended_empty o i else ended_stored o i v) else ended_stored o i v

-- KIND 02: level v written at t to slot i
unfoldable pub written_zero : ℕ → Output → ℕ → Output
written_zero t o i = when warns o.settings o.slots i then warned t o i else stored o i 0

unfoldable pub written_calm : ℕ → Output → ℕ → ℕ → Output
written_calm t o i v = when eqb v 0 then written_zero t o i else stored o i v

unfoldable pub written_by : ℕ → Output → ℕ → ℕ → Activity → Output
written_by t o i v Still = written_calm t o i v
written_by t o i v (Moving m) = written_calm t o i v
written_by t o i v (Warned w) = written_warned o i v

unfoldable pub written : ℕ → Output → ℕ → ℕ → Output
written t o i v = written_by t o i v o.activity

-- KIND 03: slot i emptied. A movement goes on also 'if kind 03 empties an empty slot'
unfoldable pub activity_relinquished : Bool → ℕ → Activity → Activity
activity_relinquished live i a = when live then end_movement_unless_above i a else a

unfoldable pub slot_relinquished : Output → ℕ → Output
slot_relinquished o i = with_effect o (emptied o.slots i) (activity_relinquished (is_live o.slots i) i o.activity)
