-- 'The plain panel': how an output passes from one moment to another. The plain panel lives one millisecond
-- after another; the engine goes from due moment to due moment. Both do the same at a moment (`fire`).
use Rattle.std.specs.Prelude.{Bool, false, List, [], ◌∷◌, ℕ, zero, suc, ◌+◌, ltb, eqb, Option, Some, None}
use Rattle.lighting_levels.specs.Paper.Choice.{when◌then◌else◌}
use Rattle.lighting_outputs.specs.declared.Phase.{Phase}
use Rattle.lighting_outputs.specs.declared.Phase.TheVariants.{Blink, Delay}
use Rattle.lighting_outputs.specs.declared.Warning.{Warning}
use Rattle.lighting_outputs.specs.declared.Activity.{Activity}
use Rattle.lighting_outputs.specs.declared.Activity.TheVariants.{Still, Moving, Warned}
use Rattle.lighting_outputs.specs.declared.Timer.{Timer}
use Rattle.lighting_outputs.specs.declared.Output.{Output}
use Rattle.lighting_outputs.specs.Paper.Slots.{Slots, slot6, emptied, filled}
use Rattle.lighting_outputs.specs.Paper.Value.{present_value, lit}
use Rattle.lighting_outputs.specs.Paper.Relay.{switched}
use Rattle.lighting_outputs.specs.Paper.Record.{with_burning, with_due, with_relay}

-- 'Burning time gains a millisecond when Progress_Value is above zero' (§2 of the change requests): of the n
-- milliseconds from a moment on, those at whose start the lamp gives light
unfoldable pub lit_milliseconds : ℕ → ℕ → Output → ℕ
lit_milliseconds from zero o = 0
lit_milliseconds from (suc n) o = (when lit from o then 1 else 0) + lit_milliseconds (suc from) n o

unfoldable pub with_burned : ℕ → ℕ → Output → Output
with_burned from n o = with_burning o (o.burning + lit_milliseconds from n o)

-- a duration that is running
abbrev pub running : ℕ → ℕ → Option Timer
running slot due = Some (record { slot = slot; due = due })

-- WHEN SOMETHING FALLS DUE: a running duration at its own moment
unfoldable pub timer_due : Option Timer → Option ℕ
timer_due None = None
timer_due (Some timer) = Some timer.due

-- a warning at the end of its phase: 'Slot 6 holds 0 for B ms', until the turn, 'then Y for D ms'
unfoldable pub phase_end : Warning → Phase → ℕ
phase_end w Blink = w.turn
phase_end w Delay = w.over

unfoldable pub activity_due : Activity → Option ℕ
activity_due Still = None
activity_due (Moving m) = Some m.over
activity_due (Warned w) = Some (phase_end w w.phase)

-- all that can fall due on an output, each with its next moment
abbrev pub due_moments : Output → List (Option ℕ)
due_moments o = timer_due o.timer ∷ activity_due o.activity ∷ []

unfoldable pub is_due : ℕ → Option ℕ → Bool
is_due t None = false
is_due t (Some d) = eqb d t

-- WHAT FALLS DUE at the moment t. 'then a due duration empties its slot': the timer and the slots after it
unfoldable pub timer_at : ℕ → Option Timer → Option Timer
timer_at t timer = when is_due t (timer_due timer) then None else timer

unfoldable pub emptied_by : Option Timer → Slots → Slots
emptied_by None s = s
emptied_by (Some timer) s = emptied s timer.slot

unfoldable pub expired : ℕ → Option Timer → Slots → Slots
expired t timer s = when is_due t (timer_due timer) then emptied_by timer s else s

-- '(ending a movement that slot owned)'
unfoldable pub end_movement_of : ℕ → Activity → Activity
end_movement_of q Still = Still
end_movement_of q (Moving m) = when eqb m.owner q then Still else Moving m
end_movement_of q (Warned w) = Warned w

unfoldable pub end_movement_by : Option Timer → Activity → Activity
end_movement_by None a = a
end_movement_by (Some timer) a = end_movement_of timer.slot a

unfoldable pub end_movement_on_expiry : ℕ → Option Timer → Activity → Activity
end_movement_on_expiry t timer a = when is_due t (timer_due timer) then end_movement_by timer a else a

-- the warning's phases follow one another, the second if D is above 0, and a movement is over at its last
-- moment
unfoldable pub delayed : Warning → Warning
delayed w = record { phase = Delay; owner = w.owner; level = w.level; turn = w.turn; over = w.over }

unfoldable pub next_phase : Warning → Phase → Activity
next_phase w Blink = when ltb w.turn w.over then Warned (delayed w) else Still
next_phase w Delay = Still

unfoldable pub next_activity : Activity → Activity
next_activity Still = Still
next_activity (Moving m) = Still
next_activity (Warned w) = next_phase w w.phase

unfoldable pub activity_at : ℕ → Activity → Activity
activity_at t a = when is_due t (activity_due a) then next_activity a else a

-- 'then the warning's slots are set': 'Slot 6 holds 0 for B ms, then Y for D ms, then is empty; if D is above
-- 0, slot X empties with it'
unfoldable pub phase_slots : Warning → Phase → Slots → Slots
phase_slots w Blink s = when ltb w.turn w.over then filled s slot6 w.level else emptied s slot6
phase_slots w Delay s = emptied (emptied s slot6) w.owner

unfoldable pub next_slots : Activity → Slots → Slots
next_slots Still s = s
next_slots (Moving m) s = s
next_slots (Warned w) s = phase_slots w w.phase s

unfoldable pub slots_at : ℕ → Activity → Slots → Slots
slots_at t a s = when is_due t (activity_due a) then next_slots a s else s

-- 'It is judged after each frame's act and after each millisecond's due moments' (§3 of the change requests):
-- the relay, by Present_Value
unfoldable pub after_events : Output → Output
after_events o = with_relay o (switched (present_value o.settings o.slots) o.relay)

-- all of it. 'then Progress_Value by the movement's formula': it is not kept, `progress_value` has the
-- formula
unfoldable pub fire : ℕ → Output → Output
fire t o =
    after_events
    (with_due
    o
    (slots_at t (end_movement_on_expiry t o.timer o.activity) (expired t o.timer o.slots))
    (activity_at t (end_movement_on_expiry t o.timer o.activity))
    (timer_at t o.timer))

-- THE PLAIN PANEL's output: 'Passing from t to t + 1', and n times so
unfoldable pub tick : ℕ → Output → Output
tick t o = fire (suc t) (with_burned t 1 o)

unfoldable pub ticks : ℕ → ℕ → Output → Output
ticks zero t o = o
ticks (suc n) t o = ticks n (suc t) (tick t o)
