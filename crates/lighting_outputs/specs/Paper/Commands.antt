-- 'Writes and commands': the eleven commands and the duration. A command acts on slot p,
-- Lighting_Command_Priority.
use Rattle.std.specs.Prelude.{ℕ, ◌+◌, ◌-◌, ◌*◌, ◌/◌, max, eqb, Float, Option, None}
use Rattle.lighting_levels.specs.Paper.Choice.{when◌then◌else◌}
use Rattle.lighting_levels.specs.Paper.Level.{level_units, amount_units, distance}
use Rattle.lighting_outputs.specs.Paper.Slots.{Slots, slot6, winner, emptied, filled}
use Rattle.lighting_outputs.specs.Paper.Value.{clamp, clamp_lit, progress_value}
use Rattle.lighting_outputs.specs.Paper.Record.{with_command}
use Rattle.lighting_outputs.specs.Paper.Passing.{end_movement_of, running}
use Rattle.lighting_outputs.specs.declared.Settings.{Settings}
use Rattle.lighting_outputs.specs.declared.Pace.{Pace}
use Rattle.lighting_outputs.specs.declared.Pace.TheVariants.{Fade, Ramp}
use Rattle.lighting_outputs.specs.declared.Activity.{Activity}
use Rattle.lighting_outputs.specs.declared.Activity.TheVariants.{Still, Moving, Warned}
use Rattle.lighting_outputs.specs.declared.Timer.{Timer}
use Rattle.lighting_outputs.specs.declared.Duration.{Duration}
use Rattle.lighting_outputs.specs.declared.Duration.TheVariants.{Lasts, Cancels, Omitted}
use Rattle.lighting_outputs.specs.declared.Operation.{Operation}
use Rattle.lighting_outputs.specs.declared.Operation.TheVariants.{Stop, FadeTo, FadeToOver, RampTo, RampToAtRate, StepUp, StepDown, StepUpBy, StepDownBy, Goto, Relinquish}
use Rattle.lighting_outputs.specs.declared.Command.{Command}
use Rattle.lighting_outputs.specs.declared.Effect.{Effect}
use Rattle.lighting_outputs.specs.declared.Output.{Output}

-- 'and first ends any warning by emptying slot 6'
unfoldable pub without_warning : Slots → Activity → Slots
without_warning s Still = s
without_warning s (Moving m) = s
without_warning s (Warned w) = emptied s slot6

unfoldable pub activity_without_warning : Activity → Activity
activity_without_warning Still = Still
activity_without_warning (Moving m) = Moving m
activity_without_warning (Warned w) = Still

-- 'put in slot p. If p is then the winner (`first`) it replaces the movement; if not, an existing movement
-- goes on'
unfoldable pub replaced : ℕ → ℕ → Activity → Activity → Activity
replaced first p new old = when eqb first p then new else old

unfoldable pub placed : Slots → Activity → ℕ → ℕ → Activity → Effect
placed s a p g new = record { slots = filled s p g; activity = replaced (winner (filled s p g)) p new a }

-- a movement of slot p at t from f, the paper's s, to g over l: 'If s = g there is no movement'
unfoldable pub movement : ℕ → ℕ → ℕ → ℕ → ℕ → Pace → Activity
movement t p f g l pace =
    when eqb f g then Still else Moving (record { owner = p; start = f; target = g; length = l; over = t + l; pace = pace })

-- 'L = ceiling(1,000 × |g - s| / R)', of the way
unfoldable pub ramp_length : ℕ → ℕ → ℕ
ramp_length way r = (1000 * way + (r - 1)) / r

-- 'A target is brought into Min..Max if above zero'
unfoldable pub target : Settings → Float → ℕ
target c x = clamp_lit c (level_units x)

-- THE EFFECT: the slots and the activity after a command, which starts at t from the level f, with the
-- settings c, the slots s and the activity a
unfoldable pub faded_over : ℕ → Settings → ℕ → Slots → Activity → ℕ → ℕ → Effect
faded_over t c f s a g l = placed s a c.slot g (movement t c.slot f g l Fade)

unfoldable pub faded_to : ℕ → Settings → ℕ → Slots → Activity → Float → ℕ → Effect
faded_to t c f s a x l = faded_over t c f s a (target c x) l

unfoldable pub ramped_at : ℕ → Settings → ℕ → Slots → Activity → ℕ → ℕ → Effect
ramped_at t c f s a g r = placed s a c.slot g (movement t c.slot f g (ramp_length (distance f g) r) (Ramp r))

unfoldable pub ramped_to : ℕ → Settings → ℕ → Slots → Activity → Float → Float → Effect
ramped_to t c f s a x r = ramped_at t c f s a (target c x) (amount_units r)

-- 'GOTO and steps jump'
unfoldable pub jumped : Settings → Slots → Activity → ℕ → Effect
jumped c s a g = placed s a c.slot g Still

unfoldable pub went_to : Settings → Slots → Activity → Float → Effect
went_to c s a x = jumped c s a (target c x)

-- 'Step up: s plus step; step down: s minus step, not below 0; both brought into Min..Max. Step down from s =
-- 0 stays 0'
unfoldable pub step_up_from : Settings → ℕ → ℕ → ℕ
step_up_from c f step = clamp c (f + step)

unfoldable pub step_down_from : Settings → ℕ → ℕ → ℕ
step_down_from c f step = when eqb f 0 then 0 else clamp c (f - step)

unfoldable pub stepped_up : Settings → ℕ → Slots → Activity → Float → Effect
stepped_up c f s a x = jumped c s a (step_up_from c f (amount_units x))

unfoldable pub stepped_down : Settings → ℕ → Slots → Activity → Float → Effect
stepped_down c f s a x = jumped c s a (step_down_from c f (amount_units x))

-- 'STOP: if a movement belongs to p, it ends and slot p gets the reached level, raised to Min if above zero.
-- Else it changes no slot'. A warning has ended before (`activity_without_warning`)
unfoldable pub raised : Settings → ℕ → ℕ
raised c v = when eqb v 0 then 0 else max c.min v

unfoldable pub halted : Settings → ℕ → Slots → Effect
halted c f s = record { slots = filled s c.slot (raised c f); activity = Still }

abbrev pub as_it_is : Slots → Activity → Effect
as_it_is s a = record { slots = s; activity = a }

unfoldable pub stopped : Settings → ℕ → Slots → Activity → Effect
stopped c f s Still = as_it_is s Still
stopped c f s (Moving m) = when eqb m.owner c.slot then halted c f s else as_it_is s (Moving m)
stopped c f s (Warned w) = as_it_is s (Warned w)

-- 'RELINQUISH empties slot p; if p owned the movement, it ends'
unfoldable pub relinquished : Settings → Slots → Activity → Effect
relinquished c s a = record { slots = emptied s c.slot; activity = end_movement_of c.slot a }

unfoldable pub effect : ℕ → Settings → ℕ → Slots → Activity → Operation → Effect
effect t c f s a Stop = stopped c f s a
effect t c f s a (FadeTo x) = faded_to t c f s a x c.fade
effect t c f s a (FadeToOver x l) = faded_to t c f s a x l
effect t c f s a (RampTo x) = ramped_to t c f s a x c.ramp
effect t c f s a (RampToAtRate x r) = ramped_to t c f s a x r
effect t c f s a StepUp = stepped_up c f s a c.step
effect t c f s a StepDown = stepped_down c f s a c.step
effect t c f s a (StepUpBy x) = stepped_up c f s a x
effect t c f s a (StepDownBy x) = stepped_down c f s a x
effect t c f s a (Goto x) = went_to c s a x
effect t c f s a Relinquish = relinquished c s a

-- 'Duration d above zero, with every command: slot p empties d ms later. [..] a new one replaces it, 0
-- cancels it, Absent leaves it running'
unfoldable pub timed : ℕ → ℕ → Option Timer → Duration → Option Timer
timed t p timer (Lasts d) = running p (t + d)
timed t p timer Cancels = None
timed t p timer Omitted = timer

-- 'It starts from Progress_Value before it': f
unfoldable pub commanded_from : ℕ → Output → ℕ → Command → Output
commanded_from t o f k =
    with_command
    o
    (effect t o.settings f (without_warning o.slots o.activity) (activity_without_warning o.activity) k.operation)
    (timed t o.settings.slot o.timer k.duration)
    k

unfoldable pub commanded : ℕ → Output → Command → Output
commanded t o k = commanded_from t o (progress_value t o) k
