-- Where nothing falls due on the way, the engine's way is burning alone: of any record at all.
use mathlib.Core.Path.{◌≡◌, refl, sym, ap, ◌∙◌}
use mathlib.Core.Bool.{Bool, true, false}
use Prim.Native.Nat.{ℕ, zero, suc, ◌+◌, ◌-◌, ◌≤◌, min}
use native.Mathlib.Nat.{sub_self}
use native.Mathlib.Omega.{arith}
use Rattle.lighting_outputs.specs.Engine.Advance.{greatest_count, burned_by, with_burned_saturating, event_step, event_steps, advance, later}
use Rattle.lighting_outputs.specs.Paper.Record.{with_burning}
use lib.Dec.{eqb}
use Rattle.lighting_levels.specs.Paper.Choice.{when◌then◌else◌}
use Rattle.lighting_outputs.specs.Paper.Value.{present_value, in_process}
use Rattle.lighting_outputs.specs.Engine.Light.{lit_in_movement, lit_resting, lit_stretch}
use Rattle.lighting_outputs.specs.declared.Output.{Output}
use Rattle.lighting_levels.proofs.Split.{le_of}
use Rattle.lighting_outputs.proofs.Time.Light.{counted}
use Rattle.lighting_outputs.proofs.Time.Passing.{After, fire_due_quiet, lit_milliseconds_le, before_due, due_here}

later_after : (to : ℕ) (o : Output) → later to o ≡ true → After to o
unfolding later
later_after to o h = before_due to greatest_count o (le_of h)

with_burned_saturating_after : (t from n : ℕ) (o : Output) → After t o → After t (with_burned_saturating from n o)
unfolding with_burned_saturating burned_by with_burning
with_burned_saturating_after t from n o a = record { all = a.all }

-- no more burning in no time
with_burned_saturating_none : (t : ℕ) (o : Output) → o.burning ≤ greatest_count → with_burned_saturating t 0 o ≡ o
unfolding with_burned_saturating burned_by with_burning
with_burned_saturating_none t o h =
    let e : min (o.burning + lit_stretch t 0 o) greatest_count ≡ o.burning = omega (arith, counted t 0 o, lit_milliseconds_le t 0 o) in
    rw e

with_burned_saturating_top : (from n : ℕ) (o : Output) → (with_burned_saturating from n o).burning ≤ greatest_count
unfolding with_burned_saturating burned_by with_burning
with_burned_saturating_top from n o = omega arith

-- at `to` already: each step leaves the output as it is
event_steps_none : (k to : ℕ) (o : Output) → After to o → o.burning ≤ greatest_count → event_steps k to to o ≡ o
unfolding event_steps event_step
event_steps_none zero to o a b = rw (sub_self to) (with_burned_saturating_none to o b)
event_steps_none (suc k) to o a b =
    rw (due_here to o a, sub_self to, with_burned_saturating_none to o b, fire_due_quiet to o a) (event_steps_none k to o a b)

event_steps_later : (k now to : ℕ) (o : Output) → After to o → event_steps k now to o ≡ with_burned_saturating now (to - now) o
unfolding event_steps event_step
event_steps_later zero now to o a = refl
event_steps_later (suc k) now to o a =
    let g = with_burned_saturating_after to now (to - now) o a in
    rw
    (due_here to o a, fire_due_quiet to (with_burned_saturating now (to - now) o) g)
    (event_steps_none k to (with_burned_saturating now (to - now) o) g (with_burned_saturating_top now (to - now) o))

advance_burned : (now to : ℕ) (o : Output) → later to o ≡ true → advance now to o ≡ burned_by (lit_stretch now (to - now) o) o
unfolding advance with_burned_saturating
advance_burned now to o h = event_steps_later 3 now to o (later_after to o h)

-- in the form in which code cites it: f is what the test said, x what is counted, r what was made of it
pub advance_later : (now to x : ℕ) (o r : Output) (f : Bool) → f ≡ later to o → f ≡ true → lit_stretch now (to - now) o ≡ x
    → r ≡ burned_by x o → r ≡ advance now to o
advance_later now to x o r f e t c h = h ∙ ap (λ (n : ℕ). burned_by n o) (sym c) ∙ sym (advance_burned now to o (sym e ∙ t))

-- and what is counted: by the movement, or by Present_Value alone. g is whether the output moves
pub stretch_moving : (from n : ℕ) (o : Output) (g : Bool) → g ≡ eqb (in_process o.activity) 1 → g ≡ true
    → lit_stretch from n o ≡ lit_in_movement from n o.activity
unfolding lit_stretch when◌then◌else◌
stretch_moving from n o g d u = rw (sym d ∙ u)

pub stretch_resting : (from n : ℕ) (o : Output) (g : Bool) → g ≡ eqb (in_process o.activity) 1 → g ≡ false
    → lit_stretch from n o ≡ lit_resting n (present_value o.settings o.slots)
unfolding lit_stretch when◌then◌else◌
stretch_resting from n o g d u = rw (sym d ∙ u)
