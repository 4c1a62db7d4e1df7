-- Each of the eleven commands keeps the record rules.
use Rattle.std.specs.Prelude.{Option, Some, None}
use mathlib.Core.Path.{◌≡◌, sym, ap, ◌∙◌}
use mathlib.Core.Logic.{◌≢◌}
use mathlib.Core.Bool.{false}
use Prim.Native.Nat.{ℕ, ◌≤◌, ◌<◌}
use native.Mathlib.Omega.{arith}
use lib.Ieee.{Float}
use Rattle.lighting_outputs.specs.Paper.Parameters.{Parameters, longest_movement}
use Rattle.lighting_levels.specs.Paper.Choice.{when◌then◌else◌}
use Rattle.lighting_levels.specs.Paper.Level.{level_units, amount_units, distance}
use Rattle.lighting_outputs.specs.Paper.Slots.{slot6, Slots, is_live, winner, put, filled}
use Rattle.lighting_outputs.specs.Paper.Value.{clamp_lit, present_value, progress_value}
use Rattle.lighting_outputs.specs.Paper.Rows.{row_of}
use Rattle.lighting_outputs.specs.declared.Property.TheVariants.{FadeTime}
use Rattle.lighting_outputs.specs.Paper.Commands.{without_warning, activity_without_warning, replaced, placed, movement, ramp_length, target, faded_over, faded_to, ramped_at, ramped_to, jumped, went_to, step_up_from, step_down_from, stepped_up, stepped_down, raised, halted, stopped, relinquished, effect, timed, commanded_from, commanded}
use Rattle.lighting_outputs.specs.Paper.Record.{with_command}
use Rattle.lighting_outputs.specs.declared.Settings.{Settings}
use Rattle.lighting_outputs.specs.declared.Pace.{Pace}
use Rattle.lighting_outputs.specs.declared.Pace.TheVariants.{Fade, Ramp}
use Rattle.lighting_outputs.specs.declared.Activity.{Activity}
use Rattle.lighting_outputs.specs.declared.Activity.TheVariants.{Still, Moving, Warned}
use Rattle.lighting_outputs.specs.declared.Timer.{Timer}
use Rattle.lighting_outputs.specs.declared.Duration.{Duration}
use Rattle.lighting_outputs.specs.declared.Duration.TheVariants.{Lasts, Cancels, Omitted}
use Rattle.lighting_outputs.specs.declared.Operation.{Operation}
use Rattle.lighting_outputs.specs.declared.Operation.TheVariants.{Stop, FadeTo, FadeToOver, RampTo, RampToAtRate, StepUp, StepDown, StepUpBy, StepDownBy, Goto, Relinquish}
use Rattle.lighting_outputs.specs.declared.Command.{Command}
use Rattle.lighting_outputs.specs.declared.Effect.{Effect}
use Rattle.lighting_outputs.specs.declared.Output.{Output}
use Rattle.lighting_levels.proofs.Split.{by_eq, by_le}
use Rattle.lighting_levels.proofs.Ranges.{amount_range}
use Rattle.lighting_outputs.proofs.Priorities.Winner.{winner_filled, winning_level_filled, six_kept, six_set}
use Rattle.lighting_outputs.proofs.Rules.Facts.{IsLevel, Within, Slot, Meets, SettingsInRange, Filled, Acts, Timed, Sound}
use Rattle.lighting_outputs.proofs.Priorities.Levels.{level_zero, clamp_lit_level, put_filled}
use Rattle.lighting_outputs.proofs.Acts.Shown.{clamp_lit_most, clamp_lit_clamp_lit, progress_most, ramp_span}
use Rattle.lighting_outputs.proofs.Time.Ticking.{end_movement_of_acts}
use Rattle.lighting_outputs.proofs.Acts.Written.{moving_over}
use Rattle.lighting_outputs.proofs.Rules.RequestInRange.{DurationInRange, OperationInRange}

-- slots and activity, together
record Staged (p : Parameters) (t : ℕ) (c : Settings) (r : Effect) : Type 0 where
  slots : Filled r.slots
  activity : Acts p t c r.slots r.activity

-- THE WARNING'S END: after it slot 6 is empty
abbrev Calm : Activity → Type 0
Calm Still = Unit {0}
Calm (Moving m) = Unit {0}
Calm (Warned w) = ⊥

without_warning_calm : (a : Activity) → Calm (activity_without_warning a)
unfolding activity_without_warning
without_warning_calm Still = tt
without_warning_calm (Moving m) = tt
without_warning_calm (Warned w) = tt

six_empty : (p : Parameters) (t : ℕ) (c : Settings) (s : Slots) (a : Activity) → Calm a → Acts p t c s a → is_live s slot6 ≡ false
six_empty p t c s Still q h = h
six_empty p t c s (Moving m) q h = h.six
six_empty p t c s (Warned w) q h = elim q [ ]

without_warning_staged : (p : Parameters) (t : ℕ) (c : Settings) (s : Slots) (a : Activity) → Filled s → Acts p t c s a
    → Staged p t c (record { slots = without_warning s a; activity = activity_without_warning a })
unfolding without_warning activity_without_warning
without_warning_staged p t c s Still f h = record { slots = f; activity = h }
without_warning_staged p t c s (Moving m) f h = record { slots = f; activity = h }
without_warning_staged p t c s (Warned w) f h =
    record { slots = put_filled s slot6 None f (omega arith) tt; activity = six_set s f.size None }

-- A TARGET PUT IN SLOT p, at t, with settings c, slots s and activity a
module _ (p : Parameters) (t : ℕ) (c : Settings) (k : SettingsInRange p c) (s : Slots) (f : Filled s) (a : Activity) (q : Calm a) (h : Acts p t c s a) where
  -- slot 6 stays empty
  six : (x : Option ℕ) → is_live (put s c.slot x) slot6 ≡ false
  six x = six_kept s f.size c.slot x k.slot.inside k.slot.free ∙ six_empty p t c s a q h

  -- an activity goes on when a slot is filled that does not win
  outdone_acts : (g : ℕ) (b : Activity) → Calm b → Acts p t c s b → winner (filled s c.slot g) ≢ c.slot → Acts p t c (filled s c.slot g) b
  outdone_acts g Still r b n = six (Some g)
  outdone_acts g (Moving m) r b n =
      by_le
      c.slot
      (winner s)
      (λ l e. absurd (n (winner_filled s f.size c.slot g k.slot.inside l)))
      (λ l e. moving_over p t c s f.size c.slot k.slot (Some g) m l b)
  outdone_acts g (Warned w) r b n = elim r [ ]

  -- if it wins, the new activity has to fit the new slots
  placed_staged : (g : ℕ) (new : Activity) → IsLevel g → (winner (filled s c.slot g) ≡ c.slot → Acts p t c (filled s c.slot g) new)
      → Staged p t c (placed s a c.slot g new)
  unfolding placed replaced when◌then◌else◌
  placed_staged g new l fit =
      record {
        slots = put_filled s c.slot (Some g) f k.slot.inside l;
        activity =
            by_eq
            (winner (filled s c.slot g))
            c.slot
            (λ y e. rw e (fit y))
            (λ y e. rw e (outdone_acts g a q h y));
      }

  jumped_staged : (g : ℕ) → IsLevel g → Staged p t c (jumped c s a g)
  unfolding jumped
  jumped_staged g l = placed_staged g Still l (λ y. six (Some g))

  -- a movement from b to a target that Min..Max leave as it is
  moved_staged : (b g l : ℕ) (pace : Pace) → b ≤ c.max → IsLevel g → clamp_lit c g ≡ g → (b ≢ g → Within 1 (longest_movement p) l)
      → Staged p t c (placed s a c.slot g (movement t c.slot b g l pace))
  unfolding movement present_value when◌then◌else◌
  moved_staged b g l pace m v same long =
      placed_staged
      g
      (movement t c.slot b g l pace)
      v
      (λ w. by_eq
      b
      g
      (λ y e. rw e (six (Some g)))
      (λ y e. let z = long y in
      rw
      e
      (record {
        six = six (Some g);
        owner = k.slot.inside;
        wins = sym w;
        start = m;
        aims = sym (ap (clamp_lit c) (winning_level_filled s f.size c.default c.slot g k.slot.inside w) ∙ same);
        began = omega arith;
        long = z;
        later = omega (arith, z.least);
      })))

  stopped_staged : (b : ℕ) → b ≤ c.max → Staged p t c (stopped c b s a)
  unfolding stopped halted when◌then◌else◌
  stopped_staged b m = go a h
    where
      raised_level : IsLevel (raised c b)
      raised_level = unfold raised in
          (by_eq b 0 (λ y e. rw e level_zero)
          (λ y e. rw e (record { least = omega (arith, k.min); most = omega (arith, k.order, k.max) })))

      go : (a : Activity) → Acts p t c s a → Staged p t c (stopped c b s a)
      go Still h = record { slots = f; activity = h }
      go (Moving m) h =
          by_eq
          m.owner
          c.slot
          (λ y e. rw e
          (record {
            slots = put_filled s c.slot (Some (raised c b)) f k.slot.inside raised_level;
            activity = six (Some (raised c b));
          }))
          (λ y e. rw e (record { slots = f; activity = h }))
      go (Warned w) h = record { slots = f; activity = h }

  relinquished_staged : Staged p t c (relinquished c s a)
  unfolding relinquished
  relinquished_staged =
      record {
        slots = put_filled s c.slot None f k.slot.inside tt;
        activity = end_movement_of_acts p t c s c.slot a k.slot f h;
      }

  target_level : (x : Float) → IsLevel (target c x)
  unfolding target
  target_level x = clamp_lit_level p c (level_units x) k

  target_same : (x : Float) → clamp_lit c (target c x) ≡ target c x
  unfolding target
  target_same x = clamp_lit_clamp_lit p c (level_units x) k

  target_most : (x : Float) → target c x ≤ c.max
  unfolding target
  target_most x = clamp_lit_most c (level_units x)

  up_level : (b x : ℕ) → 0 < x → IsLevel (step_up_from c b x)
  unfolding step_up_from
  up_level b x y = record { least = omega (arith, k.min, k.order); most = omega (arith, k.max) }

  down_level : (b x : ℕ) → IsLevel (step_down_from c b x)
  unfolding step_down_from when◌then◌else◌
  down_level b x =
      by_eq b 0 (λ y e. rw e level_zero)
      (λ y e. rw e (record { least = omega (arith, k.min, k.order); most = omega (arith, k.max) }))

  faded_staged : (b l : ℕ) (x : Float) → b ≤ c.max → Meets (row_of p FadeTime) l → Staged p t c (faded_to t c b s a x l)
  unfolding faded_to faded_over
  faded_staged b l x m w =
      moved_staged b (target c x) l Fade m (target_level x) (target_same x) (λ n. record { least = omega (arith, w.least); most = omega (arith, w.most) })

  ramped_staged : (b : ℕ) (x r : Float) → b ≤ c.max → Staged p t c (ramped_to t c b s a x r)
  unfolding ramped_to ramped_at
  ramped_staged b x r m =
      moved_staged b (target c x) (ramp_length (distance b (target c x)) (amount_units r)) (Ramp (amount_units r)) m (target_level x) (target_same x) span
    where
      span : b ≢ target c x → Within 1 (longest_movement p) (ramp_length (distance b (target c x)) (amount_units r))
      span n =
          let z = ramp_span p (distance b (target c x)) (amount_units r) (omega arith) (omega (arith, target_most x, k.max)) (amount_range r).0 in
          record { least = z.0; most = z.1 }

  up_staged : (b : ℕ) (x : Float) → Staged p t c (stepped_up c b s a x)
  unfolding stepped_up
  up_staged b x = jumped_staged (step_up_from c b (amount_units x)) (up_level b (amount_units x) (omega (arith, amount_range x)))

  down_staged : (b : ℕ) (x : Float) → Staged p t c (stepped_down c b s a x)
  unfolding stepped_down
  down_staged b x = jumped_staged (step_down_from c b (amount_units x)) (down_level b (amount_units x))

  effect_staged : (b : ℕ) (o : Operation) → b ≤ c.max → OperationInRange p o → Staged p t c (effect t c b s a o)
  unfolding effect went_to
  effect_staged b Stop m g = stopped_staged b m
  effect_staged b (FadeTo x) m g = faded_staged b c.fade x m k.fade
  effect_staged b (FadeToOver x l) m g = faded_staged b l x m g
  effect_staged b (RampTo x) m g = ramped_staged b x c.ramp m
  effect_staged b (RampToAtRate x r) m g = ramped_staged b x r m
  effect_staged b StepUp m g = up_staged b c.step
  effect_staged b StepDown m g = down_staged b c.step
  effect_staged b (StepUpBy x) m g = up_staged b x
  effect_staged b (StepDownBy x) m g = down_staged b x
  effect_staged b (Goto x) m g = jumped_staged (target c x) (target_level x)
  effect_staged b Relinquish m g = relinquished_staged

-- THE DURATION
timed_kept : (p : Parameters) (t y : ℕ) (m : Option Timer) (d : Duration) → Slot y → DurationInRange p d → Timed t m → Timed t (timed t y m d)
unfolding timed
timed_kept p t y m (Lasts d) k g h = (k, omega (arith, g.least))
timed_kept p t y m Cancels k g h = tt
timed_kept p t y m Omitted k g h = h

pub commanded_sound : (p : Parameters) (t : ℕ) (o : Output) (k : Command) → OperationInRange p k.operation → DurationInRange p k.duration → Sound p t o → Sound p t (commanded t o k)
unfolding commanded commanded_from with_command
commanded_sound p t o k g d h =
    let u = without_warning_staged p t o.settings o.slots o.activity h.slots h.activity in
    let r =
    effect_staged p
    t
    o.settings
    h.settings
    (without_warning o.slots o.activity)
    u.slots
    (activity_without_warning o.activity)
    (without_warning_calm o.activity)
    u.activity
    (progress_value t o)
    k.operation
    (progress_most p t o h.activity)
    g in
    record {
      settings = h.settings;
      slots = r.slots;
      activity = r.activity;
      timer = timed_kept p t o.settings.slot o.timer k.duration h.settings.slot d h.timer;
      burnt = h.burnt;
      relay = h.relay;
    }
