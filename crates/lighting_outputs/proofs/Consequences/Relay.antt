-- THE RELAY (§3 of the change requests): what follows for every output.
use mathlib.Core.Path.{◌≡◌, refl, ap, ◌∙◌}
use mathlib.Core.Bool.{Bool, true, false, not}
use Prim.Native.Nat.{ℕ, zero, suc, ◌+◌, ◌≤◌, ◌<◌}
use native.Mathlib.Omega.{arith}
use lib.Dec.{ltb, eqb}
use Rattle.lighting_levels.specs.Paper.Choice.{when◌then◌else◌}
use Rattle.lighting_outputs.specs.Paper.Slots.{slot6}
use Rattle.lighting_outputs.specs.Paper.Value.{present_value, progress_value}
use Rattle.lighting_outputs.specs.Paper.Relay.{binary_at, switched, relay_state, inactive_not_below}
use Rattle.lighting_outputs.specs.Paper.Record.{with_burning, with_relay, with_effect, with_command, with_settings}
use Rattle.lighting_outputs.specs.Paper.Passing.{with_burned, after_events, fire, tick, ticks}
use Rattle.lighting_outputs.specs.Paper.Writing.{stored, warns, warned_by, warned, ended_empty, ended_stored, written_warned, written_zero, written_calm, written_by, written, slot_relinquished}
use Rattle.lighting_outputs.specs.Paper.Properties.{same, settings_with, relay_with, changed, min_over_max}
use Rattle.lighting_outputs.specs.Paper.Commands.{commanded_from, commanded}
use Rattle.lighting_outputs.specs.Paper.Acting.{done, unchanged, changed_unless, acted}
use Rattle.lighting_outputs.specs.Paper.Tenants.{for_service}
use Rattle.lighting_outputs.specs.declared.Pace.{Pace}
use Rattle.lighting_outputs.specs.declared.Activity.{Activity}
use Rattle.lighting_outputs.specs.declared.Activity.TheVariants.{Still, Moving, Warned}
use Rattle.lighting_outputs.specs.declared.Property.{Property}
use Rattle.lighting_outputs.specs.declared.Property.TheVariants.{Polarity}
use Rattle.lighting_outputs.specs.declared.Relay.{Relay}
use Rattle.lighting_outputs.specs.declared.Command.{Command}
use Rattle.lighting_outputs.specs.declared.OutputRequest.{OutputRequest}
use Rattle.lighting_outputs.specs.declared.OutputRequest.TheVariants.{Write, Empty, Change, Read, Commands}
use Rattle.lighting_outputs.specs.declared.Output.{Output}
use Rattle.lighting_outputs.specs.declared.Outcome.{Outcome}
use Rattle.lighting_levels.proofs.Split.{by_bool, leb_yes, leb_no}
use Rattle.lighting_outputs.proofs.Time.Judged.{after_events_judged}
use Rattle.lighting_outputs.proofs.Time.Passing.{TimerAfter, After, both_after, lit_milliseconds_alike, quiet_ticks}
use Rattle.lighting_outputs.proofs.Time.Unjudged.{quiet_but_relay}
use Rattle.lighting_outputs.proofs.Acts.Acted.{by_change}
use Rattle.lighting_outputs.proofs.Consequences.Durations.{written_rest}
use Rattle.lighting_outputs.proofs.Consequences.Movements.{along, Course}

abbrev pub present : Output → ℕ
present o = present_value o.settings o.slots

-- WHEN IT IS JUDGED: once a millisecond, by Present_Value after all that falls due in it
pub tick_relay : (t : ℕ) (o : Output) → (tick t o).relay ≡ switched (present (tick t o)) o.relay
unfolding tick fire after_events with_burned with_burning
tick_relay t o = refl

-- HOW: active at or above the one value, inactive at or below the other
pub at_or_above : (v : ℕ) (r : Relay) → r.active ≤ v → (switched v r).binary ≡ true
unfolding switched binary_at when◌then◌else◌
at_or_above v r h = rw (leb_yes {a = r.active} {b = v} h)

pub at_or_below : (v : ℕ) (r : Relay) → r.inactive < r.active → v ≤ r.inactive → (switched v r).binary ≡ false
unfolding switched binary_at when◌then◌else◌
at_or_below v r b h = rw (leb_no {a = r.active} {b = v} (omega arith), leb_yes {a = v} {b = r.inactive} h)

-- BETWEEN THE TWO NOTHING CHANGES IT: no judging, no millisecond, and nothing that a frame asks
pub between : (v : ℕ) (r : Relay) → r.inactive < v → v < r.active → switched v r ≡ r
unfolding switched binary_at when◌then◌else◌
between v r h k = rw (leb_no {a = r.active} {b = v} k, leb_no {a = v} {b = r.inactive} h)

pub between_tick : (t : ℕ) (o : Output) → o.relay.inactive < present (tick t o) → present (tick t o) < o.relay.active → (tick t o).relay ≡ o.relay
between_tick t o h k = tick_relay t o ∙ between (present (tick t o)) o.relay h k

record Between (o : Output) : Type 0 where
  low : o.relay.inactive < present o
  high : present o < o.relay.active

judged_between : (o z : Output) → z.relay.binary ≡ o.relay.binary → Between (after_events z) → (after_events z).relay.binary ≡ o.relay.binary
unfolding after_events
judged_between o z e b =
    ap (λ (r : Relay). r.binary) (between (present z) z.relay (unfold switched in b.low) (unfold switched in b.high)) ∙ e

binary_kept : (tenant : Bool) (t : ℕ) (o : Output) (q : OutputRequest) → Between (acted tenant t o q).output
    → (acted tenant t o q).output.relay.binary ≡ o.relay.binary
unfolding acted done unchanged
binary_kept tenant t o (Write i v) b =
    judged_between o (written t o i v) (ap (λ (r : Relay). r.binary) (written_rest t o i v).relay) b
binary_kept tenant t o (Empty i) b =
    judged_between o (slot_relinquished o i) (unfold slot_relinquished with_effect in refl) b
binary_kept tenant t o (Change property v) b =
    by_change
    (λ (done : Outcome). Between done.output → done.output.relay.binary ≡ o.relay.binary)
    tenant
    t
    o
    property
    v
    (λ number l c. refl)
    (λ e e' c. judged_between o (changed o property v) (unfold changed with_settings relay_with in refl) c)
    b
binary_kept tenant t o (Read property) b = refl
binary_kept tenant t o (Commands k) b =
    judged_between o (commanded t o k) (unfold commanded commanded_from with_command in refl) b

pub between_acted : (tenant : Bool) (t : ℕ) (o : Output) (q : OutputRequest)
    → (acted tenant t o q).output.relay.inactive < present (acted tenant t o q).output
    → present (acted tenant t o q).output < (acted tenant t o q).output.relay.active
    → (acted tenant t o q).output.relay.binary ≡ o.relay.binary
between_acted tenant t o q h k = binary_kept tenant t o q (record { low = h; high = k })

-- IT FOLLOWS PRESENT_VALUE, NOT PROGRESS_VALUE: while a movement to g lasts, Progress_Value is on its way,
-- and the relay is as g has switched it
module _ (t : ℕ) (o : Output) (k : Command) (g l : ℕ) (w : Pace) (course : Course t o (commanded t o k) g l w) where
  abbrev moving : Output
  moving = (acted for_service t o (Commands k)).output

  pub follows_present : (n : ℕ) → n < l → TimerAfter (t + n) (commanded t o k).timer
      → (progress_value (t + n) (ticks n t moving) ≡ along w (progress_value t o) g l n) × ((ticks n t moving).relay ≡ switched g o.relay)
  unfolding acted done
  follows_present n h a =
      rw
      (quiet_ticks n t (after_events (commanded t o k)) later (after_events_judged (commanded t o k)))
      (progress ∙ course.between n (omega arith) a, relay)
    where
      after : After (t + n) (commanded t o k)
      after = both_after (t + n) (commanded t o k) a (course.lasts n h)

      later : After (t + n) (after_events (commanded t o k))
      later = unfold after_events in (record { all = after.all })

      relay : (with_burned t n (after_events (commanded t o k))).relay ≡ switched g o.relay
      relay = unfold with_burned with_burning after_events in
          (ap (λ (v : ℕ). switched v (commanded t o k).relay) course.shows ∙ (unfold commanded commanded_from with_command in refl))

      progress : progress_value (t + n) (with_burned t n (after_events (commanded t o k))) ≡ progress_value (t + n) (ticks n t (commanded t o k))
      progress = unfold with_burned with_burning after_events progress_value in (rw (quiet_but_relay n t (commanded t o k) after))

-- UNDER REVERSE IT IS THE OPPOSITE, at every moment: an output and the same with the other polarity stay so,
-- whatever happens but a write of 19
unfoldable pub reversed : Output → Output
reversed o =
    with_relay
    o
    (record { active = o.relay.active; inactive = o.relay.inactive; reverse = not o.relay.reverse; binary = o.relay.binary })

pub opposite : (o : Output) → relay_state (reversed o).relay ≡ not (relay_state o.relay)
unfolding reversed relay_state when◌then◌else◌
opposite o = go o.relay.reverse o.relay.binary
  where
    go : (reverse binary : Bool) → (when not reverse then not binary else binary) ≡ not (when reverse then not binary else binary)
    go true true = refl
    go true false = refl
    go false binary = refl

tick_reversed : (t : ℕ) (o : Output) → tick t (reversed o) ≡ reversed (tick t o)
unfolding tick fire after_events with_burned with_burning switched binary_at reversed
tick_reversed t o = rw (lit_milliseconds_alike t 1 o (reversed o) refl refl refl)

ticks_reversed : (n t : ℕ) (o : Output) → ticks n t (reversed o) ≡ reversed (ticks n t o)
unfolding ticks
ticks_reversed zero t o = refl
ticks_reversed (suc n) t o = ap (ticks n (suc t)) (tick_reversed t o) ∙ ticks_reversed n (suc t) (tick t o)

pub opposite_ticks : (n t : ℕ) (o : Output) → relay_state (ticks n t (reversed o)).relay ≡ not (relay_state (ticks n t o).relay)
opposite_ticks n t o = rw (ticks_reversed n t o) (opposite (ticks n t o))

-- and what a frame asks
abbrev pub NoPolarity : OutputRequest → Type 0
NoPolarity (Write i v) = Unit {0}
NoPolarity (Empty i) = Unit {0}
NoPolarity (Change property v) = same Polarity property ≡ false
NoPolarity (Read property) = Unit {0}
NoPolarity (Commands k) = Unit {0}

judged_reversed : (o z : Output) → z ≡ reversed o → after_events z ≡ reversed (after_events o)
judged_reversed o z e = rw e (unfold after_events switched binary_at reversed in refl)

written_reversed : (t : ℕ) (o : Output) (i v : ℕ) → written t (reversed o) i v ≡ reversed (written t o i v)
unfolding written written_by reversed
written_reversed t o i v = go o.activity
  where
    calm : written_calm t (reversed o) i v ≡ reversed (written_calm t o i v)
    calm = unfold written_calm written_zero stored warned warned_by with_effect when◌then◌else◌ in
        (by_bool (eqb v 0) (λ e. rw e (by_bool (warns o.settings o.slots i) (λ e'. rw e') (λ e'. rw e'))) (λ e. rw e))

    go : (a : Activity) → written_by t (reversed o) i v a ≡ reversed (written_by t o i v a)
    go Still = calm
    go (Moving m) = calm
    go (Warned warning) = unfold written_warned ended_empty ended_stored with_effect when◌then◌else◌ in
        (by_bool (eqb v 0) (λ e. rw e (by_bool (ltb slot6 i) (λ e'. rw e') (λ e'. rw e'))) (λ e. rw e))

changed_reversed : (o : Output) (property : Property) (v : ℕ) → same Polarity property ≡ false
    → changed (reversed o) property v ≡ reversed (changed o property v)
unfolding changed with_settings relay_with reversed when◌then◌else◌
changed_reversed o property v e = rw e

acted_reversed : (tenant : Bool) (t : ℕ) (o : Output) (q : OutputRequest) → NoPolarity q
    → (acted tenant t (reversed o) q).output ≡ reversed (acted tenant t o q).output
unfolding acted done unchanged
acted_reversed tenant t o (Write i v) p =
    judged_reversed (written t o i v) (written t (reversed o) i v) (written_reversed t o i v)
acted_reversed tenant t o (Empty i) p =
    judged_reversed (slot_relinquished o i) (slot_relinquished (reversed o) i) (unfold slot_relinquished with_effect reversed in refl)
acted_reversed tenant t o (Change property v) p = unfold changed_unless when◌then◌else◌ in
    (by_bool
    (min_over_max (settings_with o.settings property v))
    (λ e. unfold reversed in (rw e))
    (λ e. by_bool
    (inactive_not_below (relay_with o.relay property v))
    (λ e'. unfold reversed relay_with inactive_not_below in (rw (e, e')))
    (λ e'. unfold reversed relay_with inactive_not_below in
    (rw
    (e, e')
    (judged_reversed (changed o property v) (changed (reversed o) property v) (changed_reversed o property v p))))))
acted_reversed tenant t o (Read property) p = refl
acted_reversed tenant t o (Commands k) p =
    judged_reversed (commanded t o k) (commanded t (reversed o) k) (unfold commanded commanded_from with_command progress_value reversed in refl)

pub opposite_acted : (tenant : Bool) (t : ℕ) (o : Output) (q : OutputRequest) → NoPolarity q
    → relay_state (acted tenant t (reversed o) q).output.relay ≡ not (relay_state (acted tenant t o q).output.relay)
opposite_acted tenant t o q p = rw (acted_reversed tenant t o q p) (opposite (acted tenant t o q).output)
