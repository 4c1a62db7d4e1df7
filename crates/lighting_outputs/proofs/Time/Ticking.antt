-- A tick keeps the record rules, and so does the engine's way.
use Rattle.std.specs.Prelude.{Some, None, Option}
use mathlib.Core.Path.{◌≡◌, ◌∙◌}
use mathlib.Core.Logic.{◌≢◌}
use mathlib.Core.Bool.{true}
use Prim.Native.Nat.{ℕ, zero, suc, ◌+◌, ◌-◌, ◌≤◌}
use native.Mathlib.Nat.{add-zero}
use native.Mathlib.Omega.{arith}
use Rattle.lighting_outputs.specs.Paper.Parameters.{Parameters}
use Rattle.lighting_levels.specs.Paper.Choice.{when◌then◌else◌}
use Rattle.lighting_levels.proofs.Split.{by_eq, by_lt, by_bool}
use Rattle.lighting_outputs.specs.declared.Settings.{Settings}
use Rattle.lighting_outputs.specs.declared.Phase.{Phase}
use Rattle.lighting_outputs.specs.declared.Phase.TheVariants.{Blink, Delay}
use Rattle.lighting_outputs.specs.declared.Warning.{Warning}
use Rattle.lighting_outputs.specs.declared.Activity.{Activity}
use Rattle.lighting_outputs.specs.declared.Activity.TheVariants.{Still, Moving, Warned}
use Rattle.lighting_outputs.specs.declared.Timer.{Timer}
use Rattle.lighting_outputs.specs.declared.Relay.{Relay}
use Rattle.lighting_outputs.specs.declared.Output.{Output}
use Rattle.lighting_outputs.specs.Paper.Slots.{slot6, Slots, is_live, emptied}
use Rattle.lighting_outputs.proofs.Priorities.Winner.{winner_empty, winning_level_empty, six_kept, six_set}
use Rattle.lighting_outputs.specs.Paper.Value.{present_value}
use Rattle.lighting_outputs.specs.Paper.Relay.{switched}
use Rattle.lighting_outputs.specs.Paper.Record.{with_burning}
use Rattle.lighting_outputs.specs.Paper.Passing.{with_burned, timer_due, phase_end, activity_due, is_due, timer_at, emptied_by, expired, end_movement_of, end_movement_by, end_movement_on_expiry, delayed, next_phase, next_activity, activity_at, phase_slots, next_slots, slots_at, after_events, fire, tick, ticks}
use Rattle.lighting_outputs.specs.Engine.Advance.{greatest_count, advance}
use Rattle.lighting_outputs.proofs.Time.Passing.{lit_milliseconds_le, advance_ticks}
use Rattle.lighting_outputs.proofs.Rules.Facts.{IsLevel, Within, Slot, Filled, Moves, Acts, Timed, RelayInRange, Sound, Lawful}
use Rattle.lighting_outputs.proofs.Time.Judged.{tick_judged}
use Rattle.lighting_outputs.proofs.Rules.Tied.{sound_calm}
use Rattle.lighting_outputs.proofs.Priorities.Levels.{put_filled}

-- slots and activity together
record Effect (p : Parameters) (t : ℕ) (c : Settings) (s : Slots) (a : Activity) : Type 0 where
  slots : Filled s
  activity : Acts p t c s a

-- THE DURATION
pub end_movement_of_acts : (p : Parameters) (t : ℕ) (c : Settings) (s : Slots) (q : ℕ) (a : Activity) → Slot q → Filled s → Acts p t c s a
    → Acts p t c (emptied s q) (end_movement_of q a)
unfolding end_movement_of when◌then◌else◌
end_movement_of_acts p t c s q Still g f h = six_kept s f.size q None g.inside g.free ∙ h
end_movement_of_acts p t c s q (Moving m) g f h =
    let k = six_kept s f.size q None g.inside g.free in
    by_eq m.owner q (λ z e. rw e (k ∙ h.six)) (λ z e. rw e (goes_on z k))
  where
    goes_on : m.owner ≢ q → is_live (emptied s q) slot6 ≡ is_live s slot6 → Moves p t c (emptied s q) m
    goes_on n k =
        let w = winner_empty s f.size q g.inside (omega (arith, h.wins)) in
        let z = winning_level_empty s f.size c.default q g.inside (omega (arith, h.wins)) in
        unfold present_value in search arith
end_movement_of_acts p t c s q (Warned w) g f h = let k = six_kept s f.size q None g.inside g.free in search

expired_effect : (p : Parameters) (t d : ℕ) (c : Settings) (s : Slots) (m : Option Timer) (a : Activity) → Timed t m → Filled s → Acts p t c s a
    → Effect p t c (expired d m s) (end_movement_on_expiry d m a)
unfolding expired end_movement_on_expiry when◌then◌else◌
expired_effect p t d c s m a k f h =
    by_bool (is_due d (timer_due m)) (λ e. rw e (falls m k)) (λ e. rw e (record { slots = f; activity = h }))
  where
    falls : (n : Option Timer) → Timed t n → Effect p t c (emptied_by n s) (end_movement_by n a)
    falls None k = unfold emptied_by end_movement_by in (record { slots = f; activity = h })
    falls (Some timer) k = unfold emptied_by end_movement_by in
        (record { slots = put_filled s timer.slot None f k.0.inside tt; activity = end_movement_of_acts p t c s timer.slot a k.0 f h })

-- THE WARNING AND THE MOVEMENT
phase_effect : (p : Parameters) (t : ℕ) (c : Settings) (s : Slots) (w : Warning) (z : Phase) → Filled s → is_live s slot6 ≡ true → Within 6 15 w.owner
    → IsLevel w.level → phase_end w z ≡ t → Effect p t c (phase_slots w z s) (next_phase w z)
unfolding phase_slots next_phase delayed phase_end when◌then◌else◌
phase_effect p t c s w Blink f l x y h =
    by_lt
    w.turn
    w.over
    (λ q e. rw e
    (let k = six_set s f.size (Some w.level) in
    record { slots = put_filled s slot6 (Some w.level) f (omega arith) y; activity = search arith }))
    (λ q e. rw e (record { slots = put_filled s slot6 None f (omega arith) tt; activity = six_set s f.size None }))
phase_effect p t c s w Delay f l x y h =
    let f₁ = put_filled s slot6 None f (omega arith) tt in
    record {
      slots = put_filled (emptied s slot6) w.owner None f₁ (omega (arith, x)) tt;
      activity = six_kept (emptied s slot6) f₁.size w.owner None (omega (arith, x)) (omega (arith, x)) ∙ six_set s f.size None;
    }

next_effect : (p : Parameters) (t : ℕ) (c : Settings) (s : Slots) (a : Activity) → Filled s → Acts p t c s a
    → Effect p (suc t) c (slots_at (suc t) a s) (activity_at (suc t) a)
unfolding slots_at activity_at next_slots next_activity activity_due is_due when◌then◌else◌
next_effect p t c s Still f h = record { slots = f; activity = h }
next_effect p t c s (Moving m) f h =
    by_eq
    m.over
    (suc t)
    (λ z e. rw e (record { slots = f; activity = h.six }))
    (λ z e. rw e (record { slots = f; activity = search arith }))
next_effect p t c s (Warned w) f h =
    by_eq
    (phase_end w w.phase)
    (suc t)
    (λ z e. rw e (phase_effect p (suc t) c s w w.phase f h.six h.owner h.level z))
    (λ z e. rw e (record { slots = f; activity = search arith }))

next_timer : (t : ℕ) (m : Option Timer) → Timed t m → Timed (suc t) (timer_at (suc t) m)
unfolding timer_at timer_due is_due when◌then◌else◌
next_timer t None h = tt
next_timer t (Some timer) h = by_eq timer.due (suc t) (λ z e. rw e tt) (λ z e. rw e (h.0, omega (arith, h.1)))

-- judging leaves what the relay is set to
switched_range : (p : Parameters) (v : ℕ) (r : Relay) → RelayInRange p r → RelayInRange p (switched v r)
unfolding switched
switched_range p v r h = record { active = h.active; inactive = h.inactive; order = h.order }

pub after_events_sound : (p : Parameters) (t : ℕ) (o : Output) → Sound p t o → Sound p t (after_events o)
unfolding after_events
after_events_sound p t o h =
    record {
      settings = h.settings;
      slots = h.slots;
      activity = h.activity;
      timer = h.timer;
      burnt = h.burnt;
      relay = switched_range p (present_value o.settings o.slots) o.relay h.relay;
    }

pub tick_sound : (p : Parameters) (t : ℕ) (o : Output) → Sound p t o → Sound p (suc t) (tick t o)
unfolding tick fire after_events with_burned with_burning
tick_sound p t o h =
    let x = expired_effect p t (suc t) o.settings o.slots o.timer o.activity h.timer h.slots h.activity in
    let n = next_effect p t o.settings (expired (suc t) o.timer o.slots) (end_movement_on_expiry (suc t) o.timer o.activity) x.slots x.activity in
    record {
      settings = h.settings;
      slots = n.slots;
      activity = n.activity;
      timer = next_timer t o.timer h.timer;
      burnt = omega (arith, lit_milliseconds_le t 1 o, h.burnt);
      relay = switched_range p _ o.relay h.relay;
    }

ticks_sound : (p : Parameters) (n t : ℕ) (o : Output) → Lawful p t o → Lawful p (t + n) (ticks n t o)
unfolding ticks
ticks_sound p zero t o h = rw (add-zero t) h
ticks_sound p (suc n) t o h =
    let e : t + suc n ≡ suc t + n = omega arith in
    rw e (ticks_sound p n (suc t) (tick t o) (record { sound = tick_sound p t o h.sound; judged = tick_judged t o }))

-- so the engine keeps them too
pub advance_sound : (p : Parameters) (now to : ℕ) (o : Output) → now ≤ to → to ≤ greatest_count → Lawful p now o → Lawful p to (advance now to o)
advance_sound p now to o l m h =
    let e : now + (to - now) ≡ to = omega arith in
    rw (advance_ticks now to o l m (sound_calm p now o h)) (rw e at (ticks_sound p (to - now) now o h))
