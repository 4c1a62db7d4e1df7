-- The test of the record rules holds exactly where their facts do. An array's length is part of the code's
-- type.
use Rattle.std.specs.Prelude.{Option, Some, None}
use mathlib.Core.Path.{◌≡◌, refl, sym, ◌∙◌}
use mathlib.Core.Bool.{Bool, true, false, false≢true}
use Prim.Native.Nat.{ℕ, ◌-◌, ◌≤◌, ◌<◌}
use native.Mathlib.Nat.{sub_self}
use native.Mathlib.Omega.{arith}
use lib.ListN.{length, get_or}
use borrow.Author.Tests.{not-true}
use Rattle.lighting_levels.specs.Paper.Choice.{when◌then◌else◌}
use Rattle.lighting_levels.proofs.Split.{unless, by_eq, by_bool, le_of, leb_yes, eqb_miss, parts, tests}
use Rattle.lighting_levels.proofs.Scan.{all_each, each_all}
use Rattle.lighting_outputs.specs.declared.Settings.{Settings}
use Rattle.lighting_outputs.specs.declared.Relay.{Relay}
use Rattle.lighting_outputs.specs.declared.Movement.{Movement}
use Rattle.lighting_outputs.specs.declared.Activity.{Activity}
use Rattle.lighting_outputs.specs.declared.Activity.TheVariants.{Still, Moving, Warned}
use Rattle.lighting_outputs.specs.declared.Timer.{Timer}
use Rattle.lighting_outputs.specs.declared.Output.{Output}
use Rattle.lighting_outputs.specs.Paper.Slots.{slot_count, slot6, Slots, is_live, winner, slot}
use Rattle.lighting_outputs.proofs.Priorities.Mask.{slot_is}
use Rattle.lighting_outputs.specs.Paper.Value.{present_value}
use Rattle.lighting_outputs.specs.Paper.Relay.{binary_at}
use Rattle.lighting_outputs.specs.Engine.Advance.{greatest_count, advance}
use Rattle.lighting_outputs.specs.Paper.Passing.{timer_due, activity_due, ticks}
use Rattle.lighting_outputs.proofs.Time.Passing.{advance_ticks, Calm, MomentAfter}
use Rattle.lighting_outputs.specs.Paper.Parameters.{Parameters}
use Rattle.lighting_outputs.specs.Paper.Rows.{within, is_slot, meets, is_level}
use Rattle.lighting_outputs.specs.Paper.Rules.{levels_sound, times_sound, reals_sound, settings_sound, slot_sound, slots_sound, span_sound, movement_sound, warning_by, warning_sound, activity_by, activity_sound, timer_sound, agrees, relay_sound, sound}
use Rattle.lighting_outputs.specs.declared.Range.{Range}
use Rattle.lighting_outputs.specs.declared.Range.TheVariants.{Percent, Limit, Amount, Whole, Priority, ReadOnly}
use Rattle.lighting_outputs.proofs.Rules.Facts.{IsLevel, Within, Slot, Meets, SettingsInRange, SlotLevel, Filled, Moves, Acts, Timed, RelayInRange, Sound, Judged, Lawful}
use Rattle.lighting_levels.specs.Paper.Level.{least_level, greatest_level}

-- FROM THE TEST TO THE FACTS
pub within_of : (low high v : ℕ) → within low high v ≡ true → Within low high v
unfolding within
within_of low high v h = search parts

pub level_of_lem : (v : ℕ) → is_level v ≡ true → IsLevel v
unfolding is_level when◌then◌else◌
level_of_lem v h =
    by_eq v 0 (λ z e. omega arith) (λ z e. let w = within_of least_level greatest_level v (rw e at h) in omega arith)

pub slot_of : (i : ℕ) → is_slot i ≡ true → Slot i
unfolding is_slot when◌then◌else◌
slot_of i h =
    by_eq i slot6 (λ z e. absurd (false≢true (rw e at h))) (λ z e. record { inside = le_of (rw e at h); free = z })

pub meets_of : (r : Range) (v : ℕ) → meets r v ≡ true → Meets r v
unfolding meets
meets_of Percent v h = level_of_lem v h
meets_of Limit v h = within_of least_level greatest_level v h
meets_of Amount v h = h
meets_of (Whole low high) v h = within_of low high v h
meets_of Priority v h = slot_of v h
meets_of ReadOnly v h = false≢true h

settings_of : (p : Parameters) (c : Settings) → settings_sound p c ≡ true → SettingsInRange p c
unfolding settings_sound levels_sound times_sound reals_sound meets
settings_of p c h = search (parts, within_of, level_of_lem, slot_of)

filled_of : (s : Slots) → length s.levels ≡ slot_count → slots_sound s ≡ true → Filled s
unfolding slots_sound
filled_of s size h =
    record { size = size; level = λ i k. at i k (all_each (slot_sound s) slot_count 0 i h (omega arith) (omega arith)) }
  where
    at : (i : ℕ) → i < slot_count → slot_sound s i ≡ true → SlotLevel (slot s i)
    at i k e =
        rw (slot_is s i (omega arith)) (unfold slot_sound when◌then◌else◌ in
        (by_bool (is_live s i) (λ z. rw z (level_of_lem (get_or s.levels i 0) (rw z at e))) (λ z. rw z tt)))

moves_of : (p : Parameters) (t : ℕ) (c : Settings) (s : Slots) (m : Movement) → is_live s slot6 ≡ false
    → movement_sound p t (winner s) c.max (present_value c s) m ≡ true → Moves p t c s m
unfolding movement_sound span_sound
moves_of p t c s m l h = search (parts, within_of) depth 8

acts_of : (p : Parameters) (t : ℕ) (c : Settings) (s : Slots) (a : Activity) → activity_sound p t c s a ≡ true → Acts p t c s a
unfolding activity_sound activity_by warning_sound warning_by
acts_of p t c s Still h = not-true (is_live s slot6) h
acts_of p t c s (Moving m) h = moves_of p t c s m (unless h).0 (unless h).1
acts_of p t c s (Warned w) h = search (parts, within_of, level_of_lem)

timed_of : (t : ℕ) (m : Option Timer) → timer_sound t m ≡ true → Timed t m
unfolding timer_sound
timed_of t None h = tt
timed_of t (Some timer) h = search (parts, slot_of)

agrees_of : (one other : Bool) → agrees one other ≡ true → one ≡ other
unfolding agrees when◌then◌else◌
agrees_of true other h = sym h
agrees_of false other h = sym (not-true other h)

relay_of : (p : Parameters) (v : ℕ) (r : Relay) → relay_sound p v r ≡ true → RelayInRange p r
unfolding relay_sound meets
relay_of p v r h = search (parts, level_of_lem)

binary_of_lem : (p : Parameters) (v : ℕ) (r : Relay) → relay_sound p v r ≡ true → r.binary ≡ binary_at v r
unfolding relay_sound
binary_of_lem p v r h = search (parts, agrees_of)

pub tested_judged : (p : Parameters) (t : ℕ) (o : Output) → sound p t o ≡ true → Judged o
unfolding sound
tested_judged p t o h = search (parts, binary_of_lem)

pub sound_facts : (p : Parameters) (t : ℕ) (o : Output) → length o.slots.levels ≡ slot_count → sound p t o ≡ true → Lawful p t o
sound_facts p t o size h = record { sound = rules; judged = tested_judged p t o h }
  where
    rules : Sound p t o
    rules = unfold sound in search (parts, settings_of, filled_of, acts_of, timed_of, relay_of)

-- FROM THE FACTS TO THE TEST
within_yes : (low high v : ℕ) → Within low high v → within low high v ≡ true
unfolding within
within_yes low high v h = search tests

level_yes : (v : ℕ) → IsLevel v → is_level v ≡ true
unfolding is_level when◌then◌else◌
level_yes v h =
    by_eq v 0 (λ z e. rw e) (λ z e. rw e (within_yes least_level greatest_level v (omega arith)))

slot_yes : (i : ℕ) → Slot i → is_slot i ≡ true
unfolding is_slot when◌then◌else◌
slot_yes i h = rw (eqb_miss h.free) (leb_yes h.inside)

settings_yes : (p : Parameters) (c : Settings) → SettingsInRange p c → settings_sound p c ≡ true
unfolding settings_sound levels_sound times_sound reals_sound meets
settings_yes p c h = search (tests, within_yes, level_yes, slot_yes)

filled_yes : (s : Slots) → Filled s → slots_sound s ≡ true
unfolding slots_sound
filled_yes s h = each_all (slot_sound s) slot_count 0 (λ i z k. at i (omega arith) (h.level i (omega arith)))
  where
    at : (i : ℕ) → i < slot_count → SlotLevel (slot s i) → slot_sound s i ≡ true
    at i k l = unfold slot_sound when◌then◌else◌ in
        (by_bool
        (is_live s i)
        (λ z. rw z (level_yes (get_or s.levels i 0) (rw z at (rw (slot_is s i (omega (arith, h.size))) at l))))
        (λ z. rw z))

moves_yes : (p : Parameters) (t : ℕ) (c : Settings) (s : Slots) (m : Movement) → Moves p t c s m
    → movement_sound p t (winner s) c.max (present_value c s) m ≡ true
unfolding movement_sound span_sound
moves_yes p t c s m h = search (tests, within_yes) depth 12

acts_yes : (p : Parameters) (t : ℕ) (c : Settings) (s : Slots) (a : Activity) → Acts p t c s a → activity_sound p t c s a ≡ true
unfolding activity_sound activity_by warning_sound warning_by
acts_yes p t c s Still h = rw h
acts_yes p t c s (Moving m) h = unfold when◌then◌else◌ in rw h.six (moves_yes p t c s m h)
acts_yes p t c s (Warned w) h = search (tests, within_yes, level_yes)

timed_yes : (t : ℕ) (m : Option Timer) → Timed t m → timer_sound t m ≡ true
unfolding timer_sound
timed_yes t None h = refl
timed_yes t (Some timer) h = search (tests, slot_yes)

agrees_yes : (one other : Bool) → one ≡ other → agrees one other ≡ true
unfolding agrees when◌then◌else◌
agrees_yes true other h = sym h
agrees_yes false other h = rw (sym h)

relay_yes : (p : Parameters) (v : ℕ) (r : Relay) → RelayInRange p r → r.binary ≡ binary_at v r → relay_sound p v r ≡ true
unfolding relay_sound meets
relay_yes p v r h e = search (tests, level_yes, agrees_yes)

pub facts_sound : (p : Parameters) (t : ℕ) (o : Output) → Lawful p t o → sound p t o ≡ true
unfolding sound
facts_sound p t o l =
    let h = l.sound in
    let relay = relay_yes p (present_value o.settings o.slots) o.relay h.relay l.judged.same in
    search (tests, settings_yes, filled_yes, acts_yes, timed_yes) depth 7

-- what `advance_ticks` asks
pub tested_calm : (p : Parameters) (t : ℕ) (o : Output) → sound p t o ≡ true → Calm t o
unfolding sound
tested_calm p t o h =
    record {
      after =
          record {
            all = (timer o.timer (search (parts, timed_of)), (activity o.activity (search (parts, acts_of)), tt));
          };
      burnt = search parts;
      judged = tested_judged p t o h;
    }
  where
    timer : (m : Option Timer) → Timed t m → MomentAfter t (timer_due m)
    timer None k = unfold timer_due in tt
    timer (Some m) k = unfold timer_due in k.1

    activity : (a : Activity) → Acts p t o.settings o.slots a → MomentAfter t (activity_due a)
    activity Still k = unfold activity_due in tt
    activity (Moving m) k = unfold activity_due in k.later
    activity (Warned w) k = unfold activity_due in k.later

pub sound_calm : (p : Parameters) (t : ℕ) (o : Output) → Lawful p t o → Calm t o
sound_calm p t o h = tested_calm p t o (facts_sound p t o h)

-- a record that passed the test stays as it is while time stands
pub tested_stays : (p : Parameters) (t : ℕ) (o : Output) → t ≤ greatest_count → sound p t o ≡ true → advance t t o ≡ o
unfolding ticks
tested_stays p t o m h = advance_ticks t t o (omega arith) m (tested_calm p t o h) ∙ rw (sub_self t)

-- event steps equal ticks, of a record that passed the test
pub sound_advance : (p : Parameters) (now to : ℕ) (o : Output) → length o.slots.levels ≡ slot_count → sound p now o ≡ true → now ≤ to → to ≤ greatest_count
    → advance now to o ≡ ticks (to - now) now o
sound_advance p now to o size h l m = advance_ticks now to o l m (sound_calm p now o (sound_facts p now o size h))
