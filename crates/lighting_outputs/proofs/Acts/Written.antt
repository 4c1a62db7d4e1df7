-- Kinds 02 and 03 keep the record rules.
use Rattle.std.specs.Prelude.{Option, Some, None}
use mathlib.Core.Path.{◌≡◌, ◌∙◌}
use mathlib.Core.Bool.{true, false}
use Prim.Native.Nat.{ℕ, ◌+◌, ◌<◌}
use native.Mathlib.Omega.{arith}
use lib.ListN.{length}
use Rattle.lighting_outputs.specs.Paper.Parameters.{Parameters}
use Rattle.lighting_levels.specs.Paper.Choice.{when◌then◌else◌}
use Rattle.lighting_levels.proofs.Split.{by_eq, by_lt, by_bool, parts}
use Rattle.lighting_outputs.specs.declared.Settings.{Settings}
use Rattle.lighting_outputs.specs.declared.Movement.{Movement}
use Rattle.lighting_outputs.specs.declared.Activity.{Activity}
use Rattle.lighting_outputs.specs.declared.Activity.TheVariants.{Still, Moving, Warned}
use Rattle.lighting_outputs.specs.declared.Output.{Output}
use Rattle.lighting_outputs.specs.Paper.Slots.{slot_count, slot6, Slots, is_live, winner, winning_level, put, emptied, filled}
use Rattle.lighting_outputs.proofs.Priorities.Winner.{winner_over, winning_level_over, winner_dead, winning_level_dead, six_kept, six_set}
use Rattle.lighting_outputs.specs.Paper.Value.{present_value}
use Rattle.lighting_outputs.proofs.Rules.Facts.{IsLevel, Within, Slot, SlotLevel, Filled, Moves, Acts, Sound}
use Rattle.lighting_outputs.proofs.Priorities.Levels.{level_zero, present_level, put_filled}
use Rattle.lighting_outputs.specs.Paper.Passing.{phase_end}
use Rattle.lighting_outputs.specs.Paper.Record.{with_effect}
use Rattle.lighting_outputs.specs.Paper.Writing.{end_movement_unless_above, stored, blinks, warns_by, warns, first_level, first_phase, warning_from, warned_by, warned, ended_empty, ended_stored, written_warned, written_zero, written_calm, written_by, written, activity_relinquished, slot_relinquished}

-- all that a change of slots and activity has to keep
effect_sound : (p : Parameters) (t : ℕ) (o : Output) (s : Slots) (a : Activity) → Sound p t o → Filled s → Acts p t o.settings s a → Sound p t (with_effect o s a)
unfolding with_effect
effect_sound p t o s a h f k = search

-- A MOVEMENT whose owner stays the winner goes on
pub kept_moving : (p : Parameters) (t : ℕ) (c : Settings) (s s' : Slots) (m : Movement) → Moves p t c s m
    → is_live s' slot6 ≡ is_live s slot6 → winner s' ≡ winner s → winning_level c.default s' ≡ winning_level c.default s → Moves p t c s' m
unfolding present_value
kept_moving p t c s s' m h z q r = search arith

module _ (p : Parameters) (t : ℕ) (c : Settings) (s : Slots) (size : length s.levels ≡ slot_count) (i : ℕ) (slot : Slot i) where
  -- slot i gets x: with a slot above the winner all goes on
  pub moving_over : (x : Option ℕ) (m : Movement) → winner s < i → Moves p t c s m → Moves p t c (put s i x) m
  moving_over x m l h =
      kept_moving p t c s (put s i x) m h
      (six_kept s size i x slot.inside slot.free)
      (winner_over s size i x slot.inside l)
      (winning_level_over s size c.default i x slot.inside l)

  -- WARNINGS ASIDE: a movement goes on if the slot is above its owner's number, else it ends
  passed_acts : (x : Option ℕ) (a : Activity) → Acts p t c s a → Acts p t c (put s i x) (end_movement_unless_above i a)
  unfolding end_movement_unless_above when◌then◌else◌
  passed_acts x Still h = six_kept s size i x slot.inside slot.free ∙ h
  passed_acts x (Moving m) h =
      by_lt
      m.owner
      i
      (λ l e. rw e (moving_over x m (omega (arith, h.wins)) h))
      (λ l e. rw e (six_kept s size i x slot.inside slot.free ∙ h.six))
  passed_acts x (Warned w) h = let k = six_kept s size i x slot.inside slot.free in search

  -- an empty slot emptied: all goes on
  dead_acts : (a : Activity) → is_live s i ≡ false → Acts p t c s a → Acts p t c (put s i None) a
  dead_acts Still e h = six_kept s size i None slot.inside slot.free ∙ h
  dead_acts (Moving m) e h =
      kept_moving p t c s (put s i None) m h
      (six_kept s size i None slot.inside slot.free)
      (winner_dead s size i slot.inside e)
      (winning_level_dead s size c.default i slot.inside e)
  dead_acts (Warned w) e h = let k = six_kept s size i None slot.inside slot.free in search

  slot_relinquished_acts : (a : Activity) → Acts p t c s a → Acts p t c (put s i None) (activity_relinquished (is_live s i) i a)
  unfolding activity_relinquished when◌then◌else◌
  slot_relinquished_acts a h = by_bool (is_live s i) (λ e. rw e (passed_acts None a h)) (λ e. rw e (dead_acts a e h))

stored_sound : (p : Parameters) (t : ℕ) (o : Output) (i v : ℕ) → Slot i → IsLevel v → Sound p t o → Sound p t (stored o i v)
unfolding stored
stored_sound p t o i v g l h =
    effect_sound p t o _ _ h
    (put_filled o.slots i (Some v) h.slots g.inside l)
    (passed_acts p t o.settings o.slots h.slots.size i g (Some v) o.activity h.activity)

-- A WARNING STARTS
first_level_lem : (c : Settings) (y : ℕ) → IsLevel y → IsLevel (first_level c y)
unfolding first_level when◌then◌else◌
first_level_lem c y l = by_eq c.blink 0 (λ z e. rw e l) (λ z e. rw e level_zero)

first_acts : (p : Parameters) (t : ℕ) (c : Settings) (s : Slots) (x y : ℕ) → Slot x → slot6 < x → 0 < c.blink + c.delay → IsLevel y → is_live s slot6 ≡ true
    → Acts p t c s (Warned (warning_from t c x y))
unfolding warning_from first_phase phase_end when◌then◌else◌
first_acts p t c s x y g l b v k =
    let w : Within 6 15 x = omega (arith, g.inside) in
    by_eq c.blink 0 (λ z e. rw e (search arith)) (λ z e. rw e (search arith))

warned_sound : (p : Parameters) (t : ℕ) (o : Output) (x : ℕ) → Slot x → slot6 < x → 0 < o.settings.blink + o.settings.delay → Sound p t o → Sound p t (warned t o x)
unfolding warned warned_by
warned_sound p t o x g l b h =
    let y = present_level p o.settings o.slots h.settings in
    let f = put_filled o.slots x (Some 0) h.slots g.inside level_zero in
    effect_sound p t o _ _ h
    (put_filled (filled o.slots x 0) slot6 (Some _) f (omega arith) (first_level_lem o.settings _ y))
    (first_acts p t o.settings _ x _ g l b y (six_set (filled o.slots x 0) f.size (Some _)))

-- what the test for a warning tells
warns_facts : (c : Settings) (s : Slots) (x : ℕ) → warns c s x ≡ true → (0 < c.blink + c.delay) × (slot6 < x)
unfolding warns warns_by blinks
warns_facts c s x h = search parts

-- DURING A WARNING
ended_sound : (p : Parameters) (t : ℕ) (o : Output) (i : ℕ) (x : Option ℕ) → Slot i → SlotLevel x → Sound p t o
    → Sound p t (with_effect o (put (emptied o.slots slot6) i x) Still)
ended_sound p t o i x g l h =
    let f = put_filled o.slots slot6 None h.slots (omega arith) tt in
    effect_sound p t o _ _ h
    (put_filled (emptied o.slots slot6) i x f g.inside l)
    (six_kept (emptied o.slots slot6) f.size i x g.inside g.free ∙ six_set o.slots h.slots.size None)

warned_written : (p : Parameters) (t : ℕ) (o : Output) (i v : ℕ) → Slot i → IsLevel v → Sound p t o → Sound p t (written_warned o i v)
unfolding written_warned ended_empty ended_stored when◌then◌else◌
warned_written p t o i v g l h =
    by_eq
    v
    0
    (λ z e. by_lt
    slot6
    i
    (λ q e'. rw (e, e') (ended_sound p t o i None g tt h))
    (λ q e'. rw (e, e') (ended_sound p t o i (Some v) g l h)))
    (λ z e. rw e (ended_sound p t o i (Some v) g l h))

-- KIND 02
calm_written : (p : Parameters) (t : ℕ) (o : Output) (i v : ℕ) → Slot i → IsLevel v → Sound p t o → Sound p t (written_calm t o i v)
unfolding written_calm written_zero when◌then◌else◌
calm_written p t o i v g l h =
    by_eq
    v
    0
    (λ z e. rw e
    (by_bool
    (warns o.settings o.slots i)
    (λ e'. let f = warns_facts o.settings o.slots i e' in rw e' (warned_sound p t o i g f.1 f.0 h))
    (λ e'. rw e' (stored_sound p t o i 0 g level_zero h))))
    (λ z e. rw e (stored_sound p t o i v g l h))

pub written_sound : (p : Parameters) (t : ℕ) (o : Output) (i v : ℕ) → Slot i → IsLevel v → Sound p t o → Sound p t (written t o i v)
unfolding written written_by
written_sound p t o i v g l h = go o.activity
  where
    go : (a : Activity) → Sound p t (written_by t o i v a)
    go Still = calm_written p t o i v g l h
    go (Moving m) = calm_written p t o i v g l h
    go (Warned w) = warned_written p t o i v g l h

-- KIND 03
pub slot_relinquished_sound : (p : Parameters) (t : ℕ) (o : Output) (i : ℕ) → Slot i → Sound p t o → Sound p t (slot_relinquished o i)
unfolding slot_relinquished
slot_relinquished_sound p t o i g h =
    effect_sound p t o _ _ h
    (put_filled o.slots i None h.slots g.inside tt)
    (slot_relinquished_acts p t o.settings o.slots h.slots.size i g o.activity h.activity)
