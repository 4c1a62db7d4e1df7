-- KINDS 02 AND 03 without a warning: what is stored, and which movement goes on; and what Present_Value
-- becomes.
use Rattle.std.specs.Prelude.{Some, None}
use mathlib.Core.Path.{◌≡◌, sym, ◌∙◌}
use mathlib.Core.Logic.{◌≢◌}
use mathlib.Core.Bool.{true, false}
use Prim.Native.Nat.{ℕ, suc, ◌≤◌, ◌<◌}
use native.Mathlib.Omega.{arith}
use Rattle.lighting_outputs.specs.Paper.Parameters.{Parameters}
use Rattle.lighting_levels.specs.Paper.Choice.{when◌then◌else◌}
use Rattle.lighting_outputs.specs.Paper.Slots.{slot_count, slot6, slot, is_live}
use Rattle.lighting_outputs.specs.Paper.Value.{clamp_lit, present_value}
use Rattle.lighting_outputs.specs.Paper.Record.{with_effect}
use Rattle.lighting_outputs.specs.Paper.Writing.{end_movement_unless_above, stored, warns, written_zero, written_calm, written, activity_relinquished, slot_relinquished}
use Rattle.lighting_outputs.specs.declared.Movement.{Movement}
use Rattle.lighting_outputs.specs.declared.Activity.TheVariants.{Still, Moving}
use Rattle.lighting_outputs.specs.declared.Duration.{Duration}
use Rattle.lighting_outputs.specs.declared.Operation.TheVariants.{Relinquish}
use Rattle.lighting_outputs.specs.declared.Output.{Output}
use Rattle.lighting_levels.proofs.Split.{by_bool, by_eq, eqb_miss, leb_yes, leb_no}
use Rattle.lighting_outputs.proofs.Rules.Facts.{Slot, Sound}
use Rattle.lighting_outputs.proofs.Rules.RequestInRange.{DurationInRange}
use Rattle.lighting_outputs.proofs.Acts.Commanded.{commanded_sound}
use Rattle.lighting_outputs.proofs.Consequences.Present.{slot_same, slot_other, present_at, present_none, next_live, none_live}
use Rattle.lighting_outputs.proofs.Consequences.Warning.{Starts, warns_starts, calm_by}
use Rattle.lighting_outputs.proofs.Consequences.Targets.{after, relinquish}

module _ (p : Parameters) (t : ℕ) (o : Output) (h : Sound p t o) (calm : is_live o.slots slot6 ≡ false) (i : ℕ) (k : Slot i) where
  -- a write that starts no warning: of a level above 0, or where the paper's conditions are not met
  pub data Plainly (v : ℕ) : Type 0 where
    above_zero : v ≢ 0 → Plainly v
    no_warning : (Starts o.settings o.slots i → ⊥) → Plainly v

  store : (v : ℕ) → Plainly v → written t o i v ≡ stored o i v
  unfolding written written_calm written_zero when◌then◌else◌
  store v (above_zero n) = rw (calm_by p t o i v o.activity h.activity calm, eqb_miss {a = v} {b = 0} n)
  store v (no_warning n) =
      rw (calm_by p t o i v o.activity h.activity calm)
      (by_eq v 0
      (λ y e. rw e (by_bool (warns o.settings o.slots i) (λ w. absurd (n (warns_starts o.settings o.slots i h.slots.size k.inside w))) (λ w. rw (w, y))))
      (λ y e. rw e))

  pub stores : (v : ℕ) → Plainly v → slot (written t o i v).slots i ≡ Some v
  unfolding stored with_effect
  stores v n = rw (store v n) (slot_same o.slots h.slots.size i (Some v) k.inside)

  pub stores_rest : (v : ℕ) → Plainly v → (j : ℕ) → j ≢ i → slot (written t o i v).slots j ≡ slot o.slots j
  unfolding stored with_effect
  stores_rest v n j m = rw (store v n) (slot_other o.slots h.slots.size i j (Some v) k.inside (λ e. m (sym e)))

  -- 'A movement goes on if P is above its owner's number [..]; else it ends'
  pub goes_on : (v : ℕ) → Plainly v → (m : Movement) → o.activity ≡ Moving m → m.owner < i → (written t o i v).activity ≡ Moving m
  unfolding stored with_effect end_movement_unless_above when◌then◌else◌
  goes_on v n m e l = rw (store v n, e, leb_yes {a = suc m.owner} {b = i} l)

  pub breaks_off : (v : ℕ) → Plainly v → (m : Movement) → o.activity ≡ Moving m → i ≤ m.owner → (written t o i v).activity ≡ Still
  unfolding stored with_effect end_movement_unless_above when◌then◌else◌
  breaks_off v n m e l = rw (store v n, e, leb_no {a = suc m.owner} {b = i} (omega arith))

-- KIND 03
module _ (p : Parameters) (t : ℕ) (o : Output) (h : Sound p t o) (i : ℕ) (k : Slot i) where
  pub empties : slot (slot_relinquished o i).slots i ≡ None
  unfolding slot_relinquished with_effect
  empties = slot_same o.slots h.slots.size i None k.inside

  pub empties_rest : (j : ℕ) → j ≢ i → slot (slot_relinquished o i).slots j ≡ slot o.slots j
  unfolding slot_relinquished with_effect
  empties_rest j m = slot_other o.slots h.slots.size i j None k.inside (λ e. m (sym e))

  -- 'or if kind 03 empties an empty slot'
  pub empty_goes_on : is_live o.slots i ≡ false → (slot_relinquished o i).activity ≡ o.activity
  unfolding slot_relinquished with_effect activity_relinquished when◌then◌else◌
  empty_goes_on e = rw e

  pub emptied_goes_on : (m : Movement) → o.activity ≡ Moving m → m.owner < i → (slot_relinquished o i).activity ≡ Moving m
  unfolding slot_relinquished with_effect activity_relinquished end_movement_unless_above when◌then◌else◌
  emptied_goes_on m e l = rw e (by_bool (is_live o.slots i) (λ f. rw (f, leb_yes {a = suc m.owner} {b = i} l)) (λ f. rw f))

  pub emptied_breaks_off : (m : Movement) → o.activity ≡ Moving m → i ≤ m.owner → is_live o.slots i ≡ true → (slot_relinquished o i).activity ≡ Still
  unfolding slot_relinquished with_effect activity_relinquished end_movement_unless_above when◌then◌else◌
  emptied_breaks_off m e l f = rw (e, f, leb_no {a = suc m.owner} {b = i} (omega arith))

  -- PRESENT_VALUE becomes the next live slot's, or Relinquish_Default's
  pub emptied_shows : (j v : ℕ) → j ≢ i → slot o.slots j ≡ Some v → ((q : ℕ) → q < j → q ≢ i → slot o.slots q ≡ None)
      → present_value (slot_relinquished o i).settings (slot_relinquished o i).slots ≡ clamp_lit o.settings v
  unfolding slot_relinquished with_effect
  emptied_shows j v n s b = next_live o.slots h.slots.size o.settings i k.inside j v n s b

  pub emptied_shows_default : ((q : ℕ) → q < slot_count → q ≢ i → slot o.slots q ≡ None)
      → present_value (slot_relinquished o i).settings (slot_relinquished o i).slots ≡ clamp_lit o.settings o.settings.default
  unfolding slot_relinquished with_effect
  emptied_shows_default b = none_live o.slots h.slots.size o.settings i k.inside b

-- RELINQUISH, of slot p; slot 6 is empty after it in any case
module _ (p : Parameters) (t : ℕ) (o : Output) (h : Sound p t o) (d : Duration) (g : DurationInRange p d) where
  abbrev y : ℕ
  y = o.settings.slot

  pub relinquished_shows : (j v : ℕ) → j ≢ y → j ≢ slot6 → slot o.slots j ≡ Some v → ((q : ℕ) → q < j → q ≢ y → q ≢ slot6 → slot o.slots q ≡ None)
      → present_value (after t o Relinquish d).settings (after t o Relinquish d).slots ≡ clamp_lit o.settings v
  relinquished_shows j v n m s b =
      rw (relinquish p t o h d).settings
      (present_at (after t o Relinquish d).slots (commanded_sound p t o (record { operation = Relinquish; duration = d }) tt g h).slots.size o.settings j v
      ((relinquish p t o h d).rest j m n ∙ s)
      (λ q l. by_eq q y (λ e z. rw e (relinquish p t o h d).own)
      (λ e z. by_eq q slot6 (λ e' z'. rw e' (relinquish p t o h d).six) (λ e' z'. (relinquish p t o h d).rest q e' e ∙ b q l e e'))))

  pub relinquished_shows_default : ((q : ℕ) → q < slot_count → q ≢ y → q ≢ slot6 → slot o.slots q ≡ None)
      → present_value (after t o Relinquish d).settings (after t o Relinquish d).slots ≡ clamp_lit o.settings o.settings.default
  relinquished_shows_default b =
      rw (relinquish p t o h d).settings
      (present_none (after t o Relinquish d).slots (commanded_sound p t o (record { operation = Relinquish; duration = d }) tt g h).slots.size o.settings
      (λ q l. by_eq q y (λ e z. rw e (relinquish p t o h d).own)
      (λ e z. by_eq q slot6 (λ e' z'. rw e' (relinquish p t o h d).six) (λ e' z'. (relinquish p t o h d).rest q e' e ∙ b q l e e'))))
