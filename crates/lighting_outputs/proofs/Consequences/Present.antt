-- PRESENT_VALUE is the level of the first live slot, or Relinquish_Default's: so an emptied slot hands over
-- to the next live one.
use Rattle.std.specs.Prelude.{Option, Some, None}
use mathlib.Core.Path.{◌≡◌, refl, sym, ap, ◌∙◌}
use mathlib.Core.Logic.{◌≢◌}
use mathlib.Core.List.{List, [], ◌∷◌}
use Prim.Native.Nat.{ℕ, zero, suc, ◌<◌}
use native.Mathlib.Omega.{arith}
use lib.ListN.{get_or, length}
use lib.Seq.{get_or-set_same, get_or-set_other}
use Rattle.lighting_outputs.specs.Paper.Slots.{slot_count, Slots, slots_of, slot, put, emptied}
use Rattle.lighting_outputs.specs.Paper.Value.{clamp_lit, present_value}
use Rattle.lighting_outputs.specs.declared.Settings.{Settings}
use Rattle.lighting_levels.proofs.Split.{by_eq}
use Rattle.lighting_outputs.proofs.Priorities.Mask.{put_slots, slots_size}
use Rattle.lighting_outputs.proofs.Priorities.Winner.{first_level, winning_level_view, put_sized}

pub no_slot : {A : Type 0} {v : ℕ} → ◌≡◌ {A = Option ℕ} None (Some v) → A
no_slot h = let z : ◌≡◌ {A = ℕ} 0 1 = cc in absurd (omega arith)

pub first_at : (d : ℕ) (l : List (Option ℕ)) (j v : ℕ) → get_or l j None ≡ Some v → ((i : ℕ) → i < j → get_or l i None ≡ None) → first_level d l ≡ v
unfolding first_level
first_at d [] j v h k = no_slot h
first_at d (None ∷ l) zero v h k = no_slot h
first_at d (None ∷ l) (suc j) v h k = first_at d l j v h (λ i m. k (suc i) (omega arith))
first_at d (Some w ∷ l) zero v h k = cc
first_at d (Some w ∷ l) (suc j) v h k = no_slot (sym (k 0 (omega arith)))

pub first_none : (d : ℕ) (l : List (Option ℕ)) → ((i : ℕ) → i < length l → get_or l i None ≡ None) → first_level d l ≡ d
unfolding first_level
first_none d [] k = refl
first_none d (None ∷ l) k = first_none d l (λ i m. k (suc i) (omega arith))
first_none d (Some w ∷ l) k = no_slot (sym (k 0 (omega arith)))

module _ (s : Slots) (size : length s.levels ≡ slot_count) where
  -- a slot that was put, and every other
  pub slot_same : (i : ℕ) (x : Option ℕ) → i < slot_count → slot (put s i x) i ≡ x
  slot_same i x k = rw (put_slots s i x size k) (get_or-set_same (slots_of s) i x None (omega (arith, slots_size s)))

  pub slot_other : (i j : ℕ) (x : Option ℕ) → i < slot_count → i ≢ j → slot (put s i x) j ≡ slot s j
  slot_other i j x k n = rw (put_slots s i x size k) (get_or-set_other (slots_of s) i j x None (omega arith))

  module _ (c : Settings) where
    present_first : present_value c s ≡ clamp_lit c (first_level c.default (slots_of s))
    unfolding present_value
    present_first = ap (clamp_lit c) (winning_level_view c.default s size)

    -- 'Present_Value is the winner's level': slot j is live with v, and none before it
    pub present_at : (j v : ℕ) → slot s j ≡ Some v → ((i : ℕ) → i < j → slot s i ≡ None) → present_value c s ≡ clamp_lit c v
    present_at j v h k = present_first ∙ ap (clamp_lit c) (first_at c.default (slots_of s) j v h k)

    -- 'or Relinquish_Default with no live slot'
    pub present_none : ((i : ℕ) → i < slot_count → slot s i ≡ None) → present_value c s ≡ clamp_lit c c.default
    present_none k = present_first ∙ ap (clamp_lit c) (first_none c.default (slots_of s) (λ i m. k i (omega (arith, slots_size s))))

-- A SLOT p EMPTIED, by kind 03, by RELINQUISH or by its duration: Present_Value is the next live slot's
module _ (s : Slots) (size : length s.levels ≡ slot_count) (c : Settings) (p : ℕ) (inside : p < slot_count) where
  pub next_live : (j v : ℕ) → j ≢ p → slot s j ≡ Some v → ((i : ℕ) → i < j → i ≢ p → slot s i ≡ None)
      → present_value c (emptied s p) ≡ clamp_lit c v
  next_live j v n h k =
      present_at (emptied s p) (put_sized s size p None) c j v (slot_other s size p j None inside (λ e. n (sym e)) ∙ h)
      (λ i m. by_eq i p (λ e t. rw e (slot_same s size p None inside)) (λ e t. slot_other s size p i None inside (λ z. e (sym z)) ∙ k i m e))

  -- or Relinquish_Default's, if no other is live
  pub none_live : ((i : ℕ) → i < slot_count → i ≢ p → slot s i ≡ None) → present_value c (emptied s p) ≡ clamp_lit c c.default
  none_live k =
      present_none (emptied s p) (put_sized s size p None) c
      (λ i m. by_eq i p (λ e t. rw e (slot_same s size p None inside)) (λ e t. slot_other s size p i None inside (λ z. e (sym z)) ∙ k i m e))
