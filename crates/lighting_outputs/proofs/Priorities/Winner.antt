-- What a slot emptied or filled does to the winner, to its level, and to slot 6.
use Rattle.std.specs.Prelude.{Option, Some, None}
use mathlib.Core.Path.{◌≡◌, refl, sym, ap, ◌∙◌}
use mathlib.Core.Logic.{◌≢◌}
use mathlib.Core.Bool.{false, true≢false}
use mathlib.Core.List.{List, [], ◌∷◌}
use Prim.Native.Nat.{ℕ, zero, suc, ◌/◌, ◌%◌, ◌≤◌, ◌<◌}
use native.Mathlib.Omega.{arith}
use lib.Dec.{ltb}
use lib.ListN.{set, get_or, length}
use lib.Seq.{get_or-set_same, get_or-set_other}
use Rattle.lighting_levels.specs.Paper.Choice.{when◌then◌else◌}
use Rattle.lighting_levels.proofs.Split.{by_eq, by_lt, leb_yes, leb_no}
use Rattle.lighting_outputs.specs.Paper.Slots.{slot_count, slot6, Slots, view, slots_of, put, first_live, winner, is_live, level_at, winning_level}
use Rattle.lighting_outputs.proofs.Priorities.Mask.{alive, is_live_slot, put_slots, put_size, slots_size}

unfoldable pub first_level : ℕ → List (Option ℕ) → ℕ
first_level d [] = d
first_level d (None ∷ s) = first_level d s
first_level d (Some v ∷ s) = v

suc_ltb : (a b : ℕ) → ltb (suc a) (suc b) ≡ ltb a b
suc_ltb a b = by_lt a b (λ p e. rw e (leb_yes {a = suc (suc a)} {b = suc b} (omega arith))) (λ p e. rw e (leb_no {a = suc (suc a)} {b = suc b} (omega arith)))

level_view : (d m : ℕ) (l : List ℕ)
    → (when ltb (first_live (view m l)) (length l) then get_or l (first_live (view m l)) 0 else d) ≡ first_level d (view m l)
unfolding view first_live first_level when◌then◌else◌
level_view d m [] = refl
level_view d m (v ∷ l) =
    by_eq
    (m % 2)
    1
    (λ p e. rw (e, leb_yes {a = 1} {b = suc (length l)} (omega arith)))
    (λ p e. rw (e, suc_ltb (first_live (view (m / 2) l)) (length l)) (level_view d (m / 2) l))

pub winning_level_view : (d : ℕ) (s : Slots) → length s.levels ≡ slot_count → winning_level d s ≡ first_level d (slots_of s)
unfolding winning_level level_at winner slots_of
winning_level_view d s h = rw h at (level_view d s.live s.levels)

-- THE WINNER AND ITS LEVEL, on the list of slots, after a slot was emptied or filled
live_empty : (s : List (Option ℕ)) (q : ℕ) → q ≢ first_live s → first_live (set s q None) ≡ first_live s
unfolding first_live
live_empty [] q h = refl
live_empty (None ∷ s) zero h = refl
live_empty (None ∷ s) (suc q) h = ap suc (live_empty s q (omega arith))
live_empty (Some v ∷ s) zero h = absurd (h refl)
live_empty (Some v ∷ s) (suc q) h = refl

level_empty : (d : ℕ) (s : List (Option ℕ)) (q : ℕ) → q ≢ first_live s → first_level d (set s q None) ≡ first_level d s
unfolding first_live first_level
level_empty d [] q h = refl
level_empty d (None ∷ s) zero h = refl
level_empty d (None ∷ s) (suc q) h = level_empty d s q (omega arith)
level_empty d (Some v ∷ s) zero h = absurd (h refl)
level_empty d (Some v ∷ s) (suc q) h = refl

live_over : (s : List (Option ℕ)) (p : ℕ) (x : Option ℕ) → first_live s < p → first_live (set s p x) ≡ first_live s
unfolding first_live
live_over [] p x h = refl
live_over (None ∷ s) zero x h = absurd (omega arith)
live_over (None ∷ s) (suc p) x h = ap suc (live_over s p x (omega arith))
live_over (Some v ∷ s) zero x h = absurd (omega arith)
live_over (Some v ∷ s) (suc p) x h = refl

level_over : (d : ℕ) (s : List (Option ℕ)) (p : ℕ) (x : Option ℕ) → first_live s < p → first_level d (set s p x) ≡ first_level d s
unfolding first_live first_level
level_over d [] p x h = refl
level_over d (None ∷ s) zero x h = absurd (omega arith)
level_over d (None ∷ s) (suc p) x h = level_over d s p x (omega arith)
level_over d (Some v ∷ s) zero x h = absurd (omega arith)
level_over d (Some v ∷ s) (suc p) x h = refl

live_filled : (s : List (Option ℕ)) (p v : ℕ) → p < length s → p ≤ first_live s → first_live (set s p (Some v)) ≡ p
unfolding first_live
live_filled [] p v l h = absurd (omega arith)
live_filled (x ∷ s) zero v l h = refl
live_filled (None ∷ s) (suc p) v l h = ap suc (live_filled s p v (omega arith) (omega arith))
live_filled (Some w ∷ s) (suc p) v l h = absurd (omega arith)

level_filled : (d : ℕ) (s : List (Option ℕ)) (p v : ℕ) → p < length s → first_live (set s p (Some v)) ≡ p
    → first_level d (set s p (Some v)) ≡ v
unfolding first_live first_level
level_filled d [] p v l h = absurd (omega arith)
level_filled d (x ∷ s) zero v l h = refl
level_filled d (None ∷ s) (suc p) v l h = level_filled d s p v (omega arith) (omega arith)
level_filled d (Some w ∷ s) (suc p) v l h = absurd (omega arith)

level_live : (d d' : ℕ) (s : List (Option ℕ)) → first_live s < length s → first_level d s ≡ first_level d' s
unfolding first_live first_level
level_live d d' [] h = absurd (omega arith)
level_live d d' (None ∷ s) h = level_live d d' s (omega arith)
level_live d d' (Some v ∷ s) h = refl

set_dead : (s : List (Option ℕ)) (i : ℕ) → alive (get_or s i None) ≡ false → set s i None ≡ s
set_dead [] i h = refl
set_dead (None ∷ s) zero h = refl
set_dead (Some v ∷ s) zero h = absurd (true≢false h)
set_dead (x ∷ s) (suc i) h = ap (λ (z : List (Option ℕ)). x ∷ z) (set_dead s i h)

live_within : (s : List (Option ℕ)) → first_live s ≤ length s
unfolding first_live
live_within [] = omega arith
live_within (None ∷ s) = omega (arith, live_within s)
live_within (Some v ∷ s) = omega arith

none_before : (s : List (Option ℕ)) (i : ℕ) → i < first_live s → alive (get_or s i None) ≡ false
unfolding first_live
none_before [] i h = absurd (omega arith)
none_before (None ∷ s) zero h = refl
none_before (None ∷ s) (suc i) h = none_before s i (omega arith)
none_before (Some v ∷ s) i h = absurd (omega arith)

-- the same of the record, by what its slots are after `put`
module _ (s : Slots) (size : length s.levels ≡ slot_count) where
  pub put_sized : (i : ℕ) (x : Option ℕ) → length (put s i x).levels ≡ slot_count
  put_sized i x = put_size s i x ∙ size

  winning_level_put : (d i : ℕ) (x : Option ℕ) → i < slot_count → winning_level d (put s i x) ≡ first_level d (set (slots_of s) i x)
  winning_level_put d i x k = winning_level_view d (put s i x) (put_sized i x) ∙ ap (first_level d) (put_slots s i x size k)

  pub winner_over : (p : ℕ) (x : Option ℕ) → p < slot_count → winner s < p → winner (put s p x) ≡ winner s
  unfolding winner
  winner_over p x k h = rw (put_slots s p x size k) (live_over (slots_of s) p x h)

  pub winning_level_over : (d p : ℕ) (x : Option ℕ) → p < slot_count → winner s < p → winning_level d (put s p x) ≡ winning_level d s
  unfolding winner
  winning_level_over d p x k h = winning_level_put d p x k ∙ level_over d (slots_of s) p x h ∙ sym (winning_level_view d s size)

  pub winner_empty : (q : ℕ) → q < slot_count → q ≢ winner s → winner (put s q None) ≡ winner s
  unfolding winner
  winner_empty q k h = rw (put_slots s q None size k) (live_empty (slots_of s) q h)

  pub winning_level_empty : (d q : ℕ) → q < slot_count → q ≢ winner s → winning_level d (put s q None) ≡ winning_level d s
  unfolding winner
  winning_level_empty d q k h = winning_level_put d q None k ∙ level_empty d (slots_of s) q h ∙ sym (winning_level_view d s size)

  pub winner_filled : (p v : ℕ) → p < slot_count → p ≤ winner s → winner (put s p (Some v)) ≡ p
  unfolding winner
  winner_filled p v k h =
      rw (put_slots s p (Some v) size k) (live_filled (slots_of s) p v (omega (arith, slots_size s)) h)

  pub winning_level_filled : (d p v : ℕ) → p < slot_count → winner (put s p (Some v)) ≡ p → winning_level d (put s p (Some v)) ≡ v
  unfolding winner
  winning_level_filled d p v k h =
      winning_level_put d p (Some v) k
      ∙ level_filled d (slots_of s) p v (omega (arith, slots_size s)) (rw (put_slots s p (Some v) size k) at h)

  pub winning_level_live : (d d' : ℕ) → winner s < slot_count → winning_level d s ≡ winning_level d' s
  unfolding winner
  winning_level_live d d' h =
      winning_level_view d s size ∙ level_live d d' (slots_of s) (omega (arith, slots_size s)) ∙ sym (winning_level_view d' s size)

  -- an empty slot emptied: no slot changes
  pub put_dead : (i : ℕ) → i < slot_count → is_live s i ≡ false → slots_of (put s i None) ≡ slots_of s
  put_dead i k h =
      put_slots s i None size k ∙ set_dead (slots_of s) i (sym (is_live_slot s i (omega arith)) ∙ h)

  pub winning_level_dead : (d i : ℕ) → i < slot_count → is_live s i ≡ false → winning_level d (put s i None) ≡ winning_level d s
  winning_level_dead d i k h =
      winning_level_view d (put s i None) (put_sized i None) ∙ ap (first_level d) (put_dead i k h) ∙ sym (winning_level_view d s size)

  pub winner_dead : (i : ℕ) → i < slot_count → is_live s i ≡ false → winner (put s i None) ≡ winner s
  unfolding winner
  winner_dead i k h = ap first_live (put_dead i k h)

  pub six_kept : (i : ℕ) (x : Option ℕ) → i < slot_count → i ≢ slot6 → is_live (put s i x) slot6 ≡ is_live s slot6
  six_kept i x k n =
      is_live_slot (put s i x) slot6 (omega (arith, put_sized i x))
      ∙ rw (put_slots s i x size k) (ap alive (get_or-set_other (slots_of s) i slot6 x None (omega arith)))
      ∙ sym (is_live_slot s slot6 (omega arith))

  pub six_set : (x : Option ℕ) → is_live (put s slot6 x) slot6 ≡ alive x
  six_set x =
      is_live_slot (put s slot6 x) slot6 (omega (arith, put_sized slot6 x))
      ∙ rw (put_slots s slot6 x size (omega arith)) (ap alive (get_or-set_same (slots_of s) slot6 x None (omega (arith, slots_size s))))

  -- every slot before the winner is empty
  pub dead_before : (i : ℕ) → i < winner s → is_live s i ≡ false
  dead_before i h =
      is_live_slot s i (omega (arith, winner_within, size)) ∙ none_before (slots_of s) i (unfold winner in h)
    where
      winner_within : winner s ≤ slot_count
      winner_within = unfold winner in (omega (arith, live_within (slots_of s), slots_size s, size))
