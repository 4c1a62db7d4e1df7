-- WHAT ENDS A WARNING, AND WHAT IT LEAVES. A warning is running exactly while slot 6 is live (the record
-- rules).
use Rattle.std.specs.Prelude.{Option, Some, None}
use mathlib.Core.Path.{◌≡◌, refl, sym, ◌∙◌}
use mathlib.Core.Logic.{◌≢◌}
use mathlib.Core.Bool.{true, false≢true}
use Prim.Native.Nat.{ℕ, ◌<◌}
use native.Mathlib.Omega.{arith}
use lib.ListN.{length}
use Rattle.lighting_outputs.specs.Paper.Parameters.{Parameters}
use Rattle.lighting_levels.specs.Paper.Choice.{when◌then◌else◌}
use Rattle.lighting_outputs.specs.Paper.Slots.{slot_count, slot6, slot, is_live, put, emptied}
use Rattle.lighting_outputs.specs.Paper.Record.{with_effect}
use Rattle.lighting_outputs.specs.Paper.Writing.{end_movement_unless_above, ended_empty, ended_stored, written_warned, written_by, written, activity_relinquished, slot_relinquished}
use Rattle.lighting_outputs.specs.declared.Activity.{Activity}
use Rattle.lighting_outputs.specs.declared.Activity.TheVariants.{Still, Moving, Warned}
use Rattle.lighting_outputs.specs.declared.Output.{Output}
use Rattle.lighting_levels.proofs.Split.{by_bool, eqb_miss, leb_yes, leb_no}
use Rattle.lighting_outputs.proofs.Rules.Facts.{Slot, Acts, Sound}
use Rattle.lighting_outputs.proofs.Priorities.Winner.{put_sized}
use Rattle.lighting_outputs.proofs.Consequences.Present.{slot_same, slot_other}

-- what is left: slot 6 is a, slot i is b, every other slot is as it was, and what is under way is w
pub record Leaves (o o' : Output) (i : ℕ) (a b : Option ℕ) (w : Activity) : Type 0 where
  pub six : slot o'.slots slot6 ≡ a
  pub own : slot o'.slots i ≡ b
  pub rest : (j : ℕ) → j ≢ slot6 → j ≢ i → slot o'.slots j ≡ slot o.slots j
  pub activity : o'.activity ≡ w

-- slot 6 emptied, then slot i put
put_leaves : (o : Output) (i : ℕ) (x : Option ℕ) → length o.slots.levels ≡ slot_count → i < slot_count → i ≢ slot6
    → Leaves o (with_effect o (put (emptied o.slots slot6) i x) Still) i None x Still
unfolding with_effect
put_leaves o i x z k n =
    let s = emptied o.slots slot6 in
    let q = put_sized o.slots z slot6 None in
    record {
      six = slot_other s q i slot6 x k n ∙ slot_same o.slots z slot6 None (omega arith);
      own = slot_same s q i x k;
      rest = λ j y r. slot_other s q i j x k (λ e. r (sym e)) ∙ slot_other o.slots z slot6 j None (omega arith) (λ e. y (sym e));
      activity = refl;
    }

-- 'During a warning'
warned_by_lem : (p : Parameters) (t : ℕ) (o : Output) (i v : ℕ) (a : Activity) → Acts p t o.settings o.slots a → is_live o.slots slot6 ≡ true
    → written_by t o i v a ≡ written_warned o i v
unfolding written_by
warned_by_lem p t o i v Still h e = absurd (false≢true (sym h ∙ e))
warned_by_lem p t o i v (Moving m) h e = absurd (false≢true (sym h.six ∙ e))
warned_by_lem p t o i v (Warned w) h e = refl

module _ (p : Parameters) (t : ℕ) (o : Output) (h : Sound p t o) (runs : is_live o.slots slot6 ≡ true) (i : ℕ) (k : Slot i) where
  -- 'kind 02 of zero at P above 6 empties slots 6 and P'
  pub zero_above : slot6 < i → Leaves o (written t o i 0) i None None Still
  unfolding written written_warned ended_empty when◌then◌else◌
  zero_above l =
      rw (warned_by_lem p t o i 0 o.activity h.activity runs, leb_yes {a = 6} {b = i} l)
      (put_leaves o i None h.slots.size k.inside k.free)

  -- 'of zero at P below 6 it empties slot 6 and stores'
  pub zero_below : i < slot6 → Leaves o (written t o i 0) i None (Some 0) Still
  unfolding written written_warned ended_stored when◌then◌else◌
  zero_below l =
      rw (warned_by_lem p t o i 0 o.activity h.activity runs, leb_no {a = 6} {b = i} (omega arith))
      (put_leaves o i (Some 0) h.slots.size k.inside k.free)

  -- 'of non_zero it empties slot 6 and stores'
  pub non_zero : (v : ℕ) → v ≢ 0 → Leaves o (written t o i v) i None (Some v) Still
  unfolding written written_warned ended_stored when◌then◌else◌
  non_zero v n =
      rw (warned_by_lem p t o i v o.activity h.activity runs, eqb_miss {a = v} {b = 0} n)
      (put_leaves o i (Some v) h.slots.size k.inside k.free)

  -- 'kind 03 leaves it running'
  pub runs_on : Leaves o (slot_relinquished o i) i (slot o.slots slot6) None o.activity
  unfolding slot_relinquished with_effect
  runs_on =
      record {
        six = slot_other o.slots h.slots.size i slot6 None k.inside k.free;
        own = slot_same o.slots h.slots.size i None k.inside;
        rest = λ j y r. slot_other o.slots h.slots.size i j None k.inside (λ e. r (sym e));
        activity = unchanged o.activity h.activity;
      }
    where
      unchanged : (a : Activity) → Acts p t o.settings o.slots a → activity_relinquished (is_live o.slots i) i a ≡ a
      unchanged Still q = absurd (false≢true (sym q ∙ runs))
      unchanged (Moving m) q = absurd (false≢true (sym q.six ∙ runs))
      unchanged (Warned w) q =
          unfold activity_relinquished end_movement_unless_above when◌then◌else◌ in (by_bool (is_live o.slots i) (λ e. rw e) (λ e. rw e))
