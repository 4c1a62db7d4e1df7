-- The padding of a body, byte after byte, and the operation by its number.
use mathlib.Core.Path.{◌≡◌, refl, sym}
use mathlib.Core.Bool.{Bool}
use mathlib.Core.List.{List}
use Prim.Native.Nat.{ℕ, zero, suc, ◌+◌, ◌-◌, ◌≤◌}
use native.Mathlib.Omega.{arith}
use lib.Dec.{eqb}
use lib.ListN.{get_or, get_or-eq_default}
use Rattle.std.specs.List.{list_all, range_with_len}
use Rattle.lighting_levels.specs.Paper.Choice.{when◌then◌else◌, all_from}
use Rattle.lighting_levels.specs.Paper.Field.{byte_at}
use Rattle.lighting_levels.specs.Paper.Level.{real}
use Rattle.lighting_frames.specs.Paper.Tags.{length_of, zero_beyond, held_by, operations, operation_of}
use Rattle.lighting_outputs.specs.declared.Operation.{Operation}
use Rattle.lighting_outputs.specs.declared.Operation.TheVariants.{Stop}
use Rattle.lighting_frames.specs.declared.TagFields.{TagFields}
use Rattle.lighting_levels.proofs.Split.{by_bool}

-- THE PADDING
abbrev pub is_zero : List ℕ → ℕ → Bool
is_zero body i = eqb (byte_at body i) 0

listed : (t : ℕ → Bool) (n i : ℕ) → list_all t (range_with_len i n) ≡ all_from t n i
unfolding all_from when◌then◌else◌
listed t zero i = refl
listed t (suc n) i = by_bool (t i) (λ e. rw e (listed t n (i + 1))) (λ e. rw e refl)

pub beyond : (body : List ℕ) → list_all (is_zero body) (range_with_len (1 + length_of body) (17 - length_of body)) ≡ zero_beyond body
unfolding zero_beyond
beyond body =
    let s : suc (length_of body) ≡ 1 + length_of body = omega arith in
    rw s (listed (is_zero body) (17 - length_of body) (1 + length_of body))

-- THE OPERATION that has the number
module _ (f : TagFields) where
  abbrev known : List Operation
  known = operations (real (held_by f.level)) (real (held_by f.rate)) (real (held_by f.step)) (held_by f.fade)

  pub numbered : (n : ℕ) {held : ℕ} {r : Operation} → held ≡ held_by f.operation → held ≡ n → r ≡ get_or known n Stop → r ≡ operation_of f
  unfolding operation_of
  numbered n h k e = rw (← h, k) e

  pub unnumbered : {held : ℕ} → held ≡ held_by f.operation → 11 ≤ held → Stop ≡ operation_of f
  unfolding operation_of
  unnumbered h k = rw (← h) (sym (get_or-eq_default known Stop k))
