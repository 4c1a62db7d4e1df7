-- Slot after slot, each asked in turn.
use mathlib.Core.Path.{◌≡◌, refl}
use mathlib.Core.Bool.{Bool}
use Prim.Native.Nat.{ℕ, zero, suc, ◌+◌}
use Rattle.std.specs.List.{list_all, range_with_len}
use Rattle.lighting_levels.specs.Paper.Choice.{when◌then◌else◌, all_from}
use Rattle.lighting_levels.proofs.Split.{by_bool}

pub listed : (t : ℕ → Bool) (n i : ℕ) → list_all t (range_with_len i n) ≡ all_from t n i
unfolding all_from when◌then◌else◌
listed t zero i = refl
listed t (suc n) i = by_bool (t i) (λ e. rw e (listed t n (i + 1))) (λ e. rw e refl)
