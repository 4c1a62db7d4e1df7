-- A priority's range.
use mathlib.Core.Path.{◌≡◌, sym, ◌∙◌}
use mathlib.Core.Bool.{true, false≢true}
use Prim.Native.Nat.{ℕ, ◌≤◌, ◌<◌, ◌-◌}
use native.Mathlib.Omega.{arith}
use Rattle.lighting_outputs.specs.Paper.Rows.{is_slot, is_priority}
use Rattle.lighting_levels.proofs.Split.{unless, by_eq, le_of}

-- 'priority 0, 6 or over 16' is none
pub priority_range : (n : ℕ) → is_priority n ≡ true → (1 ≤ n) × (n ≤ 16)
unfolding is_priority is_slot
priority_range n h =
    let p = unless h in
    let greatest_count : n - 1 < 16 = le_of (unless p.1).1 in
    by_eq n 0 (λ e t. absurd (false≢true (sym p.0 ∙ t))) (λ d t. (omega arith, omega arith))
