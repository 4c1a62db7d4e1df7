-- A priority as a frame names it, 1 to 16 but 6.
use mathlib.Core.Path.{◌≡◌, refl}
use mathlib.Core.Bool.{true, false}
use Prim.Native.Nat.{ℕ, suc, ◌-◌, ◌<◌}
use native.Mathlib.Omega.{arith}
use Rattle.lighting_levels.specs.Paper.Choice.{when◌then◌else◌}
use Rattle.lighting_outputs.specs.Paper.Rows.{is_slot, is_priority}
use Rattle.lighting_levels.proofs.Split.{eqb_miss, leb_yes, leb_no}
use Rattle.lighting_outputs.proofs.Rules.Facts.{Slot}

-- KINDS 02 AND 03: the priority is 1 to 16 but 6, slot i has i + 1; 'priority 0, 6 or over 16' is 10, 'REAL
-- out of range' 11
pub priority_yes : (i : ℕ) → Slot i → is_priority (suc i) ≡ true
unfolding is_priority is_slot when◌then◌else◌
priority_yes i k =
    let e : suc i - 1 ≡ i = omega arith in
    rw (eqb_miss {a = suc i} {b = 0} (omega arith), e, eqb_miss {a = i} {b = 5} k.free, leb_yes {a = suc i} {b = 16} k.inside)

pub data NoPriority : ℕ → Type 0 where
  zeroth : NoPriority 0
  sixth : NoPriority 6
  beyond : {n : ℕ} → 16 < n → NoPriority n

pub priority_no : (n : ℕ) → NoPriority n → is_priority n ≡ false
unfolding is_priority is_slot when◌then◌else◌
priority_no n zeroth = refl
priority_no n sixth = refl
priority_no n (beyond h) = rw (eqb_miss {a = n} {b = 0} (omega arith), eqb_miss {a = n - 1} {b = 5} (omega arith), leb_no {a = suc (n - 1)} {b = 16} (omega arith))
