-- Where the units of a level, a limit, a rate and a step lie.
use Rattle.std.specs.Prelude.{Option, Some, None}
use mathlib.Core.Path.{◌≡◌, refl}
use mathlib.Core.Bool.{Bool, true, false}
use Prim.Native.Nat.{ℕ, ◌*◌, ◌≤◌, ◌<◌, min}
use native.Mathlib.Omega.{arith}
use lib.Dec.{leb, ltb, eqb, lit<}
use lib.Ieee.{Float, nan, inf, fin, up, down}
use lib.Ieee.Fits.{down_pos}
use Rattle.lighting_levels.specs.Paper.Choice.{when◌then◌else◌, ◌also◌}
use Rattle.lighting_levels.specs.Paper.Level.{one_percent, least_level, greatest_level, least_amount, units_in, from_to, real_from_to, level_of, amount_of, limit_of, units_or, amount_units, level_units}
use Rattle.lighting_levels.proofs.Split.{also_both, le_of, passed}
use Rattle.lighting_levels.proofs.Rounding.{nearest_mono, nearest_whole}

-- what is refused has no units
pub refused : {A : Type 0} {v : ℕ} → ◌≡◌ {A = Option ℕ} None (Some v) → A
refused h = let z : ◌≡◌ {A = ℕ} 0 1 = cc in absurd (omega arith)

-- units that a test let through
taken : (t : Bool) (u v : ℕ) → (when t then Some u else None) ≡ Some v → (t ≡ true) × (u ≡ v)
taken t u v h =
    let p = passed t (Some u) None (Some v) refused h in
    let e : Some u ≡ Some v = p.1 in
    (p.0, cc)

-- from k eighths to 100 they are from k * 8,192 to 6,553,600
from_to_lem : (k a c v : ℕ) → 0 < c → from_to k a c ≡ Some v → (k * least_amount ≤ v) × (v ≤ greatest_level)
from_to_lem k a c v C h =
    let t = taken (leb (k * c) (a * 8) also leb a (100 * c)) (units_in a c) v h in
    let e : units_in a c ≡ v = t.1 in
    let l : k * c ≤ a * 8 = le_of (also_both t.0).0 in
    let m : a ≤ 100 * c = le_of (also_both t.0).1 in
    omega (
      arith,
      nearest_mono (k * least_amount) 1 (a * one_percent) c (lit< tt) C (omega arith),
      nearest_mono (a * one_percent) c greatest_level 1 C (lit< tt) (omega arith),
      nearest_whole (k * least_amount),
      nearest_whole greatest_level,
    )

real_from_to_lem : (k : ℕ) (x : Float) (v : ℕ) → real_from_to k x ≡ Some v → (k * least_amount ≤ v) × (v ≤ greatest_level)
unfolding real_from_to
real_from_to_lem k nan v h = refused h
real_from_to_lem k (inf s) v h = refused h
real_from_to_lem k (fin true m e) v h = refused h
real_from_to_lem k (fin false m e) v h = from_to_lem k (m * up e) (down e) v (down_pos e) h

pub amount_units_lem : (x : Float) (v : ℕ) → amount_of x ≡ Some v → (least_amount ≤ v) × (v ≤ greatest_level)
unfolding amount_of
amount_units_lem x v h = real_from_to_lem 1 x v h

pub limit_units : (x : Float) (v : ℕ) → limit_of x ≡ Some v → (least_level ≤ v) × (v ≤ greatest_level)
unfolding limit_of
limit_units x v h = real_from_to_lem 8 x v h

module _ (v : ℕ) where
  abbrev Range : Type 0
  Range = (least_level * min 1 v ≤ v) × (v ≤ greatest_level)

  one_of : {u : ℕ} → ◌≡◌ {A = Option ℕ} (Some u) (Some v) → (least_level * min 1 u ≤ u) × (u ≤ greatest_level) → Range
  one_of {u} h r = let e : u ≡ v = cc in rw (← e) r

  zero_in : (t : Bool) → (when t then Some 0 else None) ≡ Some v → Range
  zero_in t h = let z = (taken t 0 v h).1 in omega arith

  level_in_lem : (a c : ℕ) (z l : Bool) → 0 < c → (when z then Some 0 else when l then Some least_level else from_to 8 a c) ≡ Some v → Range
  unfolding when◌then◌else◌
  level_in_lem a c true l C h = one_of h (omega arith)
  level_in_lem a c false true C h = one_of h (omega arith)
  level_in_lem a c false false C h = omega (arith, from_to_lem 8 a c v C h)

pub level_units_lem : (x : Float) (v : ℕ) → level_of x ≡ Some v → (least_level * min 1 v ≤ v) × (v ≤ greatest_level)
unfolding level_of
level_units_lem nan v h = refused h
level_units_lem (inf s) v h = refused h
level_units_lem (fin true m e) v h = zero_in v (eqb (m * up e) 0) h
level_units_lem (fin false m e) v h = level_in_lem v (m * up e) (down e) (eqb (m * up e) 0) (ltb (m * up e) (down e)) (down_pos e) h

-- ---- and with something in place of what is refused
or_units : (P : ℕ → Type 0) (d : ℕ) (l : Option ℕ) → P d → ((v : ℕ) → l ≡ Some v → P v) → P (units_or d l)
unfolding units_or
or_units P d (Some v) p f = f v refl
or_units P d None p f = p

pub amount_range : (x : Float) → (least_amount ≤ amount_units x) × (amount_units x ≤ greatest_level)
unfolding amount_units
amount_range x = or_units (λ v. (least_amount ≤ v) × (v ≤ greatest_level)) least_amount (amount_of x) (omega arith) (amount_units_lem x)

pub level_range : (x : Float) → (least_level * min 1 (level_units x) ≤ level_units x) × (level_units x ≤ greatest_level)
unfolding level_units
level_range x = or_units (λ v. (least_level * min 1 v ≤ v) × (v ≤ greatest_level)) 0 (level_of x) (omega arith) (level_units_lem x)
