-- Made by tools/laws.py: each definition by clauses, at the variant that a match has found.
use mathlib.Core.Path.{◌≡◌}
use Prim.Native.Nat.{ℕ}
use Rattle.lighting_levels.specs.Paper.Level.{in_range, units_or}
use Rattle.std.specs.Prelude.{Option}
use mathlib.Core.Bool.{Bool}

pub in_range_on : (x0 : Option ℕ) (k : Option ℕ) (r : Bool) → x0 ≡ k → r ≡ in_range k → r ≡ in_range x0
in_range_on x0 k r e p = rw e p

pub units_or_on : (x0 : ℕ) (x1 : Option ℕ) (k : Option ℕ) (r : ℕ) → x1 ≡ k → r ≡ units_or x0 k → r ≡ units_or x0 x1
units_or_on x0 x1 k r e p = rw e p
