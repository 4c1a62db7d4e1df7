-- Units, or what stands for them where a REAL is out of range.
use mathlib.Core.Path.{◌≡◌, refl, ap, ◌∙◌}
use Prim.Native.Nat.{ℕ}
use Rattle.std.specs.Prelude.{Option, Some, None, unwrap_or}
use Rattle.lighting_levels.specs.Paper.Level.{units_or}

units : (d : ℕ) (l : Option ℕ) → unwrap_or l d ≡ units_or d l
unfolding units_or
units d None = refl
units d (Some v) = refl

pub units_are : (d : ℕ) (l k : Option ℕ) (r : ℕ) → r ≡ unwrap_or l d → l ≡ k → r ≡ units_or d k
units_are d l k r e p = e ∙ units d l ∙ ap (units_or d) p
