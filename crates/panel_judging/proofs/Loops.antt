-- A test of every record of a table, as the library tests a list.
use mathlib.Core.Path.{◌≡◌, refl}
use mathlib.Core.Bool.{Bool}
use mathlib.Core.List.{List, [], ◌∷◌}
use Rattle.std.specs.List.{list_all}
use Rattle.lighting_levels.specs.Paper.Choice.{when◌then◌else◌, every}
use Rattle.lighting_levels.proofs.Split.{by_bool}

pub all_every : {A : Type 0} (p : A → Bool) (xs : List A) → list_all p xs ≡ every p xs
unfolding every when◌then◌else◌
all_every p [] = refl
all_every p (x ∷ xs) = by_bool (p x) (λ e. rw e (all_every p xs)) (λ e. rw e refl)
