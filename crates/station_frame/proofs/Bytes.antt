-- A frame that is kept in the bytes of the longest, and two strings that are compared.
use mathlib.Core.Path.{◌≡◌, refl, ap}
use mathlib.Core.List.{List, [], ◌∷◌, ◌++◌}
use Prim.Native.Nat.{ℕ}
use lib.Dec.{eqb}
use lib.ListN.{length, drop, replicate}
use lib.Pointwise.{pointwise}
use Rattle.std.proofs.lemmas.List.{drop-replicate}
use Rattle.lighting_frames.specs.Paper.Kinds.{longest_frame}
use Rattle.lighting_levels.specs.Paper.Choice.{when◌then◌else◌}
use Rattle.lighting_frames.specs.Paper.Copies.{same_bytes}
use Rattle.lighting_panel.specs.Engine.Judging.{padded}
use Rattle.lighting_levels.proofs.Split.{by_bool}

-- its own bytes, and of the zeros those past them
pub padded_by : (b f : List ℕ) → f ≡ b → f ++ drop (length b) (replicate longest_frame 0) ≡ padded b
unfolding padded
padded_by b f e = rw e (ap (λ (z : List ℕ). b ++ z) (drop-replicate (length b) longest_frame 0))

-- two strings are equal if they are the same bytes
pub same_is : (b g : List ℕ) → pointwise eqb b g ≡ same_bytes b g
unfolding same_bytes when◌then◌else◌
same_is [] [] = refl
same_is [] (y ∷ g) = refl
same_is (x ∷ b) [] = refl
same_is (x ∷ b) (y ∷ g) = by_bool (eqb x y) (λ e. rw e (same_is b g)) (λ e. rw e)
