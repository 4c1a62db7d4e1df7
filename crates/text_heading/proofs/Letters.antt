-- No word has more than eight letters.
use mathlib.Core.Path.{◌≡◌}
use Prim.Native.Nat.{ℕ, ◌≤◌, ◌<◌}
use native.Mathlib.Omega.{arith}
use lib.ListN.{length}
use Rattle.std.specs.Prelude.{Some, slice_get}
use Rattle.std.proofs.lemmas.Option.{slice_get_within}
use Rattle.text_heading.specs.Words.{letters}
use Rattle.text_heading.specs.declared.Word.{Word}
use Rattle.text_heading.specs.declared.Word.TheVariants.{Outputs, Stations, Fade, Duration, Tenants}

pub most_letters : (w : Word) → length (letters w) ≤ 8
unfolding letters
most_letters Outputs = omega arith
most_letters Stations = omega arith
most_letters Fade = omega arith
most_letters Duration = omega arith
most_letters Tenants = omega arith

pub letter_within : (w : Word) (k : ℕ) (l : ℕ) → slice_get (letters w) k ≡ Some l → k < 8
letter_within w k l h = omega (arith, slice_get_within (letters w) k l h, most_letters w)
