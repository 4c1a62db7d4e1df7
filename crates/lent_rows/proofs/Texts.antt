-- A turn of the loop that writes a row's numbers.
use mathlib.Core.Path.{◌≡◌, refl, sym, ap, ◌∙◌}
use mathlib.Core.List.{List, [], ◌∷◌, ◌++◌, append_assoc, append-nil}
use Prim.Native.Nat.{ℕ, ◌+◌, ◌<◌}
use native.Mathlib.Numerals.{add-one}
use lib.ListN.{length, take, get_or}
use lib.Seq.{take-suc}
use Rattle.lighting_frames.specs.Paper.Frames.{Bytes}
use Rattle.text_printing.specs.Writing.{decimal}
use Rattle.lent_rows.specs.Rows.{numbers_text}

numbers_append : (x y : List ℕ) → numbers_text (x ++ y) ≡ numbers_text x ++ numbers_text y
unfolding numbers_text
numbers_append [] y = refl
numbers_append (n ∷ x) y =
    ap (λ (l : Bytes). 32 ∷ (decimal n ++ l)) (numbers_append x y) ∙ sym (append_assoc (32 ∷ decimal n) (numbers_text x) (numbers_text y))

pub numbers_more : (l : List ℕ) (i : ℕ) → i < length l → numbers_text (take (i + 1) l) ≡ numbers_text (take i l) ++ (32 ∷ decimal (get_or l i 0))
unfolding numbers_text
numbers_more l i h = rw (add-one, take-suc l i 0 h, numbers_append (take i l) (get_or l i 0 ∷ []), append-nil)
