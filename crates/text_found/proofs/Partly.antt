-- What is found of the first outputs, one more each time: the page that an error leaves has the first of
-- them.
use mathlib.Core.Path.{◌≡◌, sym, ap, ◌∙◌}
use mathlib.Core.Bool.{Bool}
use mathlib.Core.List.{List, [], ◌∷◌, ◌++◌}
use Prim.Native.Nat.{ℕ, suc, ◌+◌, ◌<◌, min}
use native.Mathlib.Omega.{arith}
use lib.ListN.{length, take, get_or, length-take}
use lib.Seq.{take_all}
use Rattle.std.proofs.lemmas.List.{take_more}
use Rattle.lighting_levels.proofs.Split.{by_le}
use Rattle.text_found.specs.Partly.{FoundPartly}
use Rattle.lighting_outputs.specs.declared.Output.{Output}
use Rattle.text_printing.specs.declared.Page.{Page}
use Rattle.text_printing.specs.Page.{with_text, Wrote}
use Rattle.text_found.specs.Found.{found_head, found_output, with_room, with_output, with_outputs, with_found}

-- the last of a list is put on what the others leave
pub last_output : (report : Bool) (t i : ℕ) (s : Page) (l : List Output) (o : Output)
    → with_outputs s report t i (l ++ (o ∷ [])) ≡ with_output (with_outputs s report t i l) report t (i + length l) o
unfolding with_outputs
last_output report t i s [] o = ap (λ (k : ℕ). with_output s report t k o) (omega arith)
last_output report t i s (x ∷ l) o =
    last_output report t (suc i) (with_output s report t i x) l o
    ∙ ap (λ (k : ℕ). with_output (with_outputs (with_output s report t i x) report t (suc i) l) report t k o) (omega arith)

-- the output i comes after the first i
pub found_more : (report : Bool) (t i : ℕ) (s : Page) (l : List Output) (d : Output) → i < length l
    → with_found s report t (take (i + 1) l) ≡ with_output (with_found s report t (take i l)) report t i (get_or l i d)
unfolding with_found
found_more report t i s l d h =
    let long : length (take i l) ≡ i = omega (arith, length-take i l) in
    rw (take_more l i d h, last_output, long) (ap (λ (k : ℕ). with_output (with_outputs (with_text s (found_head report t)) report t 0 (take i l)) report t k (get_or l i d)) (omega arith))

module _ (report : Bool) (t i : ℕ) (s : Page) where
  -- the head, and no output yet
  pub partly_begun : {p : Page} → Wrote s (found_head report t) p → p ≡ with_found s report t []
  unfolding with_found with_outputs
  partly_begun w = w

  -- one more output, for which there was room first
  pub partly_more : (l : List Output) (d : Output) {p q r : Page} → i < length l → p ≡ with_found s report t (take i l) → q ≡ with_room p
      → Wrote q (found_output report i t (get_or l i d)) r → r ≡ with_found s report t (take (i + 1) l)
  unfolding with_output
  partly_more l d h e f w = rw (found_more report t i s l d h, ← e, ← f) w

  -- as many outputs as there are
  pub as_many : (n : ℕ) (l : List Output) → take (min n (length l)) l ≡ take n l
  as_many n l = by_le n (length l) (λ h e. ap (λ (k : ℕ). take k l) (omega arith)) (λ h e. ap (λ (k : ℕ). take k l) (omega arith) ∙ take_all (length l) l (omega arith) ∙ sym (take_all n l (omega arith)))

  -- a page that could not be written out
  pub partly : (n m : ℕ) (l : List Output) {p q : Page} → m ≡ min n (length l) → p ≡ with_found s report t (take i (take m l)) → q ≡ p → FoundPartly s report t (take n l) q
  partly n m l e v f = record { count = i; page = f ∙ v ∙ ap (λ (x : List Output). with_found s report t (take i x)) (ap (λ (k : ℕ). take k l) e ∙ as_many n l) }
