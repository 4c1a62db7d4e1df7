-- A text goes through line by line, as the session takes it: the characters up to the next newline, and then
-- that line's end.
use mathlib.Core.Path.{◌≡◌, refl, sym, ap, ◌∙◌}
use mathlib.Core.Bool.{Bool, true, false}
use mathlib.Core.List.{[], ◌∷◌, ◌++◌}
use Prim.Native.Nat.{ℕ, suc, ◌+◌, ◌≤◌, ◌<◌}
use native.Mathlib.Omega.{arith}
use lib.Dec.{eqb}
use lib.ListN.{length, drop, length-drop, drop_of_length-le}
use lib.Seq.{drop-drop}
use Rattle.lighting_levels.specs.Paper.Choice.{when◌then◌else◌}
use Rattle.lighting_frames.specs.Paper.Frames.{Bytes}
use Rattle.lighting_panel.specs.Paper.Panel.{Panel}
use Rattle.lighting_levels.proofs.Split.{by_bool, eqb_miss}
use Rattle.text_reading.specs.declared.Reader.{Reader}
use Rattle.text_reading.specs.Reading.{feed, fed, fed_line, line_length}
use Rattle.text_heading.specs.Heading.{run}
use Rattle.text_heading.specs.Spelling.{Unbroken, nothing, char}
use Rattle.replay_line.specs.Taking.{Taken, taken, Through, through}

-- after a line's end
abbrev onward : Taken → Bytes → Through
onward k x = when k.good then through k.panel k.reader x else record { panel = k.panel; reader = k.reader; good = false }

newline : (p : Panel) (w : Reader) (x : Bytes) → line_length x < length x → through p w x ≡ onward (taken p (fed_line w x)) (drop (suc (line_length x)) x)
unfolding through fed_line line_length when◌then◌else◌
newline p w [] h = absurd (omega (arith, h))
newline p w (c ∷ x) h =
    by_bool (eqb c 10)
    (λ e. rw e)
    (λ e. rw e (newline p (feed w c) x (let z = rw e at h in omega (arith, z))))

over : (p : Panel) (w : Reader) (x : Bytes) → length x ≤ line_length x → through p w x ≡ record { panel = p; reader = fed_line w x; good = true }
unfolding through fed_line line_length when◌then◌else◌
over p w [] h = refl
over p w (c ∷ x) h =
    by_bool (eqb c 10)
    (λ e. let z = rw e at h in absurd (omega (arith, z)))
    (λ e. rw e (over p (feed w c) x (let z = rw e at h in omega (arith, z))))

-- from the place i of the text s on
module _ (p : Panel) (w : Reader) (s : Bytes) (i n : ℕ) (d : Reader) (f : d ≡ fed_line w (drop i s)) (l : n ≡ i + line_length (drop i s)) where
  -- a newline at n, and the line that it ends is a good one, or not
  at_newline : n < length s → through p w (drop i s) ≡ onward (taken p d) (drop (n + 1) s)
  at_newline h =
      newline p w (drop i s) (omega (arith, h, l, length-drop i s))
      ∙ rw (sym f) (ap (onward (taken p d)) (drop-drop (suc (line_length (drop i s))) i s ∙ ap (λ (k : ℕ). drop k s) after))
    where
      after : i + suc (line_length (drop i s)) ≡ n + 1
      after = omega (arith, l)

  -- after a newline at n: q, r and g are what the line leaves, and z is what the whole text comes to
  module _ (h : n < length s) (q : Panel) (r : Reader) (g : Bool) (z : Through) (a : q ≡ (taken p d).panel) (b : r ≡ (taken p d).reader) (e : g ≡ (taken p d).good) (v : through p w (drop i s) ≡ z) where
    pub went_on : g ≡ true → through q r (drop (n + 1) s) ≡ z
    unfolding when◌then◌else◌
    went_on k = rw (a, b) (sym (at_newline h ∙ rw (sym e ∙ k)) ∙ v)

    pub broke_off : g ≡ false → (r ≡ z.reader) × ((false ≡ z.good) × (q ≡ z.panel))
    unfolding when◌then◌else◌
    broke_off k =
        let y : through p w (drop i s) ≡ record { panel = (taken p d).panel; reader = (taken p d).reader; good = false } = at_newline h ∙ rw (sym e ∙ k) in
        rw (← v, y) (b, (refl, a))

  -- no newline any more
  pub line_open : (z : Through) → length s ≤ n → through p w (drop i s) ≡ z → through p d (drop n s) ≡ z
  unfolding through
  line_open z h v = rw (drop_of_length-le s h) (rw (sym f) at (sym (over p w (drop i s) (omega (arith, h, l, length-drop i s))) ∙ v))

-- the end of the text
pub text_over : (p : Panel) (w : Reader) (s : Bytes) (i : ℕ) (z : Through) → length s ≤ i → through p w (drop i s) ≡ z → (w ≡ z.reader) × ((true ≡ z.good) × (p ≡ z.panel))
unfolding through
text_over p w s i z h v = rw (← (rw (drop_of_length-le s h) at v)) (refl, (refl, refl))

-- a line's text without a newline, its newline, and what comes after, where the line is a good one
pub through_line : (p : Panel) (w : Reader) {x : Bytes} (t : Bytes) → Unbroken x → (taken p (fed w x)).good ≡ true → through p w (x ++ (10 ∷ t)) ≡ through (taken p (fed w x)).panel (taken p (fed w x)).reader t
unfolding through run when◌then◌else◌
through_line p w t nothing g = rw g
through_line p w t (char {c} {x} h u) g = rw (eqb_miss {a = c} {b = 10} h) (through_line p (feed w c) t u g)
