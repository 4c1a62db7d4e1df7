-- What an error leaves: a text that stops at the end of a line, and a text that stops anywhere.
use mathlib.Core.Path.{◌≡◌, refl, sym, ap, ◌∙◌}
use mathlib.Core.Bool.{Bool, true, false≢true}
use mathlib.Core.List.{[], ◌∷◌, ◌++◌}
use Prim.Native.Nat.{ℕ, suc, ◌+◌, ◌≤◌, ◌<◌}
use native.Mathlib.Omega.{arith}
use lib.Dec.{eqb}
use lib.ListN.{length, take, drop, length-drop}
use lib.Seq.{take-add, take_all}
use Rattle.std.specs.Prelude.{Result, Ok, Err, OnErr}
use Rattle.lighting_levels.specs.Paper.Choice.{when◌then◌else◌}
use Rattle.lighting_frames.specs.Paper.Frames.{Bytes}
use Rattle.lighting_panel.specs.Paper.Panel.{Panel}
use Rattle.lighting_levels.proofs.Split.{by_bool}
use Rattle.text_reading.specs.declared.Held.TheVariants.{Blank}
use Rattle.text_reading.specs.declared.Line.{Line}
use Rattle.text_reading.specs.declared.Line.TheVariants.{Nothing, Started, Frame, Wrong}
use Rattle.text_reading.specs.declared.Reader.{Reader}
use Rattle.text_reading.specs.Reading.{feed, fed_line, line_length, line_of, next_line, with_named, fresh_reader}
use Rattle.replay_line.specs.declared.Tables.{Tables}
use Rattle.replay_line.specs.Tables.{panel_in, with_panel}
use Rattle.replay_line.specs.Taking.{Through, taken, taken_by, through, Went, closed, finished, Replayed}
use Rattle.replay_line.proofs.Parts.{taken_blank}
use Rattle.replay_session.specs.Reached.{Reached, ReachedIn}

-- a text after another
after_good : (p : Panel) (w : Reader) (x y : Bytes) → (through p w x).good ≡ true → through p w (x ++ y) ≡ through (through p w x).panel (through p w x).reader y
unfolding through when◌then◌else◌
after_good p w [] y h = refl
after_good p w (c ∷ x) y h =
    by_bool (eqb c 10)
    (λ e.
    by_bool (taken p w).good
    (λ g. rw (e, g) (after_good (taken p w).panel (taken p w).reader x y (rw (e, g) at h)))
    (λ g. absurd (false≢true (rw (e, g) at h))))
    (λ e. rw e (after_good p (feed w c) x y (rw e at h)))

-- the characters up to a newline, and the newline
line_ended : (p : Panel) (w : Reader) (x : Bytes) → line_length x < length x
    → through p w (take (suc (line_length x)) x) ≡ record {
      panel = (taken p (fed_line w x)).panel;
      reader = (taken p (fed_line w x)).reader;
      good = (taken p (fed_line w x)).good;
    }
unfolding through fed_line line_length when◌then◌else◌
line_ended p w [] h = absurd (omega (arith, h))
line_ended p w (c ∷ x) h =
    by_bool (eqb c 10)
    (λ e. rw e (by_bool (taken p w).good (λ g. rw g) (λ g. rw g)))
    (λ e. rw e (line_ended p (feed w c) x (let z = rw e at h in omega (arith, z))))

-- no newline in the text
line_left : (p : Panel) (w : Reader) (x : Bytes) → length x ≤ line_length x → through p w x ≡ record { panel = p; reader = fed_line w x; good = true }
unfolding through fed_line line_length when◌then◌else◌
line_left p w [] h = refl
line_left p w (c ∷ x) h =
    by_bool (eqb c 10)
    (λ e. let z = rw e at h in absurd (omega (arith, z)))
    (λ e. rw e (line_left p (feed w c) x (let z = rw e at h in omega (arith, z))))

-- THE FIRST i CHARACTERS of a text came, and every line was good so far
pub record GoodSoFar (p₀ : Panel) (w₀ : Reader) (s : Bytes) (i : ℕ) (p : Panel) (w : Reader) : Type 0 where
  pub whole : through p₀ w₀ (take i s) ≡ record { panel = p; reader = w; good = true }

module _ {p₀ p : Panel} {w₀ w : Reader} {s : Bytes} {i : ℕ} (v : GoodSoFar p₀ w₀ s i p w) where
  -- some more
  more : (k : ℕ) → through p₀ w₀ (take (i + k) s) ≡ through p w (take k (drop i s))
  more k = rw (take-add i k s, after_good p₀ w₀ (take i s) (take k (drop i s)) (ap (λ (z : Through). z.good) v.whole), v.whole)

  -- a newline at n, where q, r and g are what the line leaves
  module _ (n : ℕ) (d : Reader) (q : Panel) (r : Reader) (g : Bool) (f : d ≡ fed_line w (drop i s)) (l : n ≡ i + line_length (drop i s)) (h : n < length s)
      (a : q ≡ (taken p d).panel) (b : r ≡ (taken p d).reader) (e : g ≡ (taken p d).good) where
    ended_at : through p₀ w₀ (take (n + 1) s) ≡ record { panel = q; reader = r; good = g }
    ended_at =
        let k : n + 1 ≡ i + suc (line_length (drop i s)) = omega (arith, l) in
        rw (k, more (suc (line_length (drop i s))), line_ended p w (drop i s) (omega (arith, h, l, length-drop i s)), ← f, ← a, ← b, ← e)

    pub good_more : g ≡ true → GoodSoFar p₀ w₀ s (n + 1) q r
    good_more t = record { whole = rw t at ended_at }

    pub reached_in : ReachedIn s p₀ w₀ q
    reached_in = record { count = n + 1; panel = sym (ap (λ (z : Through). z.panel) ended_at) }

  -- no newline any more
  pub good_left : (n : ℕ) {d : Reader} → d ≡ fed_line w (drop i s) → n ≡ i + line_length (drop i s) → length s ≤ n → GoodSoFar p₀ w₀ s n p d
  good_left n f l h =
      let all : take n s ≡ take (i + length (drop i s)) s = take_all n s h ∙ sym (take_all (i + length (drop i s)) s (omega (arith, length-drop i s))) in
      record { whole = rw (all, more (length (drop i s)), take_all (length (drop i s)) (drop i s) (omega arith), line_left p w (drop i s) (omega (arith, h, l, length-drop i s)), ← f) }

pub good_none : (p : Panel) (w : Reader) (s : Bytes) → GoodSoFar p w s 0 p w
unfolding through
good_none p w s = record { whole = refl }

-- an error, with what it leaves
pub on_err : {T E P : Type 0} (r : Result T E) → P → OnErr r P
on_err (Ok x) p = tt
on_err (Err e) p = p

-- FROM PART TO PART
pub reached_none : (p : Panel) (w : Reader) → Reached p w p
unfolding through
reached_none p w = record { came = []; panel = refl }

pub reached_part : {p q : Panel} {w : Reader} {x : Bytes} → ReachedIn x p w q → Reached p w q
reached_part {x = x} f = record { came = take f.count x; panel = f.panel }

pub reached_then : {p q u : Panel} {w v : Reader} → Went p w q v true → Reached q v u → Reached p w u
reached_then {p} {q} {u} {w} {v} f n =
    let e : through p w (f.came ++ n.came) ≡ through q v n.came = rw (f.panel, f.reader) (after_good p w f.came n.came (sym f.good)) in
    record { came = f.came ++ n.came; panel = rw e n.panel }

-- A TEXT THAT STOPS ANYWHERE leaves the tables as the whole lines of it do
at_start : (p : Panel) (w : Reader) (k : Line) → (taken_by p w k).reader.held ≡ Blank
unfolding taken_by next_line with_named
at_start p w Nothing = refl
at_start p w (Started s) = refl
at_start p w Frame = refl
at_start p w (Wrong f) = refl

closed_end : (p : Panel) (w : Reader) → closed (record { panel = (taken p w).panel; reader = (taken p w).reader; good = true }) ≡ (taken p w).panel
unfolding closed when◌then◌else◌
closed_end p w = taken_blank (taken p w).panel (taken p w).reader (unfold taken in (at_start p w (line_of w.held)))

-- either no line of it ended, or a text of whole lines leaves the same
whole_lines : {C : Type 0} (p : Panel) (w : Reader) (x : Bytes) → ((through p w x).panel ≡ p → C)
    → ((y : Bytes) → closed (through p w y) ≡ (through p w x).panel → C) → C
unfolding through when◌then◌else◌
whole_lines p w [] a b = a refl
whole_lines p w (c ∷ x) a b =
    by_bool (eqb c 10)
    (λ e.
    by_bool (taken p w).good
    (λ g.
    whole_lines (taken p w).panel (taken p w).reader x
    (λ h. b (c ∷ []) (rw (e, g) (closed_end p w ∙ sym h)))
    (λ y h. b (c ∷ y) (rw (e, g) h)))
    (λ g. b (c ∷ []) (rw (e, g) (unfold closed in refl))))
    (λ e. whole_lines p (feed w c) x (λ h. a (rw e h)) (λ y h. b (c ∷ y) (rw e h)))

pub replayed_part : {p q : Panel} → Reached p fresh_reader q → Replayed p q
replayed_part {p} {q} f =
    whole_lines p fresh_reader f.came
    (λ h. record { came = []; panel = f.panel ∙ h ∙ sym none })
    (λ y h. record { came = y; panel = f.panel ∙ sym (unfold finished in h) })
  where
    none : finished p [] ≡ p
    none = unfold finished through closed when◌then◌else◌ fresh_reader in (taken_blank p fresh_reader refl)

-- THE TABLES THAT WERE LENT are lent on, from line to line and from part to part
pub lent_on : (t u : Tables) {v : Tables} (q : Panel) → u ≡ with_panel t (panel_in u) → v ≡ with_panel u q → v ≡ with_panel t (panel_in v)
lent_on t u q a b = rw b (ap (λ (z : Tables). with_panel z q) a)
