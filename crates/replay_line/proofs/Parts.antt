-- A text that comes in parts goes through as the whole does.
use mathlib.Core.Path.{◌≡◌, refl, sym, ◌∙◌}
use mathlib.Core.Bool.{Bool, true, false, false≢true}
use mathlib.Core.List.{[], ◌∷◌, ◌++◌}
use lib.Dec.{eqb}
use Rattle.lighting_levels.specs.Paper.Choice.{when◌then◌else◌}
use Rattle.lighting_frames.specs.Paper.Frames.{Bytes}
use Rattle.lighting_panel.specs.Paper.Panel.{Panel}
use Rattle.lighting_levels.proofs.Split.{by_bool}
use Rattle.text_reading.specs.declared.Reader.{Reader}
use Rattle.text_reading.specs.declared.Held.TheVariants.{Blank}
use Rattle.text_reading.specs.declared.Line.{Line}
use Rattle.text_reading.specs.declared.Line.TheVariants.{Nothing, Started, Frame, Wrong}
use Rattle.text_reading.specs.Reading.{feed, line_of, next_line, with_named, fresh_reader}
use Rattle.replay_line.specs.Taking.{taken_by, taken, through, Went, closed, finished, Replayed}

through_append : (p : Panel) (w : Reader) (x y : Bytes) → (through p w x).good ≡ true → through p w (x ++ y) ≡ through (through p w x).panel (through p w x).reader y
unfolding through when◌then◌else◌
through_append p w [] y h = refl
through_append p w (c ∷ x) y h =
    by_bool (eqb c 10)
    (λ e.
    by_bool (taken p w).good
    (λ g. rw (e, g) (through_append (taken p w).panel (taken p w).reader x y (rw (e, g) at h)))
    (λ g. absurd (false≢true (rw (e, g) at h))))
    (λ e. rw e (through_append p (feed w c) x y (rw e at h)))

-- nothing came
pub went_none : (p : Panel) (w : Reader) → Went p w p w true
unfolding through
went_none p w = record { came = []; panel = refl; reader = refl; good = refl }

pub went_is : {p q : Panel} {w v : Reader} {g h : Bool} → g ≡ h → Went p w q v g → Went p w q v h
went_is e f = rw e at f

-- more came
pub went_then : {p q u : Panel} {w v t : Reader} {g : Bool} → Went p w q v true → Went q v u t g → Went p w u t g
went_then {p} {q} {u} {w} {v} {t} {g} f n =
    let e : through p w (f.came ++ n.came) ≡ through q v n.came = rw (f.panel, f.reader) (through_append p w f.came n.came (sym f.good)) in
    record { came = f.came ++ n.came; panel = rw e n.panel; reader = rw e n.reader; good = rw e n.good }

-- the end: the last line is taken, or a bad line ended the list
pub replayed : {p q u : Panel} {v : Reader} → Went p fresh_reader q v true → u ≡ (taken q v).panel → Replayed p u
replayed {p} {q} {u} {v} f e =
    let x = f.came in
    let last : finished p x ≡ (taken (through p fresh_reader x).panel (through p fresh_reader x).reader).panel =
    unfold finished closed when◌then◌else◌ in (rw (sym f.good))
    in
    record { came = x; panel = rw (last, ← f.panel, ← f.reader) e }

pub replayed_bad : {p q : Panel} {v : Reader} → Went p fresh_reader q v false → Replayed p q
replayed_bad {p} {q} f =
    let x = f.came in
    let broken : finished p x ≡ (through p fresh_reader x).panel = unfold finished closed when◌then◌else◌ in (rw (sym f.good)) in
    record { came = x; panel = f.panel ∙ sym broken }

-- A NEWLINE AT THE END changes nothing: the line that it opens is empty
pub taken_blank : (p : Panel) (w : Reader) → w.held ≡ Blank → (taken p w).panel ≡ p
unfolding taken taken_by line_of
taken_blank p w h = rw h

at_start : (p : Panel) (w : Reader) (k : Line) → (taken_by p w k).reader.held ≡ Blank
unfolding taken_by next_line with_named
at_start p w Nothing = refl
at_start p w (Started s) = refl
at_start p w Frame = refl
at_start p w (Wrong f) = refl

pub closed_newline : (p : Panel) (w : Reader) (x : Bytes) → closed (through p w (x ++ (10 ∷ []))) ≡ closed (through p w x)
unfolding through closed when◌then◌else◌
closed_newline p w [] =
    by_bool (taken p w).good
    (λ g. rw g (taken_blank (taken p w).panel (taken p w).reader (unfold taken in (at_start p w (line_of w.held)))))
    (λ g. rw g)
closed_newline p w (c ∷ x) =
    by_bool (eqb c 10)
    (λ e. by_bool (taken p w).good (λ g. rw (e, g) (closed_newline (taken p w).panel (taken p w).reader x)) (λ g. rw (e, g)))
    (λ e. rw e (closed_newline p (feed w c) x))
