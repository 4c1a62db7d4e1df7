-- What is named is read: a text that names a set and marks, read from the word `outputs` on, is judged by
-- that set's numbers at its end.
use mathlib.Core.Path.{◌≡◌, refl, sym, ap, subst, ◌∙◌}
use mathlib.Core.Bool.{Bool, true, false, false≢true}
use mathlib.Core.List.{[], ◌∷◌, ◌++◌}
use Prim.Native.Nat.{ℕ, suc, ◌+◌, ◌*◌, ◌<◌, min}
use native.Mathlib.Omega.{arith}
use lib.Dec.{ltb, eqb}
use lib.ListN.{length}
use Rattle.lighting_levels.specs.Paper.Choice.{when◌then◌else◌, every}
use Rattle.lighting_frames.specs.Paper.Frames.{Bytes}
use Rattle.lighting_levels.proofs.Split.{by_bool, leb_yes, le_of, also_both}
use Rattle.text_characters.specs.Characters.{is_blank}
use Rattle.text_heading.specs.Words.{letters, base, may_follow, number_in, set_with, marks_with, with_number, has_come, with_come}
use Rattle.text_heading.specs.Heading.{left_out, none_came, fresh_heading, with_place, lettered_by, lettered, takes_digit, digit_of, counted, counted_on, gapped_by, gapped, numbered_by, numbered, marked, word_begun, trailed, step_at, heading_step, read, run, judged, ended_at, ended}
use Rattle.text_heading.specs.Spelling.{Unbroken, nothing, char, Blanks, no_blank, one_blank, Digit, Writes, no_digit, one_digit, Says, says, Further, no_more, one_more, Names, names}
use Rattle.text_heading.specs.declared.Word.{Word}
use Rattle.text_heading.specs.declared.Word.TheVariants.{Outputs, Stations, Fade, Duration, Tenants}
use Rattle.text_heading.specs.declared.Named.{Named}
use Rattle.text_heading.specs.declared.Came.{Came}
use Rattle.text_heading.specs.declared.Place.{Place}
use Rattle.text_heading.specs.declared.Place.TheVariants.{Letters, Gap, Number, Trail}
use Rattle.text_heading.specs.declared.Heading.{Heading}
use Rattle.text_heading.proofs.Range.{capped, judged_capped}
use Rattle.text_heading.proofs.Leads.{blank_worth, blank_no_newline, no_newline, worth, past, Leads, leads_none, leads_char, leads_then, leads_blanks}
use Rattle.text_heading.proofs.Marks.{named_marks}

abbrev line : Named → Came → Place → Heading
line p m at = record { named = p; came = m; place = at }

-- THE LETTERS of a word; none is a newline
past_newline : ℕ → Bool
past_newline c = ltb 10 c

unbroken_past : (x : Bytes) → every past_newline x ≡ true → Unbroken x
unfolding every past_newline
unbroken_past [] h = nothing
unbroken_past (c ∷ x) h = char (no_newline c (le_of (also_both h).0)) (unbroken_past x (also_both h).1)

unbroken_letters : (w : Word) → Unbroken (letters w)
unfolding letters every past_newline when◌then◌else◌
unbroken_letters Outputs = unbroken_past _ refl
unbroken_letters Stations = unbroken_past _ refl
unbroken_letters Fade = unbroken_past _ refl
unbroken_letters Duration = unbroken_past _ refl
unbroken_letters Tenants = unbroken_past _ refl

-- the letters of a further word are read after a number
abbrev Spelt : Named → Came → Word → Type 0
Spelt p m w = run read (line p m Trail) (letters w) ≡ line p (with_come w m) (Letters w (length (letters w)))

abbrev came : Bool → Bool → Bool → Bool → Came
came s f d t = record { stations = s; fade = f; duration = d; tenants = t }

-- `outputs` at the line's start, and a further word after a blank, for the first time
module _ (p : Named) (m : Came) where
  first_word :
      Leads read (line p m (Letters Outputs 0)) (letters Outputs)
      (line p m (Letters Outputs (length (letters Outputs))))
  first_word =
      record {
        comes = unfold run read heading_step step_at lettered lettered_by with_place letters is_blank when◌then◌else◌ in refl;
        whole = unbroken_letters Outputs;
      }

  spelt_on :
      (w : Word) → has_come w m ≡ false →
      run read (line p m Trail) (letters w) ≡ line p (with_come w m) (Letters w (length (letters w)))
  unfolding run read heading_step step_at trailed word_begun marked lettered lettered_by with_place letters has_come is_blank when◌then◌else◌
  spelt_on Outputs h = absurd (false≢true (sym h))
  spelt_on Stations h = subst (λ (b : Bool). Spelt p (came b m.fade m.duration m.tenants) Stations) (sym h) refl
  spelt_on Fade h = subst (λ (b : Bool). Spelt p (came m.stations b m.duration m.tenants) Fade) (sym h) refl
  spelt_on Duration h = subst (λ (b : Bool). Spelt p (came m.stations m.fade b m.tenants) Duration) (sym h) refl
  spelt_on Tenants h = subst (λ (b : Bool). Spelt p (came m.stations m.fade m.duration b) Tenants) (sym h) refl

  further_word :
      (w : Word) → has_come w m ≡ false →
      Leads read (line p m Trail) (letters w) (line p (with_come w m) (Letters w (length (letters w))))
  further_word w h = record { comes = spelt_on w h; whole = unbroken_letters w }

  -- THE BLANKS after a word
  first_gap :
      (w : Word) (c : ℕ) → is_blank c ≡ true →
      read (line p m (Letters w (length (letters w)))) c ≡ line p m (Gap w)
  unfolding read heading_step step_at lettered lettered_by with_place letters when◌then◌else◌
  first_gap Outputs c e = rw e
  first_gap Stations c e = rw e
  first_gap Fade c e = rw e
  first_gap Duration c e = rw e
  first_gap Tenants c e = rw e

  further_gap : (w : Word) (c : ℕ) → is_blank c ≡ true → read (line p m (Gap w)) c ≡ line p m (Gap w)
  unfolding read heading_step step_at gapped gapped_by digit_of when◌then◌else◌
  further_gap w c e = rw (blank_worth c e, e)

  gap :
      (w : Word) {c : ℕ} {x : Bytes} → Blanks (c ∷ x) →
      Leads read (line p m (Letters w (length (letters w)))) (c ∷ x) (line p m (Gap w))
  gap w {c} (one_blank e s) = leads_char (first_gap w c e) (blank_no_newline c e) (leads_blanks (further_gap w) s)

  -- and after a number
  first_trail : (w : Word) (k c : ℕ) → is_blank c ≡ true → read (line p m (Number w k)) c ≡ line p m Trail
  unfolding read heading_step step_at numbered numbered_by digit_of with_place when◌then◌else◌
  first_trail w k c e = rw (blank_worth c e, e)

  further_trail : (c : ℕ) → is_blank c ≡ true → read (line p m Trail) c ≡ line p m Trail
  unfolding read heading_step step_at trailed when◌then◌else◌
  further_trail c e = rw e

  trail :
      (w : Word) (k : ℕ) {c : ℕ} {x : Bytes} → Blanks (c ∷ x) →
      Leads read (line p m (Number w k)) (c ∷ x) (line p m Trail)
  trail w k {c} (one_blank e s) =
      leads_char (first_trail w k c e) (blank_no_newline c e) (leads_blanks further_trail s)

-- A NUMBER, as far as 32 bits go
abbrev cap : ℕ → ℕ
cap n = min 4294967295 n

number_with : (w : Word) (n : ℕ) (p : Named) → number_in w (with_number w n p) ≡ n
unfolding number_in with_number set_with marks_with
number_with Outputs n p = refl
number_with Stations n p = refl
number_with Fade n p = refl
number_with Duration n p = refl
number_with Tenants n p = refl

with_again : (w : Word) (k n : ℕ) (p : Named) → with_number w k (with_number w n p) ≡ with_number w k p
unfolding with_number set_with marks_with
with_again Outputs k n p = refl
with_again Stations k n p = refl
with_again Fade k n p = refl
with_again Duration k n p = refl
with_again Tenants k n p = refl

capped_with : (w : Word) (n : ℕ) (p : Named) → with_number w (cap n) (capped p) ≡ capped (with_number w n p)
unfolding with_number set_with marks_with
capped_with Outputs n p = refl
capped_with Stations n p = refl
capped_with Fade n p = refl
capped_with Duration n p = refl
capped_with Tenants n p = refl

cap_grown : (w : Word) (n d : ℕ) → cap (base w * cap n + d) ≡ cap (base w * n + d)
unfolding base
cap_grown Outputs n d = omega arith
cap_grown Stations n d = omega arith
cap_grown Fade n d = omega arith
cap_grown Duration n d = omega arith
cap_grown Tenants n d = omega arith

-- and the count of its digits, as far as 8 bits go: after k digits, and after the digits x too
abbrev count : ℕ → ℕ
count k = min 255 k

counts : ℕ → Bytes → ℕ
counts k [] = count k
counts k (c ∷ x) = counts (k + 1) x

follows_count : (w : Word) (k : ℕ) → may_follow w k ≡ true → may_follow w (count k) ≡ true
unfolding may_follow when◌then◌else◌
follows_count w k h =
    by_bool (eqb (base w) 10)
    (λ e. rw e)
    (λ e.
    let l = le_of {a = suc k} {b = 8} (rw e at h) in
    rw (e, leb_yes {a = suc (count k)} {b = 8} (omega (arith, l))))

module _ (p : Named) (m : Came) (w : Word) where
  first_digit :
      {d c : ℕ} → may_follow w 0 ≡ true → Digit d c → d < base w →
      read (line p m (Gap w)) c ≡ line (with_number w (cap (base w * 0 + d)) p) m (Number w 1)
  unfolding read heading_step step_at gapped gapped_by digit_of takes_digit counted when◌then◌else◌
  first_digit {d} f g l = rw (worth g, leb_yes {a = suc d} {b = base w} l, f)

  further_digit :
      (k n : ℕ) {d c : ℕ} → may_follow w k ≡ true → Digit d c → d < base w →
      read (line (with_number w (cap n) p) m (Number w (count k))) c
      ≡ line (with_number w (cap (base w * n + d)) p) m (Number w (count (k + 1)))
  unfolding read heading_step step_at numbered numbered_by digit_of takes_digit counted_on counted when◌then◌else◌
  further_digit k n {d} f g l =
      let e : count (count k + 1) ≡ count (k + 1) = omega arith in
      rw (
        worth g,
        leb_yes {a = suc d} {b = base w} l,
        follows_count w k f,
        number_with w (cap n) p,
        with_again w (cap (base w * cap n + d)) (cap n) p,
        cap_grown w n d,
        e,
      )

  digits :
      {k i n : ℕ} {x : Bytes} → Writes w k i n x →
      Leads read (line (with_number w (cap i) p) m (Number w (count k))) x
      (line (with_number w (cap n) p) m (Number w (counts k x)))
  unfolding counts
  digits no_digit = leads_none
  digits {k} {i} (one_digit {c = c} f g l s) =
      leads_char (further_digit k i f g l) (no_newline c (omega (arith, past g))) (digits s)

  -- the blanks and the number after a word
  number :
      {n c d : ℕ} {x y : Bytes} → Blanks (c ∷ x) → Writes w 0 0 n (d ∷ y) →
      Leads read (line p m (Letters w (length (letters w)))) ((c ∷ x) ++ (d ∷ y))
      (line (with_number w (cap n) p) m (Number w (counts 1 y)))
  number {d = d} b (one_digit f g l s) =
      leads_then
      (gap p m w b)
      (leads_char (first_digit f g l) (no_newline d (omega (arith, past g))) (digits s))

-- THE LINE to its end: from the state h on, the text x leaves what is judged as q is
record Ends (h : Heading) (x : Bytes) (q : Named) : Type 0 where
  judgment : ended (run read h x) ≡ judged q
  whole : Unbroken x

ends_after : {h k : Heading} {x y : Bytes} {q : Named} → Leads read h x k → Ends k y q → Ends h (x ++ y) q
ends_after {h} {k} {x} {y} l e =
    let one : Leads read h (x ++ y) (run read k y) = leads_then l (record { comes = refl; whole = e.whole }) in
    record { judgment = ap ended one.comes ∙ e.judgment; whole = one.whole }

ends_here :
    {h : Heading} {x : Bytes} {p q : Named} {m : Came} {at : Place} → Leads read h x (line p m at) →
    ended_at p at ≡ judged q → Ends h x q
unfolding ended
ends_here l e = record { judgment = ap ended l.comes ∙ e; whole = l.whole }

-- a further word that has come, and what follows it
further_said :
    (p : Named) (v : Word) {m : Came} {q : Named} {n : ℕ} {x y : Bytes} → has_come v m ≡ false → Says v n x →
    ((j : ℕ) → Ends (line (capped (with_number v n p)) (with_come v m) (Number v j)) y q) →
    Ends (line (capped p) m Trail) (x ++ y) q
further_said p v {m} {n = n} h (says g s) e =
    let said = leads_then (further_word (capped p) m v h) (number (capped p) (with_come v m) v g s) in
    ends_after (rw (capped_with v n p) at said) (e _)

further :
    {m : Came} {p q : Named} {x : Bytes} (w : Word) (k : ℕ) → Further m p q x → q.tenants < 4294967296 →
    Ends (line (capped p) m (Number w k)) x q
unfolding ended_at
further {p = p} w k (no_more no_blank) t = ends_here leads_none (judged_capped p t)
further {m} {p} w k (no_more (one_blank e s)) t =
    ends_here (trail (capped p) m w k (one_blank e s)) (judged_capped p t)
further {m} {p} w k (one_more v h b s f) t =
    ends_after (trail (capped p) m w k b) (further_said p v h s (λ j. further v j f t))

pub named_read : {q : Named} {x : Bytes} → Names q x → (ended (run read fresh_heading x) ≡ judged q) × Unbroken x
unfolding fresh_heading
named_read (names {n = n} (says g s) f) =
    let said = leads_then (first_word left_out none_came) (number left_out none_came Outputs g s) in
    let marks = named_marks (names (says g s) f) in
    let e = ends_after (rw (capped_with Outputs n left_out) at said) (further Outputs _ f marks) in
    (e.judgment, e.whole)

-- its first letter is `o`
pub data Opens : Bytes → Type 0 where
  opens : (x : Bytes) → Opens (111 ∷ x)

pub named_opens : {q : Named} {x : Bytes} → Names q x → Opens x
unfolding letters
named_opens (names (says g s) f) = opens _
