-- The lines of a list, read from their start: those that say nothing, and those that give a string.
use mathlib.Core.Path.{◌≡◌, refl, ap, ◌∙◌}
use mathlib.Core.Logic.{◌≢◌}
use mathlib.Core.Bool.{Bool, true, false}
use mathlib.Core.List.{[], ◌∷◌, ◌++◌}
use Prim.Native.Nat.{ℕ}
use native.Mathlib.Omega.{arith}
use lib.ListN.{length, take}
use Rattle.lighting_levels.specs.Paper.Choice.{when◌then◌else◌}
use Rattle.lighting_frames.specs.Paper.Frames.{Bytes, Octets}
use Rattle.text_characters.specs.Characters.{is_blank, hex_value}
use Rattle.text_heading.specs.Spelling.{Unbroken, nothing, char, Blanks}
use Rattle.text_heading.proofs.Leads.{Leads, leads_none, leads_char, leads_then, leads_blanks}
use Rattle.text_reading.specs.Reading.{bytes_kept, opened, step, stored_by, with_held, feed, fed, line_of, content, next_line, with_named, fresh_reader}
use Rattle.text_reading.specs.Spelling.{Silent, blanks, comment, Gives, bytes, dash}
use Rattle.text_reading.specs.declared.Held.{Held}
use Rattle.text_reading.specs.declared.Held.TheVariants.{Blank, Comment, Dash}
use Rattle.text_reading.specs.declared.Line.{Line}
use Rattle.text_reading.specs.declared.Line.TheVariants.{Nothing, Frame}
use Rattle.text_reading.specs.declared.Reader.{Reader}
use Rattle.text_reading.proofs.Spelt.{Ready, none, Steady, at_start, at_dash, blank_steady, read, frame, named_kept, ready_fed, unbroken, octets}

-- A READER AT THE START OF A LINE; n: whether the list has named its outputs
pub record Start (n : Bool) (w : Reader) : Type 0 where
  pub named : w.named ≡ n
  pub room : length w.bytes ≡ bytes_kept
  pub empty : w.count ≡ 0
  pub blank : w.held ≡ Blank

pub start_fresh : Start false fresh_reader
unfolding fresh_reader
start_fresh = record { named = refl; room = refl; empty = refl; blank = refl }

-- A LINE READ: from w on, x is the line k, and the reader is fit for a next line
pub record Reads (n : Bool) (w : Reader) (x : Bytes) (k : Line) : Type 0 where
  pub line : line_of (fed w x).held ≡ k
  pub named : (fed w x).named ≡ n
  pub room : length (fed w x).bytes ≡ bytes_kept
  pub unbroken : Unbroken x

pub start_next : {n : Bool} {w : Reader} {x : Bytes} {k : Line} → Reads n w x k → Start n (next_line (fed w x))
unfolding next_line
start_next r = record { named = r.named; room = r.room; empty = refl; blank = refl }

pub start_named : {w : Reader} → Start false w → Start true (with_named w)
unfolding with_named
start_named s = record { named = refl; room = s.room; empty = s.empty; blank = s.blank }

-- A TEXT WITHOUT BYTES takes what the line holds from h to k, and changes nothing else of the reader
abbrev pub LeadsTo : Reader → Held → Bytes → Held → Type 0
LeadsTo w h x k = Leads feed (with_held w h) x (with_held w k)

-- from a line's start on
leads_from : {n : Bool} {w : Reader} {x : Bytes} (k : Held) → Start n w → LeadsTo w Blank x k → fed w x ≡ with_held w k
unfolding with_held
leads_from {w = w} {x = x} k s l =
    let at_start : w ≡ with_held w Blank = rw (← s.blank) in
    ap (λ (u : Reader). fed u x) at_start ∙ l.comes

pub leads_read : {n : Bool} {w : Reader} {x : Bytes} (k : Held) → Start n w → LeadsTo w Blank x k → Reads n w x (line_of k)
unfolding with_held
leads_read k s l =
    let e = leads_from k s l in
    record {
      line = ap (λ (u : Reader). line_of u.held) e;
      named = ap (λ (u : Reader). u.named) e ∙ s.named;
      room = ap (λ (u : Reader). length u.bytes) e ∙ s.room;
      unbroken = l.whole;
    }

-- BLANKS
pub leads_steady : (w : Reader) {h : Held} {x : Bytes} → Steady h → Blanks x → LeadsTo w h x h
leads_steady w t s = leads_blanks (λ c e. blank_steady w c t e) s

-- COMMENTS take anything
leads_comment : (w : Reader) {x : Bytes} → Unbroken x → LeadsTo w Comment x Comment
leads_comment w nothing = leads_none
leads_comment w (char {c} d u) =
    let e : feed (with_held w Comment) c ≡ with_held w Comment = unfold feed with_held step stored_by in refl in
    leads_char e d (leads_comment w u)

-- after blanks a mark c, which begins what the line holds
leads_mark : (w : Reader) (j : Held) {k : Held} {c : ℕ} {before x : Bytes} → Blanks before → step w.named Blank (hex_value c) c ≡ k → c ≢ 10 → LeadsTo w k x j → LeadsTo w Blank (before ++ (c ∷ x)) j
leads_mark w j {k} {c} s e d l =
    let f : feed (with_held w Blank) c ≡ with_held w k = unfold feed with_held stored_by in (rw e) in
    leads_then (leads_steady w at_start s) (leads_char f d l)

pub silent_read : {n : Bool} {w : Reader} {x : Bytes} → Start n w → Silent x → Reads n w x Nothing
unfolding line_of
silent_read t (blanks s) = leads_read Blank t (leads_steady _ at_start s)
silent_read {n} {w} t (comment s u) =
    let e : step w.named Blank (hex_value 35) 35 ≡ Comment = unfold step opened is_blank when◌then◌else◌ in refl in
    leads_read Comment t (leads_mark w Comment s e (λ z. omega (arith, z)) (leads_comment w u))

-- A STRING'S LINE: x is a frame of the first bytes of b
pub record Given (n : Bool) (w : Reader) (x b : Bytes) : Type 0 where
  pub reads : Reads n w x Frame
  pub holds : content (fed w x) ≡ take bytes_kept b

start_content : {n : Bool} {w : Reader} → Start n w → content w ≡ []
unfolding content
start_content {w = w} t = ap (λ (i : ℕ). take i w.bytes) t.empty

pub gives_read : {w : Reader} {x b : Bytes} → Start true w → Gives b x → Given true w x b
unfolding line_of
gives_read {w} t (bytes {y} {b} {x} s) =
    let r : Ready w = record { named = t.named; room = t.room; most = omega (arith, t.empty); between = rw t.blank none } in
    record {
      reads = record { line = frame s w r; named = named_kept s w r ∙ t.named; room = (ready_fed s w r).room; unbroken = unbroken s };
      holds = read s w r ∙ ap (λ (l : Bytes). take bytes_kept (l ++ (y ∷ b))) (start_content t);
    }
gives_read {w} t (dash {before} {after} s e) =
    let m : step w.named Blank (hex_value 45) 45 ≡ Dash =
    unfold step opened is_blank when◌then◌else◌ in (rw t.named)
    in
    let l : LeadsTo w Blank (before ++ (45 ∷ after)) Dash = leads_mark w Dash s m (λ z. omega (arith, z)) (leads_steady w at_dash e) in
    record { reads = leads_read Dash t l; holds = ap content (leads_from Dash t l) ∙ (unfold with_held content in (start_content t)) }

pub gives_octets : {x b : Bytes} → Gives b x → Octets b
gives_octets (bytes s) = octets s
gives_octets (dash s e) = tt
