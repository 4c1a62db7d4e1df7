-- The line that names the outputs, read.
use mathlib.Core.Path.{◌≡◌, refl, ap, ◌∙◌}
use mathlib.Core.Bool.{true, false}
use mathlib.Core.List.{[], ◌∷◌, ◌++◌}
use Prim.Native.Nat.{◌<◌}
use Rattle.lighting_levels.specs.Paper.Choice.{when◌then◌else◌}
use Rattle.lighting_outputs.specs.Paper.Startable.{startable}
use Rattle.lighting_frames.specs.Paper.Frames.{Bytes}
use Rattle.text_characters.specs.Characters.{is_blank}
use Rattle.text_heading.specs.Heading.{fresh_heading, read, run, judged}
use Rattle.text_heading.specs.Spelling.{Blanks, Names}
use Rattle.text_heading.specs.declared.Named.{Named}
use Rattle.text_heading.specs.declared.Heading.{Heading as Underway}
use Rattle.text_heading.proofs.Leads.{leads_then}
use Rattle.text_heading.proofs.Naming.{named_read, Opens, opens, named_opens}
use Rattle.text_heading.proofs.Marks.{named_marks}
use Rattle.text_heading.proofs.Range.{judged_starts}
use Rattle.text_reading.specs.Reading.{opened, naming_held, step, stored_by, with_held, feed, heading_line, line_of}
use Rattle.text_reading.specs.Spelling.{Heading, heading}
use Rattle.text_reading.specs.declared.Held.TheVariants.{Blank, Naming}
use Rattle.text_reading.specs.declared.Line.TheVariants.{Started}
use Rattle.text_reading.specs.declared.Reader.{Reader}
use Rattle.text_reading.proofs.Spelt.{at_start}
use Rattle.text_reading.proofs.Marked.{Start, Reads, LeadsTo, leads_read, leads_steady}

-- the line goes on character by character, from the first that is no blank
naming :
    (w : Reader) (h : Underway) (x : Bytes) →
    run feed (with_held w (Naming h)) x ≡ with_held w (Naming (run read h x))
unfolding run feed with_held step stored_by naming_held read
naming w h [] = refl
naming w h (c ∷ x) = naming w (read h c) x

named_from :
    {x : Bytes} (w : Reader) → w.named ≡ false → Opens x →
    run feed (with_held w Blank) x ≡ with_held w (Naming (run read fresh_heading x))
unfolding run
named_from w o (opens x) = ap (λ (u : Reader). run feed u x) first ∙ naming w (read fresh_heading 111) x
  where
    first : feed (with_held w Blank) 111 ≡ with_held w (Naming (read fresh_heading 111))
    first = unfold feed with_held step stored_by opened naming_held read is_blank when◌then◌else◌ in (rw o)

-- A LINE THAT NAMES A SET is judged by its numbers
pub names_read :
    {q : Named} {w : Reader} {before x : Bytes} → Start false w → Blanks before → Names q x →
    Reads false w (before ++ x) (heading_line (judged q))
unfolding line_of
names_read {w = w} {x = x} t s n =
    let r = named_read n in
    let l : LeadsTo w Blank x (Naming (run read fresh_heading x)) = record { comes = named_from w t.named (named_opens n); whole = r.1 } in
    rw (← r.0) (leads_read (Naming (run read fresh_heading x)) t (leads_then (leads_steady w at_start s) l))

-- and names it, with the marks, where it may be started
pub heading_read : {q : Named} {w : Reader} {x : Bytes} → Start false w → Heading q x → Reads false w x (Started q)
unfolding heading_line
heading_read {q} t (heading s n h) = rw (judged_starts q h) at (names_read t s n)

pub heading_startable : {q : Named} {x : Bytes} → Heading q x → startable q.parameters ≡ true
heading_startable (heading s n h) = h

-- marks are words of 32 bits
pub heading_marks : {q : Named} {x : Bytes} → Heading q x → q.tenants < 4294967296
heading_marks (heading s n h) = named_marks n
