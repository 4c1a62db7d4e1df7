-- FROM A LIST'S TEXT TO DEMAND 3: after the whole text of any list of strings, the outputs of the set that it
-- names show what the plain panel shows that is given the same set and marks.
use Rattle.std.specs.Prelude.{Result, Ok, Err}
use mathlib.Core.Path.{◌≡◌, refl, ap, ap₂, ◌∙◌}
use mathlib.Core.Bool.{Bool, true, false}
use mathlib.Core.List.{List, [], ◌∷◌, ◌++◌, map}
use Prim.Native.Nat.{ℕ, ◌≤◌}
use native.Mathlib.Omega.{arith}
use lib.ListN.{length, drop, length-map, length-set, length-append, length-replicate}
use lib.Seq.{take_at, length-take-le}
use Rattle.lighting_levels.specs.Paper.Choice.{when◌then◌else◌}
use Rattle.lighting_outputs.specs.declared.Parameters.{Parameters}
use Rattle.lighting_outputs.specs.Paper.Startable.{startable}
use Rattle.lighting_frames.specs.Paper.Frames.{Bytes, Strings}
use Rattle.lighting_outputs.specs.Engine.Advance.{advance}
use Rattle.lighting_panel.specs.Paper.Panel.{Panel, panel_of, panel_sound, counts_sound, fresh_panel, start_step}
use Rattle.lighting_panel.specs.Engine.Judging.{decide}
use Rattle.lighting_panel.specs.Engine.Executing.{execute, frame_step}
use Rattle.lighting_panel.specs.Paper.Plain.{plain_start}
use Rattle.lighting_panel.specs.Paper.Demand.{found_in, found_plain, plain_after, after}
use Rattle.lighting_outputs.specs.declared.Answer.TheVariants.{Done}
use Rattle.lighting_outputs.specs.declared.Output.{Output}
use Rattle.lighting_frames.specs.declared.Station.{Station}
use Rattle.lighting_frames.specs.declared.Verdict.{Verdict}
use Rattle.lighting_frames.specs.declared.Verdict.TheVariants.{Copied, Clocked, Arrives}
use Rattle.lighting_levels.proofs.Split.{by_bool, eqb_hit}
use Rattle.lighting_panel.proofs.Table.{served_length}
use Rattle.lighting_panel.proofs.Calls.{once}
use Rattle.lighting_panel.proofs.Demand.{demand_3, finds, start_step_fresh}
use Rattle.lent_parts.specs.Lending.{lent, returned, begun, sent}
use Rattle.text_heading.specs.declared.Named.{Named}
use Rattle.text_reading.specs.declared.Reader.{Reader}
use Rattle.text_reading.specs.Reading.{fed}
use Rattle.text_heading.specs.Spelling.{Unbroken}
use Rattle.text_reading.specs.Spelling.{Silent, Gives, Heading}
use Rattle.text_reading.proofs.Marked.{Start, start_fresh, start_next, start_named, silent_read, gives_read, gives_octets}
use Rattle.text_reading.proofs.Heading.{heading_read, heading_startable}
use Rattle.replay_line.specs.Taking.{in_use, started_with, sent_on, taken, taken_by, through, closed, finished, Replayed}
use Rattle.replay_line.specs.Listed.{Lines, none, string, remark, Listing, named, preface, unended}
use Rattle.replay_line.proofs.Spelled.{spelled}
use Rattle.replay_line.proofs.Through.{through_line}
use Rattle.replay_line.proofs.Parts.{taken_blank, closed_newline}
use Rattle.lighting_outputs.specs.declared.refusals.Refusal.{Refusal}

-- A FRAME leaves as many records as there were, and the set
record Alike (e q : Panel) : Type 0 where
  outputs : length q.outputs ≡ length e.outputs
  stations : length q.stations ≡ length e.stations
  parameters : q.kept.parameters ≡ e.kept.parameters

execute_alike : (b : Bytes) (e : Panel) (v : Result Verdict Refusal) → Alike e (execute b e v).panel
unfolding execute
execute_alike b e (Err r) = record { outputs = refl; stations = refl; parameters = refl }
execute_alike b e (Ok (Copied a)) = record { outputs = refl; stations = refl; parameters = refl }
execute_alike b e (Ok (Clocked t)) =
    record { outputs = length-map e.outputs (advance e.kept.time t); stations = refl; parameters = refl }
execute_alike b e (Ok (Arrives call)) =
    record {
      outputs =
          served_length _ call.time (map (advance e.kept.time call.time) e.outputs) call.output
          call.request
          ∙ length-map e.outputs (advance e.kept.time call.time);
      stations = length-set e.stations call.station _;
      parameters = refl;
    }

frame_step_alike : (e : Panel) (b : Bytes) → Alike e (frame_step e b).panel
unfolding frame_step when◌then◌else◌
frame_step_alike e b =
    by_bool (panel_sound e)
    (λ h. rw h (execute_alike b e (decide e b)))
    (λ h. rw h (record { outputs = refl; stations = refl; parameters = refl }))

-- A PANEL WITHIN THE TABLES p, of the first n outputs and the first k stations
module _ (n k : ℕ) (p : Panel) (h : n ≤ length p.outputs) (i : k ≤ length p.stations) where
  lent_outputs : length (lent n k p).outputs ≡ n
  lent_outputs = length-take-le n p.outputs h

  lent_stations : length (lent n k p).stations ≡ k
  lent_stations = length-take-le k p.stations i

  -- after an operation that leaves q
  module _ (q : Panel) (a : length q.outputs ≡ n) (b : length q.stations ≡ k) where
    lent_returned : lent n k (returned n k p q) ≡ q
    lent_returned =
        ap₂ (λ (o : List Output) (s : List Station). panel_of o s q.kept) (take_at q.outputs (drop n p.outputs) n a) (take_at q.stations (drop k p.stations) k b)

    returned_outputs : n ≤ length (returned n k p q).outputs
    returned_outputs = omega (arith, length-append q.outputs (drop n p.outputs), a)

    returned_stations : k ≤ length (returned n k p q).stations
    returned_stations = omega (arith, length-append q.stations (drop k p.stations), b)

-- THE PANEL IN USE: the tables have as many records as the kept set says
record Holds (p : Panel) : Type 0 where
  outputs : p.kept.parameters.outputs ≤ length p.outputs
  stations : p.kept.parameters.stations ≤ length p.stations

-- the tables p come to q, and the panel in use to e
record Becomes (q e : Panel) : Type 0 where
  used : in_use q ≡ e
  holds : Holds q

-- where q has as many records as its set says
becomes : (n k : ℕ) (p q : Panel) → n ≤ length p.outputs → k ≤ length p.stations →
    length q.outputs ≡ n → length q.stations ≡ k → q.kept.parameters.outputs ≡ n → q.kept.parameters.stations ≡ k →
    Becomes (returned n k p q) q
becomes n k p q h i a b c d =
    record {
      used = ap₂ (λ (x y : ℕ). lent x y (returned n k p q)) c d ∙ lent_returned n k p h i q a b;
      holds = record { outputs = rw c (returned_outputs n k p h i q a b); stations = rw d (returned_stations n k p h i q a b) };
    }

sent_becomes : (b : Bytes) (p : Panel) → Holds p → Becomes (sent_on b p).panel (frame_step (in_use p) b).panel
unfolding sent
sent_becomes b p h =
    let n = p.kept.parameters.outputs in
    let k = p.kept.parameters.stations in
    let s = frame_step_alike (in_use p) b in
    becomes n k p (frame_step (in_use p) b).panel h.outputs h.stations
    (s.outputs ∙ lent_outputs n k p h.outputs h.stations)
    (s.stations ∙ lent_stations n k p h.outputs h.stations)
    (ap (λ (z : Parameters). z.outputs) s.parameters)
    (ap (λ (z : Parameters). z.stations) s.parameters)

-- THE START with a set that may be started, where the tables have so many records
module _ (s : Named) (p : Panel) (z : startable s.parameters ≡ true)
    (h : s.parameters.outputs ≤ length p.outputs) (i : s.parameters.stations ≤ length p.stations) where
  abbrev begins : Panel
  begins = lent s.parameters.outputs s.parameters.stations p

  starts : (start_step s.parameters s.tenants begins).answer ≡ Done
  unfolding start_step counts_sound when◌then◌else◌
  starts =
      rw (
        z,
        eqb_hit (lent_outputs s.parameters.outputs s.parameters.stations p h i),
        eqb_hit (lent_stations s.parameters.outputs s.parameters.stations p h i),
      )

  begun_becomes : Becomes (started_with s p) (start_step s.parameters s.tenants begins).panel
  unfolding begun fresh_panel
  begun_becomes =
      rw (start_step_fresh s.parameters s.tenants begins starts).1
      (becomes s.parameters.outputs s.parameters.stations p (fresh_panel s.parameters s.tenants) h i
      (length-replicate _ _) (length-replicate _ _) refl refl)

-- ONE LINE: x takes the tables p to q, and the reader to the start of the next line; n: whether the outputs
-- are named then
record Took (n : Bool) (p : Panel) (w : Reader) (x : Bytes) (q : Panel) : Type 0 where
  whole : Unbroken x
  good : (taken p (fed w x)).good ≡ true
  panel : (taken p (fed w x)).panel ≡ q
  next : Start n (taken p (fed w x)).reader

silent_took : {n : Bool} {w : Reader} {x : Bytes} (p : Panel) → Start n w → Silent x → Took n p w x p
unfolding taken taken_by
silent_took p t s =
    let r = silent_read t s in
    record { whole = r.unbroken; good = rw r.line; panel = rw r.line; next = rw r.line (start_next r) }

gives_took : {w : Reader} {x b : Bytes} (p : Panel) → Start true w → Gives b x → Took true p w x (sent_on b p).panel
unfolding taken taken_by
gives_took p t g =
    let r = gives_read t g in
    record { whole = r.reads.unbroken; good = rw r.reads.line; panel = (spelled p r).0; next = rw r.reads.line (start_next r.reads) }

heading_took : {s : Named} {w : Reader} {x : Bytes} (p : Panel) → Start false w → Heading s x
    → Took true p w x (started_with s p)
unfolding taken taken_by
heading_took p t g =
    let r = heading_read t g in
    record { whole = r.unbroken; good = rw r.line; panel = rw r.line; next = rw r.line (start_named (start_next r)) }

-- a line, its newline, and the text t after it
took_on : {n : Bool} {p q : Panel} {w : Reader} {x : Bytes} (t : Bytes) → Took n p w x q → through p w (x ++ (10 ∷ t)) ≡ through q (taken p (fed w x)).reader t
took_on {p = p} {w = w} {x = x} t k =
    through_line p w t k.whole k.good ∙ ap (λ (u : Panel). through u (taken p (fed w x)).reader t) k.panel

-- THE STRINGS' LINES
listed : {w : Reader} {l : List Bytes} {t : Bytes} (p : Panel) → Lines l t → Start true w → Holds p → in_use (closed (through p w t)) ≡ after (in_use p) l
unfolding after
listed {w} p none s h = ap in_use (unfold closed through when◌then◌else◌ in (taken_blank p w s.blank))
listed {w = w} p (string {b} {x} {t} {l} g m) s h =
    let k = gives_took p s g in
    let c = sent_becomes b p h in
    rw (took_on t k) (listed {w = (taken p (fed w x)).reader} (sent_on b p).panel m k.next c.holds ∙ ap (λ (u : Panel). after u l) c.used)
listed {w = w} p (remark {x} {t} g m) s h =
    let k = silent_took p s g in
    rw (took_on t k) (listed {w = (taken p (fed w x)).reader} p m k.next h)

-- THE WHOLE TEXT names a set that may be started, and its strings are strings of bytes
lines_strings : {l : List Bytes} {t : Bytes} → Lines l t → Strings l
lines_strings none = tt
lines_strings (string g m) = (gives_octets g, lines_strings m)
lines_strings (remark g m) = lines_strings m

record ListingInRange (s : Named) (l : List Bytes) : Type 0 where
  starts : startable s.parameters ≡ true
  strings : Strings l

listing_in_range : {s : Named} {l : List Bytes} {t : Bytes} → Listing s l t → ListingInRange s l
listing_in_range (named g m) = record { starts = heading_startable g; strings = lines_strings m }
listing_in_range (preface g m) = listing_in_range m
listing_in_range (unended m) = listing_in_range m

listed_whole : {s : Named} {l : List Bytes} {w : Reader} {t : Bytes} (p : Panel) → Listing s l t → Start false w →
    s.parameters.outputs ≤ length p.outputs → s.parameters.stations ≤ length p.stations →
    in_use (closed (through p w t)) ≡ after
    (start_step s.parameters s.tenants (lent s.parameters.outputs s.parameters.stations p)).panel l
listed_whole {s} {l = l} p (named {x} {t} g m) r h i =
    let k = heading_took p r g in
    let c = begun_becomes s p (heading_startable g) h i in
    rw (took_on t k) (listed (started_with s p) m k.next c.holds ∙ ap (λ (u : Panel). after u l) c.used)
listed_whole {w = w} p (preface {x} {t} g m) r h i =
    let k = silent_took p r g in
    rw (took_on t k) (listed_whole {w = (taken p (fed w x)).reader} p m k.next h i)
listed_whole {w = w} p (unended {t} m) r h i = rw (← closed_newline p w t) (listed_whole p m r h i)

pub found_by_text : (s : Named) (p : Panel) (l : List Bytes) (t : Bytes) → Listing s l t →
    s.parameters.outputs ≤ length p.outputs → s.parameters.stations ≤ length p.stations →
    found_in (in_use (finished p t)) ≡ found_plain
    (plain_after s.parameters s.tenants (plain_start s.parameters) l).panel
unfolding finished
found_by_text s p l t m h i =
    let c = listing_in_range m in
    let e = lent s.parameters.outputs s.parameters.stations p in
    ap found_in (listed_whole p m start_fresh h i)
    ∙ finds s.parameters s.tenants e l l (once [] l)
    (demand_3 s.parameters s.tenants e l l (once [] l) c.strings (starts s p c.starts h i))

-- and so it is after the session, by its contract, where the text that came is such a one
pub found_by_session : (s : Named) (p q : Panel) (l : List Bytes) (r : Replayed p q) → Listing s l r.came →
    s.parameters.outputs ≤ length p.outputs → s.parameters.stations ≤ length p.stations →
    found_in (in_use q) ≡ found_plain (plain_after s.parameters s.tenants (plain_start s.parameters) l).panel
found_by_session s p q l r m h i = rw r.panel (found_by_text s p l r.came m h i)
