-- THE LIST THEOREM: over every list of frames the engine finds and answers what the plain panel finds and
-- answers. It stands on laws of the table (proofs/Table.antt) and of reading (proofs/Reading.antt), and never
-- looks at a kind of request.
use Rattle.std.specs.Prelude.{Result, Ok, Err}
use mathlib.Core.Path.{◌≡◌, refl, sym, ap, ◌∙◌}
use mathlib.Core.Bool.{true}
use mathlib.Core.List.{List, [], ◌∷◌, map}
use Prim.Native.Nat.{ℕ, zero, suc, ◌^◌, ◌≤◌, ◌<◌}
use native.Mathlib.Omega.{arith}
use lib.Dec.{leb, ltb, eqb}
use lib.ListN.{set, get_or, length, replicate, length-map, length-set, length-replicate, get_or-replicate}
use lib.Seq.{get_or-set_same, get_or-set_other}
use Rattle.lighting_levels.specs.Paper.Choice.{when◌then◌else◌, ◌also◌, Every, every}
use Rattle.lighting_outputs.specs.declared.Parameters.{Parameters}
use Rattle.lighting_levels.specs.Paper.Field.{byte_at}
use Rattle.lighting_frames.specs.Paper.Kinds.{kind_row, kind_length, is_call}
use Rattle.lighting_frames.specs.Paper.Frames.{Bytes, Octets, Strings, parse}
use Rattle.lighting_outputs.specs.Engine.Advance.{greatest_count, advance}
use Rattle.lighting_frames.specs.Paper.Stations.{station_sound, fresh_station}
use Rattle.lighting_outputs.specs.Paper.Fresh.{fresh_for}
use Rattle.lighting_outputs.specs.Paper.Tenants.{is_tenant}
use Rattle.lighting_outputs.specs.Paper.Acting.{served}
use Rattle.lighting_frames.specs.Paper.Copies.{same_bytes, retransmission_or_conflict}
use Rattle.lighting_panel.specs.Paper.Panel.{Panel, Station, counts_sound, rules_kept, panel_sound}
use Rattle.lighting_panel.specs.Engine.Judging.{padded, restored, judged_by_number, judged_by_record, station_of, judged_by_station, decide}
use Rattle.lighting_panel.specs.Engine.Executing.{execute, frame_step}
use Rattle.lighting_panel.specs.Paper.Plain.{Event, clock, first, above, in_time, Latest, latest, judged, PlainState, plain_execute, plain_frame_step, plain_start}
use Rattle.lighting_panel.specs.Paper.Demand.{after, answers, plain_after, plain_answers}
use Rattle.lighting_outputs.specs.declared.Output.{Output}
use Rattle.lighting_outputs.specs.declared.Answer.{Answer}
use Rattle.lighting_frames.specs.declared.Call.{Call}
use Rattle.lighting_frames.specs.declared.Frame.{Frame}
use Rattle.lighting_frames.specs.declared.Frame.TheVariants.{Clock, Calls}
use Rattle.lighting_frames.specs.declared.Verdict.{Verdict}
use Rattle.lighting_frames.specs.declared.Verdict.TheVariants.{Copied, Clocked, Arrives}
use Rattle.lighting_levels.proofs.Split.{also_both, also_yes, by_eq, by_lt, by_le, by_bool, leb_yes, leb_no, eqb_hit}
use Rattle.lighting_outputs.specs.Paper.Startable.{startable}
use Rattle.lighting_outputs.proofs.Rules.Startable.{startable_of}
use Rattle.lighting_frames.proofs.Reading.{Called, FrameInRange, frame_in_range}
use Rattle.lighting_panel.proofs.Lengths.{padded_kind, restored_padded}
use Rattle.lighting_outputs.specs.declared.Answer.TheVariants.{Done}
use Rattle.lighting_outputs.proofs.Acts.Answered.{NotOne, not_one}
use Rattle.lighting_panel.proofs.Table.{served_not_one, AllSound, all_tested, all_fresh, run_plain_advance, all_advance, served_sound, served_length}
use Rattle.lighting_outputs.specs.declared.refusals.Refusal.{Refusal}
use Rattle.lighting_outputs.specs.declared.refusals.Refusal.TheVariants.{PastNumber, PastTime}
use Rattle.lighting_outputs.specs.Paper.Answers.{refusal_number}

-- THE LINK between the station records and the list so far. The engine's panel is rebuilt from the plain one
abbrev pub joined : Parameters → ℕ → List Station → PlainState → Panel
joined p marks k w =
    record {
      outputs = w.panel.outputs;
      stations = k;
      kept = record { time = w.panel.time; parameters = p; tenants = marks };
    }

-- a station's record, as the list's own
abbrev pub as_latest : Station → Latest
as_latest k = record { answer = k.answer; number = k.number; frame = restored k.frame }

-- no first arrival was answered refusal 1
abbrev pub PastOther : List Event → Type 0
PastOther [] = Unit {0}
PastOther (clock t ∷ h) = PastOther h
PastOther (first s n t b a ∷ h) = NotOne a × PastOther h

latest_other : (s : ℕ) (h : List Event) → PastOther h → NotOne (latest s h).answer
unfolding latest when◌then◌else◌
latest_other s [] j = not_one Done refl
latest_other s (clock t ∷ h) j = latest_other s h j
latest_other s (first s' n t b a ∷ h) j = by_bool (eqb s' s) (λ e. rw e j.0) (λ e. rw e (latest_other s h j.1))

pub record Refines (p : Parameters) (c : ℕ) (k : List Station) (w : PlainState) : Type 0 where
  pub allowed : startable p ≡ true
  pub exact : c ≡ p.outputs
  pub count : length w.panel.outputs ≡ c
  pub sound : AllSound p w.panel.time w.panel.outputs
  pub bounded : w.panel.time ≤ greatest_count
  pub counted : length k ≡ p.stations
  pub kept : every station_sound k ≡ true
  -- each station's record is its latest first arrival in the list
  pub known : (s : ℕ) → s < p.stations → as_latest (get_or k s fresh_station) ≡ latest s w.past
  -- so its number decides 'above all earlier', and panel time 'not before the latest'
  pub tops : (s n : ℕ) → 0 < n → above s n w.past ≡ ltb (latest s w.past).number n
  pub times : (t : ℕ) → in_time t w.past ≡ leb w.panel.time t
  pub others : PastOther w.past

-- refusal 1 does not come
pub linked_sound : (p : Parameters) (marks c : ℕ) (k : List Station) (w : PlainState) → Refines p c k w
    → panel_sound (joined p marks k w) ≡ true
unfolding panel_sound rules_kept counts_sound
linked_sound p marks c k w m =
    rw
    (m.count, m.counted)
    (also_yes m.allowed
    (also_yes
    (also_yes (eqb_hit m.exact) (eqb_hit {a = p.stations} {b = p.stations} refl))
    (also_yes (all_tested p w.panel.time w.panel.outputs m.sound) m.kept)))

-- BOTH JUDGE ALIKE
not_before : (a b : ℕ) {A : Type 0} (x y : A) → (when ltb a b then x else y) ≡ (when leb b a then y else x)
unfolding when◌then◌else◌
not_before a b x y =
    by_lt a b (λ h e. rw (e, leb_no {a = b} {b = a} h)) (λ h e. rw (e, leb_yes {a = b} {b = a} h))

alike : (n a t now : ℕ) {A : Type 0} (same low late go : A)
    → (when eqb n a then same else when ltb n a then low else when ltb t now then late else go)
    ≡ (when ltb a n then (when leb now t then go else late) else when eqb n a then same else low)
unfolding when◌then◌else◌
alike n a t now same low late go =
    by_eq
    n
    a
    (λ j e. rw (e, leb_no {a = suc a} {b = n} (omega arith)))
    (λ j e. by_lt
    n
    a
    (λ q e'. rw (e, e', leb_no {a = suc a} {b = n} (omega arith)))
    (λ q e'. rw (e, e', leb_yes {a = suc a} {b = n} (omega arith)) (not_before t now late go)))

judged_by_record_judged : (p : Parameters) (c : ℕ) (k : List Station) (w : PlainState) (b : Bytes) (f : Result Frame Refusal) → Refines p c k w → FrameInRange p c b f
    → judged_by_station w.panel.time (get_or k (station_of f) fresh_station) b f ≡ judged w.past b f
unfolding judged_by_station judged_by_record judged_by_number judged station_of
judged_by_record_judged p c k w b (Err r) m g = refl
judged_by_record_judged p c k w b (Ok (Clock t)) m g = rw (m.times t) (not_before t w.panel.time (Err PastTime) (Ok (Clocked t)))
judged_by_record_judged p c k w b (Ok (Calls call)) m g =
    let s = call.station in
    let n = call.number in
    let t = call.time in
    let e = m.known s g.station in
    rw (
      ap (λ (z : Latest). z.number) e,
      ap (λ (z : Latest). z.frame) e,
      ap (λ (z : Latest). z.answer) e,
      m.tops s n g.number,
      m.times t,
    )
    (alike n (latest s w.past).number t w.panel.time _ (Err PastNumber) (Err PastTime) (Ok (Arrives call)))

pub decide_judged : (p : Parameters) (marks c : ℕ) (k : List Station) (w : PlainState) (b : Bytes) → Octets b
    → Refines p c k w
    → decide (joined p marks k w) b ≡ judged w.past b (parse p (length w.panel.outputs) b)
unfolding decide
decide_judged p marks c k w b h m =
    rw m.count (judged_by_record_judged p c k w b (parse p c b) m (frame_in_range p c b h))

-- WHAT IS KNOWN of a verdict
pub record Arrived (p : Parameters) (c : ℕ) (w : PlainState) (b : Bytes) (call : Call) : Type 0 where
  pub frame : Called p c b call
  pub new : (latest call.station w.past).number < call.number
  pub due : w.panel.time ≤ call.time

abbrev pub Moved : Parameters → ℕ → PlainState → Bytes → Result Verdict Refusal → Type 0
Moved p c w b (Err refusal) = 2 ≤ refusal_number refusal
Moved p c w b (Ok (Copied a)) = NotOne a
Moved p c w b (Ok (Clocked t)) = (w.panel.time ≤ t) × (t < 2 ^ 48)
Moved p c w b (Ok (Arrives call)) = Arrived p c w b call

pub judged_moved : (p : Parameters) (c : ℕ) (k : List Station) (w : PlainState) (b : Bytes) (f : Result Frame Refusal) → Refines p c k w → FrameInRange p c b f
    → Moved p c w b (judged w.past b f)
unfolding judged retransmission_or_conflict when◌then◌else◌
judged_moved p c k w b (Err r) m g = g
judged_moved p c k w b (Ok (Clock t)) m g =
    rw
    (m.times t)
    (by_le w.panel.time t (λ h e. rw e (h, g)) (λ h e. rw e (omega arith)))
judged_moved p c k w b (Ok (Calls call)) m g =
    let s = call.station in
    let n = call.number in
    let t = call.time in
    rw
    (m.tops s n g.number, m.times t)
    (by_lt
    (latest s w.past).number
    n
    (λ h e. by_le
    w.panel.time
    t
    (λ h' e'. rw (e, e') (record { frame = g; new = h; due = h' }))
    (λ h' e'. rw (e, e') (omega arith)))
    (λ h e. by_bool
    (eqb n (latest s w.past).number)
    (λ j. by_bool
    (same_bytes b (latest s w.past).frame)
    (λ q. rw (e, j, q) (latest_other s w.past m.others))
    (λ q. rw (e, j, q) (omega arith)))
    (λ j. rw (e, j) (omega arith))))

-- ONE FRAME
abbrev pub next_stations : ℕ → Bytes → List Station → PlainState → Result Verdict Refusal → List Station
next_stations marks b k w (Err r) = k
next_stations marks b k w (Ok (Copied a)) = k
next_stations marks b k w (Ok (Clocked t)) = k
next_stations marks b k w (Ok (Arrives call)) =
    set k call.station
    (record { answer = (plain_execute marks b w (Ok (Arrives call))).answer; number = call.number; frame = padded b })

step_same : (p : Parameters) (marks c : ℕ) (k : List Station) (w : PlainState) (b : Bytes) (v : Result Verdict Refusal)
    → Refines p c k w → Moved p c w b v
    → execute b (joined p marks k w) v
    ≡ record {
      panel = joined p marks (next_stations marks b k w v) (plain_execute marks b w v).state;
      answer = (plain_execute marks b w v).answer;
    }
unfolding execute plain_execute
step_same p marks c k w b (Err r) m g = refl
step_same p marks c k w b (Ok (Copied a)) m g = refl
step_same p marks c k w b (Ok (Clocked t)) m g =
    rw (run_plain_advance p t w.panel g.0 (omega (arith, g.1)) m.sound)
step_same p marks c k w b (Ok (Arrives call)) m g =
    rw (run_plain_advance p call.time w.panel g.due (omega (arith, g.frame.time)) m.sound)

and_le : (a b c : ℕ) → b ≤ a → (leb a c also leb b c) ≡ leb a c
unfolding when◌then◌else◌
and_le a b c h =
    by_le a c (λ j e. rw (e, leb_yes {a = b} {b = c} (omega arith))) (λ j e. rw e)

tops_more : (s n s' n' t : ℕ) (b : Bytes) (a : Answer) (h : List Event)
    → above s' n' h ≡ ltb (latest s' h).number n' → (latest s h).number < n
    → above s' n' (first s n t b a ∷ h) ≡ ltb (latest s' (first s n t b a ∷ h)).number n'
unfolding above latest when◌then◌else◌
tops_more s n s' n' t b a h j l =
    by_eq
    s
    s'
    (λ q e. rw (e, j) (and_le (suc n) (suc (latest s' h).number) n' (omega (arith, rw q at l))))
    (λ q e. rw (e, j))

kept_set : (k : List Station) (i : ℕ) (x : Station) → every station_sound k ≡ true → station_sound x ≡ true → every station_sound (set k i x) ≡ true
unfolding every
kept_set [] i x h g = refl
kept_set (y ∷ k) zero x h g = also_yes g (also_both h).1
kept_set (y ∷ k) (suc i) x h g = also_yes (also_both h).0 (kept_set k i x (also_both h).1 g)

station_kept : (a : Answer) (n : ℕ) (b : Bytes) → is_call (byte_at b 0) ≡ true
    → station_sound (record { answer = a; number = n; frame = padded b }) ≡ true
unfolding station_sound when◌then◌else◌
station_kept a n b y = by_bool (eqb n 0) (λ e. rw e) (λ e. rw (e, padded_kind b) y)

known_set : (k : List Station) (s s' n t : ℕ) (b : Bytes) (a : Answer) (h : List Event) → s < length k → length b ≡ kind_length (byte_at b 0)
    → as_latest (get_or k s' fresh_station) ≡ latest s' h
    → as_latest (get_or (set k s (record { answer = a; number = n; frame = padded b })) s' fresh_station) ≡ latest s' (first s n t b a ∷ h)
unfolding latest when◌then◌else◌
known_set k s s' n t b a h l z j =
    let x : Station = record { answer = a; number = n; frame = padded b } in
    by_eq
    s
    s'
    (λ q e. rw (e, ← q)
    (ap as_latest (get_or-set_same k s x fresh_station l)
    ∙ ap (λ (f : Bytes). record { answer = a; number = n; frame = f }) (restored_padded b z)))
    (λ q e. rw e (ap as_latest (get_or-set_other k s s' x fresh_station (omega arith)) ∙ j))

linked_clock : (p : Parameters) (c : ℕ) (k : List Station) (w : PlainState) (t : ℕ) → Refines p c k w → w.panel.time ≤ t → t < 2 ^ 48
    → Refines p
    c
    k
    (record {
      past = clock t ∷ w.past;
      panel = record { outputs = map (advance w.panel.time t) w.panel.outputs; time = t };
    })
unfolding latest above in_time
linked_clock p c k w t m g u =
    record {
      allowed = m.allowed;
      exact = m.exact;
      count = length-map w.panel.outputs (advance w.panel.time t) ∙ m.count;
      sound = all_advance p w.panel.time t w.panel.outputs g (omega arith) m.sound;
      bounded = omega arith;
      counted = m.counted;
      kept = m.kept;
      known = m.known;
      tops = m.tops;
      times = λ t'. rw (m.times t') (and_le t w.panel.time t' g);
      others = m.others;
    }

linked_first : (p : Parameters) (c : ℕ) (k : List Station) (w : PlainState) (b : Bytes) (call : Call) (l : List Output) (a : Answer)
    → Refines p c k w → Arrived p c w b call → length l ≡ c → AllSound p call.time l → NotOne a
    → Refines p
    c
    (set k call.station (record { answer = a; number = call.number; frame = padded b }))
    (record {
      past = first call.station call.number call.time b a ∷ w.past;
      panel = record { outputs = l; time = call.time };
    })
unfolding in_time
linked_first p c k w b call l a m g e h z =
    let s = call.station in
    let n = call.number in
    let t = call.time in
    let x : Station = record { answer = a; number = n; frame = padded b } in
    record {
      allowed = m.allowed;
      exact = m.exact;
      count = e;
      sound = h;
      bounded = omega (arith, g.frame.time);
      counted = length-set k s x ∙ m.counted;
      kept = kept_set k s x m.kept (station_kept a n b g.frame.kind);
      known = λ s' l'.
          known_set k s s' n t b a w.past (omega (arith, m.counted, g.frame.station)) g.frame.sized (m.known s' l');
      tops = λ s' n' l'. tops_more s n s' n' t b a w.past (m.tops s' n' l') g.new;
      times = λ t'. rw (m.times t') (and_le t w.panel.time t' g.due);
      others = (z, m.others);
    }

pub step_linked : (p : Parameters) (marks c : ℕ) (k : List Station) (w : PlainState) (b : Bytes) (v : Result Verdict Refusal)
    → Refines p c k w → Moved p c w b v
    → Refines p c (next_stations marks b k w v) (plain_execute marks b w v).state
unfolding plain_execute
step_linked p marks c k w b (Err r) m g = m
step_linked p marks c k w b (Ok (Copied a)) m g = m
step_linked p marks c k w b (Ok (Clocked t)) m g =
    rw (run_plain_advance p t w.panel g.0 (omega (arith, g.1)) m.sound) (linked_clock p c k w t m g.0 g.1)
step_linked p marks c k w b (Ok (Arrives call)) m g =
    let t = call.time in
    let i = call.output in
    let r = call.request in
    let u : t ≤ greatest_count = omega (arith, g.frame.time) in
    let tenant = is_tenant marks call.station in
    let l = map (advance w.panel.time t) w.panel.outputs in
    let e : length l ≡ c = length-map w.panel.outputs (advance w.panel.time t) ∙ m.count in
    let h : AllSound p t l = all_advance p w.panel.time t w.panel.outputs g.due u m.sound in
    rw
    (run_plain_advance p t w.panel g.due u m.sound)
    (linked_first p c k w b call (served tenant t l i r).outputs (served tenant t l i r).answer m g
    (served_length tenant t l i r ∙ e)
    (served_sound p tenant t l i r g.frame.good h)
    (served_not_one p tenant t l i r g.frame.good))

-- its answer is not refusal 1
plain_execute_other : (p : Parameters) (marks c : ℕ) (k : List Station) (w : PlainState) (b : Bytes) (v : Result Verdict Refusal)
    → Refines p c k w → Moved p c w b v → NotOne (plain_execute marks b w v).answer
unfolding plain_execute
plain_execute_other p marks c k w b (Err r) m g = record { other = omega arith }
plain_execute_other p marks c k w b (Ok (Copied a)) m g = g
plain_execute_other p marks c k w b (Ok (Clocked t)) m g = record { other = omega arith }
plain_execute_other p marks c k w b (Ok (Arrives call)) m g =
    served_not_one p _ _ _ call.output call.request g.frame.good

-- the engine's step from a linked panel is the plain panel's, and the panels are linked again
pub record Stepped (p : Parameters) (marks c : ℕ) (k : List Station) (w : PlainState) (b : Bytes) : Type 0 where
  pub stations : List Station
  pub same :
      frame_step (joined p marks k w) b
      ≡ record {
        panel = joined p marks stations (plain_frame_step p marks w b).state;
        answer = (plain_frame_step p marks w b).answer;
      }
  pub linked : Refines p c stations (plain_frame_step p marks w b).state
  pub other : NotOne (plain_frame_step p marks w b).answer

pub step : (p : Parameters) (marks c : ℕ) (k : List Station) (w : PlainState) (b : Bytes) → Octets b
    → Refines p c k w → Stepped p marks c k w b
unfolding frame_step plain_frame_step when◌then◌else◌
step p marks c k w b h m =
    let v = judged w.past b (parse p (length w.panel.outputs) b) in
    let g : Moved p c w b v = rw m.count (judged_moved p c k w b (parse p c b) m (frame_in_range p c b h)) in
    record {
      stations = next_stations marks b k w v;
      same = rw (linked_sound p marks c k w m, decide_judged p marks c k w b h m) (step_same p marks c k w b v m g);
      linked = step_linked p marks c k w b v m g;
      other = plain_execute_other p marks c k w b v m g;
    }

-- EVERY LIST
abbrev pub AllOther : List Answer → Type 0
AllOther l = Every NotOne l

pub record Listed (p : Parameters) (marks c : ℕ) (k : List Station) (w : PlainState) (l : List Bytes) : Type 0 where
  pub stations : List Station
  pub same : after (joined p marks k w) l ≡ joined p marks stations (plain_after p marks w l)
  pub answered : answers (joined p marks k w) l ≡ plain_answers p marks w l
  pub linked : Refines p c stations (plain_after p marks w l)
  pub others : AllOther (plain_answers p marks w l)

pub listed : (p : Parameters) (marks c : ℕ) (k : List Station) (w : PlainState) (l : List Bytes) → Strings l
    → Refines p c k w → Listed p marks c k w l
unfolding after answers plain_after plain_answers
listed p marks c k w [] s m = record { stations = k; same = refl; answered = refl; linked = m; others = tt }
listed p marks c k w (b ∷ l) s m =
    let h = step p marks c k w b s.0 m in
    let i = listed p marks c h.stations (plain_frame_step p marks w b).state l s.1 h.linked in
    record {
      stations = i.stations;
      same = rw h.same i.same;
      answered = rw h.same (ap (λ (z : List Answer). (plain_frame_step p marks w b).answer ∷ z) i.answered);
      linked = i.linked;
      others = (h.other, i.others);
    }

kept_fresh : (n : ℕ) → every station_sound (replicate n fresh_station) ≡ true
unfolding every station_sound fresh_station when◌then◌else◌
kept_fresh zero = refl
kept_fresh (suc n) = also_yes refl (kept_fresh n)

pub linked_start : (p : Parameters) → startable p ≡ true → Refines p p.outputs (replicate p.stations fresh_station) (plain_start p)
unfolding plain_start latest above in_time when◌then◌else◌ restored kind_row kind_length byte_at fresh_station
linked_start p allowed =
    record {
      allowed = allowed;
      exact = refl;
      count = length-replicate p.outputs (fresh_for p);
      sound = all_fresh p (startable_of p allowed) p.outputs;
      bounded = omega arith;
      counted = length-replicate p.stations fresh_station;
      kept = kept_fresh p.stations;
      known = λ s h. ap as_latest (get_or-replicate p.stations s fresh_station fresh_station h);
      tops = λ s n h. sym (leb_yes h);
      times = λ t. sym (leb_yes {a = 0} {b = t} (omega arith));
      others = tt;
    }
