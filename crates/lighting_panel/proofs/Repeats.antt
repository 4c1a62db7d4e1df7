-- Frames of a list that come again later change nothing of the panel, and no answer to the frames of the
-- list.
use Rattle.std.specs.Prelude.{Result, Ok, Err}
use mathlib.Core.Path.{◌≡◌, refl, ap, subst, sym}
use mathlib.Core.List.{List, [], ◌∷◌}
use lib.ListN.{length}
use Prim.Native.Nat.{ℕ, suc, ◌≤◌, ◌<◌}
use native.Mathlib.Omega.{arith}
use lib.Dec.{eqb}
use Rattle.lighting_levels.specs.Paper.Choice.{when◌then◌else◌, Every}
use Rattle.lighting_outputs.specs.declared.Parameters.{Parameters}
use Rattle.lighting_frames.specs.Paper.Frames.{Bytes, Octets, Strings, parse}
use Rattle.lighting_frames.specs.Paper.Copies.{same_bytes, retransmission_or_conflict}
use Rattle.lighting_panel.specs.Paper.Panel.{Station}
use Rattle.lighting_panel.specs.Engine.Executing.{execute, frame_step}
use Rattle.lighting_panel.specs.Paper.Plain.{latest, judged, PlainState, plain_execute, plain_frame_step}
use Rattle.lighting_panel.specs.Paper.Demand.{after, answers, Again, end, own, copy, answers_to_originals}
use Rattle.lighting_outputs.specs.declared.Answer.{Answer}
use Rattle.lighting_frames.specs.declared.Call.{Call}
use Rattle.lighting_frames.specs.declared.Frame.{Frame}
use Rattle.lighting_frames.specs.declared.Frame.TheVariants.{Clock, Calls}
use Rattle.lighting_frames.specs.declared.Verdict.{Verdict}
use Rattle.lighting_frames.specs.declared.Verdict.TheVariants.{Copied, Clocked, Arrives}
use Rattle.lighting_levels.proofs.Split.{by_eq, by_lt, by_le, by_bool, eqb_hit, leb_no}
use Rattle.lighting_levels.proofs.Every.{every_then}
use Rattle.lighting_panel.proofs.Among.{every_among}
use Rattle.lighting_frames.proofs.Reading.{FrameInRange, frame_in_range}
use Rattle.lighting_panel.proofs.Table.{run_plain_advance, advance_here}
use Rattle.lighting_panel.proofs.Lists.{joined, Refines, Moved, judged_moved, decide_judged, linked_sound, step}
use Rattle.lighting_outputs.specs.declared.refusals.Refusal.{Refusal}

-- a frame that can no longer move the panel: its number is not above its station's latest, or its time is
-- past
data Stale (w : PlainState) (call : Call) : Type 0 where
  old : call.number ≤ (latest call.station w.past).number → Stale w call
  late : call.time < w.panel.time → Stale w call

abbrev Spent : PlainState → Result Frame Refusal → Type 0
Spent w (Err r) = Unit {0}
Spent w (Ok (Clock t)) = t ≤ w.panel.time
Spent w (Ok (Calls call)) = Stale w call

-- time and numbers only grow, so what is spent stays spent
record Grows (w w' : PlainState) : Type 0 where
  time : w.panel.time ≤ w'.panel.time
  number : (s : ℕ) → (latest s w.past).number ≤ (latest s w'.past).number

spent_grows : (w w' : PlainState) (f : Result Frame Refusal) → Grows w w' → Spent w f → Spent w' f
spent_grows w w' (Err r) g h = tt
spent_grows w w' (Ok (Clock t)) g h = omega (arith, g.time)
spent_grows w w' (Ok (Calls call)) g (old h) = old (omega (arith, g.number call.station))
spent_grows w w' (Ok (Calls call)) g (late h) = late (omega (arith, g.time))

plain_execute_grows : (p : Parameters) (marks c : ℕ) (k : List Station) (w : PlainState) (b : Bytes) (v : Result Verdict Refusal)
    → Refines p c k w → Moved p c w b v → Grows w (plain_execute marks b w v).state
unfolding plain_execute latest when◌then◌else◌
plain_execute_grows p marks c k w b (Err r) m g = record { time = omega arith; number = λ s. omega arith }
plain_execute_grows p marks c k w b (Ok (Copied a)) m g = record { time = omega arith; number = λ s. omega arith }
plain_execute_grows p marks c k w b (Ok (Clocked t)) m g =
    rw
    (run_plain_advance p t w.panel g.0 (omega (arith, g.1)) m.sound)
    (record { time = g.0; number = λ s. omega arith })
plain_execute_grows p marks c k w b (Ok (Arrives call)) m g =
    rw
    (run_plain_advance p call.time w.panel g.due (omega (arith, g.frame.time)) m.sound)
    (record {
      time = g.due;
      number = λ s'. by_eq call.station s' (λ y e. rw e (omega (arith, rw y at g.new))) (λ y e. rw e (omega arith));
    })

-- once judged, a frame is spent
now_spent : (p : Parameters) (marks c : ℕ) (k : List Station) (w : PlainState) (b : Bytes) (f : Result Frame Refusal)
    → Refines p c k w → FrameInRange p c b f
    → Spent (plain_execute marks b w (judged w.past b f)).state f
unfolding judged retransmission_or_conflict plain_execute latest when◌then◌else◌
now_spent p marks c k w b (Err r) m g = tt
now_spent p marks c k w b (Ok (Clock t)) m g =
    rw
    (m.times t)
    (by_le
    w.panel.time
    t
    (λ h e. rw (e, run_plain_advance p t w.panel h (omega arith) m.sound) (omega arith))
    (λ h e. rw e (omega arith)))
now_spent p marks c k w b (Ok (Calls call)) m g =
    let s = call.station in
    let n = call.number in
    let t = call.time in
    rw
    (m.tops s n g.number, m.times t)
    (by_lt
    (latest s w.past).number
    n
    (λ h e. by_le
    w.panel.time
    t
    (λ h' e'. rw (e, e') (old (rw (eqb_hit {a = s} {b = s} refl) (omega arith))))
    (λ h' e'. rw (e, e') (late h')))
    (λ h e. by_bool
    (eqb n (latest s w.past).number)
    (λ y. by_bool
    (same_bytes b (latest s w.past).frame)
    (λ q. rw (e, y, q) (old h))
    (λ q. rw (e, y, q) (old h)))
    (λ y. rw (e, y) (old h))))

-- what a spent frame leaves: everything
stays : (p : Parameters) (marks c : ℕ) (k : List Station) (w : PlainState) (b : Bytes) (f : Result Frame Refusal)
    → Refines p c k w → FrameInRange p c b f → Spent w f
    → (execute b (joined p marks k w) (judged w.past b f)).panel ≡ joined p marks k w
unfolding judged retransmission_or_conflict execute when◌then◌else◌
stays p marks c k w b (Err r) m g h = refl
stays p marks c k w b (Ok (Clock t)) m g h =
    rw
    (m.times t)
    (by_le
    w.panel.time
    t
    (λ h' e. let y : t ≡ w.panel.time = omega arith in
    let q = advance_here p w.panel.time w.panel.outputs m.bounded m.sound in
    rw e (rw y (rw q)))
    (λ h' e. rw e))
stays p marks c k w b (Ok (Calls call)) m g (old h) =
    let s = call.station in
    let n = call.number in
    rw
    (m.tops s n g.number, leb_no {a = suc (latest s w.past).number} {b = n} (omega arith))
    (by_bool
    (eqb n (latest s w.past).number)
    (λ y. by_bool (same_bytes b (latest s w.past).frame) (λ q. rw (y, q)) (λ q. rw (y, q)))
    (λ y. rw y))
stays p marks c k w b (Ok (Calls call)) m g (late h) =
    let s = call.station in
    let n = call.number in
    let t = call.time in
    rw
    (m.tops s n g.number, m.times t, leb_no {a = w.panel.time} {b = t} h)
    (by_lt
    (latest s w.past).number
    n
    (λ h' e. rw e)
    (λ h' e. rw e
    (by_bool
    (eqb n (latest s w.past).number)
    (λ y. by_bool (same_bytes b (latest s w.past).frame) (λ q. rw (y, q)) (λ q. rw (y, q)))
    (λ y. rw y))))

-- the frames seen so far, each spent
abbrev SpentString : Parameters → ℕ → PlainState → Bytes → Type 0
SpentString p c w b = Octets b × Spent w (parse p c b)

abbrev AllSpent : Parameters → ℕ → PlainState → List Bytes → Type 0
AllSpent p c w l = Every (SpentString p c w) l

all_grow : (p : Parameters) (c : ℕ) (w w' : PlainState) (l : List Bytes) → Grows w w' → AllSpent p c w l → AllSpent p c w' l
all_grow p c w w' l g h =
    every_then (SpentString p c w) (SpentString p c w') l (λ b s. (s.0, spent_grows w w' (parse p c b) g s.1)) h

engine_stays : (p : Parameters) (marks c : ℕ) (k : List Station) (w : PlainState) (b : Bytes) → Octets b
    → Refines p c k w → Spent w (parse p c b)
    → (frame_step (joined p marks k w) b).panel ≡ joined p marks k w
unfolding frame_step when◌then◌else◌
engine_stays p marks c k w b o m h =
    rw
    (linked_sound p marks c k w m, decide_judged p marks c k w b o m, m.count)
    (stays p marks c k w b (parse p c b) m (frame_in_range p c b o) h)

plain_state : (p : Parameters) (marks c : ℕ) (w : PlainState) (b : Bytes) → length w.panel.outputs ≡ c
    → (plain_frame_step p marks w b).state ≡ (plain_execute marks b w (judged w.past b (parse p c b))).state
unfolding plain_frame_step
plain_state p marks c w b n = rw n refl

plain_spends : (p : Parameters) (marks c : ℕ) (k : List Station) (w : PlainState) (b : Bytes) (l : List Bytes)
    → Octets b → Refines p c k w → AllSpent p c w l
    → AllSpent p c (plain_frame_step p marks w b).state (b ∷ l)
plain_spends p marks c k w b l o m h =
    subst
    (λ (z : PlainState). AllSpent p c z (b ∷ l))
    (sym (plain_state p marks c w b m.count)) (
      (o, now_spent p marks c k w b (parse p c b) m (frame_in_range p c b o)),
      all_grow p
          c
          w
          (plain_execute marks b w (judged w.past b (parse p c b))).state
          l
          (plain_execute_grows p marks c k w b (judged w.past b (parse p c b)) m
          (judged_moved p c k w b (parse p c b) m (frame_in_range p c b o)))
          h,
    )

repeats : (p : Parameters) (marks c : ℕ) (k : List Station) (w : PlainState) {seen l l' : List Bytes} (r : Again seen l l')
    → Strings l → Refines p c k w → AllSpent p c w seen
    → (after (joined p marks k w) l' ≡ after (joined p marks k w) l)
    × (answers_to_originals r (answers (joined p marks k w) l') ≡ answers (joined p marks k w) l)
unfolding after answers answers_to_originals
repeats p marks c k w end s m h = (refl, refl)
repeats p marks c k w (own {seen = seen} {b = b} r) s m h =
    let z = step p marks c k w b s.0 m in
    let spent = plain_spends p marks c k w b seen s.0 m h in
    let i = repeats p marks c z.stations (plain_frame_step p marks w b).state r s.1 z.linked spent in
    rw z.same (i.0, ap (λ (x : List Answer). (plain_frame_step p marks w b).answer ∷ x) i.1)
repeats p marks c k w (copy {seen = seen} {b = b} a r) s m h =
    let i = repeats p marks c k w r s m h in
    let o = every_among (SpentString p c w) seen b a h in
    rw (engine_stays p marks c k w b o.0 m o.1) i

-- after a start nothing is seen yet
pub repeats_change_nothing : (p : Parameters) (marks c : ℕ) (k : List Station) (w : PlainState) {l l' : List Bytes}
    (r : Again [] l l')
    → Strings l → Refines p c k w
    → (after (joined p marks k w) l' ≡ after (joined p marks k w) l)
    × (answers_to_originals r (answers (joined p marks k w) l') ≡ answers (joined p marks k w) l)
repeats_change_nothing p marks c k w r s m = repeats p marks c k w r s m tt
