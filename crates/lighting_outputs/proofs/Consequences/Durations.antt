-- A DURATION empties its slot at its moment and not before, whatever writes come; 0 cancels it, absent leaves
-- it.
use Rattle.std.specs.Prelude.{Option, Some, None, Err}
use mathlib.Core.Path.{◌≡◌, refl, sym, ap, subst, ◌∙◌}
use mathlib.Core.Logic.{◌≢◌}
use mathlib.Core.Bool.{Bool, true, false, true≢false}
use Prim.Native.Nat.{ℕ, zero, suc, ◌+◌, ◌≤◌, ◌<◌}
use native.Mathlib.Omega.{arith}
use lib.Dec.{eqb, leb, ltb}
use lib.ListN.{length}
use Rattle.lighting_levels.specs.Paper.Choice.{when◌then◌else◌}
use Rattle.lighting_outputs.specs.Paper.Parameters.{Parameters}
use Rattle.lighting_outputs.specs.Paper.Slots.{slot_count, slot6, Slots, slot, is_live, put, emptied}
use Rattle.lighting_outputs.specs.Paper.Record.{with_burning, with_effect, with_settings, with_command}
use Rattle.lighting_outputs.specs.Paper.Passing.{with_burned, timer_due, activity_due, is_due, timer_at, emptied_by, expired, end_movement_of, end_movement_by, end_movement_on_expiry, next_activity, activity_at, phase_slots, next_slots, slots_at, after_events, fire, tick, ticks, running}
use Rattle.lighting_outputs.specs.Paper.Writing.{stored, warns, warned_by, warned, ended_empty, ended_stored, written_warned, written_zero, written_calm, written_by, written, slot_relinquished}
use Rattle.lighting_outputs.specs.Paper.Rows.{within}
use Rattle.lighting_outputs.specs.Paper.Properties.{changed}
use Rattle.lighting_outputs.specs.Paper.Commands.{timed, commanded_from, commanded}
use Rattle.lighting_outputs.specs.Paper.Acting.{done, unchanged, acted, served}
use Rattle.lighting_outputs.specs.Paper.Operations.{fields_of}
use Rattle.lighting_outputs.specs.Paper.Requests.{fields_refusal, plain_duration, command_lasting, command_of, command_with_duration, command_request_by, command_request}
use Rattle.lighting_outputs.specs.declared.Movement.{Movement}
use Rattle.lighting_outputs.specs.declared.Phase.{Phase}
use Rattle.lighting_outputs.specs.declared.Phase.TheVariants.{Blink, Delay}
use Rattle.lighting_outputs.specs.declared.Warning.{Warning}
use Rattle.lighting_outputs.specs.declared.Activity.{Activity}
use Rattle.lighting_outputs.specs.declared.Activity.TheVariants.{Still, Moving, Warned}
use Rattle.lighting_outputs.specs.declared.Timer.{Timer}
use Rattle.lighting_outputs.specs.declared.Operation.{Operation}
use Rattle.lighting_outputs.specs.Paper.Answers.{as_request}
use Rattle.lighting_outputs.specs.declared.OutputRequest.{OutputRequest}
use Rattle.lighting_outputs.specs.declared.OutputRequest.TheVariants.{Write, Empty, Change, Read, Commands}
use Rattle.lighting_outputs.specs.declared.Output.{Output}
use Rattle.lighting_outputs.specs.declared.Outcome.{Outcome}
use Rattle.lighting_outputs.specs.Paper.Startable.{startable}
use Rattle.lighting_outputs.proofs.Rules.Startable.{startable_of}
use Rattle.lighting_levels.proofs.Split.{by_bool, by_eq, eqb_hit, eqb_miss, leb_yes, leb_no}
use Rattle.lighting_outputs.proofs.Rules.Facts.{Slot, Acts, Timed, Sound}
use Rattle.lighting_outputs.proofs.Time.Passing.{TimerAfter, timer_earlier, timer_quiet, expired_quiet, end_movement_on_expiry_quiet}
use Rattle.lighting_outputs.proofs.Priorities.Winner.{put_sized}
use Rattle.lighting_outputs.proofs.Time.Ticking.{tick_sound}
use Rattle.lighting_outputs.proofs.Rules.RequestInRange.{OutputRequestInRange}
use Rattle.lighting_outputs.proofs.Acts.Acted.{by_change, acted_sound}
use Rattle.lighting_outputs.proofs.Consequences.Present.{slot_same, slot_other}
use Rattle.lighting_outputs.proofs.Consequences.Alone.{alone}
use Rattle.lighting_outputs.specs.declared.refusals.Refusal.TheVariants.{WholeOutOfRange}

-- A STRETCH OF AN OUTPUT'S LIFE without a command: milliseconds, and whatever else a frame may ask, in any
-- order
abbrev pub NoCommand : OutputRequest → Type 0
NoCommand (Write i v) = Unit {0}
NoCommand (Empty i) = Unit {0}
NoCommand (Change n v) = Unit {0}
NoCommand (Read n) = Unit {0}
NoCommand (Commands k) = ⊥

pub data Life (p : Parameters) : ℕ → Output → ℕ → Output → Type 0 where
  here : {t : ℕ} {o : Output} → Life p t o t o
  millisecond : {t t' : ℕ} {o o' : Output} → Life p (suc t) (tick t o) t' o' → Life p t o t' o'
  request :
      {t t' : ℕ} {o o' : Output} (tenant : Bool) (q : OutputRequest) → OutputRequestInRange p q → NoCommand q
      → Life p t (acted tenant t o q).output t' o' → Life p t o t' o'

forward : (p : Parameters) {t t' : ℕ} {o o' : Output} → Life p t o t' o' → t ≤ t'
forward p here = omega arith
forward p (millisecond l) = omega (arith, forward p l)
forward p (request tenant r g n l) = forward p l

life_sound : (p : Parameters) {t t' : ℕ} {o o' : Output} → Life p t o t' o' → Sound p t o → Sound p t' o'
life_sound p here h = h
life_sound p (millisecond {t = t} {o = o} l) h = life_sound p l (tick_sound p t o h)
life_sound p (request {t = t} {o = o} tenant r g n l) h = life_sound p l (acted_sound p tenant t o r g h)

-- 'no write ends it': a write of Present_Value touches slots and activity alone
pub record Rest (o o' : Output) : Type 0 where
  pub settings : o'.settings ≡ o.settings
  pub timer : o'.timer ≡ o.timer
  pub burning : o'.burning ≡ o.burning
  pub last : o'.last ≡ o.last
  pub relay : o'.relay ≡ o.relay

effect_rest : (o : Output) (s : Slots) (a : Activity) → Rest o (with_effect o s a)
unfolding with_effect
effect_rest o s a = record { settings = refl; timer = refl; burning = refl; last = refl; relay = refl }

calm_rest : (t : ℕ) (o : Output) (i v : ℕ) → Rest o (written_calm t o i v)
unfolding written_calm written_zero stored warned warned_by when◌then◌else◌
calm_rest t o i v =
    by_bool (eqb v 0)
    (λ e. rw e (by_bool (warns o.settings o.slots i) (λ e'. rw e' (effect_rest o _ _)) (λ e'. rw e' (effect_rest o _ _))))
    (λ e. rw e (effect_rest o _ _))

warned_rest : (o : Output) (i v : ℕ) → Rest o (written_warned o i v)
unfolding written_warned ended_empty ended_stored when◌then◌else◌
warned_rest o i v =
    by_bool (eqb v 0)
    (λ e. rw e (by_bool (ltb slot6 i) (λ e'. rw e' (effect_rest o _ _)) (λ e'. rw e' (effect_rest o _ _))))
    (λ e. rw e (effect_rest o _ _))

written_by_rest : (t : ℕ) (o : Output) (i v : ℕ) (a : Activity) → Rest o (written_by t o i v a)
unfolding written_by
written_by_rest t o i v Still = calm_rest t o i v
written_by_rest t o i v (Moving m) = calm_rest t o i v
written_by_rest t o i v (Warned w) = warned_rest o i v

pub written_rest : (t : ℕ) (o : Output) (i v : ℕ) → Rest o (written t o i v)
unfolding written
written_rest t o i v = written_by_rest t o i v o.activity

acted_timer : (tenant : Bool) (t : ℕ) (o : Output) (q : OutputRequest) → NoCommand q
    → (acted tenant t o q).output.timer ≡ o.timer
unfolding acted done unchanged after_events slot_relinquished with_effect changed with_settings
acted_timer tenant t o (Write i v) n = (written_rest t o i v).timer
acted_timer tenant t o (Empty i) n = refl
acted_timer tenant t o (Change m v) n =
    by_change (λ (z : Outcome). z.output.timer ≡ o.timer) tenant t o m v (λ r l. refl) (λ e e'. refl)
acted_timer tenant t o (Read q) n = refl
acted_timer tenant t o (Commands k) n = elim n [ ]

-- UNTIL ITS MOMENT it runs on
tick_timer : (t q d : ℕ) (o : Output) → o.timer ≡ running q d → suc t < d → (tick t o).timer ≡ running q d
unfolding tick fire after_events with_burned with_burning timer_due is_due timer_at when◌then◌else◌
tick_timer t q d o e h = rw (e, eqb_miss {a = d} {b = suc t} (omega arith))

pub runs_on : (p : Parameters) {t t' : ℕ} {o o' : Output} (q d : ℕ) → Life p t o t' o' → o.timer ≡ running q d → t' < d → o'.timer ≡ running q d
runs_on p q d here e h = e
runs_on p q d (millisecond {t = t} {o = o} l) e h = runs_on p q d l (tick_timer t q d o e (omega (arith, forward p l))) h
runs_on p q d (request {t = t} {o = o} tenant r g n l) e h = runs_on p q d l (acted_timer tenant t o r n ∙ e) h

-- one that was cancelled does not come back
tick_off : (t : ℕ) (o : Output) → o.timer ≡ None → (tick t o).timer ≡ None
unfolding tick fire after_events with_burned with_burning timer_due is_due timer_at when◌then◌else◌
tick_off t o e = rw e

pub stays_off : (p : Parameters) {t t' : ℕ} {o o' : Output} → Life p t o t' o' → o.timer ≡ None → o'.timer ≡ None
stays_off p here e = e
stays_off p (millisecond {t = t} {o = o} l) e = stays_off p l (tick_off t o e)
stays_off p (request {t = t} {o = o} tenant r g n l) e = stays_off p l (acted_timer tenant t o r n ∙ e)

-- a warning's own slot is one of the sixteen
abbrev Owned : Activity → Type 0
Owned Still = Unit {0}
Owned (Moving m) = Unit {0}
Owned (Warned w) = w.owner < slot_count

owned : (p : Parameters) (t : ℕ) (o : Output) (a : Activity) → Acts p t o.settings o.slots a → Owned a
owned p t o Still h = tt
owned p t o (Moving m) h = tt
owned p t o (Warned w) h = omega (arith, h.owner)

end_movement_of_owned : (q : ℕ) (a : Activity) → Owned a → Owned (end_movement_of q a)
unfolding end_movement_of when◌then◌else◌
end_movement_of_owned q Still h = tt
end_movement_of_owned q (Moving m) h = by_bool (eqb m.owner q) (λ e. rw e tt) (λ e. rw e tt)
end_movement_of_owned q (Warned w) h = h

-- AT ITS MOMENT its slot is empty, whatever a warning does at the same moment
slots_none : (t q : ℕ) (a : Activity) (s : Slots) → length s.levels ≡ slot_count → q < slot_count → q ≢ slot6 → Owned a → slot s q ≡ None → slot (slots_at t a s) q ≡ None
unfolding slots_at when◌then◌else◌
slots_none t q a s z k n w h = by_bool (is_due t (activity_due a)) (λ e. rw e (next a w)) (λ e. rw e h)
  where
    phase : (x : Warning) (y : Phase) → x.owner < slot_count → slot (phase_slots x y s) q ≡ None
    phase x Blink l = unfold phase_slots in
        (by_bool (ltb x.turn x.over)
        (λ e. rw e (slot_other s z slot6 q (Some x.level) (omega arith) (λ y. n (sym y)) ∙ h))
        (λ e. rw e (slot_other s z slot6 q None (omega arith) (λ y. n (sym y)) ∙ h)))
    phase x Delay l = unfold phase_slots in
        (by_eq x.owner q
        (λ y e. rw y (slot_same (emptied s slot6) (put_sized s z slot6 None) q None k))
        (λ y e. slot_other (emptied s slot6) (put_sized s z slot6 None) x.owner q None l y ∙ slot_other s z slot6 q None (omega arith) (λ r. n (sym r)) ∙ h))

    next : (b : Activity) → Owned b → slot (next_slots b s) q ≡ None
    next Still l = unfold next_slots in h
    next (Moving m) l = unfold next_slots in h
    next (Warned x) l = unfold next_slots in (phase x x.phase l)

pub expires : (p : Parameters) (t q : ℕ) (o : Output) → Sound p t o → o.timer ≡ running q (suc t) → (slot (tick t o).slots q ≡ None) × ((tick t o).timer ≡ None)
unfolding tick fire after_events with_burned with_burning timer_due is_due emptied_by expired end_movement_by end_movement_on_expiry timer_at when◌then◌else◌
expires p t q o h e =
    let k : Slot q = (subst (λ (z : Option Timer). Timed t z) e h.timer).0 in
    rw (e, eqb_hit {a = suc t} {b = suc t} refl) (
      slots_none (suc t) q (end_movement_of q o.activity) (emptied o.slots q) (put_sized o.slots h.slots.size q None) k.inside k.free
          (end_movement_of_owned q o.activity (owned p t o o.activity h.activity))
          (slot_same o.slots h.slots.size q None k.inside),
      refl,
    )

-- '(ending a movement that slot owned)', and no other
pub expires_own : (t q : ℕ) (o : Output) (m : Movement) → o.timer ≡ running q (suc t) → o.activity ≡ Moving m → m.owner ≡ q → (tick t o).activity ≡ Still
unfolding tick fire after_events with_burned with_burning timer_due activity_due is_due end_movement_by end_movement_on_expiry end_movement_of next_activity activity_at when◌then◌else◌
expires_own t q o m e f w = rw (e, f, eqb_hit {a = suc t} {b = suc t} refl, eqb_hit {a = m.owner} {b = q} w)

pub expires_other : (t q : ℕ) (o : Output) (m : Movement) → o.timer ≡ running q (suc t) → o.activity ≡ Moving m → m.owner ≢ q → suc t < m.over
    → (tick t o).activity ≡ Moving m
unfolding tick fire after_events with_burned with_burning timer_due activity_due is_due end_movement_by end_movement_on_expiry end_movement_of next_activity activity_at when◌then◌else◌
expires_other t q o m e f w l =
    rw (e, f, eqb_hit {a = suc t} {b = suc t} refl, eqb_miss {a = m.owner} {b = q} w, eqb_miss {a = m.over} {b = suc t} (omega arith))

-- AND NOTHING ELSE: beside the same output without a duration, no other slot differs, and a warning runs on
abbrev pub untimed : Output → Output
untimed o = record { settings = o.settings; slots = o.slots; activity = o.activity; timer = None; burning = o.burning; last = o.last; relay = o.relay }

put_alike : (s : Slots) → length s.levels ≡ slot_count → (q j i : ℕ) (x : Option ℕ) → q < slot_count → q ≢ j → i < slot_count
    → slot (put (emptied s q) i x) j ≡ slot (put s i x) j
put_alike s z q j i x k n w =
    by_eq i j
    (λ y e. rw y (slot_same (emptied s q) (put_sized s z q None) j x (rw y at w) ∙ sym (slot_same s z j x (rw y at w))))
    (λ y e. slot_other (emptied s q) (put_sized s z q None) i j x w y ∙ slot_other s z q j None k n ∙ sym (slot_other s z i j x w y))

slots_alike : (t q j : ℕ) (a : Activity) (s : Slots) → length s.levels ≡ slot_count → q < slot_count → q ≢ j → Owned a
    → slot (slots_at t a (emptied s q)) j ≡ slot (slots_at t a s) j
unfolding slots_at when◌then◌else◌
slots_alike t q j a s z k n w = by_bool (is_due t (activity_due a)) (λ e. rw e (next a w)) (λ e. rw e (slot_other s z q j None k n))
  where
    phase : (x : Warning) (y : Phase) → x.owner < slot_count → slot (phase_slots x y (emptied s q)) j ≡ slot (phase_slots x y s) j
    phase x Blink l = unfold phase_slots in
        (by_bool (ltb x.turn x.over)
        (λ e. rw e (put_alike s z q j slot6 (Some x.level) k n (omega arith)))
        (λ e. rw e (put_alike s z q j slot6 None k n (omega arith))))
    phase x Delay l = unfold phase_slots in
        (by_eq x.owner j
        (λ y e. let i : j < slot_count = omega arith in
        rw y (slot_same (emptied (emptied s q) slot6) (put_sized (emptied s q) (put_sized s z q None) slot6 None) j None i
        ∙ sym (slot_same (emptied s slot6) (put_sized s z slot6 None) j None i)))
        (λ y e. slot_other (emptied (emptied s q) slot6) (put_sized (emptied s q) (put_sized s z q None) slot6 None) x.owner j None l y
        ∙ put_alike s z q j slot6 None k n (omega arith)
        ∙ sym (slot_other (emptied s slot6) (put_sized s z slot6 None) x.owner j None l y)))

    next : (b : Activity) → Owned b → slot (next_slots b (emptied s q)) j ≡ slot (next_slots b s) j
    next Still l = unfold next_slots in (slot_other s z q j None k n)
    next (Moving m) l = unfold next_slots in (slot_other s z q j None k n)
    next (Warned x) l = unfold next_slots in (phase x x.phase l)

-- a movement's end touches no slot
moving_slots : (d : ℕ) (m : Movement) (s : Slots) → slots_at d (Moving m) s ≡ s
unfolding slots_at next_slots when◌then◌else◌
moving_slots d m s = by_bool (is_due d (activity_due (Moving m))) (λ e. rw e) (λ e. rw e)

pub expires_alone : (p : Parameters) (t q : ℕ) (o : Output) → Sound p t o → o.timer ≡ running q (suc t) → (j : ℕ) → q ≢ j
    → slot (tick t o).slots j ≡ slot (tick t (untimed o)).slots j
unfolding tick fire after_events with_burned with_burning timer_due is_due emptied_by expired end_movement_by end_movement_on_expiry when◌then◌else◌
expires_alone p t q o h e j n =
    let k : Slot q = (subst (λ (z : Option Timer). Timed t z) e h.timer).0 in
    rw (e, eqb_hit {a = suc t} {b = suc t} refl)
    (end_movement_of_slots (suc t) q j o.activity
    ∙ slots_alike (suc t) q j o.activity o.slots h.slots.size k.inside n (owned p t o o.activity h.activity))
  where
    end_movement_of_slots : (d q j : ℕ) (a : Activity) → slot (slots_at d (end_movement_of q a) (emptied o.slots q)) j ≡ slot (slots_at d a (emptied o.slots q)) j
    end_movement_of_slots d q j Still = unfold end_movement_of in refl
    end_movement_of_slots d q j (Moving m) = unfold end_movement_of when◌then◌else◌ in
        (by_bool
        (eqb m.owner q)
        (λ f. rw (f, moving_slots d m (emptied o.slots q)) (unfold slots_at activity_due is_due when◌then◌else◌ in refl))
        (λ f. rw f))
    end_movement_of_slots d q j (Warned w) = unfold end_movement_of in refl

pub expires_warned : (p : Parameters) (t q : ℕ) (o : Output) → Sound p t o → o.timer ≡ running q (suc t) → is_live o.slots slot6 ≡ true
    → (tick t o).activity ≡ (tick t (untimed o)).activity
unfolding tick fire after_events with_burned with_burning timer_due is_due end_movement_by end_movement_on_expiry when◌then◌else◌
expires_warned p t q o h e l = rw (e, eqb_hit {a = suc t} {b = suc t} refl) (go o.activity h.activity)
  where
    go : (a : Activity) → Acts p t o.settings o.slots a → activity_at (suc t) (end_movement_of q a) ≡ activity_at (suc t) a
    go Still k = absurd (true≢false (sym l ∙ k))
    go (Moving m) k = absurd (true≢false (sym l ∙ k.six))
    go (Warned w) k = unfold end_movement_of in refl

-- AND NOT BEFORE: until then the passing of time changes no slot (a warning's phases aside, during which slot
-- 6 is live)
calm_slots : (p : Parameters) (t d : ℕ) (o : Output) (a : Activity) → Acts p t o.settings o.slots a → is_live o.slots slot6 ≡ false → slots_at d a o.slots ≡ o.slots
unfolding slots_at next_slots activity_due is_due when◌then◌else◌
calm_slots p t d o Still h e = refl
calm_slots p t d o (Moving m) h e = moving_slots d m o.slots
calm_slots p t d o (Warned w) h e = absurd (true≢false (sym h.six ∙ e))

tick_kept : (p : Parameters) (t : ℕ) (o : Output) → Sound p t o → is_live o.slots slot6 ≡ false → TimerAfter (suc t) o.timer
    → ((tick t o).slots ≡ o.slots) × ((tick t o).timer ≡ o.timer)
unfolding tick fire after_events with_burned with_burning
tick_kept p t o h e a =
    rw (expired_quiet (suc t) o.timer o.slots a, end_movement_on_expiry_quiet (suc t) o.timer o.activity a)
    (calm_slots p t (suc t) o o.activity h.activity e, timer_quiet (suc t) o.timer a)

pub not_before : (p : Parameters) (n t : ℕ) (o : Output) → Sound p t o → is_live o.slots slot6 ≡ false → TimerAfter (t + n) o.timer → (ticks n t o).slots ≡ o.slots
unfolding ticks
not_before p zero t o h e a = refl
not_before p (suc n) t o h e a =
    let k = tick_kept p t o h e (timer_earlier o.timer (omega arith) a) in
    let z : t + suc n ≡ suc t + n = omega arith in
    not_before p n (suc t) (tick t o) (tick_sound p t o h) (rw k.0 e) (rw k.1 (rw z at a)) ∙ k.0

-- A COMMAND WHOSE OTHER FIELDS ARE IN RANGE, which are checked before it, is judged by its duration field
pub in_range_lem : (p : Parameters) (k : Operation) (d : ℕ) → fields_refusal p (fields_of k) ≡ None → command_request p k d ≡ command_with_duration p k (plain_duration d)
unfolding command_request command_of command_request_by when◌then◌else◌
in_range_lem p k d e = rw e

-- A COMMAND'S DURATION FIELD d, of an output that keeps the rules. 100 to the longest duration: whatever
-- comes but a command, the slot is empty d ms later
pub duration_lasts : (p : Parameters) → startable p ≡ true → (t d : ℕ) (o : Output) (k : Operation) → 100 ≤ d → d ≤ p.duration
    → (alone t o (as_request (command_with_duration p k (plain_duration d)))).output.timer ≡ running o.settings.slot (t + d)
unfolding acted served done after_events plain_duration command_with_duration command_lasting within commanded commanded_from with_command timed when◌then◌else◌
duration_lasts p allowed t d o k h m =
    rw (eqb_miss {a = d} {b = 0xffff_ffff} (omega (arith, (startable_of p allowed).duration)), eqb_miss {a = d} {b = 0} (omega arith), leb_yes {a = 100} {b = d} h, leb_yes {a = d} {b = p.duration} m)

pub duration_empties : (p : Parameters) → startable p ≡ true → {t t' : ℕ} {o' : Output} (o : Output) (d : ℕ) (k : Operation) → 100 ≤ d → d ≤ p.duration
    → Sound p t (alone t o (as_request (command_with_duration p k (plain_duration d)))).output
    → Life p t (alone t o (as_request (command_with_duration p k (plain_duration d)))).output t' o'
    → suc t' ≡ t + d
    → (slot (tick t' o').slots o.settings.slot ≡ None) × ((tick t' o').timer ≡ None)
duration_empties p allowed {t} {t'} {o'} o d k h m sound l e =
    expires p t' o.settings.slot o' (life_sound p l sound)
    (runs_on p o.settings.slot (t + d) l (duration_lasts p allowed t d o k h m) (omega arith)
    ∙ ap (λ (z : ℕ). running o.settings.slot z) (sym e))

-- 0 cancels, and what was cancelled never falls due
pub duration_cancels : (p : Parameters) {t t' : ℕ} {o' : Output} (o : Output) (k : Operation)
    → Life p t (alone t o (as_request (command_with_duration p k (plain_duration 0)))).output t' o'
    → o'.timer ≡ None
duration_cancels p {t} o k l = stays_off p l off
  where
    off : (alone t o (as_request (command_with_duration p k (plain_duration 0)))).output.timer ≡ None
    off = unfold acted served done after_events plain_duration command_with_duration command_lasting commanded commanded_from with_command timed when◌then◌else◌ in refl

-- FFFFFFFF leaves it
pub duration_absent : (p : Parameters) (t : ℕ) (o : Output) (k : Operation)
    → (alone t o (as_request (command_with_duration p k (plain_duration 0xffff_ffff)))).output.timer ≡ o.timer
unfolding acted served done after_events plain_duration command_with_duration command_lasting commanded commanded_from with_command timed when◌then◌else◌
duration_absent p t o k = refl

-- any other is refused: 1 to 99, and above the longest
pub duration_low : (p : Parameters) (d : ℕ) (k : Operation) → 0 < d → d < 100 → command_with_duration p k (plain_duration d) ≡ Err WholeOutOfRange
unfolding plain_duration command_with_duration command_lasting within when◌then◌else◌
duration_low p d k h m = rw (eqb_miss {a = d} {b = 0xffff_ffff} (omega arith), eqb_miss {a = d} {b = 0} (omega arith), leb_no {a = 100} {b = d} m)

pub duration_high : (p : Parameters) (d : ℕ) (k : Operation) → p.duration < d → d ≢ 0xffff_ffff → command_with_duration p k (plain_duration d) ≡ Err WholeOutOfRange
unfolding plain_duration command_with_duration command_lasting within when◌then◌else◌
duration_high p d k h n =
    rw (eqb_miss {a = d} {b = 0xffff_ffff} n, eqb_miss {a = d} {b = 0} (omega arith), leb_no {a = d} {b = p.duration} h) (by_bool (leb 100 d) (λ e. rw e) (λ e. rw e))
