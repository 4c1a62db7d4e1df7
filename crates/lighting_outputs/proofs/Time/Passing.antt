-- EVENT STEPS EQUAL TICKS: the engine's way from due moment to due moment comes to what the plain panel's
-- milliseconds come to. What it asks of the output (`Calm`): every due moment is after the moment it starts
-- from, it has burned no longer than the panel stands, and its relay is judged: so the milliseconds at which
-- nothing falls due, which the engine leaves out, would have judged it for nothing (Judged.antt). Neither the
-- slots nor what lights a lamp play a part: of the count of a stretch it asks that it is its milliseconds one
-- by one (Light.antt).
use Rattle.std.specs.Prelude.{Option, Some, None}
use mathlib.Core.Path.{◌≡◌, refl, sym, ap, ap₂, ◌∙◌}
use mathlib.Core.Bool.{true, false, false≢true}
use mathlib.Core.List.{List, [], ◌∷◌}
use Prim.Native.Nat.{ℕ, zero, suc, ◌+◌, ◌-◌, ◌≤◌, ◌<◌}
use native.Mathlib.Nat.{zero-add, add-zero, suc-add, sub_self, add_assoc}
use native.Mathlib.Omega.{arith}
use lib.Dec.{eqb}
use Rattle.lighting_levels.specs.Paper.Choice.{when◌then◌else◌, Every}
use Rattle.lighting_outputs.proofs.Time.Light.{counted}
use Rattle.lighting_outputs.proofs.Rules.Facts.{Judged}
use Rattle.lighting_outputs.proofs.Time.Judged.{judged_stays, with_burning_judged, fire_judged}
use Rattle.lighting_levels.proofs.Split.{by_eq, by_lt, by_bool, eqb_miss, eq_of}
use Rattle.lighting_outputs.specs.declared.Phase.{Phase}
use Rattle.lighting_outputs.specs.declared.Phase.TheVariants.{Blink, Delay}
use Rattle.lighting_outputs.specs.declared.Warning.{Warning}
use Rattle.lighting_outputs.specs.declared.Activity.{Activity}
use Rattle.lighting_outputs.specs.declared.Activity.TheVariants.{Still, Moving, Warned}
use Rattle.lighting_outputs.specs.declared.Timer.{Timer}
use Rattle.lighting_outputs.specs.declared.Relay.{Relay}
use Rattle.lighting_outputs.specs.declared.Output.{Output}
use Rattle.lighting_outputs.specs.Paper.Slots.{Slots}
use Rattle.lighting_outputs.specs.Paper.Value.{progress_value, lit}
use Rattle.lighting_outputs.specs.Engine.Advance.{greatest_count, burned_by, with_burned_saturating, sooner, soonest, due, fire_due, event_step, event_steps, advance}
use Rattle.lighting_outputs.specs.Paper.Record.{with_burning, with_relay}
use Rattle.lighting_outputs.specs.Paper.Passing.{lit_milliseconds, with_burned, timer_due, phase_end, activity_due, due_moments, is_due, timer_at, expired, end_movement_of, end_movement_by, end_movement_on_expiry, delayed, next_phase, next_activity, activity_at, slots_at, after_events, fire, tick, ticks}

-- every due moment is after t
abbrev pub MomentAfter : ℕ → Option ℕ → Type 0
MomentAfter t None = Unit {0}
MomentAfter t (Some d) = t < d

abbrev AllAfter : ℕ → List (Option ℕ) → Type 0
AllAfter t l = Every (MomentAfter t) l

pub record After (t : ℕ) (o : Output) : Type 0 where
  pub all : AllAfter t (due_moments o)

pub record Calm (t : ℕ) (o : Output) : Type 0 where
  pub after : After t o
  pub burnt : o.burning ≤ t
  pub judged : Judged o

all_earlier : {t t' : ℕ} (l : List (Option ℕ)) → t ≤ t' → AllAfter t' l → AllAfter t l
all_earlier [] h a = tt
all_earlier (None ∷ l) h a = (tt, all_earlier l h a.1)
all_earlier (Some d ∷ l) h a = (omega (arith, a.0), all_earlier l h a.1)

pub earlier : {t t' : ℕ} (o : Output) → t ≤ t' → After t' o → After t o
earlier o h a = record { all = all_earlier (due_moments o) h a.all }

-- WHERE NOTHING IS DUE, NOTHING HAPPENS
not_due : (t : ℕ) (d : Option ℕ) → MomentAfter t d → is_due t d ≡ false
unfolding is_due
not_due t None a = refl
not_due t (Some d) a = eqb_miss {a = d} {b = t} (omega arith)

idle : (t : ℕ) (o : Output) → is_due t (timer_due o.timer) ≡ false → is_due t (activity_due o.activity) ≡ false → fire t o ≡ after_events o
unfolding fire timer_at expired end_movement_on_expiry activity_at slots_at when◌then◌else◌
idle t o p q = rw (p, q)

-- but that the plain panel judges
pub only_judges : (t : ℕ) (o : Output) → After t o → fire t o ≡ after_events o
only_judges t o a = idle t o (not_due t (timer_due o.timer) a.all.0) (not_due t (activity_due o.activity) a.all.1.0)

quiet : (t : ℕ) (o : Output) → After t o → Judged o → fire t o ≡ o
quiet t o a j = only_judges t o a ∙ judged_stays o j

-- and the engine does not
pub fire_due_quiet : (t : ℕ) (o : Output) → After t o → fire_due t o ≡ o
unfolding fire_due when◌then◌else◌
fire_due_quiet t o a = rw (not_due t (timer_due o.timer) a.all.0, not_due t (activity_due o.activity) a.all.1.0)

fire_due_fire : (t : ℕ) (o : Output) → Judged o → fire_due t o ≡ fire t o
unfolding fire_due when◌then◌else◌
fire_due_fire t o j =
    by_bool
    (is_due t (timer_due o.timer))
    (λ e. rw e)
    (λ e. by_bool
    (is_due t (activity_due o.activity))
    (λ e'. rw (e, e'))
    (λ e'. rw (e, e') (sym (idle t o e e' ∙ judged_stays o j))))

-- and where no duration is due, none does anything
abbrev pub TimerAfter : ℕ → Option Timer → Type 0
TimerAfter t None = Unit {0}
TimerAfter t (Some timer) = t < timer.due

pub timer_earlier : {t t' : ℕ} (m : Option Timer) → t ≤ t' → TimerAfter t' m → TimerAfter t m
timer_earlier None h a = tt
timer_earlier (Some timer) h a = omega arith

timer_moment : (t : ℕ) (m : Option Timer) → TimerAfter t m → MomentAfter t (timer_due m)
unfolding timer_due
timer_moment t None a = tt
timer_moment t (Some timer) a = a

pub both_after : (t : ℕ) (o : Output) → TimerAfter t o.timer → MomentAfter t (activity_due o.activity) → After t o
both_after t o a b = record { all = (timer_moment t o.timer a, (b, tt)) }

pub timer_quiet : (t : ℕ) (m : Option Timer) → TimerAfter t m → timer_at t m ≡ m
unfolding timer_at when◌then◌else◌
timer_quiet t m a = rw (not_due t (timer_due m) (timer_moment t m a))

pub expired_quiet : (t : ℕ) (m : Option Timer) (s : Slots) → TimerAfter t m → expired t m s ≡ s
unfolding expired when◌then◌else◌
expired_quiet t m s a = rw (not_due t (timer_due m) (timer_moment t m a))

pub end_movement_on_expiry_quiet : (t : ℕ) (m : Option Timer) (a : Activity) → TimerAfter t m → end_movement_on_expiry t m a ≡ a
unfolding end_movement_on_expiry when◌then◌else◌
end_movement_on_expiry_quiet t m a h = rw (not_due t (timer_due m) (timer_moment t m h))

-- BURNING: of n milliseconds at most n, of none none, and stretches add up
pub lit_milliseconds_le : (from n : ℕ) (o : Output) → lit_milliseconds from n o ≤ n
unfolding lit_milliseconds when◌then◌else◌
lit_milliseconds_le from zero o = omega arith
lit_milliseconds_le from (suc n) o =
    by_bool
    (lit from o)
    (λ e. rw e (omega (arith, lit_milliseconds_le (suc from) n o)))
    (λ e. rw e (omega (arith, lit_milliseconds_le (suc from) n o)))

-- it looks at settings, slots and what is under way alone: neither what has burned nor the relay plays a part
-- in it
pub lit_milliseconds_alike : (from n : ℕ) (o o' : Output) → o'.settings ≡ o.settings → o'.slots ≡ o.slots → o'.activity ≡ o.activity
    → lit_milliseconds from n o' ≡ lit_milliseconds from n o
unfolding lit_milliseconds lit progress_value
lit_milliseconds_alike from zero o o' p q r = refl
lit_milliseconds_alike from (suc n) o o' p q r = rw (lit_milliseconds_alike (suc from) n o o' p q r, p, q, r)

lit_milliseconds_with_burning : (from n b : ℕ) (o : Output) → lit_milliseconds from n (with_burning o b) ≡ lit_milliseconds from n o
unfolding with_burning
lit_milliseconds_with_burning from n b o = lit_milliseconds_alike from n o (with_burning o b) refl refl refl

pub with_burned_with_relay : (from n : ℕ) (o : Output) (relay : Relay)
    → with_burned from n (with_relay o relay) ≡ with_relay (with_burned from n o) relay
unfolding with_burned with_burning
with_burned_with_relay from n o relay = rw (lit_milliseconds_alike from n o (with_relay o relay) refl refl refl)

lit_milliseconds_split : (from a b : ℕ) (o : Output) → lit_milliseconds from a o + lit_milliseconds (from + a) b o ≡ lit_milliseconds from (a + b) o
unfolding lit_milliseconds
lit_milliseconds_split from zero b o = rw (add-zero from, zero-add b, zero-add (lit_milliseconds from b o))
lit_milliseconds_split from (suc a) b o =
    let k : from + suc a ≡ suc from + a = omega arith in
    let n : suc a + b ≡ suc (a + b) = omega arith in
    rw (k, n, ← lit_milliseconds_split (suc from) a b o) (add_assoc (when lit from o then 1 else 0) (lit_milliseconds (suc from) a o) (lit_milliseconds (suc from + a) b o))

lit_milliseconds_add : (from a b : ℕ) (o : Output) → lit_milliseconds from a o + lit_milliseconds (from + a) b (with_burned from a o) ≡ lit_milliseconds from (a + b) o
unfolding with_burned
lit_milliseconds_add from a b o = rw (lit_milliseconds_with_burning (from + a) b (o.burning + lit_milliseconds from a o) o) (lit_milliseconds_split from a b o)

pub with_burned_zero : (from : ℕ) (o : Output) → with_burned from 0 o ≡ o
unfolding with_burned with_burning
with_burned_zero from o = let z : lit_milliseconds from 0 o ≡ 0 = omega (arith, lit_milliseconds_le from 0 o) in rw (z, add-zero o.burning)

pub with_burned_with_burned : (from a b : ℕ) (o : Output) → with_burned (from + a) b (with_burned from a o) ≡ with_burned from (a + b) o
unfolding with_burned with_burning
with_burned_with_burned from a b o = rw (← lit_milliseconds_add from a b o) (same (lit_milliseconds from a o) (lit_milliseconds (from + a) b (with_burned from a o)))
  where
    same : (x y : ℕ) → with_burning (with_burning o (o.burning + x)) (o.burning + x + y) ≡ with_burning o (o.burning + (x + y))
    same x y = unfold with_burning in rw (add_assoc o.burning x y)

pub with_burned_after : (t from n : ℕ) (o : Output) → After t o → After t (with_burned from n o)
unfolding with_burned with_burning
with_burned_after t from n o a = record { all = a.all }

with_burned_judged : (from n : ℕ) (o : Output) → Judged o → Judged (with_burned from n o)
unfolding with_burned
with_burned_judged from n o j = with_burning_judged o (o.burning + lit_milliseconds from n o) j

-- THE ENGINE'S COUNT does not come to its top
with_burned_saturating_with_burned : (from n : ℕ) (o : Output) → o.burning + n ≤ greatest_count → with_burned_saturating from n o ≡ with_burned from n o
unfolding with_burned_saturating burned_by with_burned
with_burned_saturating_with_burned from n o h = ap (λ (b : ℕ). with_burning o b) (omega (arith, counted from n o, lit_milliseconds_le from n o))

pub one_more : (n t : ℕ) (o : Output) → with_burned (suc t) n (with_burned t 1 o) ≡ with_burned t (suc n) o
one_more n t o =
    ap (λ (k : ℕ). with_burned k n (with_burned t 1 o)) (omega arith)
    ∙ with_burned_with_burned t 1 n o
    ∙ ap (λ (k : ℕ). with_burned t k o) (omega arith)

-- n MILLISECONDS, of which none but perhaps the last brings anything due
pub quiet_ticks : (n t : ℕ) (o : Output) → After (t + n) o → Judged o → ticks n t o ≡ with_burned t n o
unfolding ticks tick
quiet_ticks zero t o a j = sym (with_burned_zero t o)
quiet_ticks (suc n) t o a j =
    let j₁ : Judged (with_burned t 1 o) = with_burned_judged t 1 o j in
    let a₁ : After (suc t) (with_burned t 1 o) = with_burned_after (suc t) t 1 o (earlier o (omega arith) a) in
    let a₂ : After (suc t + n) (with_burned t 1 o) = with_burned_after (suc t + n) t 1 o (earlier o (omega arith) a) in
    rw (quiet (suc t) (with_burned t 1 o) a₁ j₁, quiet_ticks n (suc t) (with_burned t 1 o) a₂ j₁) (one_more n t o)

pub event_step_ticks : (n t : ℕ) (o : Output) → After (t + n) o → Judged o → ticks (suc n) t o ≡ fire (suc (t + n)) (with_burned t (suc n) o)
unfolding ticks tick
event_step_ticks zero t o a j = ap (λ (k : ℕ). fire (suc k) (with_burned t 1 o)) (omega arith)
event_step_ticks (suc n) t o a j =
    let j₁ : Judged (with_burned t 1 o) = with_burned_judged t 1 o j in
    let a₁ : After (suc t) (with_burned t 1 o) = with_burned_after (suc t) t 1 o (earlier o (omega arith) a) in
    let a₂ : After (suc t + n) (with_burned t 1 o) = with_burned_after (suc t + n) t 1 o (earlier o (omega arith) a) in
    ap (λ (z : Output). ticks (suc n) (suc t) z) (quiet (suc t) (with_burned t 1 o) a₁ j₁)
    ∙ event_step_ticks n (suc t) (with_burned t 1 o) a₂ j₁
    ∙ ap₂ (λ (k : ℕ) (z : Output). fire k z) (omega arith) (one_more (suc n) t o)

pub ticks_add : (m n t : ℕ) (o : Output) → ticks (m + n) t o ≡ ticks n (t + m) (ticks m t o)
unfolding ticks
ticks_add zero n t o = rw (zero-add n, add-zero t)
ticks_add (suc m) n t o =
    ap (λ (k : ℕ). ticks k t o) (suc-add m n)
    ∙ ticks_add m n (suc t) (tick t o)
    ∙ ap (λ (j : ℕ). ticks n j (ticks m (suc t) (tick t o))) (omega arith)

-- AFTER A MOMENT BEFORE WHICH NOTHING WAS DUE, every due moment is later again
not_yet : (n t : ℕ) (d : Option ℕ) → t ≡ suc n → MomentAfter n d → is_due t d ≡ false → MomentAfter t d
unfolding is_due
not_yet n t None p a e = tt
not_yet n t (Some d) p a e = by_eq d t (λ q e'. absurd (false≢true (sym e ∙ e'))) (λ q e'. omega arith)

-- a duration leaves what is under way, or ends it
end_movement_on_expiry_either : (P : Activity → Type 0) (t : ℕ) (m : Option Timer) (a : Activity) → P Still → P a → P (end_movement_on_expiry t m a)
unfolding end_movement_on_expiry when◌then◌else◌
end_movement_on_expiry_either P t m a s h = by_bool (is_due t (timer_due m)) (λ e. rw e (by_timer m)) (λ e. rw e h)
  where
    by_owner : (q : ℕ) (b : Activity) → P b → P (end_movement_of q b)
    by_owner q Still k = unfold end_movement_of in k
    by_owner q (Moving n) k = unfold end_movement_of in by_eq n.owner q (λ p e. rw e s) (λ p e. rw e k)
    by_owner q (Warned w) k = unfold end_movement_of in k

    by_timer : (n : Option Timer) → P (end_movement_by n a)
    by_timer None = unfold end_movement_by in h
    by_timer (Some timer) = unfold end_movement_by in by_owner timer.slot a h

phase_after : (t : ℕ) (w : Warning) (p : Phase) → eqb (phase_end w p) t ≡ true → MomentAfter t (activity_due (next_phase w p))
unfolding phase_end next_phase delayed activity_due when◌then◌else◌
phase_after t w Blink h =
    by_lt w.turn w.over (λ l e. rw e (omega (arith, eq_of {a = w.turn} {b = t} h))) (λ l e. rw e tt)
phase_after t w Delay h = tt

next_after : (t : ℕ) (a : Activity) → is_due t (activity_due a) ≡ true → MomentAfter t (activity_due (next_activity a))
unfolding is_due activity_due next_activity
next_after t Still h = tt
next_after t (Moving m) h = tt
next_after t (Warned w) h = phase_after t w w.phase h

pub fire_after : (t : ℕ) (o : Output) → After t o → After (suc t) (fire (suc t) o)
unfolding fire after_events
fire_after t o a = record { all = (timer, (activity (end_movement_on_expiry (suc t) o.timer o.activity) unchanged, tt)) }
  where
    timer : MomentAfter (suc t) (timer_due (timer_at (suc t) o.timer))
    timer = unfold timer_at when◌then◌else◌ in
        (by_bool
        (is_due (suc t) (timer_due o.timer))
        (λ e. rw e (unfold timer_due in tt))
        (λ e. rw e (not_yet t (suc t) (timer_due o.timer) refl a.all.0 e)))

    unchanged : MomentAfter t (activity_due (end_movement_on_expiry (suc t) o.timer o.activity))
    unchanged =
        end_movement_on_expiry_either
        (λ (b : Activity). MomentAfter t (activity_due b))
        (suc t)
        o.timer
        o.activity
        (unfold activity_due in tt)
        a.all.1.0

    activity : (b : Activity) → MomentAfter t (activity_due b) → MomentAfter (suc t) (activity_due (activity_at (suc t) b))
    activity b h = unfold activity_at when◌then◌else◌ in
        (by_bool
        (is_due (suc t) (activity_due b))
        (λ e. rw e (next_after (suc t) b e))
        (λ e. rw e (not_yet t (suc t) (activity_due b) refl h e)))

-- WHAT IS STILL TO COME: how many due moments an output can yet meet, its next ones and the end that follows
-- a warning's turn
abbrev moments : Option ℕ → ℕ
moments None = 0
moments (Some d) = 1

abbrev phases : Phase → ℕ
phases Blink = 1
phases Delay = 0

abbrev followers : Activity → ℕ
followers Still = 0
followers (Moving m) = 0
followers (Warned w) = phases w.phase

abbrev count_act : Activity → ℕ
count_act a = moments (activity_due a) + followers a

abbrev count : Output → ℕ
count o = moments (timer_due o.timer) + count_act o.activity

count_three : (o : Output) → count o ≤ 3
count_three o = omega (arith, next (timer_due o.timer), next (activity_due o.activity), end o.activity)
  where
    next : (d : Option ℕ) → moments d ≤ 1
    next None = omega arith
    next (Some d) = omega arith

    phase : (p : Phase) → phases p ≤ 1
    phase Blink = omega arith
    phase Delay = omega arith

    end : (a : Activity) → followers a ≤ 1
    end Still = omega arith
    end (Moving m) = omega arith
    end (Warned w) = phase w.phase

none_left : (t : ℕ) (o : Output) → count o ≤ 0 → After t o
none_left t o h =
    record { all = (none (timer_due o.timer) (omega arith), (none (activity_due o.activity) (omega arith), tt)) }
  where
    none : (d : Option ℕ) → moments d ≤ 0 → MomentAfter t d
    none None k = tt
    none (Some d) k = omega arith

moment_hit : (t : ℕ) (d : Option ℕ) → is_due t d ≡ true → 1 ≤ moments d
unfolding is_due
moment_hit t None h = absurd (false≢true h)
moment_hit t (Some d) h = omega arith

next_fewer : (t : ℕ) (a : Activity) → is_due t (activity_due a) ≡ true → suc (count_act (next_activity a)) ≤ count_act a
unfolding is_due activity_due next_activity
next_fewer t Still h = absurd (false≢true h)
next_fewer t (Moving m) h = omega arith
next_fewer t (Warned w) h = phase w.phase
  where
    phase : (p : Phase) → suc (count_act (next_phase w p)) ≤ 1 + phases p
    phase Blink = unfold next_phase delayed when◌then◌else◌ in
        (by_lt w.turn w.over (λ l e. rw e (omega arith)) (λ l e. rw e (omega arith)))
    phase Delay = unfold next_phase in (omega arith)

act_fewer : (t : ℕ) (a : Activity) → count_act (activity_at t a) ≤ count_act a
unfolding activity_at when◌then◌else◌
act_fewer t a =
    by_bool (is_due t (activity_due a)) (λ e. rw e (omega (arith, next_fewer t a e))) (λ e. rw e (omega arith))

-- THE NEXT DUE MOMENT: nothing is due before it
due_le : (to : ℕ) (o : Output) → due to o ≤ to
unfolding due sooner
due_le to o = go (due_moments o)
  where
    go : (l : List (Option ℕ)) → soonest to l ≤ to
    go [] = omega arith
    go (None ∷ l) = go l
    go (Some d ∷ l) = omega (arith, go l)

pub before_due : (t to : ℕ) (o : Output) → t < due to o → After t o
unfolding due sooner
before_due t to o h = record { all = go (due_moments o) h }
  where
    go : (l : List (Option ℕ)) → t < soonest to l → AllAfter t l
    go [] k = tt
    go (None ∷ l) k = (tt, go l k)
    go (Some d ∷ l) k = (omega arith, go l (omega arith))

due_later : (t to : ℕ) (o : Output) → t < to → After t o → t < due to o
unfolding due sooner
due_later t to o h a = go (due_moments o) a.all
  where
    go : (l : List (Option ℕ)) → AllAfter t l → t < soonest to l
    go [] k = h
    go (None ∷ l) k = go l k.1
    go (Some d ∷ l) k = omega (arith, k.0, go l k.1)

pub due_here : (t : ℕ) (o : Output) → After t o → due t o ≡ t
unfolding due sooner
due_here t o a = go (due_moments o) a.all
  where
    go : (l : List (Option ℕ)) → AllAfter t l → soonest t l ≡ t
    go [] k = refl
    go (None ∷ l) k = go l k.1
    go (Some d ∷ l) k = omega (arith, k.0, go l k.1)

-- one event step, from `now` to d before which nothing is due
event_step_quiet : (now n d : ℕ) (o : Output) → d ≡ suc (now + n) → After (now + n) o → Judged o
    → (ticks (d - now) now o ≡ fire d (with_burned now (d - now) o)) × After d (fire d (with_burned now (d - now) o))
event_step_quiet now n d o p a j =
    rw
    (p, sub_here)
    (event_step_ticks n now o a j, fire_after (now + n) (with_burned now (suc n) o) (with_burned_after (now + n) now (suc n) o a))
  where
    sub_here : suc (now + n) - now ≡ suc n
    sub_here = omega arith

next_event_step : (now to : ℕ) (o : Output) → now < to → After now o → Judged o
    → (ticks (due to o - now) now o ≡ fire (due to o) (with_burned now (due to o - now) o))
    × After (due to o) (fire (due to o) (with_burned now (due to o - now) o))
next_event_step now to o l a j =
    let h : now < due to o = due_later now to o l a in
    event_step_quiet now (due to o - suc now) (due to o) o (omega arith) (before_due (now + (due to o - suc now)) to o (omega arith)) j

-- at the next due moment something is due: one fewer is to come
event_step_fewer : (n d from k to : ℕ) (o : Output) → d ≡ suc n → After n o → due to o ≡ d → d < to → suc (count (fire d (with_burned from k o))) ≤ count o
unfolding fire after_events with_burned with_burning timer_at when◌then◌else◌
event_step_fewer n d from k to o p a q h =
    by_bool
    (is_due d (timer_due o.timer))
    (λ e. rw e
    (unfold timer_due in (omega (arith, moment_hit d (timer_due o.timer) e, act_fewer d (end_movement_on_expiry d o.timer o.activity), unchanged))))
    (λ e. unfold end_movement_on_expiry activity_at in rw e
    (by_bool
    (is_due d (activity_due o.activity))
    (λ e'. rw e' (omega (arith, next_fewer d o.activity e')))
    (λ e'. absurd (omega (arith, due_later d to o h (none e e'))))))
  where
    unchanged : count_act (end_movement_on_expiry d o.timer o.activity) ≤ count_act o.activity
    unchanged = end_movement_on_expiry_either (λ (b : Activity). count_act b ≤ count_act o.activity) d o.timer o.activity (unfold activity_due in (omega arith)) (omega arith)

    none : is_due d (timer_due o.timer) ≡ false → is_due d (activity_due o.activity) ≡ false → After d o
    none e e' =
        record {
          all = (not_yet n d (timer_due o.timer) p a.all.0 e, (not_yet n d (activity_due o.activity) p a.all.1.0 e', tt));
        }

-- burning is at most the time to which it has burned
fire_burnt : (now d : ℕ) (o : Output) → now ≤ d → o.burning ≤ now → (fire d (with_burned now (d - now) o)).burning ≤ d
unfolding fire after_events with_burned with_burning
fire_burnt now d o l h = omega (arith, lit_milliseconds_le now (d - now) o)

event_step_with_burned : (now d : ℕ) (o : Output) → now ≤ d → d ≤ greatest_count → Calm now o → event_step now d o ≡ fire d (with_burned now (d - now) o)
unfolding event_step
event_step_with_burned now d o l m c =
    rw (with_burned_saturating_with_burned now (d - now) o (omega (arith, c.burnt)))
    (fire_due_fire d (with_burned now (d - now) o) (with_burned_judged now (d - now) o c.judged))

event_steps_here : (k t : ℕ) (o : Output) → t ≤ greatest_count → Calm t o → event_steps k t t o ≡ o
unfolding event_steps
event_steps_here zero t o m c = with_burned_saturating_with_burned t (t - t) o (omega (arith, c.burnt)) ∙ rw (sub_self t) (with_burned_zero t o)
event_steps_here (suc k) t o m c =
    rw
    (due_here t o c.after, event_step_with_burned t t o (omega arith) m c, sub_self t, with_burned_zero t o, quiet t o c.after c.judged)
    (event_steps_here k t o m c)

join : (now d to : ℕ) (o : Output) → now ≤ d → d ≤ to
    → ticks (to - d) d (ticks (d - now) now o) ≡ ticks (to - now) now o
join now d to o p q =
    ap (λ (j : ℕ). ticks (to - d) j (ticks (d - now) now o)) (omega arith)
    ∙ sym (ticks_add (d - now) (to - d) now o)
    ∙ ap (λ (j : ℕ). ticks j now o) (omega arith)

event_steps_ticks : (k now to : ℕ) (o : Output) → now ≤ to → to ≤ greatest_count → Calm now o → count o ≤ k
    → event_steps k now to o ≡ ticks (to - now) now o
unfolding event_steps ticks
event_steps_ticks zero now to o l m c n =
    with_burned_saturating_with_burned now (to - now) o (omega (arith, c.burnt))
    ∙ sym (quiet_ticks (to - now) now o (none_left (now + (to - now)) o n) c.judged)
event_steps_ticks (suc k) now to o l m c n =
    by_eq
    now
    to
    (λ p e. rw (p, sub_self to) (event_steps_here (suc k) to o m (rw p at c)))
    (λ p e. let l' : now < to = omega arith in
    let h = next_event_step now to o l' c.after c.judged in
    let later : now < due to o = due_later now to o l' c.after in
    let soon : due to o ≤ to = due_le to o in
    let calm : Calm (due to o) (fire (due to o) (with_burned now (due to o - now) o)) =
    record {
      after = h.1;
      burnt = fire_burnt now (due to o) o (omega arith) c.burnt;
      judged = fire_judged (due to o) (with_burned now (due to o - now) o);
    } in
    rw
    (event_step_with_burned now (due to o) o (omega arith) (omega arith) c)
    (by_eq
    (due to o)
    to
    (λ q e'. rw q (event_steps_here k to (fire to (with_burned now (to - now) o)) m (rw q at calm) ∙ sym (rw q at h.0)))
    (λ q e'. let s : due to o < to = omega arith in
    let before : ℕ = due to o - 1 in
    event_steps_ticks
    k
    (due to o)
    to
    (fire (due to o) (with_burned now (due to o - now) o))
    (omega arith)
    m
    calm
    (omega (arith, event_step_fewer before (due to o) now (due to o - now) to o (omega arith) (before_due before to o (omega arith)) refl s))
    ∙ ap (λ (z : Output). ticks (to - due to o) (due to o) z) (sym h.0)
    ∙ join now (due to o) to o (omega arith) (omega arith))))

-- the engine's event steps, as many as `advance` has, equal the plain panel's ticks
pub advance_ticks : (now to : ℕ) (o : Output) → now ≤ to → to ≤ greatest_count → Calm now o → advance now to o ≡ ticks (to - now) now o
unfolding advance
advance_ticks now to o l m c = event_steps_ticks _ now to o l m c (omega (arith, count_three o))
