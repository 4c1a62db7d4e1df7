-- §4 of the change requests: 'Carry the milliseconds since a movement's start in 32 bits inside the level
-- formula [..] Answers and tables stay as they were, also after clock jumps of 4,294,967,296 ms and more.'
-- The definitions keep the unbounded number (`elapsed`); here stands why 32 bits lose nothing of it.
use Rattle.std.specs.Prelude.{Option, Some, None}
use mathlib.Core.Path.{◌≡◌, refl, sym, ap, ◌∙◌}
use mathlib.Core.Bool.{true}
use Prim.Native.Nat.{ℕ, zero, suc, ◌+◌, ◌-◌, ◌%◌, ◌≤◌, ◌<◌}
use native.Mathlib.Nat.{mod-eq_of_lt}
use native.Mathlib.Omega.{arith}
use lib.Dec.{eqb, ltb}
use lib.ListN.{get_or, length}
use Rattle.lighting_levels.specs.Paper.Choice.{when◌then◌else◌}
use Rattle.lighting_outputs.specs.declared.Parameters.{Parameters}
use Rattle.lighting_outputs.specs.Paper.Parameters.{longest_movement}
use Rattle.lighting_outputs.specs.Paper.Slots.{slot_count}
use Rattle.lighting_outputs.specs.Paper.Value.{present_value, elapsed, reached_by, reached, progress_by, progress_value, in_process}
use Rattle.lighting_outputs.specs.Paper.Record.{with_burning}
use Rattle.lighting_outputs.specs.Paper.Passing.{with_burned, timer_due, activity_due, is_due, end_movement_of, end_movement_by, end_movement_on_expiry, next_phase, next_activity, activity_at, after_events, fire, tick, ticks}
use Rattle.lighting_outputs.specs.Paper.Fresh.{fresh_output}
use Rattle.lighting_panel.specs.Paper.Panel.{Panel, panel_sound}
use Rattle.lighting_outputs.specs.Engine.Advance.{greatest_count, advance}
use Rattle.lighting_outputs.specs.declared.Phase.{Phase}
use Rattle.lighting_outputs.specs.declared.Phase.TheVariants.{Blink, Delay}
use Rattle.lighting_outputs.specs.declared.Warning.{Warning}
use Rattle.lighting_outputs.specs.declared.Movement.{Movement}
use Rattle.lighting_outputs.specs.declared.Activity.{Activity}
use Rattle.lighting_outputs.specs.declared.Activity.TheVariants.{Still, Moving, Warned}
use Rattle.lighting_outputs.specs.declared.Timer.{Timer}
use Rattle.lighting_outputs.specs.declared.Output.{Output}
use Rattle.lighting_levels.proofs.Split.{by_bool}
use Rattle.lighting_outputs.proofs.Rules.Facts.{Sound, Lawful}
use Rattle.lighting_outputs.proofs.Time.Passing.{TimerAfter, advance_ticks}
use Rattle.lighting_outputs.proofs.Time.Ticking.{advance_sound}
use Rattle.lighting_outputs.specs.Paper.Startable.{startable}
use Rattle.lighting_outputs.proofs.Rules.Startable.{startable_of}
use Rattle.lighting_panel.proofs.Carried.{sound_startable, sound_outputs}
use Rattle.lighting_outputs.proofs.Rules.Tied.{sound_facts, sound_calm}
use Rattle.lighting_outputs.proofs.Consequences.Movements.{along, rules, moving, stays}
use Rattle.lighting_panel.proofs.Consequences.Others.{every_at}

-- all that 32 bits keep of a number
abbrev pub low : ℕ → ℕ
low number = number % 4294967296

-- AS LONG AS A MOVEMENT LASTS its elapsed part is below its length; once it is over it is the length, however
-- far panel time has jumped
pub elapsed_below : (t : ℕ) (m : Movement) → 0 < m.length → t < m.over → elapsed t m < m.length
elapsed_below t m long lasts = omega arith

pub elapsed_over : (t : ℕ) (m : Movement) → m.over ≤ t → elapsed t m ≡ m.length
elapsed_over t m over = omega arith

-- so 32 bits that hold its length hold it, of whatever record and at whatever moment
pub elapsed_whole : (t : ℕ) (m : Movement) → m.length < 4294967296 → low (elapsed t m) ≡ elapsed t m
elapsed_whole t m fits = mod-eq_of_lt (omega arith)

-- EVERY MOVEMENT of a record that keeps the rules lasts, its end being after panel time, and no longer than
-- the longest
pub record Narrow (p : Parameters) (t : ℕ) (m : Movement) : Type 0 where
  pub lasts : t < m.over
  pub below : elapsed t m < m.length
  pub short : m.length ≤ longest_movement p
  pub whole : low (elapsed t m) ≡ elapsed t m

pub narrow : (p : Parameters) → startable p ≡ true → (t : ℕ) (o : Output) (m : Movement) → Sound p t o → o.activity ≡ Moving m → Narrow p t m
narrow p allowed t o m sound moves =
    let kept = rules p t o m sound moves in
    record {
      lasts = kept.later;
      below = elapsed_below t m kept.long.least kept.later;
      short = kept.long.most;
      whole = elapsed_whole t m (omega (arith, kept.long.most, (startable_of p allowed).fade));
    }

-- so of every output j of every panel that meets the rules (its record has sixteen slots, as every lent one
-- has)
pub narrow_in : (panel : Panel) (j : ℕ) (m : Movement) → panel_sound panel ≡ true → j < length panel.outputs
    → length (get_or panel.outputs j fresh_output).slots.levels ≡ slot_count → (get_or panel.outputs j fresh_output).activity ≡ Moving m
    → Narrow panel.kept.parameters panel.kept.time m
narrow_in panel j m meets inside size moves =
    let p = panel.kept.parameters in
    let t = panel.kept.time in
    let o = get_or panel.outputs j fresh_output in
    let tested = every_at p t panel.outputs j inside (sound_outputs panel meets) in
    narrow p (sound_startable panel meets) t o m (sound_facts p t o size tested).sound moves

-- and Progress_Value by what 32 bits keep is Progress_Value
pub progress_narrow : (p : Parameters) → startable p ≡ true → (t : ℕ) (o : Output) (m : Movement) → Sound p t o → o.activity ≡ Moving m → progress_value t o ≡ reached_by m (low (elapsed t m))
unfolding progress_value progress_by reached
progress_narrow p allowed t o m sound moves = rw (moves, (narrow p allowed t o m sound moves).whole)

-- JUMPS of n milliseconds. Each frame's time has 48 bits, so that the engine's count, of 64, holds every
-- moment (`fits`)
module _ (p : Parameters) (t n : ℕ) (o : Output) (lawful : Lawful p t o) (fits : t + n ≤ greatest_count) where
  by_ticks : advance t (t + n) o ≡ ticks n t o
  by_ticks =
      let same : t + n - t ≡ n = omega arith in
      advance_ticks t (t + n) o (omega arith) fits (sound_calm p t o lawful) ∙ ap (λ (k : ℕ). ticks k t o) same

  -- whatever n, if no duration falls due on the way: up to a movement's end it is under way, where the
  -- formula says; from there on it is on the target
  module _ (m : Movement) (moves : o.activity ≡ Moving m) (quiet : TimerAfter (t + n) o.timer) where
    lasts : t < m.over
    lasts = (rules p t o m lawful.sound moves).later

    pub jump_within : t + n < m.over
        → (progress_value (t + n) (advance t (t + n) o) ≡ along m.pace m.start m.target m.length (elapsed (t + n) m))
        × (in_process (advance t (t + n) o).activity ≡ 1)
    jump_within before = rw by_ticks (moving p t {left = m.over - t} o m moves (omega (arith, lasts)) n (omega arith) quiet)

    pub jump_past : m.over ≤ t + n → (progress_value (t + n) (advance t (t + n) o) ≡ m.target) × (in_process (advance t (t + n) o).activity ≡ 0)
    jump_past past =
        let more = t + n - m.over in
        let whole : n ≡ m.over - t + more = omega (arith, lasts) in
        let on = stays p t {left = m.over - t} o m moves (omega (arith, lasts)) more (omega (arith, lasts)) (rw (sym whole) quiet) lawful.sound in
        rw by_ticks (rw (sym whole) at on)

-- TIME BEGINS NO MOVEMENT: what is under way after some milliseconds was under way before them, or is no
-- movement
data Goes (a : Activity) : Activity → Type 0 where
  on : Goes a a
  rests : {b : Activity} → in_process b ≡ 0 → Goes a b

goes_on : {a b c : Activity} → Goes a b → Goes b c → Goes a c
goes_on first on = first
goes_on first (rests e) = rests e

phase_rests : (w : Warning) (phase : Phase) → in_process (next_phase w phase) ≡ 0
unfolding next_phase in_process when◌then◌else◌
phase_rests w Blink = by_bool (ltb w.turn w.over) (λ e. rw e) (λ e. rw e)
phase_rests w Delay = refl

next_rests : (a : Activity) → in_process (next_activity a) ≡ 0
unfolding next_activity in_process
next_rests Still = refl
next_rests (Moving m) = refl
next_rests (Warned w) = phase_rests w w.phase

due_goes : (d : ℕ) (a : Activity) → Goes a (activity_at d a)
unfolding activity_at when◌then◌else◌
due_goes d a = by_bool (is_due d (activity_due a)) (λ e. rw e (rests (next_rests a))) (λ e. rw e on)

slot_goes : (slot : ℕ) (a : Activity) → Goes a (end_movement_of slot a)
unfolding end_movement_of in_process when◌then◌else◌
slot_goes slot Still = on
slot_goes slot (Moving m) = by_bool (eqb m.owner slot) (λ e. rw e (rests refl)) (λ e. rw e on)
slot_goes slot (Warned w) = on

timer_goes : (timer : Option Timer) (a : Activity) → Goes a (end_movement_by timer a)
unfolding end_movement_by
timer_goes None a = on
timer_goes (Some timer) a = slot_goes timer.slot a

expiry_goes : (d : ℕ) (timer : Option Timer) (a : Activity) → Goes a (end_movement_on_expiry d timer a)
unfolding end_movement_on_expiry when◌then◌else◌
expiry_goes d timer a = by_bool (is_due d (timer_due timer)) (λ e. rw e (timer_goes timer a)) (λ e. rw e on)

tick_goes : (t : ℕ) (o : Output) → Goes o.activity (tick t o).activity
unfolding tick fire after_events with_burned with_burning
tick_goes t o = goes_on (expiry_goes (suc t) o.timer o.activity) (due_goes (suc t) (end_movement_on_expiry (suc t) o.timer o.activity))

ticks_goes : (n t : ℕ) (o : Output) → Goes o.activity (ticks n t o).activity
unfolding ticks
ticks_goes zero t o = on
ticks_goes (suc n) t o = goes_on (tick_goes t o) (ticks_goes n (suc t) (tick t o))

-- none that was under way 2^32 ms ago is: it would last longer than the longest
none_so_long : (p : Parameters) → startable p ≡ true → (t n : ℕ) (o o' : Output) (a : Activity) → Sound p t o → Sound p (t + n) o' → 4294967296 ≤ n
    → o.activity ≡ a → o'.activity ≡ a → in_process a ≡ 0
unfolding in_process
none_so_long p allowed t n o o' Still old new far e f = refl
none_so_long p allowed t n o o' (Moving m) old new far e f =
    let first = rules p t o m old e in
    let second = rules p (t + n) o' m new f in
    absurd (omega (arith, first.began, first.long.most, second.later, (startable_of p allowed).fade))
none_so_long p allowed t n o o' (Warned w) old new far e f = refl

rest_shows : (t v : ℕ) (a : Activity) → in_process a ≡ 0 → progress_by t v a ≡ v
unfolding progress_by in_process
rest_shows t v Still e = refl
rest_shows t v (Moving m) e = absurd (omega arith)
rest_shows t v (Warned w) e = refl

-- 'CLOCK JUMPS OF 4,294,967,296 MS AND MORE': every output is at rest after one, whatever it was at, also
-- where durations fell due on the way. So a jump of 4,294,967,301 ms is not one of 5
pub far_rests : (p : Parameters) → startable p ≡ true → (t n : ℕ) (o : Output) → Lawful p t o → t + n ≤ greatest_count → 4294967296 ≤ n
    → (in_process (advance t (t + n) o).activity ≡ 0)
    × (progress_value (t + n) (advance t (t + n) o) ≡ present_value (advance t (t + n) o).settings (advance t (t + n) o).slots)
unfolding progress_value
far_rests p allowed t n o lawful fits far = (still, rest_shows (t + n) _ (advance t (t + n) o).activity still)
  where
    by : (b : Activity) → (advance t (t + n) o).activity ≡ b → Goes o.activity b → in_process b ≡ 0
    by b e on =
        let sound = (advance_sound p t (t + n) o (omega arith) fits lawful).sound in
        none_so_long p allowed t n o (advance t (t + n) o) o.activity lawful.sound sound far refl e
    by b e (rests f) = f

    still : in_process (advance t (t + n) o).activity ≡ 0
    still = by (advance t (t + n) o).activity refl (rw (by_ticks p t n o lawful fits) (ticks_goes n t o))
