-- A FADE AND A RAMP begin at the start level and end on the target at their length; between, they are where
-- the paper's formula says.
use Rattle.std.specs.Prelude.{None, Option, Some}
use mathlib.Core.Path.{◌≡◌, refl, sym, ap, subst, ◌∙◌}
use mathlib.Core.Logic.{◌≢◌}
use Prim.Native.Nat.{ℕ, zero, suc, ◌+◌, ◌-◌, ◌*◌, ◌/◌, ◌≤◌, ◌<◌, min}
use native.Mathlib.Nat.{add-zero, sub_self, zero-div, zero-mul, mul-zero, mul-div_cancel, mul-le-mul_left, le-div_iff_mul-le, div-add-mod', mod-lt}
use native.Mathlib.Omega.{arith}
use lib.Dec.{leb}
use lib.Ieee.{Float}
use lib.ListN.{length}
use Rattle.lighting_outputs.specs.Paper.Parameters.{Parameters}
use Rattle.lighting_levels.specs.Paper.Choice.{when◌then◌else◌}
use Rattle.lighting_levels.specs.Paper.Level.{level_units, amount_units, distance}
use Rattle.lighting_outputs.specs.Paper.Slots.{slot6, slot_count, Slots, winner, filled}
use Rattle.lighting_outputs.specs.Paper.Value.{clamp_lit, present_value, elapsed, distance_moved, reached_by, reached, progress_by, progress_value, in_process}
use Rattle.lighting_outputs.specs.Paper.Record.{with_burning, with_relay, with_command}
use Rattle.lighting_outputs.specs.Paper.Passing.{with_burned, activity_due, is_due, next_activity, activity_at, next_slots, slots_at, after_events, fire, ticks}
use Rattle.lighting_outputs.specs.Paper.Commands.{without_warning, activity_without_warning, replaced, placed, movement, ramp_length, target, faded_over, faded_to, ramped_at, ramped_to, effect, commanded_from, commanded}
use Rattle.lighting_outputs.specs.declared.Pace.{Pace}
use Rattle.lighting_outputs.specs.declared.Pace.TheVariants.{Fade, Ramp}
use Rattle.lighting_outputs.specs.declared.Movement.{Movement}
use Rattle.lighting_outputs.specs.declared.Activity.{Activity}
use Rattle.lighting_outputs.specs.declared.Activity.TheVariants.{Still, Moving, Warned}
use Rattle.lighting_outputs.specs.declared.Timer.{Timer}
use Rattle.lighting_outputs.specs.declared.Duration.{Duration}
use Rattle.lighting_outputs.specs.declared.Operation.TheVariants.{FadeTo, FadeToOver, RampTo, RampToAtRate}
use Rattle.lighting_outputs.specs.declared.Command.{Command}
use Rattle.lighting_outputs.specs.declared.Effect.{Effect}
use Rattle.lighting_outputs.specs.declared.Output.{Output}
use Rattle.lighting_levels.proofs.Split.{by_eq, by_le, eqb_hit, eqb_miss}
use Rattle.lighting_outputs.proofs.Time.Passing.{TimerAfter, MomentAfter, After, both_after, timer_earlier, timer_quiet, end_movement_on_expiry_quiet, expired_quiet, ticks_add}
use Rattle.lighting_outputs.proofs.Time.Unjudged.{quiet_but_relay, step_but_relay}
use Rattle.lighting_outputs.proofs.Rules.Facts.{Acts, Moves, Timed, Sound}
use Rattle.lighting_outputs.proofs.Rules.RequestInRange.{OperationInRange, DurationInRange}
use Rattle.lighting_outputs.proofs.Priorities.Mask.{put_size}
use Rattle.lighting_outputs.proofs.Priorities.Winner.{winning_level_filled}
use Rattle.lighting_levels.proofs.Ranges.{amount_range}
use Rattle.lighting_outputs.proofs.Acts.Shown.{clamp_lit_clamp_lit}
use Rattle.lighting_outputs.proofs.Acts.Commanded.{commanded_sound}

-- THE FORMULA, up or down: of the two ways g - s and s - g one is 0
abbrev pub faded : ℕ → ℕ → ℕ → ℕ → ℕ
faded s g l k = s + (g - s) * k / l - (s - g) * k / l

abbrev pub ramped : ℕ → ℕ → ℕ → ℕ → ℕ
ramped s g r k = s + min (g - s) (r * k / 1000) - min (s - g) (r * k / 1000)

abbrev pub along : Pace → ℕ → ℕ → ℕ → ℕ → ℕ
along Fade s g l k = faded s g l k
along (Ramp r) s g l k = ramped s g r k

no_way : (k l : ℕ) → 0 * k / l ≡ 0
no_way k l = rw (zero-mul k) (zero-div l)

along_by : (w : Pace) (s g l k : ℕ) → (when leb s g then s + distance_moved w (g - s) l k else s - distance_moved w (s - g) l k) ≡ along w s g l k
unfolding distance_moved when◌then◌else◌
along_by Fade s g l k =
    by_le s g
    (λ h e. let z : s - g ≡ 0 = omega arith in rw (e, z, no_way k l) (omega arith))
    (λ h e. let z : g - s ≡ 0 = omega arith in rw (e, z, no_way k l) (omega arith))
along_by (Ramp r) s g l k = by_le s g (λ h e. rw e (omega arith)) (λ h e. rw e (omega arith))

along_reached : (m : Movement) (k : ℕ) → reached_by m k ≡ along m.pace m.start m.target m.length k
unfolding reached_by
along_reached m k = along_by m.pace m.start m.target m.length k

-- and where it begins and ends
pub faded_first : (s g l : ℕ) → faded s g l 0 ≡ s
faded_first s g l = rw (mul-zero (g - s), mul-zero (s - g), zero-div l) (omega arith)

pub faded_last : (s g l : ℕ) → 0 < l → faded s g l l ≡ g
faded_last s g l h = rw (mul-div_cancel (g - s) h, mul-div_cancel (s - g) h) (omega arith)

pub ramped_first : (s g r : ℕ) → ramped s g r 0 ≡ s
ramped_first s g r = rw (mul-zero r, zero-div 1000) (omega arith)

-- 'L = ceiling(1,000 × |g - s| / R)': at L the way is behind it, and a millisecond before it was not
ceiling : (d r : ℕ) → 0 < r → (1000 * d ≤ r * ramp_length d r) × (r * ramp_length d r < 1000 * d + r)
unfolding ramp_length
ceiling d r h =
    let q = div-add-mod' (1000 * d + (r - 1)) r in
    let m = mod-lt (1000 * d + (r - 1)) h in
    omega arith

pub ramped_last : (s g r : ℕ) → 0 < r → ramped s g r (ramp_length (distance s g) r) ≡ g
ramped_last s g r h =
    let c = ceiling (distance s g) r h in
    let z : distance s g ≤ r * ramp_length (distance s g) r / 1000 = (le-div_iff_mul-le {k = 1000} (omega arith)).1 (omega arith) in
    omega arith

pub ramped_before : (s g r k : ℕ) → 0 < r → k < ramp_length (distance s g) r → r * k < 1000 * distance s g
ramped_before s g r k h l =
    let c = ceiling (distance s g) r h in
    let z : r * suc k ≤ r * ramp_length (distance s g) r = mul-le-mul_left r l in
    omega arith

-- at its last moment a movement ends, and no slot changes
over_at : (d : ℕ) (o : Output) (m : Movement) → o.activity ≡ Moving m → m.over ≡ d → TimerAfter d o.timer
    → ((fire d o).activity ≡ Still) × ((fire d o).slots ≡ o.slots) × ((fire d o).settings ≡ o.settings)
unfolding fire after_events is_due activity_due next_activity activity_at next_slots slots_at when◌then◌else◌
over_at d o m e h a =
    rw (end_movement_on_expiry_quiet d o.timer o.activity a, expired_quiet d o.timer o.slots a, e, eqb_hit {a = m.over} {b = d} h)
    (refl, refl, refl)

pub progress_still : (t : ℕ) (o : Output) → o.activity ≡ Still → progress_value t o ≡ present_value o.settings o.slots
unfolding progress_value progress_by
progress_still t o e = rw e

-- an output at rest stays as it is
resting : (t k : ℕ) (o : Output) → o.activity ≡ Still → TimerAfter (t + k) o.timer
    → (progress_value (t + k) (ticks k t o) ≡ present_value o.settings o.slots) × (in_process (ticks k t o).activity ≡ 0)
unfolding with_burned with_burning progress_value progress_by in_process
resting t k o e a = rw (quiet_but_relay k t o (both_after (t + k) o a (rw e (unfold activity_due in tt))), e) (refl, refl)

-- what the rules say of a movement
pub rules : (p : Parameters) (t : ℕ) (o : Output) (m : Movement) → Sound p t o → o.activity ≡ Moving m → Moves p t o.settings o.slots m
rules p t o m sound moves = subst (λ (a : Activity). Acts p t o.settings o.slots a) moves sound.activity

-- an output at rest where its movement aimed, its duration as it was
abbrev Over : Output → Movement → Output → Type 0
Over o m o' = (o'.activity ≡ Still) × (present_value o'.settings o'.slots ≡ m.target) × (o'.timer ≡ o.timer)

-- A MOVEMENT with so many milliseconds left, of a record that keeps the rules, if no frame comes: k
-- milliseconds later Progress_Value is what the formula says
module _ (p : Parameters) (t : ℕ) {left : ℕ} (o : Output) (m : Movement) (moves : o.activity ≡ Moving m) (ends : m.over ≡ t + left) where
  pub moving_after : (k : ℕ) → k < left → TimerAfter (t + k) o.timer → After (t + k) o
  moving_after k h a = both_after (t + k) o a (rw moves (unfold activity_due in (omega arith)))

  pub moving : (k : ℕ) → k < left → TimerAfter (t + k) o.timer
      → (progress_value (t + k) (ticks k t o) ≡ along m.pace m.start m.target m.length (elapsed (t + k) m))
      × (in_process (ticks k t o).activity ≡ 1)
  unfolding with_burned with_burning progress_value progress_by in_process reached
  moving k h a = rw (quiet_but_relay k t o (moving_after k h a), moves) (along_reached m (elapsed (t + k) m), refl)

  -- and when they have passed it is over, on the target
  over_then : 0 < left → TimerAfter (t + left) o.timer → Sound p t o → Over o m (ticks left t o)
  over_then h a sound = go left refl
    where
      aims : m.target ≡ present_value o.settings o.slots
      aims = (rules p t o m sound moves).aims

      go : (l : ℕ) → left ≡ l → Over o m (ticks l t o)
      go zero e = absurd (omega arith)
      go (suc n) e =
          let b = with_relay (with_burned t (suc n) o) (ticks n t o).relay in
          let z : t + left ≡ suc (t + n) = omega arith in
          let c : TimerAfter (suc (t + n)) o.timer = rw z at a in
          let f = over_at (suc (t + n)) b m (unfold with_burned with_burning in moves) (omega arith) (unfold with_burned with_burning in c) in
          let q = moving_after n (omega arith) (timer_earlier o.timer (omega arith) a) in
          rw
          (step_but_relay n t o q) (
            f.0,
            rw (f.1, f.2) (unfold with_burned with_burning in (sym aims)),
            unfold fire after_events with_burned with_burning in (timer_quiet (suc (t + n)) o.timer c),
          )

  pub arrived : 0 < left → TimerAfter (t + left) o.timer → Sound p t o
      → (progress_value (t + left) (ticks left t o) ≡ m.target) × (in_process (ticks left t o).activity ≡ 0)
  arrived h a sound =
      let f = over_then h a sound in
      (progress_still (t + left) (ticks left t o) f.0 ∙ f.1, unfold in_process in (rw f.0))

  -- and stays there
  pub stays : (more : ℕ) → 0 < left → TimerAfter (t + (left + more)) o.timer → Sound p t o
      → (progress_value (t + (left + more)) (ticks (left + more) t o) ≡ m.target) × (in_process (ticks (left + more) t o).activity ≡ 0)
  stays more h a sound =
      let f = over_then h (timer_earlier o.timer (omega arith) a) sound in
      let e : t + (left + more) ≡ t + left + more = omega arith in
      let r = resting (t + left) more (ticks left t o) f.0 (rw f.2 (rw e at a)) in
      rw (ticks_add left more t o, e) (r.0 ∙ f.1, r.1)

-- A COMMAND THAT MOVES, from Progress_Value before it to g over l, if no frame comes and no duration falls
-- due. Present_Value is g at once
pub record Course (t : ℕ) (o o' : Output) (g l : ℕ) (w : Pace) : Type 0 where
  pub begins : progress_value t o' ≡ progress_value t o
  pub shows : present_value o'.settings o'.slots ≡ g
  pub lasts : (k : ℕ) → k < l → MomentAfter (t + k) (activity_due o'.activity)
  pub between : (k : ℕ) → k ≤ l → TimerAfter (t + k) o'.timer → progress_value (t + k) (ticks k t o') ≡ along w (progress_value t o) g l k
  pub ends : TimerAfter (t + l) o'.timer → (progress_value (t + l) (ticks l t o') ≡ g) × (in_process (ticks l t o').activity ≡ 0)

along_first : (w : Pace) (s g l : ℕ) → along w s g l 0 ≡ s
along_first Fade s g l = faded_first s g l
along_first (Ramp r) s g l = ramped_first s g r

along_none : (w : Pace) (g l k : ℕ) → along w g g l k ≡ g
along_none Fade g l k = rw (sub_self g, no_way k l) (omega arith)
along_none (Ramp r) g l k = omega arith

timer_sound_lem : (t : ℕ) (m : Option Timer) → Timed t m → TimerAfter t m
timer_sound_lem t None h = tt
timer_sound_lem t (Some timer) h = h.1

module _ (p : Parameters) (t : ℕ) (o o' : Output) (y g l : ℕ) (w : Pace) (sound : Sound p t o')
    (acts : o'.activity ≡ movement t y (progress_value t o) g l w)
    (shows : present_value o'.settings o'.slots ≡ g)
    (long : progress_value t o ≢ g → 0 < l)
    (last : along w (progress_value t o) g l l ≡ g) where
  at_rest : progress_value t o ≡ g → Course t o o' g l w
  at_rest e =
      let q : o'.activity ≡ Still = acts ∙ (unfold movement when◌then◌else◌ in (rw (eqb_hit {a = progress_value t o} {b = g} e))) in
      record {
        begins = progress_still t o' q ∙ shows ∙ sym e;
        shows = shows;
        lasts = λ k m. rw q (unfold activity_due in tt);
        between = λ k m a. (resting t k o' q a).0 ∙ shows ∙ sym (rw e (along_none w g l k));
        ends = λ a. ((resting t l o' q a).0 ∙ shows, (resting t l o' q a).1);
      }

  on_the_way : progress_value t o ≢ g → Course t o o' g l w
  unfolding ticks
  on_the_way n =
      let m : Movement = record { owner = y; start = progress_value t o; target = g; length = l; over = t + l; pace = w } in
      let q : o'.activity ≡ Moving m = acts ∙ (unfold movement when◌then◌else◌ in (rw (eqb_miss {a = progress_value t o} {b = g} n))) in
      let first = (moving p t o' m q refl 0 (long n) (rw (add-zero t) (timer_sound_lem t o'.timer sound.timer))).0 in
      let begin : progress_value t o' ≡ along w (progress_value t o) g l 0 = rw (add-zero t) at (first ∙ gone 0 (omega arith)) in
      record {
        begins = begin ∙ along_first w (progress_value t o) g l;
        shows = shows;
        lasts = λ k h. rw q (unfold activity_due in (omega arith));
        between =
            λ k h a. by_eq k l
            (λ e z. rw e ((arrived p t o' m q refl (long n) (rw e at a) sound).0 ∙ sym last))
            (λ e z. (moving p t o' m q refl k (omega arith) a).0 ∙ gone k h);
        ends = λ a. arrived p t o' m q refl (long n) a sound;
      }
    where
      gone : (k : ℕ) → k ≤ l → along w (progress_value t o) g l (l - (t + l - (t + k))) ≡ along w (progress_value t o) g l k
      gone k h = let e : l - (t + l - (t + k)) ≡ k = omega arith in rw e

  course : Course t o o' g l w
  course = by_eq (progress_value t o) g (λ e z. at_rest e) (λ e z. on_the_way e)

pub without_warning_size : (s : Slots) (a : Activity) → length (without_warning s a).levels ≡ length s.levels
unfolding without_warning
without_warning_size s Still = refl
without_warning_size s (Moving m) = refl
without_warning_size s (Warned w) = put_size s slot6 None

-- 'If p is then the winner it replaces the movement': the four commands that move, to the target x
module _ (p : Parameters) (t : ℕ) (o : Output) (k : Command) (h : Sound p t o) (good : OperationInRange p k.operation) (lasts : DurationInRange p k.duration)
    (wins : winner (commanded t o k).slots ≡ o.settings.slot) (x : Float) where
  abbrev before : Slots
  before = without_warning o.slots o.activity

  abbrev goal : ℕ
  goal = target o.settings x

  moved : (l : ℕ) (w : Pace)
      → effect t o.settings (progress_value t o) before (activity_without_warning o.activity) k.operation
      ≡ placed before (activity_without_warning o.activity) o.settings.slot goal (movement t o.settings.slot (progress_value t o) goal l w)
      → (progress_value t o ≢ goal → 0 < l) → along w (progress_value t o) goal l l ≡ goal
      → Course t o (commanded t o k) goal l w
  moved l w e long last =
      course p t o (commanded t o k) o.settings.slot goal l w (commanded_sound p t o k good lasts h) acts shows long last
    where
      slots : (commanded t o k).slots ≡ filled before o.settings.slot goal
      slots = unfold commanded commanded_from with_command placed in (ap (λ (r : Effect). r.slots) e)

      acts : (commanded t o k).activity ≡ movement t o.settings.slot (progress_value t o) goal l w
      acts = unfold commanded commanded_from with_command placed replaced when◌then◌else◌ in
          (ap (λ (r : Effect). r.activity) e ∙ rw (eqb_hit {a = winner (filled before o.settings.slot goal)} {b = o.settings.slot} (ap winner (sym slots) ∙ wins)))

      settings : (commanded t o k).settings ≡ o.settings
      settings = unfold commanded commanded_from with_command in refl

      size : length before.levels ≡ slot_count
      size = without_warning_size o.slots o.activity ∙ h.slots.size

      shows : present_value (commanded t o k).settings (commanded t o k).slots ≡ goal
      shows = rw (settings, slots)
          (unfold present_value in
          (ap (clamp_lit o.settings) (winning_level_filled before size o.settings.default o.settings.slot goal h.settings.slot.inside (ap winner (sym slots) ∙ wins))
          ∙ (unfold target in (clamp_lit_clamp_lit p o.settings (level_units x) h.settings))))

-- FADE_TO and FADE_TO_OVER begin at Progress_Value and end on the target at the fade time
pub fade_to : (p : Parameters) (t : ℕ) (o : Output) (x : Float) (d : Duration) → Sound p t o → DurationInRange p d
    → winner (commanded t o (record { operation = FadeTo x; duration = d })).slots ≡ o.settings.slot
    → Course t o (commanded t o (record { operation = FadeTo x; duration = d })) (target o.settings x) o.settings.fade Fade
fade_to p t o x d h g w =
    moved p t o (record { operation = FadeTo x; duration = d }) h tt g w x o.settings.fade Fade
    (unfold effect faded_to faded_over in refl)
    (λ n. omega (arith, h.settings.fade))
    (faded_last (progress_value t o) (target o.settings x) o.settings.fade (omega (arith, h.settings.fade)))

pub fade_to_over : (p : Parameters) (t : ℕ) (o : Output) (x : Float) (l : ℕ) (d : Duration) → Sound p t o → OperationInRange p (FadeToOver x l) → DurationInRange p d
    → winner (commanded t o (record { operation = FadeToOver x l; duration = d })).slots ≡ o.settings.slot
    → Course t o (commanded t o (record { operation = FadeToOver x l; duration = d })) (target o.settings x) l Fade
fade_to_over p t o x l d h r g w =
    moved p t o (record { operation = FadeToOver x l; duration = d }) h r g w x l Fade
    (unfold effect faded_to faded_over in refl)
    (λ n. omega (arith, r.least))
    (faded_last (progress_value t o) (target o.settings x) l (omega (arith, r.least)))

-- RAMP_TO and RAMP_TO_AT_RATE begin at Progress_Value and end on the target at 'L = ceiling(1,000 × |g - s| /
-- R)'
ramp_long : (s g : ℕ) (r : Float) → s ≢ g → 0 < ramp_length (distance s g) (amount_units r)
unfolding ramp_length
ramp_long s g r n =
    let a = amount_range r in
    let z : 1 ≤ (1000 * distance s g + (amount_units r - 1)) / amount_units r = (le-div_iff_mul-le {k = amount_units r} (omega arith)).1 (omega arith) in
    z

pub ramp_to : (p : Parameters) (t : ℕ) (o : Output) (x : Float) (d : Duration) → Sound p t o → DurationInRange p d
    → winner (commanded t o (record { operation = RampTo x; duration = d })).slots ≡ o.settings.slot
    → Course t o (commanded t o (record { operation = RampTo x; duration = d })) (target o.settings x)
    (ramp_length (distance (progress_value t o) (target o.settings x)) (amount_units o.settings.ramp)) (Ramp (amount_units o.settings.ramp))
ramp_to p t o x d h g w =
    moved p t o (record { operation = RampTo x; duration = d }) h tt g w x
    (ramp_length (distance (progress_value t o) (target o.settings x)) (amount_units o.settings.ramp)) (Ramp (amount_units o.settings.ramp))
    (unfold effect ramped_to ramped_at in refl)
    (ramp_long (progress_value t o) (target o.settings x) o.settings.ramp)
    (ramped_last (progress_value t o) (target o.settings x) (amount_units o.settings.ramp) (omega (arith, amount_range o.settings.ramp)))

pub ramp_to_at_rate : (p : Parameters) (t : ℕ) (o : Output) (x r : Float) (d : Duration) → Sound p t o → DurationInRange p d
    → winner (commanded t o (record { operation = RampToAtRate x r; duration = d })).slots ≡ o.settings.slot
    → Course t o (commanded t o (record { operation = RampToAtRate x r; duration = d })) (target o.settings x)
    (ramp_length (distance (progress_value t o) (target o.settings x)) (amount_units r)) (Ramp (amount_units r))
ramp_to_at_rate p t o x r d h g w =
    moved p t o (record { operation = RampToAtRate x r; duration = d }) h tt g w x
    (ramp_length (distance (progress_value t o) (target o.settings x)) (amount_units r)) (Ramp (amount_units r))
    (unfold effect ramped_to ramped_at in refl)
    (ramp_long (progress_value t o) (target o.settings x) r)
    (ramped_last (progress_value t o) (target o.settings x) (amount_units r) (omega (arith, amount_range r)))
