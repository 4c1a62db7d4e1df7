-- A WARNING'S WHOLE COURSE, for all B, D, X and Y: what Present_Value and slots 6 and X are at every moment
-- from its start on, if no frame comes and no duration falls due.
use Rattle.std.specs.Prelude.{Option, Some, None}
use mathlib.Core.Path.{◌≡◌, refl, sym, ap, subst, ◌∙◌}
use mathlib.Core.Logic.{◌≢◌}
use mathlib.Core.Bool.{true, false, true≢false}
use mathlib.Core.List.{List, [], ◌∷◌}
use Prim.Native.Nat.{ℕ, zero, suc, ◌+◌, ◌-◌, ◌≤◌, ◌<◌}
use native.Mathlib.Omega.{arith}
use lib.ListN.{get_or, length}
use Rattle.lighting_outputs.specs.Paper.Parameters.{Parameters}
use Rattle.lighting_levels.specs.Paper.Choice.{when◌then◌else◌}
use Rattle.lighting_outputs.specs.Paper.Slots.{slot_count, slot6, Slots, slot, slots_of, winning_level, first_live, winner, is_live, put, emptied, filled}
use Rattle.lighting_outputs.specs.Paper.Value.{clamp_lit, present_value}
use Rattle.lighting_outputs.specs.Paper.Record.{with_burning, with_relay, with_effect}
use Rattle.lighting_outputs.specs.Paper.Passing.{with_burned, phase_end, activity_due, is_due, delayed, next_phase, next_activity, activity_at, phase_slots, next_slots, slots_at, after_events, fire, ticks}
use Rattle.lighting_outputs.specs.Paper.Writing.{zero_or_empty, zero_or_empty_from, blinks, zero_or_empty_above, warns_by, warns, first_level, first_phase, warning_from, warned_by, warned, written_zero, written_calm, written_by, written}
use Rattle.lighting_outputs.specs.declared.Settings.{Settings}
use Rattle.lighting_outputs.specs.declared.Phase.{Phase}
use Rattle.lighting_outputs.specs.declared.Phase.TheVariants.{Blink, Delay}
use Rattle.lighting_outputs.specs.declared.Activity.{Activity}
use Rattle.lighting_outputs.specs.declared.Activity.TheVariants.{Still, Moving, Warned}
use Rattle.lighting_outputs.specs.declared.Timer.{Timer}
use Rattle.lighting_outputs.specs.declared.Relay.{Relay}
use Rattle.lighting_outputs.specs.declared.Output.{Output}
use Rattle.lighting_levels.proofs.Split.{also_yes, also_both, by_bool, by_eq, by_lt, eqb_hit, leb_yes, leb_no, le_of, eq_of}
use Rattle.lighting_levels.proofs.Scan.{all_each, each_all}
use Rattle.lighting_outputs.proofs.Time.Passing.{TimerAfter, After, both_after, timer_earlier, timer_quiet, expired_quiet, end_movement_on_expiry_quiet, ticks_add}
use Rattle.lighting_outputs.proofs.Time.Unjudged.{quiet_but_relay, step_but_relay}
use Rattle.lighting_outputs.proofs.Priorities.Mask.{alive, slots_size, slot_is, is_live_slot}
use Rattle.lighting_outputs.proofs.Rules.Facts.{Acts, Sound}
use Rattle.lighting_outputs.proofs.Acts.Shown.{clamp_lit_clamp_lit}
use Rattle.lighting_outputs.proofs.Priorities.Winner.{winning_level_view, put_sized, dead_before}
use Rattle.lighting_outputs.proofs.Priorities.Winner as Winning
use Rattle.lighting_outputs.proofs.Consequences.Present.{no_slot, slot_same, slot_other, present_at}

-- 'zero or empty'
abbrev pub Unlit : Option ℕ → Type 0
Unlit None = Unit {0}
Unlit (Some v) = v ≡ 0

first_zero_or_empty : (l : List (Option ℕ)) → ((i : ℕ) → i < length l → Unlit (get_or l i None)) → Winning.first_level 0 l ≡ 0
unfolding Winning.first_level
first_zero_or_empty [] k = refl
first_zero_or_empty (None ∷ l) k = first_zero_or_empty l (λ i m. k (suc i) (omega arith))
first_zero_or_empty (Some v ∷ l) k = k 0 (omega arith)

-- THE PAPER'S CONDITIONS on the slots s, with Present_Value y, for a zero at slot x; slots are counted from 0
pub record Starts (c : Settings) (s : Slots) (x : ℕ) : Type 0 where
  pub own : 6 ≤ x
  pub enabled : c.enable ≡ true
  pub lasts : 0 < c.blink + c.delay
  pub below : (i : ℕ) → i < x → slot s i ≡ None
  pub lit : 0 < present_value c s
  pub default : c.default ≡ 0
  pub above : (i : ℕ) → x < i → i < slot_count → Unlit (slot s i)

-- slots that are s but for slot 6 and slot x
pub record State (s : Slots) (x : ℕ) (a b : Option ℕ) (z : Slots) : Type 0 where
  pub size : length z.levels ≡ slot_count
  pub six : slot z slot6 ≡ a
  pub own : slot z x ≡ b
  pub rest : (i : ℕ) → i ≢ slot6 → i ≢ x → slot z i ≡ slot s i

put_six : {s z : Slots} {x : ℕ} {a b : Option ℕ} (w : Option ℕ) → x ≢ slot6 → State s x a b z → State s x w b (put z slot6 w)
put_six {z = z} {x = x} w n h =
    record {
      size = put_sized z h.size slot6 w;
      six = slot_same z h.size slot6 w (omega arith);
      own = slot_other z h.size slot6 x w (omega arith) (λ e. n (sym e)) ∙ h.own;
      rest = λ i z' q. slot_other z h.size slot6 i w (omega arith) (λ e. z' (sym e)) ∙ h.rest i z' q;
    }

put_own : {s z : Slots} {x : ℕ} {a b : Option ℕ} (w : Option ℕ) → x < slot_count → x ≢ slot6 → State s x a b z → State s x a w (put z x w)
put_own {z = z} {x = x} w k n h =
    record {
      size = put_sized z h.size x w;
      six = slot_other z h.size x slot6 w k n ∙ h.six;
      own = slot_same z h.size x w k;
      rest = λ i z' q. slot_other z h.size x i w k (λ e. q (sym e)) ∙ h.rest i z' q;
    }

module _ (c : Settings) (s : Slots) (x : ℕ) (starts : Starts c s x) where
  -- while slot 6 is live it is the winner
  present_six : {w : ℕ} {b : Option ℕ} (z : Slots) → State s x (Some w) b z → present_value c z ≡ clamp_lit c w
  present_six {w} z h =
      present_at z h.size c slot6 w h.six
      (λ i m. h.rest i (λ e. omega arith) (λ e. omega (arith, starts.own)) ∙ starts.below i (omega (arith, starts.own)))

  -- when it is empty, and slot x is zero or empty, nothing is lit
  present_over : {b : Option ℕ} (z : Slots) → Unlit b → State s x None b z → present_value c z ≡ 0
  unfolding present_value
  present_over {b} z u h =
      rw (winning_level_view c.default z h.size, starts.default, first_zero_or_empty (slots_of z) unlit) (unfold clamp_lit when◌then◌else◌ in refl)
    where
      unlit : (i : ℕ) → i < length (slots_of z) → Unlit (get_or (slots_of z) i None)
      unlit i m =
          by_eq i slot6
          (λ e t. rw (e, h.six) tt)
          (λ e t. by_eq i x
          (λ e' t'. rw (e', h.own) u)
          (λ e' t'. rw (h.rest i e e')
          (by_lt i x (λ l r. rw (starts.below i l) tt) (λ l r. starts.above i (omega arith) (omega (arith, slots_size z, h.size))))))

-- WHAT IS SEEN at a moment: slot 6 is a, slot x is b, Present_Value is v; all other slots and the settings
-- are those of the start
pub record Seen (c : Settings) (s : Slots) (x : ℕ) (a b : Option ℕ) (v : ℕ) (o : Output) : Type 0 where
  pub settings : o.settings ≡ c
  pub slots : State s x a b o.slots
  pub present : present_value o.settings o.slots ≡ v

-- nothing falls due
module _ {c : Settings} {s : Slots} {x v : ℕ} {a b : Option ℕ} (n t : ℕ) (o : Output) where
  waits : After (t + n) o → Seen c s x a b v o → Seen c s x a b v (ticks n t o)
  unfolding with_burned with_burning
  waits k h = rw (quiet_but_relay n t o k) (record { settings = h.settings; slots = h.slots; present = h.present })

-- a warning of slot x in the phase p, with the old level y, the turn u and the end v
abbrev warning_in : Phase → ℕ → ℕ → ℕ → ℕ → Activity
warning_in z' x y u v = Warned (record { phase = z'; owner = x; level = y; turn = u; over = v })

-- the turn of a warning, and its end
record Became (o o' : Output) (z : Slots) (a : Activity) : Type 0 where
  settings : o'.settings ≡ o.settings
  slots : o'.slots ≡ z
  activity : o'.activity ≡ a
  timer : o'.timer ≡ o.timer

turns : (d x y v : ℕ) (o : Output) → o.activity ≡ warning_in Blink x y d v → TimerAfter d o.timer → d < v
    → Became o (fire d o) (filled o.slots slot6 y) (warning_in Delay x y d v)
unfolding fire after_events is_due phase_end activity_due delayed next_phase next_activity activity_at phase_slots next_slots slots_at when◌then◌else◌
turns d x y v o e a l =
    rw (end_movement_on_expiry_quiet d o.timer o.activity a, expired_quiet d o.timer o.slots a, timer_quiet d o.timer a, e, eqb_hit {a = d} {b = d} refl, leb_yes {a = suc d} {b = v} l)
    (record { settings = refl; slots = refl; activity = refl; timer = refl })

turns_off : (d x y v : ℕ) (o : Output) → o.activity ≡ warning_in Blink x y d v → TimerAfter d o.timer → v ≤ d
    → Became o (fire d o) (emptied o.slots slot6) Still
unfolding fire after_events is_due phase_end activity_due delayed next_phase next_activity activity_at phase_slots next_slots slots_at when◌then◌else◌
turns_off d x y v o e a l =
    rw (end_movement_on_expiry_quiet d o.timer o.activity a, expired_quiet d o.timer o.slots a, timer_quiet d o.timer a, e, eqb_hit {a = d} {b = d} refl, leb_no {a = suc d} {b = v} (omega arith))
    (record { settings = refl; slots = refl; activity = refl; timer = refl })

ends : (d x y u : ℕ) (o : Output) → o.activity ≡ warning_in Delay x y u d → TimerAfter d o.timer
    → Became o (fire d o) (emptied (emptied o.slots slot6) x) Still
unfolding fire after_events is_due phase_end activity_due delayed next_phase next_activity activity_at phase_slots next_slots slots_at when◌then◌else◌
ends d x y u o e a =
    rw (end_movement_on_expiry_quiet d o.timer o.activity a, expired_quiet d o.timer o.slots a, timer_quiet d o.timer a, e, eqb_hit {a = d} {b = d} refl)
    (record { settings = refl; slots = refl; activity = refl; timer = refl })

-- an output to which nothing but burning happened before d: what it is at d, and n milliseconds later
at_last : (t d : ℕ) (o : Output) (z : Slots) (w : Activity) → 0 < d → After (t + (d - 1)) o
    → ((r : Relay) → Became (with_relay (with_burned t d o) r) (fire (t + d) (with_relay (with_burned t d o) r)) z w) → Became o (ticks d t o) z w
at_last t zero o z w l a b = absurd (omega arith)
at_last t (suc d) o z w l a b =
    let e : t + suc d ≡ suc (t + d) = omega arith in
    let q : After (t + d) o = subst (λ (k : ℕ). After (t + k) o) (let r : suc d - 1 ≡ d = omega arith in r) a in
    let r = (ticks d t o).relay in
    rw
    (step_but_relay d t o q, ← e)
    (record { settings = unfold with_burned with_burning in (b r).settings; slots = (b r).slots; activity = (b r).activity; timer = unfold with_burned with_burning in (b r).timer })

-- THE PHASES
module _ (c : Settings) (s : Slots) (x y : ℕ) (starts : Starts c s x) (inside : x < slot_count) (same : clamp_lit c y ≡ y) where
  distance_six : x ≢ slot6
  distance_six e = omega (arith, starts.own)

  -- what is seen of slots in a known state
  seen_lit : {w : ℕ} {b : Option ℕ} (v : ℕ) (o : Output) → clamp_lit c w ≡ v → o.settings ≡ c → State s x (Some w) b o.slots → Seen c s x (Some w) b v o
  seen_lit v o e z' h = record { settings = z'; slots = h; present = rw z' (present_six c s x starts o.slots h ∙ e) }

  seen_over : {b : Option ℕ} (o : Output) → Unlit b → o.settings ≡ c → State s x None b o.slots → Seen c s x None b 0 o
  seen_over o u z' h = record { settings = z'; slots = h; present = rw z' (present_over c s x starts o.slots u h) }

  later : {a b : Option ℕ} {v : ℕ} (n d t : ℕ) (o : Output) → d ≤ n → Seen c s x a b v (ticks (n - d) (t + d) (ticks d t o)) → Seen c s x a b v (ticks n t o)
  later {a} {b} {v} n d t o l h =
      subst (λ (k : ℕ). Seen c s x a b v (ticks k t o)) (let e : d + (n - d) ≡ n = omega arith in e) (rw (ticks_add d (n - d) t o) h)

  timer_at_lem : {n : ℕ} (k : ℕ) (m m' : Option Timer) → m' ≡ m → k ≤ n → TimerAfter n m → TimerAfter k m'
  timer_at_lem k m m' e l a = rw e (timer_earlier m l a)

  module _ (t : ℕ) (o : Output) where
    -- the second: slot 6 holds Y for D ms, then both slots are empty
    delaying : (n d u : ℕ) → o.activity ≡ warning_in Delay x y u (t + d) → Seen c s x (Some y) (Some 0) y o → TimerAfter (t + n) o.timer → n < d
        → Seen c s x (Some y) (Some 0) y (ticks n t o)
    delaying n d u e h a l = waits n t o (both_after (t + n) o a (rw e (unfold activity_due phase_end in (omega arith)))) h

    ended : (n d u : ℕ) → 0 < d → o.activity ≡ warning_in Delay x y u (t + d) → Seen c s x (Some y) (Some 0) y o → TimerAfter (t + n) o.timer → d ≤ n
        → Seen c s x None None 0 (ticks n t o)
    unfolding with_burned with_burning
    ended n d u z' e h a l =
        let q : After (t + (d - 1)) o = both_after (t + (d - 1)) o (timer_earlier o.timer (omega arith) a) (rw e (unfold activity_due phase_end in (omega arith))) in
        let r = at_last t d o (emptied (emptied o.slots slot6) x) Still z' q
        (λ r. ends (t + d) x y u (with_relay (with_burned t d o) r) e (timer_earlier o.timer (omega arith) a)) in
        later n d t o l
        (waits (n - d) (t + d) (ticks d t o)
        (both_after (t + d + (n - d)) (ticks d t o) (timer_at_lem (t + d + (n - d)) o.timer (ticks d t o).timer r.timer (omega arith) a) (rw r.activity (unfold activity_due in tt)))
        (seen_over (ticks d t o) tt (r.settings ∙ h.settings) (rw r.slots (put_own None inside distance_six (put_six None distance_six h.slots)))))

    -- the first: slot 6 holds 0 for B ms, then comes the second, or without D the end, at which slot x keeps
    -- its 0
    module _ (b d : ℕ) (z' : 0 < b) (e : o.activity ≡ warning_in Blink x y (t + b) (t + b + d)) (h : Seen c s x (Some 0) (Some 0) 0 o) where
      blinking : (n : ℕ) → TimerAfter (t + n) o.timer → n < b → Seen c s x (Some 0) (Some 0) 0 (ticks n t o)
      blinking n a l = waits n t o (both_after (t + n) o a (rw e (unfold activity_due phase_end in (omega arith)))) h

      before_turn : (n : ℕ) → TimerAfter (t + n) o.timer → b ≤ n → After (t + (b - 1)) o
      before_turn n a l = both_after (t + (b - 1)) o (timer_earlier o.timer (omega arith) a) (rw e (unfold activity_due phase_end in (omega arith)))

      turned : (n : ℕ) → TimerAfter (t + n) o.timer → b ≤ n → 0 < d → Became o (ticks b t o) (filled o.slots slot6 y) (warning_in Delay x y (t + b) (t + b + d))
      unfolding with_burned with_burning
      turned n a l q =
          at_last t b o (filled o.slots slot6 y) (warning_in Delay x y (t + b) (t + b + d)) z' (before_turn n a l)
          (λ r. turns (t + b) x y (t + b + d) (with_relay (with_burned t b o) r) e (timer_earlier o.timer (omega arith) a) (omega arith))

      turned_off : (n : ℕ) → TimerAfter (t + n) o.timer → b ≤ n → d ≡ 0 → Became o (ticks b t o) (emptied o.slots slot6) Still
      unfolding with_burned with_burning
      turned_off n a l q =
          at_last t b o (emptied o.slots slot6) Still z' (before_turn n a l)
          (λ r. turns_off (t + b) x y (t + b + d) (with_relay (with_burned t b o) r) e (timer_earlier o.timer (omega arith) a) (omega arith))

      put_out : (n : ℕ) → TimerAfter (t + n) o.timer → b ≤ n → d ≡ 0 → Seen c s x None (Some 0) 0 (ticks n t o)
      put_out n a l q =
          let r = turned_off n a l q in
          later n b t o l
          (waits (n - b) (t + b) (ticks b t o)
          (both_after (t + b + (n - b)) (ticks b t o) (timer_at_lem (t + b + (n - b)) o.timer (ticks b t o).timer r.timer (omega arith) a) (rw r.activity (unfold activity_due in tt)))
          (seen_over (ticks b t o) refl (r.settings ∙ h.settings) (rw r.slots (put_six None distance_six h.slots))))

-- WHEN A WARNING STARTS: exactly under the paper's conditions
zero_or_empty_slot : (s : Slots) (i : ℕ) → length s.levels ≡ slot_count → i < slot_count → Unlit (slot s i) → zero_or_empty s i ≡ true
unfolding zero_or_empty when◌then◌else◌
zero_or_empty_slot s i z k h =
    by_bool (is_live s i)
    (λ e. rw e (eqb_hit {a = get_or s.levels i 0} {b = 0} (go (get_or s.levels i 0) (slot_is s i (omega arith) ∙ rw e))))
    (λ e. rw e)
  where
    go : (v : ℕ) → slot s i ≡ Some v → v ≡ 0
    go v e = rw e at h

slot_zero_or_empty : (s : Slots) (i : ℕ) → length s.levels ≡ slot_count → i < slot_count → zero_or_empty s i ≡ true → Unlit (slot s i)
unfolding zero_or_empty when◌then◌else◌
slot_zero_or_empty s i z k h =
    rw (slot_is s i (omega arith))
    (by_bool (is_live s i) (λ e. rw e (eq_of (rw e at h))) (λ e. rw e tt))

pub dead_slot : (s : Slots) (i : ℕ) → length s.levels ≡ slot_count → i < slot_count → is_live s i ≡ false → slot s i ≡ None
unfolding when◌then◌else◌
dead_slot s i z k e = slot_is s i (omega arith) ∙ rw e

first_from : (l : List (Option ℕ)) (x : ℕ) → x ≤ length l → ((i : ℕ) → i < x → get_or l i None ≡ None) → x ≤ first_live l
unfolding first_live
first_from l zero h k = omega arith
first_from [] (suc x) h k = absurd (omega arith)
first_from (None ∷ l) (suc x) h k = omega (arith, first_from l x (omega arith) (λ i m. k (suc i) (omega arith)))
first_from (Some v ∷ l) (suc x) h k = no_slot (sym (k 0 (omega arith)))

module _ (c : Settings) (s : Slots) (x : ℕ) (size : length s.levels ≡ slot_count) (inside : x < slot_count) where
  pub starts_warns : Starts c s x → warns c s x ≡ true
  unfolding warns warns_by blinks zero_or_empty_above zero_or_empty_from winner
  starts_warns h =
      also_yes (leb_yes {a = 6} {b = x} h.own)
      (also_yes (also_yes h.enabled (leb_yes {a = 1} {b = c.blink + c.delay} h.lasts))
      (also_yes (leb_yes (first_from (slots_of s) x (omega (arith, slots_size s)) h.below))
      (also_yes (leb_yes {a = 1} {b = present_value c s} h.lit)
      (also_yes (eqb_hit {a = c.default} {b = 0} h.default)
      (each_all (zero_or_empty s) (slot_count - (x + 1)) (x + 1) (λ j z' q. zero_or_empty_slot s j size (omega arith) (h.above j (omega arith) (omega arith))))))))

  pub warns_starts : warns c s x ≡ true → Starts c s x
  unfolding warns warns_by blinks zero_or_empty_above zero_or_empty_from
  warns_starts h =
      let a = also_both h in
      let b = also_both a.1 in
      let d = also_both b.0 in
      let e = also_both b.1 in
      let f = also_both e.1 in
      let g = also_both f.1 in
      let w : x ≤ winner s = le_of e.0 in
      record {
        own = le_of a.0;
        enabled = d.0;
        lasts = le_of d.1;
        below = λ i m. dead_slot s i size (omega arith) (dead_before s size i (omega arith));
        lit = le_of f.0;
        default = eq_of g.0;
        above = λ i l m. slot_zero_or_empty s i size m (all_each (zero_or_empty s) (slot_count - (x + 1)) (x + 1) i g.1 (omega arith) (omega arith));
      }

-- THE COURSE: B ms dark, D ms at the old level Y, then dark; slot x empties with slot 6 if D is above 0, else
-- keeps its 0
pub record Course (c : Settings) (s : Slots) (x y t : ℕ) (o : Output) : Type 0 where
  pub dark : (n : ℕ) → TimerAfter (t + n) o.timer → n < c.blink → Seen c s x (Some 0) (Some 0) 0 (ticks n t o)
  pub lit : (n : ℕ) → TimerAfter (t + n) o.timer → c.blink ≤ n → n < c.blink + c.delay → Seen c s x (Some y) (Some 0) y (ticks n t o)
  pub over : (n : ℕ) → TimerAfter (t + n) o.timer → c.blink + c.delay ≤ n → 0 < c.delay → Seen c s x None None 0 (ticks n t o)
  pub over_without_delay : (n : ℕ) → TimerAfter (t + n) o.timer → c.blink ≤ n → c.delay ≡ 0 → Seen c s x None (Some 0) 0 (ticks n t o)

-- a warning's start
begun : (c : Settings) (s : Slots) (x : ℕ) → length s.levels ≡ slot_count → x < slot_count → x ≢ slot6 → (w : ℕ)
    → State s x (Some w) (Some 0) (filled (filled s x 0) slot6 w)
begun c s x z k n w =
    record {
      size = put_sized (filled s x 0) (put_sized s z x (Some 0)) slot6 (Some w);
      six = slot_same (filled s x 0) (put_sized s z x (Some 0)) slot6 (Some w) (omega arith);
      own = slot_other (filled s x 0) (put_sized s z x (Some 0)) slot6 x (Some w) (omega arith) (λ e. n (sym e)) ∙ slot_same s z x (Some 0) k;
      rest = λ i z' q.
          slot_other (filled s x 0) (put_sized s z x (Some 0)) slot6 i (Some w) (omega arith) (λ e. z' (sym e)) ∙ slot_other s z x i (Some 0) k (λ e. q (sym e));
    }

module _ (c : Settings) (s : Slots) (x y : ℕ) (starts : Starts c s x) (inside : x < slot_count) (same : clamp_lit c y ≡ y) (t : ℕ) (o : Output) where
  from_blink : 0 < c.blink → o.activity ≡ warning_in Blink x y (t + c.blink) (t + c.blink + c.delay) → Seen c s x (Some 0) (Some 0) 0 o → Course c s x y t o
  from_blink z' e h =
      record {
        dark = λ n a l. blinking c s x y starts inside same t o c.blink c.delay z' e h n a l;
        lit = λ n a l m. let q : 0 < c.delay = omega arith in
            let r = turned c s x y starts inside same t o c.blink c.delay z' e h n a l q in
            later c s x y starts inside same n c.blink t o l
            (delaying c s x y starts inside same (t + c.blink) (ticks c.blink t o) (n - c.blink) c.delay (t + c.blink) r.activity (bright r)
            (timer_at_lem c s x y starts inside same (t + c.blink + (n - c.blink)) o.timer (ticks c.blink t o).timer r.timer (omega arith) a)
            (omega arith));
        over = λ n a l q. let b : c.blink ≤ n = omega arith in
            let r = turned c s x y starts inside same t o c.blink c.delay z' e h n a b q in
            later c s x y starts inside same n c.blink t o b
            (ended c s x y starts inside same (t + c.blink) (ticks c.blink t o) (n - c.blink) c.delay (t + c.blink) q r.activity (bright r)
            (timer_at_lem c s x y starts inside same (t + c.blink + (n - c.blink)) o.timer (ticks c.blink t o).timer r.timer (omega arith) a)
            (omega arith));
        over_without_delay = λ n a l q. put_out c s x y starts inside same t o c.blink c.delay z' e h n a l q;
      }
    where
      bright : Became o (ticks c.blink t o) (filled o.slots slot6 y) (warning_in Delay x y (t + c.blink) (t + c.blink + c.delay)) → Seen c s x (Some y) (Some 0) y (ticks c.blink t o)
      bright r =
          seen_lit c s x y starts inside same y (ticks c.blink t o) same (r.settings ∙ h.settings)
          (rw r.slots (put_six (Some y) (distance_six c s x y starts inside same) h.slots))

  -- with B = 0 the second phase comes at once
  from_delay : c.blink ≡ 0 → o.activity ≡ warning_in Delay x y (t + c.blink) (t + c.blink + c.delay) → Seen c s x (Some y) (Some 0) y o → Course c s x y t o
  from_delay z e h =
      let z' : 0 < c.delay = omega (arith, starts.lasts) in
      let f : o.activity ≡ warning_in Delay x y (t + c.blink) (t + c.delay) = e ∙ ap (λ (v : ℕ). warning_in Delay x y (t + c.blink) v) (omega arith) in
      record {
        dark = λ n a l. absurd (omega arith);
        lit = λ n a l m. delaying c s x y starts inside same t o n c.delay (t + c.blink) f h a (omega arith);
        over = λ n a l q. ended c s x y starts inside same t o n c.delay (t + c.blink) z' f h a (omega arith);
        over_without_delay = λ n a l q. absurd (omega arith);
      }

-- KIND 02 without a warning running
pub calm_by : (p : Parameters) (t : ℕ) (o : Output) (i v : ℕ) (a : Activity) → Acts p t o.settings o.slots a → is_live o.slots slot6 ≡ false
    → written_by t o i v a ≡ written_calm t o i v
unfolding written_by
calm_by p t o i v Still h e = refl
calm_by p t o i v (Moving m) h e = refl
calm_by p t o i v (Warned w) h e = absurd (true≢false (sym h.six ∙ e))

-- KIND 02 OF ZERO at slot x, the paper's conditions met: none is running, for slot 6 is among the slots below
-- x
pub warning : (p : Parameters) (t : ℕ) (o : Output) (x : ℕ) → Sound p t o → x < slot_count → Starts o.settings o.slots x
    → Course o.settings o.slots x (present_value o.settings o.slots) t (written t o x 0)
unfolding written written_calm written_zero warned warned_by with_effect warning_from first_level first_phase when◌then◌else◌
warning p t o x h inside starts =
    let c = o.settings in
    let s = o.slots in
    let y = present_value c s in
    let z = h.slots.size in
    let n : x ≢ slot6 = λ e. omega (arith, starts.own) in
    let same : clamp_lit c y ≡ y = unfold present_value in (clamp_lit_clamp_lit p c (winning_level c.default s) h.settings) in
    rw
    (calm_by p t o x 0 o.activity h.activity (is_live_slot s slot6 (omega arith) ∙ ap alive (starts.below slot6 (omega (arith, starts.own)))), starts_warns c s x z inside starts)
    (by_eq c.blink 0
    (λ z' e. rw e
    (from_delay c s x y starts inside same t _ z' refl (seen_lit c s x y starts inside same y _ same refl (begun c s x z inside n y))))
    (λ z' e. rw e
    (from_blink c s x y starts inside same t _ (omega arith) refl (seen_lit c s x y starts inside same 0 _ zero_or_empty_zero refl (begun c s x z inside n 0)))))
  where
    zero_or_empty_zero : clamp_lit o.settings 0 ≡ 0
    zero_or_empty_zero = unfold clamp_lit when◌then◌else◌ in refl
