-- HOW LONG A LAMP GIVES LIGHT: the engine's count of a stretch (specs/Engine/Light.antt) comes to its
-- milliseconds one by one, of any record at all: fades and ramps, up and down, from any place of the
-- movement, with a way, a rate or a length of 0 too.
use Rattle.std.specs.Prelude.{Option, Some, None}
use mathlib.Core.Path.{◌≡◌, refl, sym, ap, subst, ◌∙◌}
use mathlib.Core.Bool.{Bool, true, false, not}
use Prim.Native.Nat.{ℕ, zero, suc, ◌+◌, ◌-◌, ◌*◌, ◌/◌, ◌≤◌, ◌<◌, min, max}
use native.Mathlib.Nat.{zero-add, zero-mul, zero-div, div-zero, mul_comm, le-div_iff_mul-le, div-lt_iff_lt-mul}
use native.Mathlib.Omega.{arith}
use lib.Dec.{ltb, eqb}
use Rattle.lighting_levels.specs.Paper.Choice.{when◌then◌else◌}
use Rattle.lighting_outputs.specs.Paper.Value.{present_value, elapsed, distance_moved, reached_by, reached, progress_by, progress_value, lit, in_process}
use Rattle.lighting_outputs.specs.Paper.Passing.{lit_milliseconds}
use Rattle.lighting_outputs.specs.Engine.Light.{last_short, moment_after, gone_at, count_before, count_since, lit_from_zero, lit_from_light, lit_at, lit_by_pace, lit_moving, lit_in_movement, lit_resting, lit_stretch}
use Rattle.lighting_outputs.specs.declared.Pace.{Pace}
use Rattle.lighting_outputs.specs.declared.Pace.TheVariants.{Fade, Ramp}
use Rattle.lighting_outputs.specs.declared.Movement.{Movement}
use Rattle.lighting_outputs.specs.declared.Activity.{Activity}
use Rattle.lighting_outputs.specs.declared.Activity.TheVariants.{Still, Moving, Warned}
use Rattle.lighting_outputs.specs.declared.Output.{Output}
use Rattle.lighting_levels.proofs.Split.{by_eq, by_lt, by_le, leb_yes, leb_no}
use Rattle.lighting_outputs.proofs.Time.Way.{distance_moved_most}

-- ONE BY ONE: a lamp that gives light up to a moment, its turn, or from it on
abbrev is_before : ℕ → Option ℕ → Bool
is_before t None = true
is_before t (Some moment) = ltb t moment

count_until : (from n : ℕ) (o : Output) (turn : Option ℕ) → ((t : ℕ) → lit t o ≡ is_before t turn) → lit_milliseconds from n o ≡ count_before from n turn
unfolding lit_milliseconds count_before when◌then◌else◌
count_until from zero o None h = refl
count_until from zero o (Some moment) h = omega arith
count_until from (suc n) o None h = rw (h from, count_until (suc from) n o None h) (omega arith)
count_until from (suc n) o (Some moment) h =
    by_lt from moment
    (λ l e. rw (h from, e, count_until (suc from) n o (Some moment) h) (omega arith))
    (λ l e. rw (h from, e, count_until (suc from) n o (Some moment) h) (omega arith))

count_since_lem : (from n : ℕ) (o : Output) (turn : Option ℕ) → ((t : ℕ) → lit t o ≡ not (is_before t turn)) → lit_milliseconds from n o ≡ count_since from n turn
unfolding lit_milliseconds count_since when◌then◌else◌
count_since_lem from zero o None h = refl
count_since_lem from zero o (Some moment) h = omega arith
count_since_lem from (suc n) o None h = rw (h from, count_since_lem (suc from) n o None h) (omega arith)
count_since_lem from (suc n) o (Some moment) h =
    by_lt from moment
    (λ l e. rw (h from, e, count_since_lem (suc from) n o (Some moment) h) (omega arith))
    (λ l e. rw (h from, e, count_since_lem (suc from) n o (Some moment) h) (omega arith))

-- THE LAST k AT WHICH u UNITS ARE NOT YET GONE: up to it they are not, after it they are
still_short : (u s w k : ℕ) → 0 < u → 0 < s → k ≤ last_short u s w → s * k / w < u
unfolding last_short
still_short u s zero k p q h = rw (div-zero (s * k)) p
still_short u s (suc w) k p q h =
    let y : k * s ≤ u * suc w - 1 = (le-div_iff_mul-le {k = s} q).0 h in
    (div-lt_iff_lt-mul {k = suc w} (omega arith)).1 (omega (arith, y, mul_comm k s, positive))
  where
    positive : 1 ≤ u * suc w
    positive = omega arith

gone : (u s w k : ℕ) → 0 < s → 0 < w → last_short u s w < k → u ≤ s * k / w
unfolding last_short
gone u s w k q i h =
    let y : u * w - 1 < k * s = (div-lt_iff_lt-mul {k = s} q).0 h in
    (le-div_iff_mul-le {k = w} i).1 (omega (arith, y, mul_comm k s))

-- THE MOMENT from which on they are gone
gone_at_lem : (u s w t : ℕ) (m : Movement) → 0 < u → (0 < m.length → 0 < w) → is_before t (gone_at u s w m) ≡ ltb (s * elapsed t m / w) u
unfolding gone_at moment_after when◌then◌else◌
gone_at_lem u s w t m p h =
    by_eq s 0
    (λ q e. rw (e, q, zero-mul (elapsed t m), zero-div w) (sym (leb_yes {a = 1} {b = u} p)))
    (λ q e. rw e
    (by_lt (last_short u s w) m.length
    (λ l f. rw f
    (by_lt t (m.over - (m.length - (last_short u s w + 1)))
    (λ y c. c ∙ sym (leb_yes (still_short u s w (elapsed t m) p (omega arith) (omega arith))))
    (λ y c. c ∙ sym (leb_no {a = suc (s * elapsed t m / w)} {b = u} (omega (arith, gone u s w (elapsed t m) (omega arith) (h (omega arith)) (omega arith)))))))
    (λ l f. rw f (sym (leb_yes (still_short u s w (elapsed t m) p (omega arith) (omega arith)))))))

-- HOW A MOVEMENT GOES: as long as fewer than u units of its way d are gone, the share of k says so
record Goes (s w d : ℕ) (m : Movement) : Type 0 where
  short : (k u : ℕ) → u ≤ d → ltb (distance_moved m.pace d m.length k) u ≡ ltb (s * k / w) u
  positive : 0 < m.length → 0 < w

fade_goes : (d : ℕ) (m : Movement) → m.pace ≡ Fade → Goes d m.length d m
unfolding distance_moved
fade_goes d m e = record { short = λ k u h. rw e; positive = λ h. h }

ramp_goes : (r d : ℕ) (m : Movement) → m.pace ≡ Ramp r → Goes r 1000 d m
unfolding distance_moved
ramp_goes r d m e = record { short = short; positive = λ h. omega arith }
  where
    short : (k u : ℕ) → u ≤ d → ltb (distance_moved m.pace d m.length k) u ≡ ltb (r * k / 1000) u
    short k u h = rw e
        (by_lt (r * k / 1000) u
        (λ l f. leb_yes {a = suc (min d (r * k / 1000))} {b = u} (omega arith) ∙ sym f)
        (λ l f. leb_no {a = suc (min d (r * k / 1000))} {b = u} (omega arith) ∙ sym f))

-- so while they are not gone, the moment is still to come
way_short : (s w t d u : ℕ) (m : Movement) → Goes s w d m → 0 < u → u ≤ d
    → ltb (distance_moved m.pace d m.length (elapsed t m)) u ≡ is_before t (gone_at u s w m)
way_short s w t d u m goes p h = goes.short (elapsed t m) u h ∙ sym (gone_at_lem u s w t m p goes.positive)

above_zero : (x : ℕ) → ltb 0 x ≡ not (ltb x 1)
above_zero zero = refl
above_zero (suc x) = leb_yes {a = 1} {b = suc x} (omega arith) ∙ sym (ap not (leb_no {a = suc (suc x)} {b = 1} (omega arith)))

left_over : (v x : ℕ) → ltb 0 (v - x) ≡ ltb x v
left_over v x =
    by_lt x v
    (λ l e. leb_yes {a = 1} {b = v - x} (omega arith) ∙ sym e)
    (λ l e. leb_no {a = 1} {b = v - x} (omega arith) ∙ sym e)

-- A MOVEMENT of an output: from 0 it stands at the way that it has gone, and to 0 at what is left of it
from_zero : (m : Movement) (k : ℕ) → m.start ≡ 0 → reached_by m k ≡ distance_moved m.pace m.target m.length k
unfolding reached_by when◌then◌else◌
from_zero m k z =
    let e : m.target - 0 ≡ m.target = omega arith in
    rw (z, leb_yes {a = 0} {b = m.target} (omega arith), zero-add (distance_moved m.pace (m.target - 0) m.length k), e)

to_zero : (m : Movement) (k : ℕ) → 0 < m.start → m.target ≡ 0 → reached_by m k ≡ m.start - distance_moved m.pace m.start m.length k
unfolding reached_by when◌then◌else◌
to_zero m k h g = let e : m.start - 0 ≡ m.start = omega arith in rw (g, leb_no {a = m.start} {b = 0} h, e)

module _ (o : Output) (m : Movement) (moves : o.activity ≡ Moving m) where
  lit_moving_lem : (t : ℕ) → lit t o ≡ ltb 0 (reached_by m (elapsed t m))
  unfolding lit progress_value progress_by reached
  lit_moving_lem t = rw moves

  -- from 0 to a level above it
  rising : (s w t : ℕ) → Goes s w m.target m → m.start ≡ 0 → 0 < m.target → lit t o ≡ not (is_before t (gone_at 1 s w m))
  rising s w t goes z g =
      lit_moving_lem t
      ∙ ap (ltb 0) (from_zero m (elapsed t m) z)
      ∙ above_zero (distance_moved m.pace m.target m.length (elapsed t m))
      ∙ ap not (way_short s w t m.target 1 m goes (omega arith) g)

  -- from a level above 0 to 0
  falling : (s w t : ℕ) → Goes s w m.start m → 0 < m.start → m.target ≡ 0 → lit t o ≡ is_before t (gone_at m.start s w m)
  falling s w t goes h g =
      lit_moving_lem t
      ∙ ap (ltb 0) (to_zero m (elapsed t m) h g)
      ∙ left_over m.start (distance_moved m.pace m.start m.length (elapsed t m))
      ∙ way_short s w t m.start m.start m goes h (omega arith)

  -- between levels above 0, and from 0 to 0
  always : (t : ℕ) → 0 < m.start → 0 < m.target → lit t o ≡ true
  unfolding reached_by when◌then◌else◌
  always t h g =
      lit_moving_lem t
      ∙ by_le m.start m.target
      (λ l e. rw e (leb_yes {a = 1} {b = m.start + distance_moved m.pace (m.target - m.start) m.length (elapsed t m)} (omega arith)))
      (λ l e. rw e
      (leb_yes {a = 1} {b = m.start - distance_moved m.pace (m.start - m.target) m.length (elapsed t m)}
      (omega (arith, distance_moved_most m.pace (m.start - m.target) m.length (elapsed t m) (omega arith)))))

  never : (t : ℕ) → m.start ≡ 0 → m.target ≡ 0 → lit t o ≡ false
  never t z g =
      lit_moving_lem t
      ∙ ap (ltb 0) (from_zero m (elapsed t m) z)
      ∙ leb_no
      {a = 1}
      {b = distance_moved m.pace m.target m.length (elapsed t m)}
      (omega (arith, distance_moved_most m.pace m.target m.length (elapsed t m) (omega arith)))

  -- whatever its pace, from 0, to 0 or neither
  counted_at : (s w from n : ℕ) → Goes s w (max m.start m.target) m → lit_at s w from n m ≡ lit_milliseconds from n o
  unfolding lit_at lit_from_zero lit_from_light count_before count_since when◌then◌else◌
  counted_at s w from n goes =
      by_eq m.start 0
      (λ z e. rw e
      (by_eq m.target 0
      (λ g f. rw f (sym (count_since_lem from n o None (λ t. never t z g))))
      (λ g f. rw f (sym (count_since_lem from n o (gone_at 1 s w m) (λ t. rising s w t (way m.target (omega arith)) z (omega arith)))))))
      (λ h e. rw e
      (by_eq m.target 0
      (λ g f. rw f (sym (count_until from n o (gone_at m.start s w m) (λ t. falling s w t (way m.start (omega arith)) (omega arith) g))))
      (λ g f. rw f (sym (count_until from n o None (λ t. always t (omega arith) (omega arith)))))))
    where
      way : (d : ℕ) → max m.start m.target ≡ d → Goes s w d m
      way d e = subst (λ (x : ℕ). Goes s w x m) e goes

  counted_moving : (from n : ℕ) → lit_moving from n m ≡ lit_milliseconds from n o
  unfolding lit_moving
  counted_moving from n = go m.pace refl
    where
      go : (pace : Pace) → m.pace ≡ pace → lit_by_pace from n m pace ≡ lit_milliseconds from n o
      go Fade e = unfold lit_by_pace in (counted_at (max m.start m.target) m.length from n (fade_goes (max m.start m.target) m e))
      go (Ramp r) e = unfold lit_by_pace in (counted_at r 1000 from n (ramp_goes r (max m.start m.target) m e))

-- AN OUTPUT AT REST, or in a warning
lit_resting_lem : (t v : ℕ) (o : Output) → progress_value t o ≡ v → lit t o ≡ ltb 0 v
unfolding lit
lit_resting_lem t v o e = ap (ltb 0) e

counted_resting : (from n v : ℕ) (o : Output) → ((t : ℕ) → progress_value t o ≡ v) → lit_resting n v ≡ lit_milliseconds from n o
unfolding lit_resting count_before count_since when◌then◌else◌
counted_resting from n v o h =
    by_lt 0 v
    (λ l e. rw e (sym (count_until from n o None (λ t. lit_resting_lem t v o (h t) ∙ e))))
    (λ l e. rw e (sym (count_since_lem from n o None (λ t. lit_resting_lem t v o (h t) ∙ e))))

-- THE COUNT IS THE MILLISECONDS ONE BY ONE
pub counted : (from n : ℕ) (o : Output) → lit_stretch from n o ≡ lit_milliseconds from n o
unfolding lit_stretch
counted from n o = go o.activity refl
  where
    go : (a : Activity) → o.activity ≡ a
        → (when eqb (in_process a) 1 then lit_in_movement from n a else lit_resting n (present_value o.settings o.slots)) ≡ lit_milliseconds from n o
    go Still e = unfold in_process when◌then◌else◌ in (counted_resting from n _ o (λ t. unfold progress_value progress_by in (rw e)))
    go (Moving m) e = unfold in_process lit_in_movement when◌then◌else◌ in (counted_moving o m e from n)
    go (Warned w) e = unfold in_process when◌then◌else◌ in (counted_resting from n _ o (λ t. unfold progress_value progress_by in (rw e)))
