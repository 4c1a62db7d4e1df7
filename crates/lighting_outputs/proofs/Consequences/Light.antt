-- HOW LONG A MOVEMENT BURNS (§2 of the change requests), from its beginning on, if no frame comes and no
-- duration falls due: a rise from 0 all but the ceiling of what its first unit takes, every other one its
-- whole length. What this asks of a rise is reckoned by hand: d + 1 is that ceiling.
use mathlib.Core.Path.{◌≡◌, refl, sym, ap, ◌∙◌}
use Prim.Native.Nat.{ℕ, zero, suc, ◌+◌, ◌-◌, ◌*◌, ◌≤◌, ◌<◌, max}
use native.Mathlib.Nat.{mul_comm, mul-le-mul_left, div-eq_of_lt-le, le-div_iff_mul-le}
use native.Mathlib.Omega.{arith}
use Rattle.lighting_outputs.specs.Paper.Parameters.{Parameters}
use Rattle.lighting_levels.specs.Paper.Choice.{when◌then◌else◌}
use Rattle.lighting_outputs.specs.Paper.Value.{in_process}
use Rattle.lighting_outputs.specs.Paper.Record.{with_burning}
use Rattle.lighting_outputs.specs.Paper.Passing.{lit_milliseconds, with_burned, after_events, fire, ticks}
use Rattle.lighting_outputs.specs.Engine.Light.{last_short, moment_after, gone_at, count_before, count_since, lit_from_zero, lit_from_light, lit_at, lit_by_pace, lit_moving, lit_in_movement, lit_stretch}
use Rattle.lighting_outputs.specs.declared.Pace.{Pace}
use Rattle.lighting_outputs.specs.declared.Pace.TheVariants.{Fade, Ramp}
use Rattle.lighting_outputs.specs.declared.Movement.{Movement}
use Rattle.lighting_outputs.specs.declared.Activity.TheVariants.{Moving}
use Rattle.lighting_outputs.specs.declared.Output.{Output}
use Rattle.lighting_levels.proofs.Split.{by_eq, by_lt, eqb_hit, eqb_miss}
use Rattle.lighting_outputs.proofs.Time.Light.{counted}
use Rattle.lighting_outputs.proofs.Time.Passing.{TimerAfter, timer_earlier}
use Rattle.lighting_outputs.proofs.Time.Unjudged.{step_but_relay}
use Rattle.lighting_outputs.proofs.Consequences.Movements.{moving_after}

-- the ceiling d + 1 of w / s, by hand
ceiling : (s w d : ℕ) → s * d < w → w ≤ s * suc d → last_short 1 s w ≡ d
unfolding last_short
ceiling s w d h c = div-eq_of_lt-le {k = d} s {m = 1 * w - 1} (omega (arith, mul_comm d s)) (omega (arith, mul_comm (d + 1) s))

module _ (p : Parameters) (t : ℕ) (o : Output) (m : Movement) (moves : o.activity ≡ Moving m) (begun : m.over ≡ t + m.length) where
  gained : (n : ℕ) → lit_milliseconds t n o ≡ lit_moving t n m
  unfolding lit_stretch lit_in_movement in_process when◌then◌else◌
  gained n = sym (counted t n o) ∙ rw moves

  -- k milliseconds of the plain panel
  burned : (n k : ℕ) → k ≤ m.length → TimerAfter (t + k) o.timer → lit_moving t k m ≡ n → (ticks k t o).burning ≡ o.burning + n
  unfolding ticks with_burned with_burning fire after_events lit_milliseconds
  burned n zero h a e = let y : 0 ≡ n = gained 0 ∙ e in omega arith
  burned n (suc k) h a e =
      rw
      (step_but_relay k t o (moving_after p t o m moves begun k (omega arith) (timer_earlier o.timer (omega arith) a)))
      (ap (λ (x : ℕ). o.burning + x) (gained (suc k) ∙ e))

  by_fade : (k : ℕ) → m.pace ≡ Fade → lit_moving t k m ≡ lit_at (max m.start m.target) m.length t k m
  unfolding lit_moving lit_by_pace
  by_fade k q = ap (λ (pace : Pace). lit_by_pace t k m pace) q

  by_ramp : (r k : ℕ) → m.pace ≡ Ramp r → lit_moving t k m ≡ lit_at r 1000 t k m
  unfolding lit_moving lit_by_pace
  by_ramp r k q = ap (λ (pace : Pace). lit_by_pace t k m pace) q

  -- A RISE FROM 0, by s units in w milliseconds: its way in its length, or its rate in a second
  rise_at : (s w d k : ℕ) → m.start ≡ 0 → 0 < m.target → k ≤ m.length → s * d < w → w ≤ s * suc d → lit_at s w t k m ≡ k - suc d
  unfolding lit_at lit_from_zero gone_at moment_after count_since when◌then◌else◌
  rise_at s w d k z g l h c =
      rw
      (eqb_hit {a = m.start} {b = 0} z, eqb_miss {a = m.target} {b = 0} (omega arith), eqb_miss {a = s} {b = 0} positive, ceiling s w d h c)
      (by_lt d m.length (λ x e. rw e (omega arith)) (λ x e. rw e (omega arith)))
    where
      positive : s ≡ 0 → ⊥
      positive e = omega arith

  pub fade_from_zero : (d k : ℕ) → m.pace ≡ Fade → m.start ≡ 0 → 0 < m.target → m.target * d < m.length → m.length ≤ m.target * suc d
      → k ≤ m.length → TimerAfter (t + k) o.timer → (ticks k t o).burning ≡ o.burning + (k - suc d)
  fade_from_zero d k q z g h c l a =
      let way : max m.start m.target ≡ m.target = omega arith in
      burned (k - suc d) k l a (by_fade k q ∙ rw way (rise_at m.target m.length d k z g l h c))

  pub ramp_from_zero : (r d k : ℕ) → m.pace ≡ Ramp r → m.start ≡ 0 → 0 < m.target → r * d < 1000 → 1000 ≤ r * suc d
      → k ≤ m.length → TimerAfter (t + k) o.timer → (ticks k t o).burning ≡ o.burning + (k - suc d)
  ramp_from_zero r d k q z g h c l a = burned (k - suc d) k l a (by_ramp r k q ∙ rise_at r 1000 d k z g l h c)

  -- A FALL TO 0 to its last millisecond
  fall_at : (s w k : ℕ) → 0 < m.start → m.target ≡ 0 → k ≤ m.length → (0 < s → k ≤ suc (last_short m.start s w)) → lit_at s w t k m ≡ k
  unfolding lit_at lit_from_light gone_at moment_after count_before when◌then◌else◌
  fall_at s w k h z l c =
      rw
      (eqb_miss {a = m.start} {b = 0} (omega arith), eqb_hit {a = m.target} {b = 0} z)
      (by_eq s 0
      (λ x e. rw e)
      (λ x e. let y = c (omega arith) in
      rw e (by_lt (last_short m.start s w) m.length (λ i f. rw f (omega arith)) (λ i f. rw f))))

  still_lit : (s w k : ℕ) → 0 < s → s * k < m.start * w + s → k ≤ suc (last_short m.start s w)
  unfolding last_short
  still_lit s w zero q h = omega arith
  still_lit s w (suc n) q h =
      omega (arith, (le-div_iff_mul-le {k = s} {x = n} {y = m.start * w - 1} q).1 (omega (arith, h, mul_comm n s)))

  pub fade_to_zero : (k : ℕ) → m.pace ≡ Fade → 0 < m.start → m.target ≡ 0 → k ≤ m.length → TimerAfter (t + k) o.timer
      → (ticks k t o).burning ≡ o.burning + k
  fade_to_zero k q h z l a =
      let way : max m.start m.target ≡ m.start = omega arith in
      burned k k l a (by_fade k q ∙ rw way (fall_at m.start m.length k h z l (λ positive. still_lit m.start m.length k positive (less k l))))
    where
      less : (n : ℕ) → n ≤ m.length → m.start * n < m.start * m.length + m.start
      less n y = omega (arith, mul-le-mul_left m.start y)

  -- a ramp as long as its way is not gone, which its own length is not past: 'L = ceiling(1,000 × |g - s| /
  -- R)'
  pub ramp_to_zero : (r k : ℕ) → m.pace ≡ Ramp r → 0 < m.start → m.target ≡ 0 → r * k < m.start * 1000 + r → k ≤ m.length
      → TimerAfter (t + k) o.timer → (ticks k t o).burning ≡ o.burning + k
  ramp_to_zero r k q h z c l a = burned k k l a (by_ramp r k q ∙ fall_at r 1000 k h z l (λ positive. still_lit r 1000 k positive c))

  -- AND BETWEEN TWO LEVELS ABOVE 0 all the time
  lit_at_lem : (s w k : ℕ) → 0 < m.start → 0 < m.target → lit_at s w t k m ≡ k
  unfolding lit_at lit_from_light when◌then◌else◌
  lit_at_lem s w k h g = rw (eqb_miss {a = m.start} {b = 0} (omega arith), eqb_miss {a = m.target} {b = 0} (omega arith))

  pub between : (k : ℕ) → 0 < m.start → 0 < m.target → k ≤ m.length → TimerAfter (t + k) o.timer → (ticks k t o).burning ≡ o.burning + k
  between k h g l a = burned k k l a (go m.pace refl)
    where
      go : (pace : Pace) → m.pace ≡ pace → lit_moving t k m ≡ k
      go Fade q = by_fade k q ∙ lit_at_lem (max m.start m.target) m.length k h g
      go (Ramp r) q = by_ramp r k q ∙ lit_at_lem r 1000 k h g
