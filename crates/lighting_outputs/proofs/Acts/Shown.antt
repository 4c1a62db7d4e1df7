-- The levels that an output works with: brought into Min..Max, reached in a movement, and how long a ramp
-- lasts.
use mathlib.Core.Path.{◌≡◌, refl}
use mathlib.Core.Logic.{◌≢◌}
use Prim.Native.Nat.{ℕ, ◌+◌, ◌-◌, ◌*◌, ◌/◌, ◌≤◌, ◌<◌}
use native.Mathlib.Nat.{div-lt_iff_lt-mul}
use native.Mathlib.Omega.{arith}
use Rattle.lighting_outputs.specs.Paper.Parameters.{Parameters, longest_movement}
use Rattle.lighting_levels.specs.Paper.Choice.{when◌then◌else◌}
use Rattle.lighting_outputs.specs.Paper.Slots.{Slots, winning_level}
use Rattle.lighting_outputs.specs.Paper.Value.{clamp_lit, present_value, elapsed, reached_by, reached, progress_by, progress_value}
use Rattle.lighting_outputs.specs.Paper.Commands.{ramp_length}
use Rattle.lighting_outputs.specs.declared.Settings.{Settings}
use Rattle.lighting_outputs.specs.declared.Movement.{Movement}
use Rattle.lighting_outputs.specs.declared.Activity.{Activity}
use Rattle.lighting_outputs.specs.declared.Activity.TheVariants.{Still, Moving, Warned}
use Rattle.lighting_outputs.specs.declared.Output.{Output}
use Rattle.lighting_levels.proofs.Split.{by_eq, by_lt, by_le}
use Rattle.lighting_outputs.proofs.Time.Way.{distance_moved_most}
use Rattle.lighting_outputs.proofs.Rules.Facts.{SettingsInRange, Moves, Acts}
use Rattle.lighting_levels.specs.Paper.Level.{greatest_level, least_amount}

-- BROUGHT INTO Min..Max: at most Max, and once is enough
pub clamp_lit_most : (c : Settings) (v : ℕ) → clamp_lit c v ≤ c.max
unfolding clamp_lit when◌then◌else◌
clamp_lit_most c v = by_eq v 0 (λ z e. rw e (omega arith)) (λ z e. rw e (omega arith))

-- a level that is 0 or in the range is left as it is
pub clamp_lit_same : (c : Settings) (v : ℕ) → (v ≢ 0 → (c.min ≤ v) × (v ≤ c.max)) → clamp_lit c v ≡ v
unfolding clamp_lit when◌then◌else◌
clamp_lit_same c v f = by_eq v 0 (λ z e. rw (e, z)) (λ z e. let r = f z in rw e (omega arith))

pub clamp_lit_clamp_lit : (p : Parameters) (c : Settings) (v : ℕ) → SettingsInRange p c → clamp_lit c (clamp_lit c v) ≡ clamp_lit c v
clamp_lit_clamp_lit p c v h = clamp_lit_same c (clamp_lit c v) inside
  where
    inside : clamp_lit c v ≢ 0 → (c.min ≤ clamp_lit c v) × (clamp_lit c v ≤ c.max)
    inside = unfold clamp_lit when◌then◌else◌ in
        (by_eq v 0 (λ z e. rw e (λ n. absurd (n refl))) (λ z e. rw e (λ n. omega (arith, h.order))))

-- A MOVEMENT stays at most at Max
reached_most : (p : Parameters) (t : ℕ) (c : Settings) (s : Slots) (m : Movement) → Moves p t c s m → reached t m ≤ c.max
unfolding reached reached_by present_value when◌then◌else◌
reached_most p t c s m h =
    by_le
    m.start
    m.target
    (λ z e. rw e
    (omega (
      arith,
      h.aims,
      clamp_lit_most c (winning_level c.default s),
      distance_moved_most m.pace (m.target - m.start) m.length (elapsed t m) (omega arith),
    )))
    (λ z e. rw e (omega (arith, h.start)))

pub progress_most : (p : Parameters) (t : ℕ) (o : Output) → Acts p t o.settings o.slots o.activity → progress_value t o ≤ o.settings.max
unfolding progress_value
progress_most p t o h = go o.activity h
  where
    present : present_value o.settings o.slots ≤ o.settings.max
    present = unfold present_value in (clamp_lit_most o.settings (winning_level o.settings.default o.slots))

    go : (a : Activity) → Acts p t o.settings o.slots a → progress_by t (present_value o.settings o.slots) a ≤ o.settings.max
    go Still a = unfold progress_by in present
    go (Moving m) a = unfold progress_by in (reached_most p t o.settings o.slots m a)
    go (Warned w) a = unfold progress_by in present

-- A RAMP'S LENGTH, at a rate from 0.125 percent a second on
pub ramp_span : (p : Parameters) (d r : ℕ) → 0 < d → d ≤ greatest_level → least_amount ≤ r → (1 ≤ ramp_length d r) × (ramp_length d r ≤ longest_movement p)
unfolding ramp_length
ramp_span p d r z h k = (
  by_lt
      ((1000 * d + (r - 1)) / r)
      1
      (λ l e. omega (arith, (div-lt_iff_lt-mul {k = r} {x = 1000 * d + (r - 1)} {y = 1} (omega arith)).0 l))
      (λ l e. l),
  omega (
    arith,
    (div-lt_iff_lt-mul {k = r} {x = 1000 * d + (r - 1)} {y = 800001} (omega arith)).1 (omega arith),
  ),
)
