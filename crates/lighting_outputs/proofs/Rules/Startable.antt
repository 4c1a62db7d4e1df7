-- The numbers of a set that may be started (`startable`) as facts, which theorems count on.
use mathlib.Core.Path.{◌≡◌}
use mathlib.Core.Bool.{true}
use Prim.Native.Nat.{ℕ, ◌≤◌}
use Rattle.lighting_levels.specs.Paper.Choice.{when◌then◌else◌}
use Rattle.lighting_outputs.specs.Paper.Parameters.{Parameters, four_hours}
use Rattle.lighting_outputs.specs.Paper.Rows.{within}
use Rattle.lighting_outputs.specs.Paper.Startable.{most_stations, most_outputs, least_time, most_fade, most_duration, startable}
use Rattle.lighting_levels.proofs.Split.{parts, leb_yes}
use Rattle.lighting_outputs.proofs.Rules.Facts.{Within}
use Rattle.lighting_outputs.proofs.Rules.Tied.{within_of}

pub record Startable (p : Parameters) : Type 0 where
  pub stations : Within 1 most_stations p.stations
  pub outputs : Within 1 most_outputs p.outputs
  pub fade : Within least_time most_fade p.fade
  pub duration : Within least_time most_duration p.duration

pub startable_of : (p : Parameters) → startable p ≡ true → Startable p
unfolding startable
startable_of p h = search (parts, within_of)

-- the old panel's set is one (§7), for every count of outputs that it allows
pub four_hours_startable : (outputs : ℕ) → 1 ≤ outputs → outputs ≤ 64 → startable (four_hours outputs) ≡ true
unfolding startable within when◌then◌else◌
four_hours_startable outputs least most = rw (leb_yes {a = 1} {b = outputs} least, leb_yes {a = outputs} {b = 64} most)
