-- What an output shows: Present_Value, Progress_Value, In_Process.
use Rattle.std.specs.Prelude.{Bool, ℕ, ◌+◌, ◌-◌, ◌*◌, ◌/◌, min, max, ltb, leb, eqb}
use Rattle.lighting_levels.specs.Paper.Choice.{when◌then◌else◌}
use Rattle.lighting_outputs.specs.Paper.Slots.{Slots, winning_level}
use Rattle.lighting_outputs.specs.declared.Settings.{Settings}
use Rattle.lighting_outputs.specs.declared.Pace.{Pace}
use Rattle.lighting_outputs.specs.declared.Pace.TheVariants.{Fade, Ramp}
use Rattle.lighting_outputs.specs.declared.Movement.{Movement}
use Rattle.lighting_outputs.specs.declared.Activity.{Activity}
use Rattle.lighting_outputs.specs.declared.Activity.TheVariants.{Still, Moving, Warned}
use Rattle.lighting_outputs.specs.declared.Output.{Output}

-- brought into Min..Max; and so 'if above zero'
abbrev pub clamp : Settings → ℕ → ℕ
clamp c v = min c.max (max c.min v)

unfoldable pub clamp_lit : Settings → ℕ → ℕ
clamp_lit c v = when eqb v 0 then 0 else clamp c v

-- 'Present_Value is the winner's level, or Relinquish_Default with no live slot; if above zero it is brought
-- into Min..Max'
unfoldable pub present_value : Settings → Slots → ℕ
present_value c s = clamp_lit c (winning_level c.default s)

-- the paper's k: how many milliseconds of a movement have gone by at the moment t, its length less what is
-- left of it
abbrev pub elapsed : ℕ → Movement → ℕ
elapsed t m = m.length - (m.over - t)

-- 'Fade over L from s to g: k ms later, [..] floor(|g - s| × k / L)'; 'Ramp at R units a second: floor(R × k
-- / 1,000), stopping at g'. d is the way, |g - s|.
unfoldable pub distance_moved : Pace → ℕ → ℕ → ℕ → ℕ
distance_moved Fade d l k = d * k / l
distance_moved (Ramp r) d l k = min d (r * k / 1000)

-- 's plus or minus' the way gone
unfoldable pub reached_by : Movement → ℕ → ℕ
reached_by m k =
    when leb m.start m.target
    then m.start + distance_moved m.pace (m.target - m.start) m.length k
    else m.start - distance_moved m.pace (m.start - m.target) m.length k

unfoldable pub reached : ℕ → Movement → ℕ
reached t m = reached_by m (elapsed t m)

-- Progress_Value: the movement's formula while one lasts; 'without a movement, in a warning too', it equals
-- Present_Value v
unfoldable pub progress_by : ℕ → ℕ → Activity → ℕ
progress_by t v Still = v
progress_by t v (Moving m) = reached t m
progress_by t v (Warned w) = v

unfoldable pub progress_value : ℕ → Output → ℕ
progress_value t o = progress_by t (present_value o.settings o.slots) o.activity

-- whether the lamp gives light at the moment t: 'when Progress_Value is above zero' (§2 of the change
-- requests)
unfoldable pub lit : ℕ → Output → Bool
lit t o = ltb 0 (progress_value t o)

-- In_Process: '1 exactly while a movement lasts, else 0'
unfoldable pub in_process : Activity → ℕ
in_process Still = 0
in_process (Moving m) = 1
in_process (Warned w) = 0
