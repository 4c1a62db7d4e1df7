-- THE ENGINE's count of the milliseconds at whose start a lamp gives light, whatever the stretch.
-- proofs/Time/Light.antt has that it comes to the milliseconds one by one (`lit_milliseconds` of
-- Paper/Passing.antt), so that nobody need believe this file.
use Rattle.std.specs.Prelude.{ℕ, ◌+◌, ◌-◌, ◌*◌, ◌/◌, min, max, ltb, eqb, Option, Some, None}
use Rattle.lighting_levels.specs.Paper.Choice.{when◌then◌else◌}
use Rattle.lighting_outputs.specs.Paper.Value.{present_value, in_process}
use Rattle.lighting_outputs.specs.declared.Pace.{Pace}
use Rattle.lighting_outputs.specs.declared.Pace.TheVariants.{Fade, Ramp}
use Rattle.lighting_outputs.specs.declared.Movement.{Movement}
use Rattle.lighting_outputs.specs.declared.Activity.{Activity}
use Rattle.lighting_outputs.specs.declared.Activity.TheVariants.{Still, Moving, Warned}
use Rattle.lighting_outputs.specs.declared.Output.{Output}

-- k milliseconds along, a movement from 0 or to 0 has gone floor(s × k / w) units of its way: a fade its
-- whole way s in its length w, a ramp its rate s in the 1,000 ms of a second, and no further than its way
-- (`lit_by_pace`).
-- So this is the last k at which u units of it, u above 0, are not yet gone
unfoldable pub last_short : ℕ → ℕ → ℕ → ℕ
last_short u s w = (u * w - 1) / s

-- and the moment from which on they are: never, where the movement stands or its length is too short. The k
-- after the last one short is reached as long before the end as it is short of the length
unfoldable pub moment_after : ℕ → Movement → Option ℕ
moment_after k m = when ltb k m.length then Some (m.over - (m.length - (k + 1))) else None

unfoldable pub gone_at : ℕ → ℕ → ℕ → Movement → Option ℕ
gone_at u s w m = when eqb s 0 then None else moment_after (last_short u s w) m

-- of the n milliseconds from a moment on, those before the moment d, and those from it on
unfoldable pub count_before : ℕ → ℕ → Option ℕ → ℕ
count_before from n None = n
count_before from n (Some d) = min n (d - from)

unfoldable pub count_since : ℕ → ℕ → Option ℕ → ℕ
count_since from n None = 0
count_since from n (Some d) = n - (d - from)

-- A RISE FROM 0 is dark until the first unit of its way is gone, A FALL TO 0 is lit until all of it is, and
-- no other movement comes to 0
unfoldable pub lit_from_zero : ℕ → ℕ → ℕ → ℕ → Movement → ℕ
lit_from_zero s w from n m = when eqb m.target 0 then 0 else count_since from n (gone_at 1 s w m)

unfoldable pub lit_from_light : ℕ → ℕ → ℕ → ℕ → Movement → ℕ
lit_from_light s w from n m = when eqb m.target 0 then count_before from n (gone_at m.start s w m) else n

unfoldable pub lit_at : ℕ → ℕ → ℕ → ℕ → Movement → ℕ
lit_at s w from n m = when eqb m.start 0 then lit_from_zero s w from n m else lit_from_light s w from n m

unfoldable pub lit_by_pace : ℕ → ℕ → Movement → Pace → ℕ
lit_by_pace from n m Fade = lit_at (max m.start m.target) m.length from n m
lit_by_pace from n m (Ramp r) = lit_at r 1000 from n m

unfoldable pub lit_moving : ℕ → ℕ → Movement → ℕ
lit_moving from n m = lit_by_pace from n m m.pace

-- of what is under way; where that is no movement nobody asks
unfoldable pub lit_in_movement : ℕ → ℕ → Activity → ℕ
lit_in_movement from n Still = 0
lit_in_movement from n (Moving m) = lit_moving from n m
lit_in_movement from n (Warned w) = 0

-- without a movement Progress_Value is Present_Value v: all or none
unfoldable pub lit_resting : ℕ → ℕ → ℕ
lit_resting n v = when ltb 0 v then n else 0

unfoldable pub lit_stretch : ℕ → ℕ → Output → ℕ
lit_stretch from n o =
    when eqb (in_process o.activity) 1
    then lit_in_movement from n o.activity
    else lit_resting n (present_value o.settings o.slots)
