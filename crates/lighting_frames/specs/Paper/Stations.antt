-- 'each station's record keeps its last answer, number and frame': a fresh station, and its record rule.
use Rattle.std.specs.Prelude.{Bool, true, replicate, eqb}
use Rattle.lighting_frames.specs.Paper.Kinds.{longest_frame, is_call}
use Rattle.lighting_outputs.specs.declared.Answer.TheVariants.{Done}
use Rattle.lighting_frames.specs.declared.Station.{Station}
use Rattle.lighting_levels.specs.Paper.Choice.{when◌then◌else◌}
use Rattle.lighting_levels.specs.Paper.Field.{byte_at}

-- 'number 0 meaning none'
unfoldable pub fresh_station : Station
fresh_station = record { answer = Done; number = 0; frame = replicate longest_frame 0 }

-- 'each station's record keeps its last answer, number and frame (of its kind's length), number 0 meaning
-- none'
unfoldable pub station_sound : Station → Bool
station_sound k = when eqb k.number 0 then true else is_call (byte_at k.frame 0)
