-- §7, 'lists without a longer fade time': THE FADE TIME THAT A FRAME CARRIES, read from its bytes alone,
-- good or bad. It stands in the field of kind 12, in the value of a write (kind 04) of property 02, and in
-- tag 4 of a body of kind 1B.
use Rattle.std.specs.Prelude.{Bool, ℕ, eqb, drop, Option, Some, None}
use Rattle.lighting_levels.specs.Paper.Choice.{when◌then◌else◌, ◌also◌}
use Rattle.lighting_levels.specs.Paper.Field.{byte_at, big_endian}
use Rattle.lighting_outputs.specs.Paper.TimeWithin.{time_within}
use Rattle.lighting_frames.specs.Paper.Tags.{body_fields, time_of}
use Rattle.lighting_frames.specs.Paper.Frames.{Bytes}

unfoldable pub fade_time_in : Bytes → Option ℕ
fade_time_in b =
    when eqb (byte_at b 0) 0x12 then Some (big_endian 4 b 17)
    else when eqb (byte_at b 0) 0x04 also eqb (byte_at b 13) 0x02 then Some (big_endian 4 b 14)
    else when eqb (byte_at b 0) 0x1b then time_of (body_fields (drop 13 b)).fade
    else None

-- a fade time from the one number to the other
unfoldable pub carries : ℕ → ℕ → Bytes → Bool
carries least most b = time_within least most (fade_time_in b)
