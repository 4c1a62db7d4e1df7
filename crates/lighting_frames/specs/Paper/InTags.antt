-- §1, 'It acts as the plain kind does, in lists too': a plain command frame, kinds 10 to 1A, sent in tags
-- instead (kind 1B), and what is then asked of lists.
use Rattle.std.specs.Prelude.{Bool, ◌∷◌, ◌++◌, ℕ, eqb, length, take, drop, Option, Some, None}
use Rattle.lighting_levels.specs.Paper.Choice.{when◌then◌else◌}
use Rattle.lighting_levels.specs.Paper.Field.{byte_at, big_endian}
use Rattle.lighting_frames.specs.Paper.Kinds.{kind_row, kind_length}
use Rattle.lighting_frames.specs.Paper.Tags.{whole_tag, body_bytes, holds}
use Rattle.lighting_frames.specs.Paper.Frames.{Bytes}
use Rattle.lighting_outputs.specs.Paper.Requests.{plain_duration}
use Rattle.lighting_frames.specs.declared.Action.{Action}
use Rattle.lighting_frames.specs.declared.Action.TheVariants.{WritesLevel, EmptiesSlot, WritesProperty, ReadsProperty, Stops, FadesTo, FadesToOver, RampsTo, RampsToAtRate, StepsUp, StepsDown, StepsUpBy, StepsDownBy, GoesTo, Relinquishes, CommandsTagged}
use Rattle.lighting_frames.specs.declared.Kind.{Kind}
use Rattle.lighting_frames.specs.declared.Kind.TheVariants.{NoKind, ClockKind, CallKind}
use Rattle.lighting_frames.specs.declared.TagContent.{TagContent}
use Rattle.lighting_frames.specs.declared.TagFields.{TagFields}

-- THE FIELDS OF A PLAIN COMMAND as they stand in its frame, good or bad: a REAL by its pattern, in four
-- octets, and 'FFFFFFFF means absent' a missing field
abbrev real_word : Bytes → ℕ → Option TagContent
real_word b at = holds 4 (big_endian 4 b at)

abbrev time_word : Bytes → ℕ → Option ℕ
time_word b at = Some (big_endian 4 b at)

abbrev pub plain_fields : ℕ → Option TagContent → Option TagContent → Option TagContent → Option ℕ → ℕ → TagFields
plain_fields number level rate step fade d =
    record {
      operation = holds 1 number;
      level = level;
      rate = rate;
      step = step;
      fade = whole_tag fade;
      duration = whole_tag (plain_duration d);
    }

-- by the table of 'Frames': what each kind adds, from left to right
unfoldable pub plain_tags : Action → Bytes → Option TagFields
plain_tags WritesLevel b = None
plain_tags EmptiesSlot b = None
plain_tags WritesProperty b = None
plain_tags ReadsProperty b = None
plain_tags Stops b = Some (plain_fields 0 None None None None (big_endian 4 b 13))
plain_tags FadesTo b = Some (plain_fields 1 (real_word b 13) None None None (big_endian 4 b 17))
plain_tags FadesToOver b = Some (plain_fields 2 (real_word b 13) None None (time_word b 17) (big_endian 4 b 21))
plain_tags RampsTo b = Some (plain_fields 3 (real_word b 13) None None None (big_endian 4 b 17))
plain_tags RampsToAtRate b = Some (plain_fields 4 (real_word b 13) (real_word b 17) None None (big_endian 4 b 21))
plain_tags StepsUp b = Some (plain_fields 5 None None None None (big_endian 4 b 13))
plain_tags StepsDown b = Some (plain_fields 6 None None None None (big_endian 4 b 13))
plain_tags StepsUpBy b = Some (plain_fields 7 None None (real_word b 13) None (big_endian 4 b 17))
plain_tags StepsDownBy b = Some (plain_fields 8 None None (real_word b 13) None (big_endian 4 b 17))
plain_tags GoesTo b = Some (plain_fields 9 (real_word b 13) None None None (big_endian 4 b 17))
plain_tags Relinquishes b = Some (plain_fields 10 None None None None (big_endian 4 b 13))
plain_tags CommandsTagged b = None

-- THE FRAME IN TAGS: kind 1B, the same station, number, time and output, then L and the 17 bytes. A frame
-- that is no plain command, or not of its kind's length, is left
abbrev pub framed : Bytes → Option TagFields → Bytes
framed b None = b
framed b (Some f) = 0x1b ∷ (take 12 (drop 1 b) ++ body_bytes f)

abbrev pub framed_by : Kind → Bytes → Bytes
framed_by NoKind b = b
framed_by ClockKind b = b
framed_by (CallKind action) b = framed b (plain_tags action b)

unfoldable pub in_tags : Bytes → Bytes
in_tags b = when eqb (length b) (kind_length (byte_at b 0)) then framed_by (kind_row (byte_at b 0)).kind b else b

-- 'send any of its commands tagged instead of plain, every copy of a frame like its first': which, the string
-- of bytes says
unfoldable pub sent : (Bytes → Bool) → Bytes → Bytes
sent chosen b = when chosen b then in_tags b else b
