-- THE REQUESTS that a frame's fields ask for, in whatever form they came: refusals 10 to 12 of a command and
-- of kinds 02 and 03.
use Rattle.std.specs.Prelude.{ℕ, ◌-◌, eqb, Option, Some, None, Float, Ok, Err}
use Rattle.lighting_levels.specs.Paper.Choice.{when◌then◌else◌}
use Rattle.lighting_outputs.specs.Paper.Parameters.{Parameters}
use Rattle.lighting_outputs.specs.Paper.Answers.{level_refusal}
use Rattle.lighting_levels.specs.Paper.Level.{real, level_of, amount_of}
use Rattle.lighting_outputs.specs.Paper.Rows.{row_of, within, is_priority, meets}
use Rattle.lighting_outputs.specs.Paper.Operations.{fields_of}
use Rattle.lighting_outputs.specs.declared.Duration.TheVariants.{Lasts, Cancels, Omitted}
use Rattle.lighting_outputs.specs.declared.Operation.{Operation}
use Rattle.lighting_outputs.specs.declared.Property.TheVariants.{FadeTime}
use Rattle.lighting_outputs.specs.declared.OperationFields.{OperationFields}
use Rattle.lighting_outputs.specs.Paper.Answers.{Asked}
use Rattle.lighting_outputs.specs.declared.OutputRequest.TheVariants.{Write, Empty, Commands}
use Rattle.lighting_outputs.specs.declared.refusals.Refusal.{Refusal}
use Rattle.lighting_outputs.specs.declared.refusals.Refusal.TheVariants.{BadPriority, RealOutOfRange, WholeOutOfRange}

-- COMMANDS. 'Checked in this order; fields left to right': the refusal that a field meets, none where it is
-- in range or not there. 'REAL out of range' is 11, of a level and of a rate or step; 'Fade times: 100 to
-- 86,400,000', which is Fade_Time's row, else 12
unfoldable pub level_field_refusal : Option Float → Option Refusal
level_field_refusal (Some x) = level_refusal (level_of x)
level_field_refusal None = None

unfoldable pub amount_field_refusal : Option Float → Option Refusal
amount_field_refusal (Some x) = level_refusal (amount_of x)
amount_field_refusal None = None

unfoldable pub time_field_refusal : Parameters → Option ℕ → Option Refusal
time_field_refusal p (Some fade) = when meets (row_of p FadeTime) fade then None else Some WholeOutOfRange
time_field_refusal p None = None

-- the first of two refusals
unfoldable pub first_refusal : Option Refusal → Option Refusal → Option Refusal
first_refusal (Some earlier) later = Some earlier
first_refusal None later = later

unfoldable pub fields_refusal : Parameters → OperationFields → Option Refusal
fields_refusal p f =
    first_refusal (level_field_refusal f.level) (first_refusal (amount_field_refusal f.rate) (first_refusal (amount_field_refusal f.step) (time_field_refusal p f.fade)))

-- 'Duration is milliseconds: 0 cancels, 100 to 86,400,000 sets', up to the set's longest duration (§6); any
-- other is 12
unfoldable pub command_lasting : Parameters → Operation → ℕ → Asked
command_lasting p operation d =
    when eqb d 0 then Ok (Commands (record { operation = operation; duration = Cancels }))
    else when within 100 p.duration d then Ok (Commands (record { operation = operation; duration = Lasts d }))
    else Err WholeOutOfRange

unfoldable pub command_with_duration : Parameters → Operation → Option ℕ → Asked
command_with_duration p operation (Some d) = command_lasting p operation d
command_with_duration p operation None = Ok (Commands (record { operation = operation; duration = Omitted }))

-- an operation with its duration, whose fields meet a refusal, or none
unfoldable pub command_request_by : Parameters → Option Refusal → Operation → Option ℕ → Asked
command_request_by p (Some refusal) operation duration = Err refusal
command_request_by p None operation duration = command_with_duration p operation duration

-- THE RANGES OF A COMMAND, in whatever form it came: its fields from left to right, the duration last
unfoldable pub command_of : Parameters → Operation → Option ℕ → Asked
command_of p operation duration = command_request_by p (fields_refusal p (fields_of operation)) operation duration

-- in the plain kinds, 10 to 1A, 'FFFFFFFF means absent'
unfoldable pub plain_duration : ℕ → Option ℕ
plain_duration d = when eqb d 0xffff_ffff then None else Some d

unfoldable pub command_request : Parameters → Operation → ℕ → Asked
command_request p operation d = command_of p operation (plain_duration d)

-- KINDS 02 TO 05. Kind 02: priority, then REAL
unfoldable pub write_level : ℕ → Option ℕ → Asked
write_level i (Some v) = Ok (Write i v)
write_level i None = Err RealOutOfRange

unfoldable pub write_of : ℕ → ℕ → Asked
write_of n pattern = when is_priority n then write_level (n - 1) (level_of (real pattern)) else Err BadPriority

unfoldable pub empty_of : ℕ → Asked
empty_of n = when is_priority n then Ok (Empty (n - 1)) else Err BadPriority
