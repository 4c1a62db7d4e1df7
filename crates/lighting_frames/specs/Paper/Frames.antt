-- 'Frames' and 'When a frame is turned down': a string of bytes, read. Refusals 2 to 5, and the request with
-- refusals 9 to 12, 14 and 15 (but a read's 9, which `read_property` of Properties.antt gives). Nothing here
-- looks at a panel but for its number of outputs.
use Rattle.std.specs.Prelude.{◌≡◌, List, ℕ, ◌<◌, ltb, eqb, Float, length, drop, Result, Ok, Err}
use Rattle.lighting_levels.specs.Paper.Choice.{when◌then◌else◌, Every}
use Rattle.lighting_outputs.specs.declared.Parameters.{Parameters}
use Rattle.lighting_levels.specs.Paper.Level.{real}
use Rattle.lighting_levels.specs.Paper.Field.{byte_at, big_endian}
use Rattle.lighting_outputs.specs.Paper.Properties.{property_of, change_of}
use Rattle.lighting_frames.specs.Paper.Kinds.{kind_row}
use Rattle.lighting_frames.specs.Paper.Tags.{read_body}
use Rattle.lighting_outputs.specs.declared.Command.{Command}
use Rattle.lighting_outputs.specs.declared.Operation.TheVariants.{Stop, FadeTo, FadeToOver, RampTo, RampToAtRate, StepUp, StepDown, StepUpBy, StepDownBy, Goto, Relinquish}
use Rattle.lighting_frames.specs.declared.TaggedCommand.{TaggedCommand}
use Rattle.lighting_frames.specs.declared.Action.{Action}
use Rattle.lighting_frames.specs.declared.Action.TheVariants.{WritesLevel, EmptiesSlot, WritesProperty, ReadsProperty, Stops, FadesTo, FadesToOver, RampsTo, RampsToAtRate, StepsUp, StepsDown, StepsUpBy, StepsDownBy, GoesTo, Relinquishes, CommandsTagged}
use Rattle.lighting_frames.specs.declared.Kind.{Kind}
use Rattle.lighting_frames.specs.declared.Kind.TheVariants.{NoKind, ClockKind, CallKind}
use Rattle.lighting_outputs.specs.Paper.Answers.{Asked, as_request, Request}
use Rattle.lighting_outputs.specs.declared.PanelRequest.TheVariants.{ToOutput}
use Rattle.lighting_outputs.specs.declared.OutputRequest.TheVariants.{Read, Commands}
use Rattle.lighting_frames.specs.declared.Frame.{Frame}
use Rattle.lighting_frames.specs.declared.Call.{Call}
use Rattle.lighting_frames.specs.declared.Frame.TheVariants.{Clock, Calls}
use Rattle.lighting_outputs.specs.Paper.Requests.{command_of, command_request, write_of, empty_of}
use Rattle.lighting_outputs.specs.declared.refusals.Refusal.{Refusal}
use Rattle.lighting_outputs.specs.declared.refusals.Refusal.TheVariants.{UnknownKind, WrongLength, UnknownStation, UnknownOutput}

abbrev pub Bytes : Type 0
Bytes = List ℕ

-- a string of bytes, and a list of them: each number is below 256
abbrev pub Octets : Bytes → Type 0
Octets b = Every (λ (x : ℕ). x < 256) b

abbrev pub Strings : List Bytes → Type 0
Strings l = Every Octets l

-- and in tags (§1): 14 and 15 come before the ranges. 'A tagged duration of FFFFFFFF meets 12': absent is a
-- missing field there
unfoldable pub tagged_request : Parameters → Result TaggedCommand Refusal → Asked
tagged_request p (Err refusal) = Err refusal
tagged_request p (Ok command) = command_of p command.operation command.duration

-- THE REQUEST of each kind, from what it adds to the 13 common bytes
abbrev word_at : Bytes → ℕ → ℕ
word_at b at = big_endian 4 b at

abbrev real_at : Bytes → ℕ → Float
real_at b at = real (big_endian 4 b at)

unfoldable pub request_of : Parameters → Action → Bytes → Request
request_of p WritesLevel b = as_request (write_of (byte_at b 13) (word_at b 14))
request_of p EmptiesSlot b = as_request (empty_of (byte_at b 13))
request_of p WritesProperty b = as_request (change_of p (property_of (byte_at b 13)) (word_at b 14))
request_of p ReadsProperty b = Ok (ToOutput (Read (property_of (byte_at b 13))))
request_of p Stops b = as_request (command_request p Stop (word_at b 13))
request_of p FadesTo b = as_request (command_request p (FadeTo (real_at b 13)) (word_at b 17))
request_of p FadesToOver b = as_request (command_request p (FadeToOver (real_at b 13) (word_at b 17)) (word_at b 21))
request_of p RampsTo b = as_request (command_request p (RampTo (real_at b 13)) (word_at b 17))
request_of p RampsToAtRate b = as_request (command_request p (RampToAtRate (real_at b 13) (real_at b 17)) (word_at b 21))
request_of p StepsUp b = as_request (command_request p StepUp (word_at b 13))
request_of p StepsDown b = as_request (command_request p StepDown (word_at b 13))
request_of p StepsUpBy b = as_request (command_request p (StepUpBy (real_at b 13)) (word_at b 17))
request_of p StepsDownBy b = as_request (command_request p (StepDownBy (real_at b 13)) (word_at b 17))
request_of p GoesTo b = as_request (command_request p (Goto (real_at b 13)) (word_at b 17))
request_of p Relinquishes b = as_request (command_request p Relinquish (word_at b 13))
request_of p CommandsTagged b = as_request (tagged_request p (read_body (drop 13 b)))

-- THE FRAME that b is, to a table of c outputs. 'Every other kind goes on with station (1), number (4), time
-- (6), output (1)'
unfoldable pub call_of : Parameters → Action → Bytes → Call
call_of p action b =
    record {
      station = byte_at b 1;
      number = big_endian 4 b 2;
      time = big_endian 6 b 6;
      output = byte_at b 12;
      request = request_of p action b;
    }

-- 'station over 7, or number 0' is 4, by the set's number of stations (§6); 'output not in the table' is 5
unfoldable pub called : Parameters → ℕ → Call → Result Frame Refusal
called p c call =
    when ltb call.station p.stations
    then (when eqb call.number 0 then Err UnknownStation else when ltb call.output c then Ok (Calls call) else Err UnknownOutput)
    else Err UnknownStation

-- 'Kind 01, clock: time (6 bytes)'
unfoldable pub clock_of : Bytes → Result Frame Refusal
clock_of b = Ok (Clock (big_endian 6 b 1))

-- 'no byte, or unknown kind' is 2, 'wrong length' is 3: `size` is the length that the kind fixes
unfoldable pub parse_by : Parameters → ℕ → ℕ → Kind → Bytes → Result Frame Refusal
parse_by p c size NoKind b = Err UnknownKind
parse_by p c size ClockKind b = when eqb (length b) size then clock_of b else Err WrongLength
parse_by p c size (CallKind action) b = when eqb (length b) size then called p c (call_of p action b) else Err WrongLength

unfoldable pub parse : Parameters → ℕ → Bytes → Result Frame Refusal
parse p c b = let row = kind_row (byte_at b 0) in parse_by p c row.length row.kind b

-- 'every command the panel keeps' (§1): one that a string of bytes asks for, as a call of some kind
pub data Kept (p : Parameters) : Command → Type 0 where
  asked : {command : Command} (action : Action) (b : Bytes) → Octets b
      → request_of p action b ≡ Ok (ToOutput (Commands command)) → Kept p command
