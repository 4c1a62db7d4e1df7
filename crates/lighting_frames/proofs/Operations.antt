-- A command's fields in range, and its operation's number: '0F last operation (kind minus 10)'.
use Rattle.std.specs.Prelude.{Ok, Err}
use mathlib.Core.Path.{◌≡◌, refl, sym, ap, ◌∙◌}
use mathlib.Core.Bool.{Bool}
use Prim.Native.Nat.{ℕ, ◌-◌, ◌≤◌}
use native.Mathlib.Omega.{arith}
use lib.Dec.{ltb, eqb}
use lib.ListN.{length}
use Rattle.lighting_levels.specs.Paper.Choice.{when◌then◌else◌}
use Rattle.lighting_outputs.specs.declared.Parameters.{Parameters}
use Rattle.lighting_levels.specs.Paper.Field.{byte_at}
use Rattle.lighting_outputs.specs.Paper.Operations.{operation_number}
use Rattle.lighting_outputs.specs.Paper.Passing.{after_events}
use Rattle.lighting_outputs.specs.Paper.Record.{with_command}
use Rattle.lighting_outputs.specs.Paper.Commands.{commanded_from, commanded}
use Rattle.lighting_outputs.specs.Paper.Properties.{read_property}
use Rattle.lighting_outputs.specs.Paper.Acting.{done, acted}
use Rattle.lighting_frames.specs.Paper.Kinds.{kind_row}
use Rattle.lighting_frames.specs.Paper.Frames.{Bytes, request_of, call_of, called, clock_of, parse_by, parse}
use Rattle.lighting_outputs.specs.Paper.Requests.{plain_duration, command_of, command_request}
use Rattle.lighting_outputs.specs.declared.Operation.{Operation}
use Rattle.lighting_outputs.specs.declared.Command.{Command}
use Rattle.lighting_frames.specs.declared.Action.{Action}
use Rattle.lighting_frames.specs.declared.Action.TheVariants.{WritesLevel, EmptiesSlot, WritesProperty, ReadsProperty, Stops, FadesTo, FadesToOver, RampsTo, RampsToAtRate, StepsUp, StepsDown, StepsUpBy, StepsDownBy, GoesTo, Relinquishes, CommandsTagged}
use Rattle.lighting_frames.specs.declared.Kind.{Kind}
use Rattle.lighting_frames.specs.declared.Kind.TheVariants.{NoKind, ClockKind, CallKind}
use Rattle.lighting_frames.specs.declared.Call.{Call}
use Rattle.lighting_frames.specs.declared.Frame.TheVariants.{Calls}
use Rattle.lighting_outputs.specs.declared.Property.TheVariants.{LastOperation}
use Rattle.lighting_outputs.specs.declared.Answer.TheVariants.{Value}
use Rattle.lighting_outputs.specs.declared.Output.{Output}
use Rattle.lighting_outputs.specs.Paper.Answers.{as_request}
use Rattle.lighting_outputs.specs.declared.OutputRequest.TheVariants.{Commands}
use Rattle.lighting_outputs.specs.declared.PanelRequest.TheVariants.{ToOutput}
use Rattle.lighting_levels.proofs.Split.{by_bool}
use Rattle.lighting_frames.proofs.KindTable.{action_byte, kind_byte}
use Rattle.lighting_outputs.proofs.Rules.CommandRanges.{asked_by_request, command_taken}
use Rattle.lighting_outputs.specs.declared.refusals.Refusal.TheVariants.{WrongLength}

-- THE NUMBER. The operation of a command that was taken is the one that its kind says
command_request_operation : (p : Parameters) (o : Operation) (d : ℕ) (k : Command)
    → as_request (command_request p o d) ≡ Ok (ToOutput (Commands k)) → k.operation ≡ o
unfolding command_request
command_request_operation p o d k h =
    (command_taken p o (plain_duration d) k (asked_by_request (command_of p o (plain_duration d)) h)).operation

request_number : (p : Parameters) (action : Action) (b : Bytes) (command : Command) → 0x10 ≤ action_byte action → action_byte action ≤ 0x1a
    → request_of p action b ≡ Ok (ToOutput (Commands command))
    → operation_number command.operation ≡ action_byte action - 0x10
unfolding request_of operation_number
request_number p WritesLevel b command k m h = absurd (omega arith)
request_number p EmptiesSlot b command k m h = absurd (omega arith)
request_number p WritesProperty b command k m h = absurd (omega arith)
request_number p ReadsProperty b command k m h = absurd (omega arith)
request_number p Stops b command k m h = ap operation_number (command_request_operation p _ _ command h)
request_number p FadesTo b command k m h = ap operation_number (command_request_operation p _ _ command h)
request_number p FadesToOver b command k m h = ap operation_number (command_request_operation p _ _ command h)
request_number p RampsTo b command k m h = ap operation_number (command_request_operation p _ _ command h)
request_number p RampsToAtRate b command k m h = ap operation_number (command_request_operation p _ _ command h)
request_number p StepsUp b command k m h = ap operation_number (command_request_operation p _ _ command h)
request_number p StepsDown b command k m h = ap operation_number (command_request_operation p _ _ command h)
request_number p StepsUpBy b command k m h = ap operation_number (command_request_operation p _ _ command h)
request_number p StepsDownBy b command k m h = ap operation_number (command_request_operation p _ _ command h)
request_number p GoesTo b command k m h = ap operation_number (command_request_operation p _ _ command h)
request_number p Relinquishes b command k m h = ap operation_number (command_request_operation p _ _ command h)
request_number p CommandsTagged b command k m h = absurd (omega arith)

-- a frame that was read as a call asks what the table has for its kind
called_request : (p : Parameters) (c : ℕ) (call call' : Call) → called p c call ≡ Ok (Calls call') → call' ≡ call
unfolding called when◌then◌else◌
called_request p c call call' =
    by_bool (ltb call.station p.stations) (λ e. rw e
    (by_bool (eqb call.number 0) (λ e. rw e (λ h. cc)) (λ e. rw e
    (by_bool (ltb call.output c) (λ e. rw e (λ h. cc)) (λ e. rw e (λ h. cc)))))) (λ e. rw e (λ h. cc))

call_asks : (p : Parameters) (action : Action) (b : Bytes) (call : Call) → call ≡ call_of p action b → call.request ≡ request_of p action b
unfolding call_of
call_asks p action b call e = rw e

number_by : (p : Parameters) (c l : ℕ) (k : Kind) (b : Bytes) (call : Call) (command : Command)
    → (kind_row (byte_at b 0)).kind ≡ k → parse_by p c l k b ≡ Ok (Calls call)
    → call.request ≡ Ok (ToOutput (Commands command)) → 0x10 ≤ byte_at b 0 → byte_at b 0 ≤ 0x1a
    → operation_number command.operation ≡ byte_at b 0 - 0x10
unfolding parse_by when◌then◌else◌
number_by p c l NoKind b call command e h r n m = cc
number_by p c l ClockKind b call command e h r n m = by_bool (eqb (length b) l) (λ q. clock (rw q at h)) (λ q. bad (rw q at h))
  where
    clock : clock_of b ≡ Ok (Calls call) → operation_number command.operation ≡ byte_at b 0 - 0x10
    clock h = unfold clock_of in cc

    bad : Err WrongLength ≡ Ok (Calls call) → operation_number command.operation ≡ byte_at b 0 - 0x10
    bad h = cc
number_by p c l (CallKind action) b call command e h r n m = by_bool (eqb (length b) l) (λ q. found (rw q at h)) (λ q. bad (rw q at h))
  where
    kind : byte_at b 0 ≡ action_byte action
    kind = kind_byte (byte_at b 0) action e

    found : called p c (call_of p action b) ≡ Ok (Calls call) → operation_number command.operation ≡ byte_at b 0 - 0x10
    found h =
        let read : call ≡ call_of p action b = called_request p c (call_of p action b) call h in
        rw kind (request_number p action b command (rw kind at n) (rw kind at m) (sym (call_asks p action b call read) ∙ r))

    bad : Err WrongLength ≡ Ok (Calls call) → operation_number command.operation ≡ byte_at b 0 - 0x10
    bad h = cc

-- '0F last operation (kind minus 10)': a frame of kind 10 to 1A that is taken as a command has the operation
-- whose number is its kind less 10
pub kind_number : (p : Parameters) (c : ℕ) (b : Bytes) (call : Call) (command : Command)
    → parse p c b ≡ Ok (Calls call) → call.request ≡ Ok (ToOutput (Commands command))
    → 0x10 ≤ byte_at b 0 → byte_at b 0 ≤ 0x1a
    → operation_number command.operation ≡ byte_at b 0 - 0x10
unfolding parse
kind_number p c b call command h r n m = number_by p c _ _ b call command refl h r n m

-- and that is what property 0F of its output reads from then on, to a tenant too (§8)
pub kind_read : (p : Parameters) (c : ℕ) (b : Bytes) (call : Call) (command : Command) (tenant reader : Bool)
    (t t' : ℕ) (o : Output)
    → parse p c b ≡ Ok (Calls call) → call.request ≡ Ok (ToOutput (Commands command))
    → 0x10 ≤ byte_at b 0 → byte_at b 0 ≤ 0x1a
    → read_property reader t' (acted tenant t o (Commands command)).output LastOperation ≡ Value (byte_at b 0 - 0x10)
unfolding acted done after_events commanded commanded_from with_command read_property
kind_read p c b call command tenant reader t t' o h r n m = ap Value (kind_number p c b call command h r n m)
