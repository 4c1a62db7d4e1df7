-- The ranges of what a frame asks, once it is read: what acting may count on.
use Prim.Native.Nat.{◌≤◌}
use Rattle.std.specs.Prelude.{Ok, Err}
use Rattle.lighting_outputs.specs.Paper.Parameters.{Parameters}
use Rattle.lighting_outputs.specs.Paper.Rows.{row_of}
use Rattle.lighting_outputs.specs.declared.Duration.{Duration}
use Rattle.lighting_outputs.specs.declared.Duration.TheVariants.{Lasts, Cancels, Omitted}
use Rattle.lighting_outputs.specs.declared.Operation.{Operation}
use Rattle.lighting_outputs.specs.declared.Operation.TheVariants.{Stop, FadeTo, FadeToOver, RampTo, RampToAtRate, StepUp, StepDown, StepUpBy, StepDownBy, Goto, Relinquish}
use Rattle.lighting_outputs.specs.declared.Property.TheVariants.{FadeTime}
use Rattle.lighting_outputs.specs.Paper.Answers.{refusal_number, Request}
use Rattle.lighting_outputs.specs.declared.PanelRequest.TheVariants.{ToOutput}
use Rattle.lighting_outputs.specs.declared.OutputRequest.{OutputRequest}
use Rattle.lighting_outputs.specs.declared.OutputRequest.TheVariants.{Write, Empty, Change, Read, Commands}
use Rattle.lighting_outputs.proofs.Rules.Facts.{IsLevel, Within, Slot, Meets}

abbrev pub DurationInRange : Parameters → Duration → Type 0
DurationInRange p (Lasts d) = Within 100 p.duration d
DurationInRange p Cancels = Unit {0}
DurationInRange p Omitted = Unit {0}

-- a command's REALs are read in units where they are used, which are in range whatever the REAL
-- (proofs/Ranges.antt)
abbrev pub OperationInRange : Parameters → Operation → Type 0
OperationInRange p Stop = Unit {0}
OperationInRange p (FadeTo x) = Unit {0}
OperationInRange p (FadeToOver x l) = Meets (row_of p FadeTime) l
OperationInRange p (RampTo x) = Unit {0}
OperationInRange p (RampToAtRate x r) = Unit {0}
OperationInRange p StepUp = Unit {0}
OperationInRange p StepDown = Unit {0}
OperationInRange p (StepUpBy x) = Unit {0}
OperationInRange p (StepDownBy x) = Unit {0}
OperationInRange p (Goto x) = Unit {0}
OperationInRange p Relinquish = Unit {0}

abbrev pub OutputRequestInRange : Parameters → OutputRequest → Type 0
OutputRequestInRange p (Write i v) = Slot i × IsLevel v
OutputRequestInRange p (Empty i) = Slot i
OutputRequestInRange p (Change n v) = Meets (row_of p n) v
OutputRequestInRange p (Read n) = Unit {0}
OutputRequestInRange p (Commands k) = OperationInRange p k.operation × DurationInRange p k.duration

abbrev pub RequestInRange : Parameters → Request → Type 0
RequestInRange p (Err refusal) = 9 ≤ refusal_number refusal
RequestInRange p (Ok (ToOutput q)) = OutputRequestInRange p q
