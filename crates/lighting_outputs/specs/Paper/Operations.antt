-- The eleven lighting operations: their numbers, and the fields that each has. What properties 0F to 13 read
-- and the ranges of a command's fields (Frames.antt) come from here.
use Rattle.std.specs.Prelude.{ℕ, Float, Option, Some, None}
use Rattle.lighting_outputs.specs.declared.Operation.{Operation}
use Rattle.lighting_outputs.specs.declared.Operation.TheVariants.{Stop, FadeTo, FadeToOver, RampTo, RampToAtRate, StepUp, StepDown, StepUpBy, StepDownBy, Goto, Relinquish}
use Rattle.lighting_outputs.specs.declared.OperationFields.{OperationFields}
use Rattle.lighting_outputs.specs.declared.Duration.{Duration}
use Rattle.lighting_outputs.specs.declared.Duration.TheVariants.{Lasts, Cancels, Omitted}

-- '0F last operation (kind minus 10)': that it is the frame's kind less 10, proofs/Operations.antt has
-- (`kind_number`)
unfoldable pub operation_number : Operation → ℕ
operation_number Stop = 0
operation_number (FadeTo x) = 1
operation_number (FadeToOver x l) = 2
operation_number (RampTo x) = 3
operation_number (RampToAtRate x r) = 4
operation_number StepUp = 5
operation_number StepDown = 6
operation_number (StepUpBy x) = 7
operation_number (StepDownBy x) = 8
operation_number (Goto x) = 9
operation_number Relinquish = 10

-- level, rate, step and fade time, each there or not: none of them, a level, a step
abbrev pub no_fields : OperationFields
no_fields = record { level = None; rate = None; step = None; fade = None }

abbrev pub level_alone : Float → OperationFields
level_alone x = record { level = Some x; rate = None; step = None; fade = None }

abbrev pub step_alone : Float → OperationFields
step_alone x = record { level = None; rate = None; step = Some x; fade = None }

unfoldable pub fields_of : Operation → OperationFields
fields_of Stop = no_fields
fields_of (FadeTo x) = level_alone x
fields_of (FadeToOver x l) = record { level = Some x; rate = None; step = None; fade = Some l }
fields_of (RampTo x) = level_alone x
fields_of (RampToAtRate x r) = record { level = Some x; rate = Some r; step = None; fade = None }
fields_of StepUp = no_fields
fields_of StepDown = no_fields
fields_of (StepUpBy x) = step_alone x
fields_of (StepDownBy x) = step_alone x
fields_of (Goto x) = level_alone x
fields_of Relinquish = no_fields

-- 'duration may be missing': a command's duration as a field
unfoldable pub duration_field : Duration → Option ℕ
duration_field (Lasts d) = Some d
duration_field Cancels = Some 0
duration_field Omitted = None
