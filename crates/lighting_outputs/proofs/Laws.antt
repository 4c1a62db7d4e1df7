-- Made by tools/laws.py: each definition by clauses, at the variant that a match has found.
use mathlib.Core.Path.{◌≡◌}
use Prim.Native.Nat.{ℕ}
use Rattle.lighting_outputs.specs.Engine.Advance.{sooner}
use Rattle.lighting_outputs.specs.Engine.Light.{count_before, count_since, lit_by_pace, lit_in_movement}
use Rattle.lighting_outputs.specs.Paper.Acting.{acted, served, Served}
use Rattle.lighting_outputs.specs.Paper.Answers.{answer_bytes, level_answered, Asked, Request}
use Rattle.lighting_outputs.specs.Paper.Commands.{without_warning, activity_without_warning, stopped, effect, timed}
use Rattle.lighting_outputs.specs.Paper.Operations.{operation_number, fields_of, duration_field}
use Rattle.lighting_outputs.specs.Paper.Parameters.{Parameters}
use Rattle.lighting_outputs.specs.Paper.Passing.{timer_due, phase_end, activity_due, is_due, emptied_by, end_movement_of, end_movement_by, next_phase, next_activity, phase_slots, next_slots}
use Rattle.lighting_outputs.specs.Paper.Properties.{number_of, change_to, change_by, end_movement, level_or_absent, real_field_answer, time_field_answer, last_duration, read_property}
use Rattle.lighting_outputs.specs.Paper.Requests.{level_field_refusal, amount_field_refusal, time_field_refusal, first_refusal, command_with_duration, command_request_by, write_level}
use Rattle.lighting_outputs.specs.Paper.Rows.{row_of, meets}
use Rattle.lighting_outputs.specs.Paper.Rules.{activity_by, timer_sound}
use Rattle.lighting_outputs.specs.Paper.Slots.{put, Slots}
use Rattle.lighting_outputs.specs.Paper.TimeWithin.{time_within}
use Rattle.lighting_outputs.specs.Paper.Value.{distance_moved, progress_by, in_process}
use Rattle.lighting_outputs.specs.Paper.Writing.{end_movement_unless_above, written_by}
use Rattle.lighting_outputs.specs.declared.Activity.{Activity}
use Rattle.lighting_outputs.specs.declared.Answer.{Answer}
use Rattle.lighting_outputs.specs.declared.Duration.{Duration}
use Rattle.lighting_outputs.specs.declared.Effect.{Effect}
use Rattle.lighting_outputs.specs.declared.Movement.{Movement}
use Rattle.lighting_outputs.specs.declared.Operation.{Operation}
use Rattle.lighting_outputs.specs.declared.OperationFields.{OperationFields}
use Rattle.lighting_outputs.specs.declared.Outcome.{Outcome}
use Rattle.lighting_outputs.specs.declared.Output.{Output}
use Rattle.lighting_outputs.specs.declared.OutputRequest.{OutputRequest}
use Rattle.lighting_outputs.specs.declared.Pace.{Pace}
use Rattle.lighting_outputs.specs.declared.Phase.{Phase}
use Rattle.lighting_outputs.specs.declared.Property.{Property}
use Rattle.lighting_outputs.specs.declared.Range.{Range}
use Rattle.lighting_outputs.specs.declared.Settings.{Settings}
use Rattle.lighting_outputs.specs.declared.Timer.{Timer}
use Rattle.lighting_outputs.specs.declared.Warning.{Warning}
use Rattle.lighting_outputs.specs.declared.refusals.Refusal.{Refusal}
use Rattle.std.specs.Prelude.{Float, Option}
use mathlib.Core.Bool.{Bool}
use mathlib.Core.List.{List}

pub sooner_on : (x0 : ℕ) (x1 : Option ℕ) (k : Option ℕ) (r : ℕ) → x1 ≡ k → r ≡ sooner x0 k → r ≡ sooner x0 x1
sooner_on x0 x1 k r e p = rw e p

pub count_before_on : (x0 : ℕ) (x1 : ℕ) (x2 : Option ℕ) (k : Option ℕ) (r : ℕ) → x2 ≡ k → r ≡ count_before x0 x1 k → r ≡ count_before x0 x1 x2
count_before_on x0 x1 x2 k r e p = rw e p

pub count_since_on : (x0 : ℕ) (x1 : ℕ) (x2 : Option ℕ) (k : Option ℕ) (r : ℕ) → x2 ≡ k → r ≡ count_since x0 x1 k → r ≡ count_since x0 x1 x2
count_since_on x0 x1 x2 k r e p = rw e p

pub lit_by_pace_on : (x0 : ℕ) (x1 : ℕ) (x2 : Movement) (x3 : Pace) (k : Pace) (r : ℕ) → x3 ≡ k → r ≡ lit_by_pace x0 x1 x2 k → r ≡ lit_by_pace x0 x1 x2 x3
lit_by_pace_on x0 x1 x2 x3 k r e p = rw e p

pub lit_in_movement_on : (x0 : ℕ) (x1 : ℕ) (x2 : Activity) (k : Activity) (r : ℕ) → x2 ≡ k → r ≡ lit_in_movement x0 x1 k → r ≡ lit_in_movement x0 x1 x2
lit_in_movement_on x0 x1 x2 k r e p = rw e p

pub acted_on : (x0 : Bool) (x1 : ℕ) (x2 : Output) (x3 : OutputRequest) (k : OutputRequest) (r : Outcome) → x3 ≡ k → r ≡ acted x0 x1 x2 k → r ≡ acted x0 x1 x2 x3
acted_on x0 x1 x2 x3 k r e p = rw e p

pub served_on : (x0 : Bool) (x1 : ℕ) (x2 : List Output) (x3 : ℕ) (x4 : Request) (k : Request) (r : Served) → x4 ≡ k → r ≡ served x0 x1 x2 x3 k → r ≡ served x0 x1 x2 x3 x4
served_on x0 x1 x2 x3 x4 k r e p = rw e p

pub answer_bytes_on : (x0 : Answer) (k : Answer) (r : List ℕ) → x0 ≡ k → r ≡ answer_bytes k → r ≡ answer_bytes x0
answer_bytes_on x0 k r e p = rw e p

pub level_answered_on : (x0 : Option ℕ) (k : Option ℕ) (r : Answer) → x0 ≡ k → r ≡ level_answered k → r ≡ level_answered x0
level_answered_on x0 k r e p = rw e p

pub without_warning_on : (x0 : Slots) (x1 : Activity) (k : Activity) (r : Slots) → x1 ≡ k → r ≡ without_warning x0 k → r ≡ without_warning x0 x1
without_warning_on x0 x1 k r e p = rw e p

pub activity_without_warning_on : (x0 : Activity) (k : Activity) (r : Activity) → x0 ≡ k → r ≡ activity_without_warning k → r ≡ activity_without_warning x0
activity_without_warning_on x0 k r e p = rw e p

pub stopped_on : (x0 : Settings) (x1 : ℕ) (x2 : Slots) (x3 : Activity) (k : Activity) (r : Effect) → x3 ≡ k → r ≡ stopped x0 x1 x2 k → r ≡ stopped x0 x1 x2 x3
stopped_on x0 x1 x2 x3 k r e p = rw e p

pub effect_on : (x0 : ℕ) (x1 : Settings) (x2 : ℕ) (x3 : Slots) (x4 : Activity) (x5 : Operation) (k : Operation) (r : Effect) → x5 ≡ k → r ≡ effect x0 x1 x2 x3 x4 k → r ≡ effect x0 x1 x2 x3 x4 x5
effect_on x0 x1 x2 x3 x4 x5 k r e p = rw e p

pub timed_on : (x0 : ℕ) (x1 : ℕ) (x2 : Option Timer) (x3 : Duration) (k : Duration) (r : Option Timer) → x3 ≡ k → r ≡ timed x0 x1 x2 k → r ≡ timed x0 x1 x2 x3
timed_on x0 x1 x2 x3 k r e p = rw e p

pub operation_number_on : (x0 : Operation) (k : Operation) (r : ℕ) → x0 ≡ k → r ≡ operation_number k → r ≡ operation_number x0
operation_number_on x0 k r e p = rw e p

pub fields_of_on : (x0 : Operation) (k : Operation) (r : OperationFields) → x0 ≡ k → r ≡ fields_of k → r ≡ fields_of x0
fields_of_on x0 k r e p = rw e p

pub duration_field_on : (x0 : Duration) (k : Duration) (r : Option ℕ) → x0 ≡ k → r ≡ duration_field k → r ≡ duration_field x0
duration_field_on x0 k r e p = rw e p

pub timer_due_on : (x0 : Option Timer) (k : Option Timer) (r : Option ℕ) → x0 ≡ k → r ≡ timer_due k → r ≡ timer_due x0
timer_due_on x0 k r e p = rw e p

pub phase_end_on : (x0 : Warning) (x1 : Phase) (k : Phase) (r : ℕ) → x1 ≡ k → r ≡ phase_end x0 k → r ≡ phase_end x0 x1
phase_end_on x0 x1 k r e p = rw e p

pub activity_due_on : (x0 : Activity) (k : Activity) (r : Option ℕ) → x0 ≡ k → r ≡ activity_due k → r ≡ activity_due x0
activity_due_on x0 k r e p = rw e p

pub is_due_on : (x0 : ℕ) (x1 : Option ℕ) (k : Option ℕ) (r : Bool) → x1 ≡ k → r ≡ is_due x0 k → r ≡ is_due x0 x1
is_due_on x0 x1 k r e p = rw e p

pub emptied_by_on : (x0 : Option Timer) (x1 : Slots) (k : Option Timer) (r : Slots) → x0 ≡ k → r ≡ emptied_by k x1 → r ≡ emptied_by x0 x1
emptied_by_on x0 x1 k r e p = rw e p

pub end_movement_of_on : (x0 : ℕ) (x1 : Activity) (k : Activity) (r : Activity) → x1 ≡ k → r ≡ end_movement_of x0 k → r ≡ end_movement_of x0 x1
end_movement_of_on x0 x1 k r e p = rw e p

pub end_movement_by_on : (x0 : Option Timer) (x1 : Activity) (k : Option Timer) (r : Activity) → x0 ≡ k → r ≡ end_movement_by k x1 → r ≡ end_movement_by x0 x1
end_movement_by_on x0 x1 k r e p = rw e p

pub next_phase_on : (x0 : Warning) (x1 : Phase) (k : Phase) (r : Activity) → x1 ≡ k → r ≡ next_phase x0 k → r ≡ next_phase x0 x1
next_phase_on x0 x1 k r e p = rw e p

pub next_activity_on : (x0 : Activity) (k : Activity) (r : Activity) → x0 ≡ k → r ≡ next_activity k → r ≡ next_activity x0
next_activity_on x0 k r e p = rw e p

pub phase_slots_on : (x0 : Warning) (x1 : Phase) (x2 : Slots) (k : Phase) (r : Slots) → x1 ≡ k → r ≡ phase_slots x0 k x2 → r ≡ phase_slots x0 x1 x2
phase_slots_on x0 x1 x2 k r e p = rw e p

pub next_slots_on : (x0 : Activity) (x1 : Slots) (k : Activity) (r : Slots) → x0 ≡ k → r ≡ next_slots k x1 → r ≡ next_slots x0 x1
next_slots_on x0 x1 k r e p = rw e p

pub number_of_on : (x0 : Property) (k : Property) (r : ℕ) → x0 ≡ k → r ≡ number_of k → r ≡ number_of x0
number_of_on x0 k r e p = rw e p

pub change_to_on : (x0 : Property) (x1 : Option ℕ) (k : Option ℕ) (r : Asked) → x1 ≡ k → r ≡ change_to x0 k → r ≡ change_to x0 x1
change_to_on x0 x1 k r e p = rw e p

pub change_by_on : (x0 : Range) (x1 : Property) (x2 : ℕ) (k : Range) (r : Asked) → x0 ≡ k → r ≡ change_by k x1 x2 → r ≡ change_by x0 x1 x2
change_by_on x0 x1 x2 k r e p = rw e p

pub end_movement_on : (x0 : Activity) (k : Activity) (r : Activity) → x0 ≡ k → r ≡ end_movement k → r ≡ end_movement x0
end_movement_on x0 k r e p = rw e p

pub level_or_absent_on : (x0 : Option ℕ) (k : Option ℕ) (r : Answer) → x0 ≡ k → r ≡ level_or_absent k → r ≡ level_or_absent x0
level_or_absent_on x0 k r e p = rw e p

pub real_field_answer_on : (x0 : Option Float) (k : Option Float) (r : Answer) → x0 ≡ k → r ≡ real_field_answer k → r ≡ real_field_answer x0
real_field_answer_on x0 k r e p = rw e p

pub time_field_answer_on : (x0 : Option ℕ) (k : Option ℕ) (r : Answer) → x0 ≡ k → r ≡ time_field_answer k → r ≡ time_field_answer x0
time_field_answer_on x0 k r e p = rw e p

pub last_duration_on : (x0 : Duration) (k : Duration) (r : Answer) → x0 ≡ k → r ≡ last_duration k → r ≡ last_duration x0
last_duration_on x0 k r e p = rw e p

pub read_property_on : (x0 : Bool) (x1 : ℕ) (x2 : Output) (x3 : Property) (k : Property) (r : Answer) → x3 ≡ k → r ≡ read_property x0 x1 x2 k → r ≡ read_property x0 x1 x2 x3
read_property_on x0 x1 x2 x3 k r e p = rw e p

pub level_field_refusal_on : (x0 : Option Float) (k : Option Float) (r : Option Refusal) → x0 ≡ k → r ≡ level_field_refusal k → r ≡ level_field_refusal x0
level_field_refusal_on x0 k r e p = rw e p

pub amount_field_refusal_on : (x0 : Option Float) (k : Option Float) (r : Option Refusal) → x0 ≡ k → r ≡ amount_field_refusal k → r ≡ amount_field_refusal x0
amount_field_refusal_on x0 k r e p = rw e p

pub time_field_refusal_on : (x0 : Parameters) (x1 : Option ℕ) (k : Option ℕ) (r : Option Refusal) → x1 ≡ k → r ≡ time_field_refusal x0 k → r ≡ time_field_refusal x0 x1
time_field_refusal_on x0 x1 k r e p = rw e p

pub first_refusal_on : (x0 : Option Refusal) (x1 : Option Refusal) (k : Option Refusal) (r : Option Refusal) → x0 ≡ k → r ≡ first_refusal k x1 → r ≡ first_refusal x0 x1
first_refusal_on x0 x1 k r e p = rw e p

pub command_with_duration_on : (x0 : Parameters) (x1 : Operation) (x2 : Option ℕ) (k : Option ℕ) (r : Asked) → x2 ≡ k → r ≡ command_with_duration x0 x1 k → r ≡ command_with_duration x0 x1 x2
command_with_duration_on x0 x1 x2 k r e p = rw e p

pub command_request_by_on : (x0 : Parameters) (x1 : Option Refusal) (x2 : Operation) (x3 : Option ℕ) (k : Option Refusal) (r : Asked) → x1 ≡ k → r ≡ command_request_by x0 k x2 x3 → r ≡ command_request_by x0 x1 x2 x3
command_request_by_on x0 x1 x2 x3 k r e p = rw e p

pub write_level_on : (x0 : ℕ) (x1 : Option ℕ) (k : Option ℕ) (r : Asked) → x1 ≡ k → r ≡ write_level x0 k → r ≡ write_level x0 x1
write_level_on x0 x1 k r e p = rw e p

pub row_of_on : (x0 : Parameters) (x1 : Property) (k : Property) (r : Range) → x1 ≡ k → r ≡ row_of x0 k → r ≡ row_of x0 x1
row_of_on x0 x1 k r e p = rw e p

pub meets_on : (x0 : Range) (x1 : ℕ) (k : Range) (r : Bool) → x0 ≡ k → r ≡ meets k x1 → r ≡ meets x0 x1
meets_on x0 x1 k r e p = rw e p

pub activity_by_on : (x0 : Parameters) (x1 : ℕ) (x2 : Bool) (x3 : ℕ) (x4 : ℕ) (x5 : ℕ) (x6 : Activity) (k : Activity) (r : Bool) → x6 ≡ k → r ≡ activity_by x0 x1 x2 x3 x4 x5 k → r ≡ activity_by x0 x1 x2 x3 x4 x5 x6
activity_by_on x0 x1 x2 x3 x4 x5 x6 k r e p = rw e p

pub timer_sound_on : (x0 : ℕ) (x1 : Option Timer) (k : Option Timer) (r : Bool) → x1 ≡ k → r ≡ timer_sound x0 k → r ≡ timer_sound x0 x1
timer_sound_on x0 x1 k r e p = rw e p

pub put_on : (x0 : Slots) (x1 : ℕ) (x2 : Option ℕ) (k : Option ℕ) (r : Slots) → x2 ≡ k → r ≡ put x0 x1 k → r ≡ put x0 x1 x2
put_on x0 x1 x2 k r e p = rw e p

pub time_within_on : (x0 : ℕ) (x1 : ℕ) (x2 : Option ℕ) (k : Option ℕ) (r : Bool) → x2 ≡ k → r ≡ time_within x0 x1 k → r ≡ time_within x0 x1 x2
time_within_on x0 x1 x2 k r e p = rw e p

pub distance_moved_on : (x0 : Pace) (x1 : ℕ) (x2 : ℕ) (x3 : ℕ) (k : Pace) (r : ℕ) → x0 ≡ k → r ≡ distance_moved k x1 x2 x3 → r ≡ distance_moved x0 x1 x2 x3
distance_moved_on x0 x1 x2 x3 k r e p = rw e p

pub progress_by_on : (x0 : ℕ) (x1 : ℕ) (x2 : Activity) (k : Activity) (r : ℕ) → x2 ≡ k → r ≡ progress_by x0 x1 k → r ≡ progress_by x0 x1 x2
progress_by_on x0 x1 x2 k r e p = rw e p

pub in_process_on : (x0 : Activity) (k : Activity) (r : ℕ) → x0 ≡ k → r ≡ in_process k → r ≡ in_process x0
in_process_on x0 k r e p = rw e p

pub end_movement_unless_above_on : (x0 : ℕ) (x1 : Activity) (k : Activity) (r : Activity) → x1 ≡ k → r ≡ end_movement_unless_above x0 k → r ≡ end_movement_unless_above x0 x1
end_movement_unless_above_on x0 x1 k r e p = rw e p

pub written_by_on : (x0 : ℕ) (x1 : Output) (x2 : ℕ) (x3 : ℕ) (x4 : Activity) (k : Activity) (r : Output) → x4 ≡ k → r ≡ written_by x0 x1 x2 x3 k → r ≡ written_by x0 x1 x2 x3 x4
written_by_on x0 x1 x2 x3 x4 k r e p = rw e p
