-- The ranges of a command's fields: what is taken is in range, and what each field met.
use Rattle.std.specs.Prelude.{Option, Some, None, Float, Ok, Err}
use mathlib.Core.Path.{◌≡◌, refl, sym, ap, ◌∙◌}
use mathlib.Core.Bool.{true}
use Prim.Native.Nat.{ℕ, ◌≤◌}
use native.Mathlib.Omega.{arith}
use lib.Dec.{eqb}
use Rattle.lighting_levels.specs.Paper.Choice.{when◌then◌else◌}
use Rattle.lighting_outputs.specs.Paper.Parameters.{Parameters}
use Rattle.lighting_outputs.specs.Paper.Answers.{level_refusal, refusal_number, Asked, as_request}
use Rattle.lighting_levels.specs.Paper.Level.{level_of, amount_of}
use Rattle.lighting_outputs.specs.Paper.Operations.{fields_of, duration_field}
use Rattle.lighting_outputs.specs.Paper.Rows.{row_of, within, meets}
use Rattle.lighting_outputs.specs.Paper.Requests.{level_field_refusal, amount_field_refusal, time_field_refusal, first_refusal, fields_refusal, command_lasting, command_with_duration, command_request_by, command_of, plain_duration, command_request}
use Rattle.lighting_outputs.specs.declared.Duration.{Duration}
use Rattle.lighting_outputs.specs.declared.Operation.{Operation}
use Rattle.lighting_outputs.specs.declared.Operation.TheVariants.{Stop, FadeTo, FadeToOver, RampTo, RampToAtRate, StepUp, StepDown, StepUpBy, StepDownBy, Goto, Relinquish}
use Rattle.lighting_outputs.specs.declared.OperationFields.{OperationFields}
use Rattle.lighting_outputs.specs.declared.Command.{Command}
use Rattle.lighting_outputs.specs.declared.Property.TheVariants.{FadeTime}
use Rattle.lighting_outputs.specs.declared.OutputRequest.{OutputRequest}
use Rattle.lighting_outputs.specs.declared.OutputRequest.TheVariants.{Commands}
use Rattle.lighting_outputs.specs.declared.PanelRequest.TheVariants.{ToOutput}
use Rattle.lighting_levels.proofs.Split.{by_bool, by_eq}
use Rattle.lighting_outputs.proofs.Rules.Tied.{within_of, meets_of}
use Rattle.lighting_outputs.proofs.Rules.RequestInRange.{OperationInRange, RequestInRange}
use Rattle.lighting_outputs.specs.declared.refusals.Refusal.{Refusal}

-- RANGES. A refusal that a field may meet: none, or 11, or 12
abbrev Fit : Option Refusal → Type 0
Fit (Some refusal) = 9 ≤ refusal_number refusal
Fit None = Unit {0}

level_fit : (x : Option ℕ) → Fit (level_refusal x)
level_fit (Some v) = tt
level_fit None = omega arith

real_fit : (x : Option Float) → Fit (level_field_refusal x) × Fit (amount_field_refusal x)
unfolding level_field_refusal amount_field_refusal
real_fit (Some x) = (level_fit (level_of x), level_fit (amount_of x))
real_fit None = (tt, tt)

time_fit : (p : Parameters) (x : Option ℕ) → Fit (time_field_refusal p x)
unfolding time_field_refusal when◌then◌else◌
time_fit p (Some l) = by_bool (meets (row_of p FadeTime) l) (λ e. rw e tt) (λ e. rw e (omega arith))
time_fit p None = tt

first_fit : (a b : Option Refusal) → Fit a → Fit b → Fit (first_refusal a b)
unfolding first_refusal
first_fit (Some a) b f g = f
first_fit None b f g = g

pub fields_fit : (p : Parameters) (f : OperationFields) → Fit (fields_refusal p f)
unfolding fields_refusal
fields_fit p f =
    first_fit _ _ (real_fit f.level).0
    (first_fit _ _ (real_fit f.rate).1 (first_fit _ _ (real_fit f.step).1 (time_fit p f.fade)))

-- with none met, no field met one
first_none : (a b : Option Refusal) → first_refusal a b ≡ None → (a ≡ None) × (b ≡ None)
unfolding first_refusal
first_none (Some a) b h = absurd (let z : ◌≡◌ {A = ℕ} 0 1 = cc in omega arith)
first_none None b h = (refl, h)

pub record NoneMet (p : Parameters) (f : OperationFields) : Type 0 where
  pub level : level_field_refusal f.level ≡ None
  pub rate : amount_field_refusal f.rate ≡ None
  pub step : amount_field_refusal f.step ≡ None
  pub fade : time_field_refusal p f.fade ≡ None

pub none_met : (p : Parameters) (f : OperationFields) → fields_refusal p f ≡ None → NoneMet p f
unfolding fields_refusal
none_met p f h =
    let level = first_none _ _ h in
    let rate = first_none _ _ level.1 in
    let step = first_none _ _ rate.1 in
    record { level = level.0; rate = rate.0; step = step.0; fade = step.1 }

time_good : (p : Parameters) (l : ℕ) → time_field_refusal p (Some l) ≡ None → meets (row_of p FadeTime) l ≡ true
unfolding time_field_refusal when◌then◌else◌
time_good p l =
    by_bool (meets (row_of p FadeTime) l) (λ e. rw e (λ h. refl)) (λ e. rw e (λ h. absurd (let z : ◌≡◌ {A = ℕ} 0 1 = cc in omega arith)))

operation_good : (p : Parameters) (o : Operation) → fields_refusal p (fields_of o) ≡ None → OperationInRange p o
unfolding fields_of
operation_good p Stop h = tt
operation_good p (FadeTo x) h = tt
operation_good p (FadeToOver x l) h =
    meets_of (row_of p FadeTime) l (time_good p l (none_met p _ h).fade)
operation_good p (RampTo x) h = tt
operation_good p (RampToAtRate x r) h = tt
operation_good p StepUp h = tt
operation_good p StepDown h = tt
operation_good p (StepUpBy x) h = tt
operation_good p (StepDownBy x) h = tt
operation_good p (Goto x) h = tt
operation_good p Relinquish h = tt

command_with_duration_good : (p : Parameters) (o : Operation) (duration : Option ℕ) → OperationInRange p o
    → RequestInRange p (as_request (command_with_duration p o duration))
unfolding command_with_duration command_lasting when◌then◌else◌
command_with_duration_good p o (Some d) g =
    by_bool (eqb d 0) (λ e. rw e ((g, tt))) (λ e. rw e
    (by_bool (within 100 p.duration d) (λ e. rw e ((g, within_of 100 p.duration d e))) (λ e. rw e (omega arith))))
command_with_duration_good p o None g = (g, tt)

good_by : (p : Parameters) (refusal : Option Refusal) (o : Operation) (duration : Option ℕ) → Fit refusal → (refusal ≡ None → OperationInRange p o)
    → RequestInRange p (as_request (command_request_by p refusal o duration))
unfolding command_request_by
good_by p (Some refusal) o duration f g = f
good_by p None o duration f g = command_with_duration_good p o duration (g refl)

pub command_of_good : (p : Parameters) (o : Operation) (duration : Option ℕ)
    → RequestInRange p (as_request (command_of p o duration))
unfolding command_of
command_of_good p o duration = good_by p _ o duration (fields_fit p (fields_of o)) (operation_good p o)

pub command_request_good : (p : Parameters) (o : Operation) (d : ℕ) → RequestInRange p (as_request (command_request p o d))
unfolding command_request
command_request_good p o d = command_of_good p o (plain_duration d)

-- A COMMAND THAT WAS TAKEN: its fields are in range, and it has the operation and the duration that were
-- asked
pub record Taken (p : Parameters) (o : Operation) (duration : Option ℕ) (k : Command) : Type 0 where
  pub ranges : fields_refusal p (fields_of o) ≡ None
  pub operation : k.operation ≡ o
  pub lasting : duration_field k.duration ≡ duration

asked_for : {o : Operation} {d : Duration} (k : Command)
    → ◌≡◌ {A = Asked} (Ok (Commands (record { operation = o; duration = d }))) (Ok (Commands k))
    → (k.operation ≡ o) × (duration_field k.duration ≡ duration_field d)
asked_for {o} {d} k h = let same : record { operation = o; duration = d } ≡ k = cc in (sym (ap (λ (c : Command). c.operation) same), sym (ap (λ (c : Command). duration_field c.duration) same))

pub refused_never : {refusal : Refusal} (k : Command) → ◌≡◌ {A = Asked} (Err refusal) (Ok (Commands k)) → ⊥
refused_never k h = let z : ◌≡◌ {A = ℕ} 0 1 = cc in omega arith

-- a request to the output comes of fields that ask just that
pub asked_by_request : {q : OutputRequest} (asked : Asked) → as_request asked ≡ Ok (ToOutput q) → asked ≡ Ok q
asked_by_request (Ok request) h = cc
asked_by_request (Err refusal) h = cc

durations : (p : Parameters) (o : Operation) (duration : Option ℕ) (k : Command) → command_with_duration p o duration ≡ Ok (Commands k)
    → (k.operation ≡ o) × (duration_field k.duration ≡ duration)
unfolding command_with_duration command_lasting duration_field when◌then◌else◌
durations p o (Some d) k =
    by_eq d 0
    (λ z e. rw e (λ h. let q = asked_for k h in (q.0, q.1 ∙ ap Some (sym z))))
    (λ z e. rw e (by_bool (within 100 p.duration d) (λ q. rw q (λ h. asked_for k h)) (λ q. rw q (λ h. absurd (refused_never k h)))))
durations p o None k = λ h. asked_for k h

taken_by : (p : Parameters) (refusal : Option Refusal) (o : Operation) (duration : Option ℕ) (k : Command)
    → command_request_by p refusal o duration ≡ Ok (Commands k)
    → (refusal ≡ None) × (k.operation ≡ o) × (duration_field k.duration ≡ duration)
unfolding command_request_by
taken_by p (Some refusal) o duration k h = absurd (refused_never k h)
taken_by p None o duration k h = let d = durations p o duration k h in (refl, d.0, d.1)

pub command_taken : (p : Parameters) (o : Operation) (duration : Option ℕ) (k : Command) → command_of p o duration ≡ Ok (Commands k) → Taken p o duration k
unfolding command_of
command_taken p o duration k h =
    let t = taken_by p _ o duration k h in record { ranges = t.0; operation = t.1; lasting = t.2 }
