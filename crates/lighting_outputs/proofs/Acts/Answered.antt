-- What a first arrival is answered: never refusal 1.
use Rattle.std.specs.Prelude.{Option, Some, None, Float}
use mathlib.Core.Path.{◌≡◌, refl}
use mathlib.Core.Logic.{◌≢◌}
use mathlib.Core.Bool.{Bool}
use Prim.Native.Nat.{ℕ}
use native.Mathlib.Omega.{arith}
use Rattle.lighting_levels.specs.Paper.Choice.{when◌then◌else◌}
use Rattle.lighting_levels.proofs.Split.{by_bool}
use Rattle.lighting_outputs.specs.Paper.Slots.{Slots, slot}
use Rattle.lighting_outputs.proofs.AnswersApart.{refusal_of}
use Rattle.lighting_outputs.specs.Paper.Operations.{fields_of}
use Rattle.lighting_outputs.specs.Paper.Properties.{level_answer, level_or_absent, slot_answer, real_answer, real_field_answer, time_field_answer, last_duration, read_property}
use Rattle.lighting_outputs.specs.Paper.Acting.{done, unchanged, acted}
use Rattle.lighting_outputs.specs.Paper.Tenants.{hidden}
use Rattle.lighting_outputs.specs.declared.Duration.{Duration}
use Rattle.lighting_outputs.specs.declared.Duration.TheVariants.{Lasts, Cancels, Omitted}
use Rattle.lighting_outputs.specs.declared.Property.{Property}
use Rattle.lighting_outputs.specs.declared.Property.TheVariants.{RelinquishDefault, FadeTime, RampRate, StepIncrement, BlinkEnable, BlinkTime, BlinkWarnDelay, MinValue, MaxValue, CommandPriority, ElapsedActiveTime, PresentValue, ProgressValue, InProcess, LastOperation, LastLevel, LastRate, LastStep, LastFadeTime, LastDuration, BinaryActiveValue, BinaryInactiveValue, Polarity, BinaryPresentValue, RelayState, SlotValue, Unknown}
use Rattle.lighting_outputs.specs.declared.Answer.{Answer}
use Rattle.lighting_outputs.specs.declared.OutputRequest.{OutputRequest}
use Rattle.lighting_outputs.specs.declared.OutputRequest.TheVariants.{Write, Empty, Change, Read, Commands}
use Rattle.lighting_outputs.specs.declared.Output.{Output}
use Rattle.lighting_outputs.specs.declared.Outcome.{Outcome}
use Rattle.lighting_outputs.proofs.Acts.Acted.{by_change}

-- an answer that is not refusal 1
pub record NotOne (a : Answer) : Type 0 where
  pub other : refusal_of a ≢ 1

pub not_one : (a : Answer) → refusal_of a ≡ 0 → NotOne a
not_one a h = record { other = omega arith }

real_none : (x : Option Float) → refusal_of (real_field_answer x) ≡ 0
unfolding real_field_answer real_answer
real_none (Some x) = refl
real_none None = refl

time_none : (x : Option ℕ) → refusal_of (time_field_answer x) ≡ 0
unfolding time_field_answer
time_none (Some l) = refl
time_none None = refl

duration_none : (d : Duration) → refusal_of (last_duration d) ≡ 0
unfolding last_duration
duration_none (Lasts d) = refl
duration_none Cancels = refl
duration_none Omitted = refl

slot_none : (s : Slots) (i : ℕ) → refusal_of (slot_answer s i) ≡ 0
unfolding slot_answer
slot_none s i = by (slot s i)
  where
    by : (x : Option ℕ) → refusal_of (level_or_absent x) ≡ 0
    by None = unfold level_or_absent in refl
    by (Some v) = unfold level_or_absent level_answer in refl

read_property_not_one : (tenant : Bool) (t : ℕ) (o : Output) (n : Property) → NotOne (read_property tenant t o n)
unfolding read_property level_answer real_answer when◌then◌else◌
read_property_not_one tenant t o RelinquishDefault = not_one (read_property tenant t o RelinquishDefault) refl
read_property_not_one tenant t o FadeTime = not_one (read_property tenant t o FadeTime) refl
read_property_not_one tenant t o RampRate = not_one (read_property tenant t o RampRate) refl
read_property_not_one tenant t o StepIncrement = not_one (read_property tenant t o StepIncrement) refl
read_property_not_one tenant t o BlinkEnable = not_one (read_property tenant t o BlinkEnable) refl
read_property_not_one tenant t o BlinkTime = not_one (read_property tenant t o BlinkTime) refl
read_property_not_one tenant t o BlinkWarnDelay = not_one (read_property tenant t o BlinkWarnDelay) refl
read_property_not_one tenant t o MinValue = not_one (read_property tenant t o MinValue) refl
read_property_not_one tenant t o MaxValue = not_one (read_property tenant t o MaxValue) refl
read_property_not_one tenant t o CommandPriority = not_one (read_property tenant t o CommandPriority) refl
read_property_not_one tenant t o ElapsedActiveTime = not_one (read_property tenant t o ElapsedActiveTime) refl
read_property_not_one tenant t o PresentValue = not_one (read_property tenant t o PresentValue) refl
read_property_not_one tenant t o ProgressValue = not_one (read_property tenant t o ProgressValue) refl
read_property_not_one tenant t o InProcess = not_one (read_property tenant t o InProcess) refl
read_property_not_one tenant t o LastOperation = not_one (read_property tenant t o LastOperation) refl
read_property_not_one tenant t o LastLevel =
    not_one (read_property tenant t o LastLevel) (real_none (fields_of o.last.operation).level)
read_property_not_one tenant t o LastRate =
    not_one (read_property tenant t o LastRate) (real_none (fields_of o.last.operation).rate)
read_property_not_one tenant t o LastStep =
    not_one (read_property tenant t o LastStep) (real_none (fields_of o.last.operation).step)
read_property_not_one tenant t o LastFadeTime =
    not_one (read_property tenant t o LastFadeTime) (time_none (fields_of o.last.operation).fade)
read_property_not_one tenant t o LastDuration =
    not_one (read_property tenant t o LastDuration) (duration_none o.last.duration)
read_property_not_one tenant t o BinaryActiveValue = not_one (read_property tenant t o BinaryActiveValue) refl
read_property_not_one tenant t o BinaryInactiveValue = not_one (read_property tenant t o BinaryInactiveValue) refl
read_property_not_one tenant t o Polarity = not_one (read_property tenant t o Polarity) refl
read_property_not_one tenant t o BinaryPresentValue = not_one (read_property tenant t o BinaryPresentValue) refl
read_property_not_one tenant t o RelayState = not_one (read_property tenant t o RelayState) refl
read_property_not_one tenant t o (SlotValue i) =
    not_one (read_property tenant t o (SlotValue i))
    (by_bool (hidden tenant i) (λ e. rw e) (λ e. rw e (slot_none o.slots i)))
read_property_not_one tenant t o Unknown = record { other = omega arith }

pub acted_not_one : (tenant : Bool) (t : ℕ) (o : Output) (q : OutputRequest) → NotOne (acted tenant t o q).answer
unfolding acted done unchanged
acted_not_one tenant t o (Write i v) = record { other = omega arith }
acted_not_one tenant t o (Empty i) = record { other = omega arith }
acted_not_one tenant t o (Change n v) =
    by_change (λ (z : Outcome). NotOne z.answer) tenant t o n v (λ r h. record { other = omega arith })
    (λ e e'. record { other = omega arith })
acted_not_one tenant t o (Read n) = read_property_not_one tenant t o n
acted_not_one tenant t o (Commands k) = record { other = omega arith }
