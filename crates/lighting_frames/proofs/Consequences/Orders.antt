-- COMMAND, THEN READ 0F to 14: kind k, 10 to 1A, with the 32-bit fields x, y, z, answered Done; then kind 05
-- answers the fields as they were sent, Absent where the operation has none.
use Rattle.std.specs.Prelude.{None, Option, Some}
use mathlib.Core.Path.{◌≡◌, refl, ◌∙◌}
use mathlib.Core.List.{List, [], ◌∷◌, map}
use Prim.Native.Nat.{ℕ, ◌^◌, ◌<◌}
use lib.Dec.{eqb}
use Rattle.lighting_levels.specs.Paper.Choice.{when◌then◌else◌}
use Rattle.lighting_outputs.specs.Paper.Answers.{as_request}
use Rattle.lighting_outputs.specs.declared.Parameters.{Parameters}
use Rattle.lighting_levels.specs.Paper.Level.{real}
use Rattle.lighting_levels.specs.Paper.Field.{big_endian}
use Rattle.lighting_outputs.specs.Paper.Rows.{within}
use Rattle.lighting_outputs.specs.Paper.Passing.{after_events}
use Rattle.lighting_outputs.specs.Paper.Operations.{operation_number, fields_of}
use Rattle.lighting_outputs.specs.Paper.Properties.{numbered, property_of, real_answer, real_field_answer, time_field_answer, last_duration, read_property}
use Rattle.lighting_outputs.specs.Paper.Record.{with_command}
use Rattle.lighting_outputs.specs.Paper.Commands.{commanded_from, commanded}
use Rattle.lighting_outputs.specs.Paper.Acting.{done, unchanged, acted, served}
use Rattle.lighting_frames.specs.Paper.Kinds.{kind_row}
use Rattle.lighting_frames.specs.Paper.Frames.{Bytes, request_of}
use Rattle.lighting_outputs.specs.Paper.Requests.{fields_refusal, plain_duration, command_lasting, command_of, command_with_duration, command_request_by, command_request}
use Rattle.lighting_outputs.specs.declared.Answer.{Answer}
use Rattle.lighting_outputs.specs.declared.Answer.TheVariants.{Done, Value, Absent}
use Rattle.lighting_outputs.specs.declared.Operation.{Operation}
use Rattle.lighting_outputs.specs.declared.Operation.TheVariants.{Stop, FadeTo, FadeToOver, RampTo, RampToAtRate, StepUp, StepDown, StepUpBy, StepDownBy, Goto, Relinquish}
use Rattle.lighting_outputs.specs.declared.Output.{Output}
use Rattle.lighting_levels.proofs.Split.{by_bool, by_eq}
use Rattle.lighting_outputs.proofs.Rules.CommandRanges.{none_met}
use Rattle.lighting_outputs.proofs.Patterns.{level_field_kept, amount_field_kept}
use Rattle.lighting_frames.proofs.Consequences.Bytes.{asked}
use Rattle.lighting_outputs.proofs.Consequences.Alone.{alone}
use Rattle.lighting_outputs.proofs.Consequences.Reads.{reads, refused}
use Rattle.lighting_outputs.specs.declared.refusals.Refusal.{Refusal}

-- properties 0F to 14: last operation, level, rate, step, fade time, duration
abbrev pub last : ℕ → Output → List Answer
last t o = map (reads t o) (0x0f ∷ 0x10 ∷ 0x11 ∷ 0x12 ∷ 0x13 ∷ 0x14 ∷ [])

-- 'FFFFFFFF means absent'
abbrev pub lasting_read : ℕ → Answer
lasting_read d = when eqb d 0xffff_ffff then Absent else Value d

-- THE TABLE OF KINDS, as a command reads back: its fields in the order of the frame are x, y, z
abbrev pub sent : ℕ → ℕ → ℕ → ℕ → List Answer
sent k x y z =
    when eqb k 0x10 then Value 0 ∷ Absent ∷ Absent ∷ Absent ∷ Absent ∷ lasting_read x ∷ []
    else when eqb k 0x11 then Value 1 ∷ Value x ∷ Absent ∷ Absent ∷ Absent ∷ lasting_read y ∷ []
    else when eqb k 0x12 then Value 2 ∷ Value x ∷ Absent ∷ Absent ∷ Value y ∷ lasting_read z ∷ []
    else when eqb k 0x13 then Value 3 ∷ Value x ∷ Absent ∷ Absent ∷ Absent ∷ lasting_read y ∷ []
    else when eqb k 0x14 then Value 4 ∷ Value x ∷ Value y ∷ Absent ∷ Absent ∷ lasting_read z ∷ []
    else when eqb k 0x15 then Value 5 ∷ Absent ∷ Absent ∷ Absent ∷ Absent ∷ lasting_read x ∷ []
    else when eqb k 0x16 then Value 6 ∷ Absent ∷ Absent ∷ Absent ∷ Absent ∷ lasting_read x ∷ []
    else when eqb k 0x17 then Value 7 ∷ Absent ∷ Absent ∷ Value x ∷ Absent ∷ lasting_read y ∷ []
    else when eqb k 0x18 then Value 8 ∷ Absent ∷ Absent ∷ Value x ∷ Absent ∷ lasting_read y ∷ []
    else when eqb k 0x19 then Value 9 ∷ Value x ∷ Absent ∷ Absent ∷ Absent ∷ lasting_read y ∷ []
    else Value 10 ∷ Absent ∷ Absent ∷ Absent ∷ Absent ∷ lasting_read x ∷ []

-- what reads back of an operation k with the duration field d
abbrev back : Operation → ℕ → List Answer
back k d =
    let f = fields_of k in
    Value (operation_number k)
    ∷ real_field_answer f.level
    ∷ real_field_answer f.rate
    ∷ real_field_answer f.step
    ∷ time_field_answer f.fade
    ∷ lasting_read d
    ∷ []

module _ (p : Parameters) (t t' : ℕ) (o : Output) where
  -- an operation whose fields are in range, and any
  of_command_with_duration : (k : Operation) (d : ℕ)
      → (alone t o (as_request (command_with_duration p k (plain_duration d)))).answer ≡ Done
      → last t' (alone t o (as_request (command_with_duration p k (plain_duration d)))).output ≡ back k d
  unfolding acted served done unchanged after_events plain_duration command_with_duration command_lasting commanded commanded_from with_command property_of numbered read_property last_duration when◌then◌else◌
  of_command_with_duration k d =
      by_eq d 0xffff_ffff
      (λ u e. rw e (λ h. refl))
      (λ u e. rw e
      (by_eq d 0
      (λ q f. rw f (λ h. rw q))
      (λ q f. rw f (by_bool (within 100 p.duration d) (λ g. rw g (λ h. refl)) (λ g. rw g (λ h. refused h))))))

  by_met : (met : Option Refusal) (k : Operation) (d : ℕ) (l : List Answer) → (met ≡ None → back k d ≡ l)
      → (alone t o (as_request (command_request_by p met k (plain_duration d)))).answer ≡ Done
      → last t' (alone t o (as_request (command_request_by p met k (plain_duration d)))).output ≡ l
  unfolding command_request_by
  by_met (Some refusal) k d l f h = unfold served in (refused h)
  by_met None k d l f h = of_command_with_duration k d h ∙ f refl

  of_command_request : (k : Operation) (d : ℕ) (l : List Answer) → (fields_refusal p (fields_of k) ≡ None → back k d ≡ l)
      → (alone t o (as_request (command_request p k d))).answer ≡ Done
      → last t' (alone t o (as_request (command_request p k d))).output ≡ l
  unfolding command_request command_of
  of_command_request k d l f = by_met (fields_refusal p (fields_of k)) k d l f

  -- A FRAME of kind k: its fields are the words at 13, 17 and 21
  module _ (b : Bytes) where
    abbrev x : ℕ
    x = big_endian 4 b 13

    abbrev y : ℕ
    y = big_endian 4 b 17

    abbrev z : ℕ
    z = big_endian 4 b 21

    -- 'fields left to right', the duration last
    pub commands_asked : map (λ (k : ℕ). asked p k b) (0x10 ∷ 0x11 ∷ 0x12 ∷ 0x13 ∷ 0x14 ∷ 0x15 ∷ 0x16 ∷ 0x17 ∷ 0x18 ∷ 0x19 ∷ 0x1a ∷ [])
        ≡ as_request (command_request p Stop x)
        ∷ as_request (command_request p (FadeTo (real x)) y)
        ∷ as_request (command_request p (FadeToOver (real x) y) z)
        ∷ as_request (command_request p (RampTo (real x)) y)
        ∷ as_request (command_request p (RampToAtRate (real x) (real y)) z)
        ∷ as_request (command_request p StepUp x)
        ∷ as_request (command_request p StepDown x)
        ∷ as_request (command_request p (StepUpBy (real x)) y)
        ∷ as_request (command_request p (StepDownBy (real x)) y)
        ∷ as_request (command_request p (Goto (real x)) y)
        ∷ as_request (command_request p Relinquish x)
        ∷ []
    unfolding kind_row request_of when◌then◌else◌
    commands_asked = refl

    abbrev Then : ℕ → Type 0
    Then k = (alone t o (asked p k b)).answer ≡ Done → last t' (alone t o (asked p k b)).output ≡ sent k x y z

    pub stop : Then 0x10
    unfolding kind_row request_of operation_number fields_of real_field_answer time_field_answer real_answer when◌then◌else◌
    stop = of_command_request Stop x (sent 0x10 x y z) (λ u. refl)

    pub step_up : Then 0x15
    unfolding kind_row request_of operation_number fields_of real_field_answer time_field_answer real_answer when◌then◌else◌
    step_up = of_command_request StepUp x (sent 0x15 x y z) (λ u. refl)

    pub step_down : Then 0x16
    unfolding kind_row request_of operation_number fields_of real_field_answer time_field_answer real_answer when◌then◌else◌
    step_down = of_command_request StepDown x (sent 0x16 x y z) (λ u. refl)

    pub relinquish : Then 0x1a
    unfolding kind_row request_of operation_number fields_of real_field_answer time_field_answer real_answer when◌then◌else◌
    relinquish = of_command_request Relinquish x (sent 0x1a x y z) (λ u. refl)

    pub fade_to : x < 2 ^ 32 → Then 0x11
    unfolding kind_row request_of operation_number fields_of real_field_answer time_field_answer real_answer when◌then◌else◌
    fade_to h = of_command_request (FadeTo (real x)) y (sent 0x11 x y z) (λ u. rw (level_field_kept x h (none_met p _ u).level).written)

    pub ramp_to : x < 2 ^ 32 → Then 0x13
    unfolding kind_row request_of operation_number fields_of real_field_answer time_field_answer real_answer when◌then◌else◌
    ramp_to h = of_command_request (RampTo (real x)) y (sent 0x13 x y z) (λ u. rw (level_field_kept x h (none_met p _ u).level).written)

    pub goto : x < 2 ^ 32 → Then 0x19
    unfolding kind_row request_of operation_number fields_of real_field_answer time_field_answer real_answer when◌then◌else◌
    goto h = of_command_request (Goto (real x)) y (sent 0x19 x y z) (λ u. rw (level_field_kept x h (none_met p _ u).level).written)

    pub step_up_by : x < 2 ^ 32 → Then 0x17
    unfolding kind_row request_of operation_number fields_of real_field_answer time_field_answer real_answer when◌then◌else◌
    step_up_by h = of_command_request (StepUpBy (real x)) y (sent 0x17 x y z) (λ u. rw (amount_field_kept x h (none_met p _ u).step).written)

    pub step_down_by : x < 2 ^ 32 → Then 0x18
    unfolding kind_row request_of operation_number fields_of real_field_answer time_field_answer real_answer when◌then◌else◌
    step_down_by h = of_command_request (StepDownBy (real x)) y (sent 0x18 x y z) (λ u. rw (amount_field_kept x h (none_met p _ u).step).written)

    -- level, fade time, duration
    pub fade_to_over : x < 2 ^ 32 → Then 0x12
    unfolding kind_row request_of operation_number fields_of real_field_answer time_field_answer real_answer when◌then◌else◌
    fade_to_over h = of_command_request (FadeToOver (real x) y) z (sent 0x12 x y z) (λ u. rw (level_field_kept x h (none_met p _ u).level).written)

    -- level, rate, duration
    pub ramp_to_at_rate : x < 2 ^ 32 → y < 2 ^ 32 → Then 0x14
    unfolding kind_row request_of operation_number fields_of real_field_answer time_field_answer real_answer when◌then◌else◌
    ramp_to_at_rate h k = of_command_request (RampToAtRate (real x) (real y)) z (sent 0x14 x y z) (λ u. rw ((level_field_kept x h (none_met p _ u).level).written, (amount_field_kept y k (none_met p _ u).rate).written))
