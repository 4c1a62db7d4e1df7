-- THE WRITER AND THE READER of a command in tags (§1): reading what the writer made gives the command back,
-- and no other bytes do.
use Rattle.std.specs.Prelude.{Option, Some, None}
use Rattle.lighting_levels.specs.Paper.Choice.{when◌then◌else◌}
use mathlib.Core.Path.{◌≡◌, refl, ap, ap₂}
use mathlib.Core.Bool.{true}
use Prim.Native.Nat.{ℕ, ◌^◌, ◌≤◌, ◌<◌}
use native.Mathlib.Omega.{arith}
use lib.Dec.{eqb}
use lib.Ieee.{Float}
use Rattle.lighting_levels.specs.Paper.Level.{real, bits}
use Rattle.lighting_outputs.specs.Paper.Operations.{operation_number, fields_of}
use Rattle.lighting_frames.specs.Paper.Tags.{fewest_octets, real_octets, whole_octets, tag_octets, listed, field_size, sizes, real_tag, whole_tag, tags_of, most_tagged, body_bytes, holds_at_most, well_tagged, held_by, operation_of, time_of, both_or_neither, fewest, own_tags, read_fields, read_body, holds, reads}
use Rattle.lighting_outputs.specs.Paper.Requests.{plain_duration}
use Rattle.lighting_outputs.specs.declared.Operation.{Operation}
use Rattle.lighting_outputs.specs.declared.Operation.TheVariants.{Stop, FadeTo, FadeToOver, RampTo, RampToAtRate, StepUp, StepDown, StepUpBy, StepDownBy, Goto, Relinquish}
use Rattle.lighting_frames.specs.declared.TagContent.{TagContent}
use Rattle.lighting_levels.proofs.Split.{also_yes, by_bool, by_lt, leb_yes, eqb_hit}
use Rattle.lighting_frames.proofs.Tagging.Fields.{Fits, AllFit}
use Rattle.lighting_frames.proofs.Tagging.Bodies.{fields_read, sizes_written, well_written}

-- A WHOLE NUMBER in the fewest octets, and read back
pub fewest_fit : (v : ℕ) → v < 2 ^ 32 → Fits whole_octets (holds (fewest_octets v) v)
unfolding fewest_octets when◌then◌else◌
fewest_fit v h =
    by_lt v 0x100 (λ l e. rw e (omega arith, omega arith, l)) (λ l e. rw e
    (by_lt v 0x1_0000 (λ l e. rw e (omega arith, omega arith, l)) (λ l e. rw e
    (by_lt v 0x100_0000 (λ l e. rw e (omega arith, omega arith, l)) (λ l e. rw e (omega arith, omega arith, h))))))

-- a time of 32 bits, there or not
abbrev pub Word : Option ℕ → Type 0
Word (Some v) = v < 2 ^ 32
Word None = Unit {0}

pub lasting_word : (d : ℕ) → d < 2 ^ 32 → Word (plain_duration d)
unfolding plain_duration when◌then◌else◌
lasting_word d h = by_bool (eqb d 0xffff_ffff) (λ e. rw e tt) (λ e. rw e h)

pub whole_fit : (t : Option ℕ) → Word t → Fits whole_octets (whole_tag t)
unfolding whole_tag
whole_fit (Some v) h = fewest_fit v h
whole_fit None h = tt

pub whole_read : (t : Option ℕ) → time_of (whole_tag t) ≡ t
unfolding time_of whole_tag
whole_read (Some v) = refl
whole_read None = refl

pub whole_fewest : (t : Option ℕ) → fewest (whole_tag t) ≡ true
unfolding fewest whole_tag
whole_fewest (Some v) = eqb_hit {a = fewest_octets v} refl
whole_fewest None = refl

-- HOW LONG: no field is of more than four octets
fewest_most : (v : ℕ) → fewest_octets v ≤ 4
unfolding fewest_octets when◌then◌else◌
fewest_most v =
    by_lt v 0x100 (λ l e. rw e (omega arith)) (λ l e. rw e
    (by_lt v 0x1_0000 (λ l e. rw e (omega arith)) (λ l e. rw e
    (by_lt v 0x100_0000 (λ l e. rw e (omega arith)) (λ l e. rw e (omega arith))))))

pub whole_size : (t : Option ℕ) → field_size (whole_tag t) ≤ 5
unfolding field_size whole_tag
whole_size (Some v) = omega (arith, fewest_most v)
whole_size None = omega arith

pub real_size : (x : Option Float) → field_size (real_tag x) ≤ 5
unfolding field_size real_tag
real_size (Some x) = omega arith
real_size None = omega arith

-- A REAL that its pattern gives back: any but a NaN
abbrev pub Exact : Option Float → Type 0
Exact (Some x) = (real (bits x) ≡ x) × (bits x < 2 ^ 32)
Exact None = Unit {0}

real_fit : (x : Option Float) → Exact x → Fits real_octets (real_tag x)
unfolding real_tag
real_fit (Some x) e = (omega arith, omega arith, e.1)
real_fit None e = tt

pub record ExactOperation (o : Operation) : Type 0 where
  pub level : Exact (fields_of o).level
  pub rate : Exact (fields_of o).rate
  pub step : Exact (fields_of o).step
  pub fade : Word (fields_of o).fade

-- WRITTEN, THEN READ: the operation
operation_read : (o : Operation) (d : Option ℕ) → ExactOperation o → operation_of (tags_of o d) ≡ o
unfolding operation_of tags_of fields_of operation_number real_tag whole_tag held_by
operation_read Stop d e = refl
operation_read (FadeTo x) d e = ap FadeTo e.level.0
operation_read (FadeToOver x l) d e = ap (λ (y : Float). FadeToOver y l) e.level.0
operation_read (RampTo x) d e = ap RampTo e.level.0
operation_read (RampToAtRate x r) d e = ap₂ RampToAtRate e.level.0 e.rate.0
operation_read StepUp d e = refl
operation_read StepDown d e = refl
operation_read (StepUpBy x) d e = ap StepUpBy e.step.0
operation_read (StepDownBy x) d e = ap StepDownBy e.step.0
operation_read (Goto x) d e = ap Goto e.level.0
operation_read Relinquish d e = refl

pub number_most : (o : Operation) → operation_number o ≤ 10
unfolding operation_number
number_most Stop = omega arith
number_most (FadeTo x) = omega arith
number_most (FadeToOver x l) = omega arith
number_most (RampTo x) = omega arith
number_most (RampToAtRate x r) = omega arith
number_most StepUp = omega arith
number_most StepDown = omega arith
number_most (StepUpBy x) = omega arith
number_most (StepDownBy x) = omega arith
number_most (Goto x) = omega arith
number_most Relinquish = omega arith

both_same : (f : Option TagContent) → both_or_neither f f ≡ true
unfolding both_or_neither
both_same (Some content) = refl
both_same None = refl

-- its own fields, and in the fewest octets
own_written : (o : Operation) (d : Option ℕ) → own_tags (tags_of o d) (tags_of o d) ≡ true
unfolding own_tags tags_of
own_written o d =
    also_yes (both_same _) (also_yes (both_same _) (also_yes (both_same _) (also_yes (both_same _) (also_yes (both_same _)
    (also_yes (whole_fewest (fields_of o).fade) (whole_fewest d))))))

tags_fit : (o : Operation) (d : Option ℕ) → ExactOperation o → Word d → AllFit tag_octets (listed (tags_of o d))
unfolding tags_of
tags_fit o d e w =
    ((omega arith, omega arith, omega (arith, number_most o)), (real_fit _ e.level, (real_fit _ e.rate, (real_fit _ e.step, (whole_fit _ e.fade, (whole_fit d w, tt))))))

-- 'a length L from 2 to 17'
pub sizes_most : (o : Operation) (d : Option ℕ) → (2 ≤ sizes (listed (tags_of o d))) × (sizes (listed (tags_of o d)) ≤ most_tagged)
unfolding tags_of sizes field_size fields_of real_tag whole_tag
sizes_most Stop d = let z = whole_size d in (omega arith, omega arith)
sizes_most (FadeTo x) d = let z = whole_size d in (omega arith, omega arith)
sizes_most (FadeToOver x l) d = let z = whole_size d in let y = fewest_most l in (omega arith, omega arith)
sizes_most (RampTo x) d = let z = whole_size d in (omega arith, omega arith)
sizes_most (RampToAtRate x r) d = let z = whole_size d in (omega arith, omega arith)
sizes_most StepUp d = let z = whole_size d in (omega arith, omega arith)
sizes_most StepDown d = let z = whole_size d in (omega arith, omega arith)
sizes_most (StepUpBy x) d = let z = whole_size d in (omega arith, omega arith)
sizes_most (StepDownBy x) d = let z = whole_size d in (omega arith, omega arith)
sizes_most (Goto x) d = let z = whole_size d in (omega arith, omega arith)
sizes_most Relinquish d = let z = whole_size d in (omega arith, omega arith)

operation_known : (o : Operation) (d : Option ℕ) → holds_at_most 10 (tags_of o d).operation ≡ true
unfolding holds_at_most tags_of
operation_known o d = leb_yes (number_most o)

well_made : (o : Operation) (d : Option ℕ) → ExactOperation o → Word d → well_tagged (body_bytes (tags_of o d)) ≡ true
well_made o d e w =
    let s = sizes_most o d in
    let n = sizes_written (tags_of o d) in
    well_written (tags_of o d) (tags_fit o d e w) (omega arith) (omega arith) (operation_known o d)

fields_made : (o : Operation) (d : Option ℕ) → ExactOperation o → read_fields (tags_of o d) ≡ reads o d
unfolding read_fields when◌then◌else◌
fields_made o d e = rw (operation_read o d e, duration_read, own_written o d)
  where
    duration_read : time_of (tags_of o d).duration ≡ d
    duration_read = unfold tags_of in (whole_read d)

-- READING WHAT THE WRITER MADE gives back the operation and its duration
pub reads_written : (o : Operation) (d : Option ℕ) → ExactOperation o → Word d → read_body (body_bytes (tags_of o d)) ≡ reads o d
unfolding read_body when◌then◌else◌
reads_written o d e w = rw (well_made o d e w, fields_read (tags_of o d) (tags_fit o d e w)) (fields_made o d e)
