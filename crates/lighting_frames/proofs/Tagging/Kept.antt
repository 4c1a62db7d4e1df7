-- EVERY COMMAND THAT THE PANEL KEEPS (§1): reading what the writer makes of it gives it back, for every
-- command that a string of bytes asks for, in whatever form it came.
use Rattle.std.specs.Prelude.{Option, Some, None, Float, Ok, Err}
use Rattle.lighting_levels.specs.Paper.Choice.{when◌then◌else◌}
use mathlib.Core.Path.{◌≡◌, refl, ap}
use mathlib.Core.Bool.{true}
use mathlib.Core.List.{◌∷◌}
use Prim.Native.Nat.{ℕ, ◌^◌, ◌<◌}
use native.Mathlib.Omega.{arith}
use lib.ListN.{drop}
use Rattle.lighting_outputs.specs.declared.Parameters.{Parameters}
use Rattle.lighting_levels.specs.Paper.Level.{real, level_of, limit_of}
use Rattle.lighting_levels.specs.Paper.Field.{big_endian}
use Rattle.lighting_outputs.specs.Paper.Rows.{row_of, within, is_amount, is_priority}
use Rattle.lighting_outputs.specs.Paper.Operations.{fields_of}
use Rattle.lighting_outputs.specs.Paper.Properties.{change_to, change_by, change_of}
use Rattle.lighting_frames.specs.Paper.Tags.{real_octets, whole_octets, tag_octets, listed, tags_of, command_tags, tagged_body, body_bytes, held_by, operation_of, time_of, own_tags, body_fields, holds_at_most, well_tagged, read_fields, read_body, holds}
use Rattle.lighting_frames.specs.Paper.Frames.{Bytes, Octets, tagged_request, request_of, Kept, asked}
use Rattle.lighting_outputs.specs.Paper.Requests.{level_field_refusal, amount_field_refusal, fields_refusal, command_of, plain_duration, command_request, write_level, write_of, empty_of}
use Rattle.lighting_frames.specs.declared.Action.{Action}
use Rattle.lighting_frames.specs.declared.Action.TheVariants.{WritesLevel, EmptiesSlot, WritesProperty, ReadsProperty, Stops, FadesTo, FadesToOver, RampsTo, RampsToAtRate, StepsUp, StepsDown, StepsUpBy, StepsDownBy, GoesTo, Relinquishes, CommandsTagged}
use Rattle.lighting_outputs.specs.declared.Command.{Command}
use Rattle.lighting_outputs.specs.declared.Operation.{Operation}
use Rattle.lighting_outputs.specs.declared.Operation.TheVariants.{Stop, FadeTo, FadeToOver, RampTo, RampToAtRate, StepUp, StepDown, StepUpBy, StepDownBy, Goto, Relinquish}
use Rattle.lighting_outputs.specs.declared.Property.{Property}
use Rattle.lighting_outputs.specs.declared.Range.{Range}
use Rattle.lighting_outputs.specs.declared.Range.TheVariants.{Percent, Limit, Amount, Whole, Priority, ReadOnly}
use Rattle.lighting_frames.specs.declared.TagContent.{TagContent}
use Rattle.lighting_frames.specs.declared.TagFields.{TagFields}
use Rattle.lighting_outputs.specs.Paper.Answers.{as_request, Request}
use Rattle.lighting_outputs.specs.declared.PanelRequest.TheVariants.{ToOutput}
use Rattle.lighting_outputs.specs.declared.OutputRequest.TheVariants.{Read, Commands}
use Rattle.lighting_levels.proofs.Split.{by_bool}
use Rattle.lighting_frames.proofs.Octets.{dropped_octets, word}
use Rattle.lighting_outputs.proofs.Patterns.{level_field_kept, amount_field_kept}
use Rattle.lighting_outputs.proofs.Rules.CommandRanges.{none_met, Taken, asked_by_request, command_taken}
use Rattle.lighting_frames.proofs.Tagging.Fields.{Fits, AllFit}
use Rattle.lighting_frames.proofs.Tagging.Bodies.{well_tagged_lem, fields_fit}
use Rattle.lighting_frames.proofs.Tagging.Commands.{Word, Exact, ExactOperation, lasting_word, reads_written}
use Rattle.lighting_frames.proofs.Tagging.Only.{IsReal, IsTime, held_word, at_most, operation_of_lem}
use Rattle.lighting_outputs.specs.declared.refusals.Refusal.{Refusal}
use Rattle.lighting_outputs.specs.declared.refusals.Refusal.TheVariants.{NotWritable}

-- AN OPERATION AS FRAMES BRING IT: each REAL has been read from a pattern of 32 bits, and a fade time has 32
-- bits
data Patterned : Option Float → Type 0 where
  pattern : (v : ℕ) → v < 2 ^ 32 → Patterned (Some (real v))
  none : Patterned None

level_exact : {x : Option Float} → Patterned x → level_field_refusal x ≡ None → Exact x
level_exact (pattern v h) r = let k = (level_field_kept v h r).written in (ap real k, rw k h)
level_exact none r = tt

amount_exact : {x : Option Float} → Patterned x → amount_field_refusal x ≡ None → Exact x
amount_exact (pattern v h) r = let k = (amount_field_kept v h r).written in (ap real k, rw k h)
amount_exact none r = tt

record Brought (o : Operation) : Type 0 where
  level : Patterned (fields_of o).level
  rate : Patterned (fields_of o).rate
  step : Patterned (fields_of o).step
  fade : Word (fields_of o).fade

exact_operation : (p : Parameters) (o : Operation) → Brought o → fields_refusal p (fields_of o) ≡ None → ExactOperation o
exact_operation p o b r =
    let n = none_met p (fields_of o) r in
    record {
      level = level_exact b.level n.level;
      rate = amount_exact b.rate n.rate;
      step = amount_exact b.step n.step;
      fade = b.fade;
    }

-- WHAT A REQUEST ASKS: a command so brought, or none
abbrev AsksNoCommand : Request → Type 0
AsksNoCommand r = (k : Command) → r ≡ Ok (ToOutput (Commands k)) → ◌≡◌ {A = ℕ} 0 1

data Asks (p : Parameters) : Request → Type 0 where
  command : (o : Operation) (duration : Option ℕ) → Brought o → Word duration → Asks p (as_request (command_of p o duration))
  nothing : {r : Request} → AsksNoCommand r → Asks p r

-- kinds 02 to 05 ask for none, and neither does what is refused
refused_none : (r : Refusal) → AsksNoCommand (Err r)
refused_none r = λ k h. cc

reading_none : (n : Property) → AsksNoCommand (Ok (ToOutput (Read n)))
reading_none n = λ k h. cc

level_none : (i : ℕ) (l : Option ℕ) → AsksNoCommand (as_request (write_level i l))
unfolding write_level
level_none i (Some v) = λ k h. cc
level_none i None = refused_none _

write_none : (n x : ℕ) → AsksNoCommand (as_request (write_of n x))
unfolding write_of when◌then◌else◌
write_none n x = by_bool (is_priority n) (λ e. rw e (level_none _ (level_of (real x)))) (λ e. rw e (refused_none _))

empty_none : (n : ℕ) → AsksNoCommand (as_request (empty_of n))
unfolding empty_of when◌then◌else◌
empty_none n = by_bool (is_priority n) (λ e. rw e (λ k h. cc)) (λ e. rw e (refused_none _))

to_none : (n : Property) (l : Option ℕ) → AsksNoCommand (as_request (change_to n l))
unfolding change_to
to_none n (Some v) = λ k h. cc
to_none n None = refused_none _

by_none : (range : Range) (n : Property) (x : ℕ) → AsksNoCommand (as_request (change_by range n x))
unfolding change_by when◌then◌else◌
by_none Percent n x = to_none n (level_of (real x))
by_none Limit n x = to_none n (limit_of (real x))
by_none Amount n x = by_bool (is_amount (real x)) (λ e. rw e (λ k h. cc)) (λ e. rw e (refused_none _))
by_none (Whole low high) n x = by_bool (within low high x) (λ e. rw e (λ k h. cc)) (λ e. rw e (refused_none _))
by_none Priority n x = by_bool (is_priority x) (λ e. rw e (λ k h. cc)) (λ e. rw e (refused_none _))
by_none ReadOnly n x = refused_none NotWritable

change_none : (p : Parameters) (n : Property) (x : ℕ) → AsksNoCommand (as_request (change_of p n x))
unfolding change_of
change_none p n x = by_none (row_of p n) n x

-- the plain kinds
module _ (p : Parameters) (b : Bytes) (octets : Octets b) where
  asks_plain : (o : Operation) (at : ℕ) → Brought o → Asks p (as_request (command_request p o (big_endian 4 b at)))
  unfolding command_request
  asks_plain o at k = command o (plain_duration (big_endian 4 b at)) k (lasting_word (big_endian 4 b at) (word b octets at))

-- and the form in tags
patterned : (x : Option Float) (v : ℕ) → v < 2 ^ 32 → IsReal (real v) x → Patterned x
patterned (Some x) v h e = rw e (pattern v h)
patterned None v h e = none

timed : (t : Option ℕ) (v : ℕ) → v < 2 ^ 32 → IsTime v t → Word t
timed (Some w) v h e = rw e h
timed None v h e = tt

time_word_lem : (f : Option TagContent) → Fits whole_octets f → Word (time_of f)
unfolding time_of held_by
time_word_lem (Some content) h = held_word whole_octets (holds content.count content.value) (omega arith) h
time_word_lem None h = tt

brought : (f : TagFields) → AllFit tag_octets (listed f) → holds_at_most 10 f.operation ≡ true → Brought (operation_of f)
brought f fit known =
    let o = operation_of_lem f (at_most f.operation known) in
    record {
      level = patterned _ (held_by f.level) (held_word real_octets f.level (omega arith) fit.1.0) o.level;
      rate = patterned _ (held_by f.rate) (held_word real_octets f.rate (omega arith) fit.1.1.0) o.rate;
      step = patterned _ (held_by f.step) (held_word real_octets f.step (omega arith) fit.1.1.1.0) o.step;
      fade = timed (fields_of (operation_of f)).fade (held_by f.fade) (held_word whole_octets f.fade (omega arith) fit.1.1.1.1.0) o.fade;
    }

asks_fields : (p : Parameters) (f : TagFields) → AllFit tag_octets (listed f)
    → holds_at_most 10 f.operation ≡ true → Asks p (as_request (tagged_request p (read_fields f)))
unfolding read_fields tagged_request when◌then◌else◌
asks_fields p f fit known =
    by_bool (own_tags (tags_of (operation_of f) (time_of f.duration)) f)
    (λ e. rw e (command (operation_of f) (time_of f.duration) (brought f fit known) (time_word_lem f.duration fit.1.1.1.1.1.0)))
    (λ e. rw e (nothing (refused_none _)))

asks_body : (p : Parameters) (body : Bytes) → Octets body → Asks p (as_request (tagged_request p (read_body body)))
unfolding read_body tagged_request when◌then◌else◌
asks_body p body o =
    by_bool (well_tagged body)
    (λ e. rw e (asks_fields p (body_fields body) (fields_fit body o) (well_tagged_lem body e).known))
    (λ e. rw e (nothing (refused_none _)))

asks : (p : Parameters) (action : Action) (b : Bytes) → Octets b → Asks p (request_of p action b)
unfolding request_of fields_of
asks p WritesLevel b o = nothing (write_none _ _)
asks p EmptiesSlot b o = nothing (empty_none _)
asks p WritesProperty b o = nothing (change_none p _ _)
asks p ReadsProperty b o = nothing (reading_none _)
asks p Stops b o = asks_plain p b o Stop 13 (record { level = none; rate = none; step = none; fade = tt })
asks p FadesTo b o = asks_plain p b o (FadeTo _) 17 (record { level = pattern _ (word b o 13); rate = none; step = none; fade = tt })
asks p FadesToOver b o = asks_plain p b o (FadeToOver _ _) 21 (record { level = pattern _ (word b o 13); rate = none; step = none; fade = word b o 17 })
asks p RampsTo b o = asks_plain p b o (RampTo _) 17 (record { level = pattern _ (word b o 13); rate = none; step = none; fade = tt })
asks p RampsToAtRate b o = asks_plain p b o (RampToAtRate _ _) 21 (record { level = pattern _ (word b o 13); rate = pattern _ (word b o 17); step = none; fade = tt })
asks p StepsUp b o = asks_plain p b o StepUp 13 (record { level = none; rate = none; step = none; fade = tt })
asks p StepsDown b o = asks_plain p b o StepDown 13 (record { level = none; rate = none; step = none; fade = tt })
asks p StepsUpBy b o = asks_plain p b o (StepUpBy _) 17 (record { level = none; rate = none; step = pattern _ (word b o 13); fade = tt })
asks p StepsDownBy b o = asks_plain p b o (StepDownBy _) 17 (record { level = none; rate = none; step = pattern _ (word b o 13); fade = tt })
asks p GoesTo b o = asks_plain p b o (Goto _) 17 (record { level = pattern _ (word b o 13); rate = none; step = none; fade = tt })
asks p Relinquishes b o = asks_plain p b o Relinquish 13 (record { level = none; rate = none; step = none; fade = tt })
asks p CommandsTagged b o = asks_body p (drop 13 b) (dropped_octets 13 b o)

-- THE 18 BYTES are what the writer answers: L, and the 17
pub writers_bytes : (k : Command) → body_bytes (command_tags k) ≡ (tagged_body k).length ∷ (tagged_body k).bytes
unfolding body_bytes tagged_body
writers_bytes k = refl

-- READ AGAIN: the writer's form of what was asked asks for it
tags_taken : (p : Parameters) (o : Operation) (duration : Option ℕ) (k : Command) → Taken p o duration k → command_tags k ≡ tags_of o duration
unfolding command_tags
tags_taken p o duration k t = rw (t.operation, t.lasting)

again : (p : Parameters) (r : Request) (k : Command) → Asks p r → r ≡ Ok (ToOutput (Commands k))
    → tagged_request p (read_body (body_bytes (command_tags k))) ≡ Ok (Commands k)
unfolding tagged_request
again p r k (command o duration brought word) h =
    let asked_so = asked_by_request (command_of p o duration) h in
    let t = command_taken p o duration k asked_so in
    rw (tags_taken p o duration k t, reads_written o duration (exact_operation p o brought t.ranges) word) asked_so
again p r k (nothing never) h = let z = never k h in absurd (omega arith)

pub gives_back : (p : Parameters) (k : Command) → Kept p k → tagged_request p (read_body (body_bytes (command_tags k))) ≡ Ok (Commands k)
gives_back p k (asked action b o h) = again p (request_of p action b) k (asks p action b o) h
