-- WHAT A REQUEST READS OF A SET: of every kind one of these. It reads none; it is refused by its form; a
-- property is written; or it is a command, plain or in tags. And the fade time that its bytes carry (§7) is
-- the one that is written, or the command's. Two sets are compared by it (OutputCount.antt,
-- ShorterFade.antt).
use Rattle.std.specs.Prelude.{Option, Some, None, Err}
use mathlib.Core.Path.{◌≡◌, refl, sym, ap, ◌∙◌}
use mathlib.Core.Bool.{true}
use Prim.Native.Nat.{ℕ}
use native.Mathlib.Omega.{arith}
use lib.ListN.{drop}
use Rattle.lighting_levels.specs.Paper.Choice.{when◌then◌else◌}
use Rattle.lighting_levels.specs.Paper.Field.{byte_at}
use Rattle.lighting_outputs.specs.declared.Parameters.{Parameters}
use Rattle.lighting_outputs.specs.Paper.Properties.{same, change_of}
use Rattle.lighting_outputs.specs.Paper.Operations.{fields_of}
use Rattle.lighting_outputs.specs.Paper.Requests.{command_of, command_request}
use Rattle.lighting_frames.specs.Paper.Tags.{tags_of, operation_of, time_of, own_tags, holds_at_most, well_tagged, body_fields, read_fields, read_body}
use Rattle.lighting_frames.specs.Paper.Frames.{Bytes, tagged_request, request_of}
use Rattle.lighting_frames.specs.Paper.FadeTimes.{fade_time_in}
use Rattle.lighting_outputs.specs.declared.Operation.{Operation}
use Rattle.lighting_outputs.specs.declared.Property.{Property}
use Rattle.lighting_outputs.specs.declared.Property.TheVariants.{FadeTime}
use Rattle.lighting_outputs.specs.Paper.Answers.{as_request, Request}
use Rattle.lighting_frames.specs.declared.Action.{Action}
use Rattle.lighting_frames.specs.declared.Action.TheVariants.{WritesLevel, EmptiesSlot, WritesProperty, ReadsProperty, Stops, FadesTo, FadesToOver, RampsTo, RampsToAtRate, StepsUp, StepsDown, StepsUpBy, StepsDownBy, GoesTo, Relinquishes, CommandsTagged}
use Rattle.lighting_frames.specs.declared.TagFields.{TagFields}
use Rattle.lighting_levels.proofs.Split.{by_bool, also_both}
use Rattle.lighting_outputs.proofs.Rules.Rows.{same_number}
use Rattle.lighting_frames.proofs.KindTable.{action_byte}
use Rattle.lighting_frames.proofs.Tagging.Bodies.{well_tagged_lem}
use Rattle.lighting_frames.proofs.Tagging.Commands.{whole_read}
use Rattle.lighting_frames.proofs.Tagging.Only.{operation_of_lem, at_most, time_same}
use Rattle.lighting_outputs.specs.declared.refusals.Refusal.{Refusal}
use Rattle.lighting_outputs.specs.declared.refusals.Refusal.TheVariants.{BadTags, BadFields}

pub data SetRead (action : Action) (b : Bytes) : Type 0 where
  none : {request : Request} → ((p : Parameters) → request_of p action b ≡ request)
      → fade_time_in b ≡ None → SetRead action b
  refuses : {refusal : Refusal} → ((p : Parameters) → request_of p action b ≡ Err refusal) → SetRead action b
  writes : (property : Property) (x : ℕ) → ((p : Parameters) → request_of p action b ≡ as_request (change_of p property x))
      → fade_time_in b ≡ (when same FadeTime property then Some x else None) → SetRead action b
  commands : (operation : Operation) (duration : Option ℕ)
      → ((p : Parameters) → request_of p action b ≡ as_request (command_of p operation duration))
      → fade_time_in b ≡ (fields_of operation).fade → SetRead action b

-- THE FADE TIME OF A COMMAND IN TAGS, where its body is readable, is the one that tag 4 holds
own_fade : (f : TagFields) → holds_at_most 10 f.operation ≡ true
    → own_tags (tags_of (operation_of f) (time_of f.duration)) f ≡ true
    → time_of f.fade ≡ (fields_of (operation_of f)).fade
unfolding own_tags tags_of
own_fade f known own =
    let later = (also_both (also_both (also_both (also_both own).1).1).1).1 in
    let fade = also_both later in
    let its = (operation_of_lem f (at_most f.operation known)).fade in
    let is = time_same (fields_of (operation_of f)).fade f.fade its (also_both fade.1).0 fade.0 in
    sym (ap time_of is) ∙ whole_read (fields_of (operation_of f)).fade

-- EVERY KIND, by its byte
pub set_read : (action : Action) (b : Bytes) → byte_at b 0 ≡ action_byte action → SetRead action b
unfolding fade_time_in fields_of request_of command_request read_body read_fields tagged_request when◌then◌else◌
set_read WritesLevel b byte = none (λ p. refl) (rw byte)
set_read EmptiesSlot b byte = none (λ p. refl) (rw byte)
set_read WritesProperty b byte =
    let numbered = same_number FadeTime (byte_at b 13) (omega arith) (omega arith) in
    writes _ _ (λ p. refl) (rw (byte, numbered))
set_read ReadsProperty b byte = none (λ p. refl) (rw byte)
set_read Stops b byte = commands _ _ (λ p. refl) (rw byte)
set_read FadesTo b byte = commands _ _ (λ p. refl) (rw byte)
set_read FadesToOver b byte = commands _ _ (λ p. refl) (rw byte)
set_read RampsTo b byte = commands _ _ (λ p. refl) (rw byte)
set_read RampsToAtRate b byte = commands _ _ (λ p. refl) (rw byte)
set_read StepsUp b byte = commands _ _ (λ p. refl) (rw byte)
set_read StepsDown b byte = commands _ _ (λ p. refl) (rw byte)
set_read StepsUpBy b byte = commands _ _ (λ p. refl) (rw byte)
set_read StepsDownBy b byte = commands _ _ (λ p. refl) (rw byte)
set_read GoesTo b byte = commands _ _ (λ p. refl) (rw byte)
set_read Relinquishes b byte = commands _ _ (λ p. refl) (rw byte)
set_read CommandsTagged b byte =
    let body = drop 13 b in
    let f = body_fields body in
    by_bool (well_tagged body)
    (λ well.
    by_bool (own_tags (tags_of (operation_of f) (time_of f.duration)) f)
    (λ own.
    let carried = own_fade f (well_tagged_lem body well).known own in
    commands (operation_of f) (time_of f.duration) (λ p. rw (well, own)) (rw byte carried))
    (λ foreign. refuses {refusal = BadFields} (λ p. rw (well, foreign))))
    (λ ill. refuses {refusal = BadTags} (λ p. rw ill))
