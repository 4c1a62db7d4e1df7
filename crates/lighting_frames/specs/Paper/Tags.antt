-- §1, 'LIGHTING COMMANDS IN BACNET'S OWN TAGGING': a command as clause 21 has it, in the context tags of
-- clause 20.2, written and read. The reading is of the form alone, refusals 14 and 15: what is read meets the
-- ranges of the plain kinds (`command_of`, Frames.antt).
use Rattle.std.specs.Prelude.{Bool, true, false, List, ◌∷◌, ◌++◌, [], ℕ, suc, ◌+◌, ◌-◌, ◌*◌, leb, ltb, eqb, Float, length, get_or, take, drop, replicate, Option, Some, None, Result, Err, Ok}
use Rattle.lighting_levels.specs.Paper.Choice.{when◌then◌else◌, ◌also◌, all_from}
use Rattle.lighting_levels.specs.Paper.Level.{real, bits}
use Rattle.lighting_levels.specs.Paper.Field.{byte_at, big_endian, octets}
use Rattle.lighting_outputs.specs.Paper.Rows.{within}
use Rattle.lighting_outputs.specs.Paper.Operations.{operation_number, fields_of, duration_field}
use Rattle.lighting_outputs.specs.declared.Operation.{Operation}
use Rattle.lighting_outputs.specs.declared.Operation.TheVariants.{Stop, FadeTo, FadeToOver, RampTo, RampToAtRate, StepUp, StepDown, StepUpBy, StepDownBy, Goto, Relinquish}
use Rattle.lighting_outputs.specs.declared.Command.{Command}
use Rattle.lighting_frames.specs.declared.TagContent.{TagContent}
use Rattle.lighting_frames.specs.declared.TagFields.{TagFields}
use Rattle.lighting_frames.specs.declared.TaggedBody.{TaggedBody}
use Rattle.lighting_frames.specs.declared.TaggedCommand.{TaggedCommand}
use Rattle.lighting_outputs.specs.declared.refusals.Refusal.{Refusal}
use Rattle.lighting_outputs.specs.declared.refusals.Refusal.TheVariants.{BadTags, BadFields}

-- A TAG. 'context tags (clause 20.2)': one octet before the content: the tag's number in the four high bits,
-- bit 3 set for a context tag, and in the three low bits of how many octets the content is
abbrev pub context_tag : ℕ → ℕ → ℕ
context_tag number count = number * 16 + 8 + count

-- 'Whole numbers use the fewest octets, 1 to 4'
unfoldable pub fewest_octets : ℕ → ℕ
fewest_octets v = when ltb v 0x100 then 1 else when ltb v 0x1_0000 then 2 else when ltb v 0x100_0000 then 3 else 4

-- of how many octets a field's content may be
pub record OctetRange : Type 0 where
  pub least : ℕ
  pub most : ℕ

abbrev pub one_octet : OctetRange
one_octet = record { least = 1; most = 1 }

abbrev pub real_octets : OctetRange
real_octets = record { least = 4; most = 4 }

abbrev pub whole_octets : OctetRange
whole_octets = record { least = 1; most = 4 }

-- THE FIELDS 'in rising order: 0 operation in one octet, 1 level, 2 rate, 3 step, 4 fade time, 5 duration'
abbrev pub tag_octets : List OctetRange
tag_octets = one_octet ∷ real_octets ∷ real_octets ∷ real_octets ∷ whole_octets ∷ whole_octets ∷ []

abbrev pub listed : TagFields → List (Option TagContent)
listed f = f.operation ∷ f.level ∷ f.rate ∷ f.step ∷ f.fade ∷ f.duration ∷ []

abbrev pub named : List (Option TagContent) → TagFields
named fields =
    record {
      operation = get_or fields 0 None;
      level = get_or fields 1 None;
      rate = get_or fields 2 None;
      step = get_or fields 3 None;
      fade = get_or fields 4 None;
      duration = get_or fields 5 None;
    }

-- a field that is there
abbrev pub holds : ℕ → ℕ → Option TagContent
holds count value = Some (record { count = count; value = value })

-- how many bytes a field takes, its tag among them, and several
unfoldable pub field_size : Option TagContent → ℕ
field_size (Some content) = suc content.count
field_size None = 0

unfoldable pub sizes : List (Option TagContent) → ℕ
sizes [] = 0
sizes (field ∷ fields) = field_size field + sizes fields

-- WRITTEN: the bytes of a field with its number, and of fields whose numbers go up from `number`
unfoldable pub field_bytes : ℕ → Option TagContent → List ℕ
field_bytes number (Some content) = context_tag number content.count ∷ octets content.count content.value
field_bytes number None = []

unfoldable pub bytes_from : ℕ → List (Option TagContent) → List ℕ
bytes_from number [] = []
bytes_from number (field ∷ fields) = field_bytes number field ++ bytes_from (suc number) fields

unfoldable pub tag_bytes : TagFields → List ℕ
tag_bytes f = bytes_from 0 (listed f)

-- what a field holds: a REAL's four octets; a whole number's fewest; nothing
unfoldable pub real_tag : Option Float → Option TagContent
real_tag (Some x) = holds 4 (bits x)
real_tag None = None

unfoldable pub whole_tag : Option ℕ → Option TagContent
whole_tag (Some v) = holds (fewest_octets v) v
whole_tag None = None

-- an operation with its own fields, and a duration
unfoldable pub tags_of : Operation → Option ℕ → TagFields
tags_of operation duration =
    let own = fields_of operation in
    record {
      operation = holds 1 (operation_number operation);
      level = real_tag own.level;
      rate = real_tag own.rate;
      step = real_tag own.step;
      fade = whole_tag own.fade;
      duration = whole_tag duration;
    }

unfoldable pub command_tags : Command → TagFields
command_tags k = tags_of k.operation (duration_field k.duration)

-- 'then 17 bytes, those beyond L zero'
abbrev pub most_tagged : ℕ
most_tagged = 17

unfoldable pub zero_filled : List ℕ → List ℕ
zero_filled tags = tags ++ replicate (most_tagged - length tags) 0

-- THE WRITER: L and the 17 bytes, from a command; and the 18 bytes as a frame carries them
unfoldable pub tagged_body : Command → TaggedBody
tagged_body k = record { length = length (tag_bytes (command_tags k)); bytes = zero_filled (tag_bytes (command_tags k)) }

unfoldable pub body_bytes : TagFields → List ℕ
body_bytes f = length (tag_bytes f) ∷ zero_filled (tag_bytes f)

-- READ: the field with this number at the head of what is left of the L bytes. It is there if its tag is,
-- with a length that it may have, and its content does not run past L
unfoldable pub field_in : ℕ → OctetRange → List ℕ → Option TagContent
field_in number allowed left =
    let count = byte_at left 0 - context_tag number 0 in
    when within (context_tag number allowed.least) (context_tag number allowed.most) (byte_at left 0) also ltb count (length left)
    then holds count (big_endian count left 1)
    else None

-- 'in rising order': each field is looked for once, behind those of lower numbers. A tag out of order, of
-- another number or length, or no context tag at all is not taken, and the bytes are not used up
unfoldable pub fields_from : ℕ → List OctetRange → List ℕ → List (Option TagContent)
fields_from number [] left = []
fields_from number (allowed ∷ more) left =
    field_in number allowed left ∷ fields_from (suc number) more (drop (field_size (field_in number allowed left)) left)

-- of a body, 'a length L from 2 to 17, then 17 bytes'
abbrev pub length_of : List ℕ → ℕ
length_of body = byte_at body 0

unfoldable pub body_fields : List ℕ → TagFields
body_fields body = named (fields_from 0 tag_octets (take (length_of body) (drop 1 body)))

-- '14: L, tag, tag order, tag length or padding wrong, or an operation above 10': judged over the whole body,
-- before any 15
unfoldable pub zero_beyond : List ℕ → Bool
zero_beyond body = all_from (λ (i : ℕ). eqb (byte_at body i) 0) (most_tagged - length_of body) (suc (length_of body))

unfoldable pub holds_at_most : ℕ → Option TagContent → Bool
holds_at_most most (Some content) = leb content.value most
holds_at_most most None = true

unfoldable pub well_tagged : List ℕ → Bool
well_tagged body =
    within 2 most_tagged (length_of body)
    also eqb (sizes (listed (body_fields body))) (length_of body)
    also zero_beyond body
    also holds_at_most 10 (body_fields body).operation

-- THE OPERATION with the number of tag 0, and what the fields hold
-- What stands for a missing field decides nothing: an operation that has that field is 15 then (`own_tags`)
unfoldable pub held_by : Option TagContent → ℕ
held_by (Some content) = content.value
held_by None = 0

abbrev pub operations : Float → Float → Float → ℕ → List Operation
operations level rate step fade =
    Stop
    ∷ FadeTo level
    ∷ FadeToOver level fade
    ∷ RampTo level
    ∷ RampToAtRate level rate
    ∷ StepUp
    ∷ StepDown
    ∷ StepUpBy step
    ∷ StepDownBy step
    ∷ Goto level
    ∷ Relinquish
    ∷ []

unfoldable pub operation_of : TagFields → Operation
operation_of f =
    get_or
    (operations (real (held_by f.level)) (real (held_by f.rate)) (real (held_by f.step)) (held_by f.fade))
    (held_by f.operation)
    Stop

unfoldable pub time_of : Option TagContent → Option ℕ
time_of (Some content) = Some content.value
time_of None = None

-- '15: field missing, foreign, or not in fewest octets'. 'The operation's own fields must be there and no
-- others', the operation itself too; a REAL's octets are always four
unfoldable pub both_or_neither : Option TagContent → Option TagContent → Bool
both_or_neither (Some content) (Some content') = true
both_or_neither (Some content) None = false
both_or_neither None (Some content) = false
both_or_neither None None = true

unfoldable pub fewest : Option TagContent → Bool
fewest (Some content) = eqb content.count (fewest_octets content.value)
fewest None = true

unfoldable pub own_tags : TagFields → TagFields → Bool
own_tags own f =
    both_or_neither own.operation f.operation
    also both_or_neither own.level f.level
    also both_or_neither own.rate f.rate
    also both_or_neither own.step f.step
    also both_or_neither own.fade f.fade
    also fewest f.fade
    also fewest f.duration

-- a body that is read
abbrev pub reads : Operation → Option ℕ → Result TaggedCommand Refusal
reads operation duration = Ok (record { operation = operation; duration = duration })

-- THE READING of a body: its operation and its duration, or 14, or 15
unfoldable pub read_fields : TagFields → Result TaggedCommand Refusal
read_fields f =
    when own_tags (tags_of (operation_of f) (time_of f.duration)) f then reads (operation_of f) (time_of f.duration) else Err BadFields

unfoldable pub read_body : List ℕ → Result TaggedCommand Refusal
read_body body = when well_tagged body then read_fields (body_fields body) else Err BadTags
