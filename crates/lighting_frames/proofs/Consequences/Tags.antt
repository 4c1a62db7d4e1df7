-- §1, AS AN ENGINEER READS IT: what makes a body in tags 14, for every body; a tagged duration of FFFFFFFF;
-- property 0F; that every plain command has a form in tags, of kind 1B, and that it is read alike.
use Rattle.std.specs.Prelude.{Option, Some, None, Err, Ok}
use Rattle.lighting_levels.specs.Paper.Choice.{when◌then◌else◌}
use mathlib.Core.Path.{◌≡◌, refl, sym, ap, ◌∙◌}
use mathlib.Core.Logic.{◌≢◌}
use mathlib.Core.Bool.{Bool, true, false, false≢true}
use mathlib.Core.List.{List, ◌∷◌, []}
use Prim.Native.Nat.{ℕ, suc, ◌+◌, ◌-◌, ◌%◌, ◌≤◌, ◌<◌}
use native.Mathlib.Nat.{mod-eq_of_lt, div-one}
use native.Mathlib.Omega.{arith}
use lib.Dec.{eqb}
use lib.ListN.{length, get_or, take, drop, length-take, length-drop}
use lib.Seq.{get_or-take, get_or-drop}
use Rattle.lighting_outputs.specs.declared.Parameters.{Parameters}
use Rattle.lighting_levels.specs.Paper.Field.{byte_at, octets}
use Rattle.lighting_outputs.specs.Paper.Rows.{within}
use Rattle.lighting_outputs.specs.Paper.Operations.{operation_number, fields_of}
use Rattle.lighting_outputs.specs.Paper.Passing.{after_events}
use Rattle.lighting_outputs.specs.Paper.Record.{with_command}
use Rattle.lighting_outputs.specs.Paper.Commands.{commanded_from, commanded}
use Rattle.lighting_outputs.specs.Paper.Properties.{read_property}
use Rattle.lighting_outputs.specs.Paper.Acting.{done, acted, served}
use Rattle.lighting_frames.specs.Paper.Kinds.{kind_row, kind_length}
use Rattle.lighting_frames.specs.Paper.Tags.{context_tag, OctetRange, one_octet, tag_octets, listed, field_size, sizes, field_in, fields_from, field_bytes, bytes_from, tag_bytes, tags_of, command_tags, zero_filled, body_bytes, most_tagged, length_of, body_fields, zero_beyond, holds_at_most, well_tagged, read_body, holds, reads}
use Rattle.lighting_frames.specs.Paper.Frames.{Bytes, Octets, tagged_request, request_of, parse}
use Rattle.lighting_outputs.specs.Paper.Requests.{fields_refusal, command_lasting, command_with_duration, command_request_by, command_of, plain_duration, command_request}
use Rattle.lighting_frames.specs.Paper.InTags.{plain_tags, framed, in_tags, sent}
use Rattle.lighting_frames.specs.declared.Action.{Action}
use Rattle.lighting_frames.specs.declared.Action.TheVariants.{WritesLevel, EmptiesSlot, WritesProperty, ReadsProperty, Stops, FadesTo, FadesToOver, RampsTo, RampsToAtRate, StepsUp, StepsDown, StepsUpBy, StepsDownBy, GoesTo, Relinquishes, CommandsTagged}
use Rattle.lighting_outputs.specs.declared.Answer.TheVariants.{Value}
use Rattle.lighting_outputs.specs.declared.Command.{Command}
use Rattle.lighting_frames.specs.declared.Kind.TheVariants.{CallKind}
use Rattle.lighting_outputs.specs.declared.Operation.{Operation}
use Rattle.lighting_outputs.specs.declared.Output.{Output}
use Rattle.lighting_outputs.specs.declared.Property.TheVariants.{LastOperation}
use Rattle.lighting_outputs.specs.declared.OutputRequest.TheVariants.{Commands}
use Rattle.lighting_outputs.specs.declared.PanelRequest.TheVariants.{ToOutput}
use Rattle.lighting_outputs.proofs.Rules.CommandRanges.{asked_by_request}
use Rattle.lighting_frames.specs.declared.TagContent.{TagContent}
use Rattle.lighting_frames.specs.declared.TagFields.{TagFields}
use Rattle.lighting_outputs.specs.Paper.Startable.{startable}
use Rattle.lighting_outputs.proofs.Rules.Startable.{startable_of}
use Rattle.lighting_levels.proofs.Split.{by_bool, eqb_hit, eqb_miss, eq_of, leb_yes, leb_no}
use Rattle.lighting_levels.proofs.Scan.{all_each}
use Rattle.lighting_levels.proofs.Fields.{single}
use Rattle.lighting_frames.proofs.Octets.{dropped_octets}
use Rattle.lighting_frames.proofs.KindTable.{action_byte, kind_byte}
use Rattle.lighting_frames.proofs.Tagging.Fields.{Read, held, nothing, read_as}
use Rattle.lighting_frames.proofs.Tagging.Bodies.{named_listed, WellTagged, well_tagged_lem}
use Rattle.lighting_frames.proofs.Tagging.Commands.{number_most}
use Rattle.lighting_frames.proofs.Tagging.Only.{only_written}
use Rattle.lighting_frames.proofs.Tagging.PlainInTags.{SameIf, same}
use Rattle.lighting_frames.proofs.Tagging.InTags.{tagged_asks, sent_as, parse_sent}
use Rattle.lighting_outputs.proofs.Consequences.Alone.{alone}
use Rattle.lighting_outputs.specs.declared.refusals.Refusal.TheVariants.{WholeOutOfRange, BadTags}

-- A BODY THAT IS NOT WELL TAGGED is 14, whatever else is wrong with it
module _ (body : Bytes) where
  unless_tagged : (WellTagged body → ⊥) → read_body body ≡ Err BadTags
  unfolding read_body when◌then◌else◌
  unless_tagged n = by_bool (well_tagged body) (λ e. absurd (n (well_tagged_lem body e))) (λ e. rw e)

  -- 'a length L from 2 to 17'
  pub length_low : byte_at body 0 < 2 → read_body body ≡ Err BadTags
  length_low h = unless_tagged (λ w. omega (arith, w.low))

  pub length_high : 17 < byte_at body 0 → read_body body ≡ Err BadTags
  length_high h = unless_tagged (λ w. omega (arith, w.high))

  -- 'those beyond L zero'
  pub not_zero_beyond : (i : ℕ) → byte_at body 0 < i → i ≤ 17 → byte_at body i ≢ 0 → read_body body ≡ Err BadTags
  not_zero_beyond i l h n = unless_tagged (λ w. n (zero w))
    where
      zero : WellTagged body → byte_at body i ≡ 0
      zero w =
          eq_of
          (all_each (λ (j : ℕ). eqb (byte_at body j) 0) (most_tagged - length_of body) (suc (length_of body)) i (unfold zero_beyond in w.clear) (omega arith) (omega (arith, w.high)))

-- A FIRST OCTET that is no tag of 0 to 5 with 1 to 4 octets of content: nothing is taken
abbrev NoTag : ℕ → Type 0
NoTag x = (number count : ℕ) → number < 6 → 1 ≤ count → count ≤ 4 → x ≢ context_tag number count

abbrev Few : List OctetRange → Type 0
Few [] = Unit {0}
Few (allowed ∷ more) = (1 ≤ allowed.least) × (allowed.most ≤ 4) × Few more

few : Few tag_octets
few = (omega arith, omega arith, (omega arith, omega arith, (omega arith, omega arith, (omega arith, omega arith, (omega arith, omega arith, (omega arith, omega arith, tt))))))

not_taken : {allowed : OctetRange} {number : ℕ} {left : Bytes} {field : Option TagContent} → number < 6 → 1 ≤ allowed.least → allowed.most ≤ 4 → NoTag (byte_at left 0)
    → Read allowed number left field → field ≡ None
not_taken {number = number} h l m n (held count low high tag size) = absurd (n number count h (omega arith) (omega arith) (sym tag))
not_taken h l m n nothing = refl

none_taken : (number : ℕ) (allowed : List OctetRange) (left : Bytes) → number + length allowed ≤ 6 → Few allowed → NoTag (byte_at left 0)
    → sizes (fields_from number allowed left) ≡ 0
unfolding fields_from sizes field_size
none_taken number [] left h f n = refl
none_taken number (allowed ∷ more) left h f n =
    let missing = not_taken {allowed = allowed} {number = number} {left = left} (omega arith) f.0 f.1 n (read_as allowed number left) in
    rw missing (omega (arith, none_taken (suc number) more left (omega arith) f.2 n))

-- the bytes behind L
content_byte : (body : Bytes) (i : ℕ) → i < byte_at body 0 → byte_at (take (length_of body) (drop 1 body)) i ≡ byte_at body (suc i)
unfolding byte_at
content_byte body i h = let z : 1 + i ≡ suc i = omega arith in get_or-take (get_or body 0 0) (drop 1 body) i 0 h ∙ get_or-drop 1 body i 0 ∙ ap (λ (n : ℕ). get_or body n 0) z

pub first_no_tag : (body : Bytes) → NoTag (byte_at body 1) → read_body body ≡ Err BadTags
first_no_tag body n = unless_tagged body (λ w. omega (arith, w.low, w.sized, None w))
  where
    None : WellTagged body → sizes (listed (body_fields body)) ≡ 0
    None w = rw (named_listed body) (none_taken 0 tag_octets (take (length_of body) (drop 1 body)) (omega arith) few (rw (content_byte body 0 (omega (arith, w.low))) n))

-- an application tag (bit 3 clear), a zero byte among them; and a tag number above 5
pub application_tag : (body : Bytes) → byte_at body 1 % 16 < 8 → read_body body ≡ Err BadTags
application_tag body h = first_no_tag body (λ number count a b c e. omega (arith, ap (λ (x : ℕ). x % 16) e))

pub number_above_five : (body : Bytes) → 0x68 ≤ byte_at body 1 → read_body body ≡ Err BadTags
number_above_five body h = first_no_tag body (λ number count a b c e. omega arith)

-- an operation above 10, whatever follows
module _ (body : Bytes) (eighteen : length body ≡ 18) (tag : byte_at body 1 ≡ 0x09) where
  operation_field : WellTagged body → field_in 0 one_octet (take (length_of body) (drop 1 body)) ≡ holds 1 (byte_at body 2)
  unfolding field_in within when◌then◌else◌
  operation_field w =
      let left = take (length_of body) (drop 1 body) in
      let size : 2 ≤ length left = omega (arith, w.low, w.high, length-take (length_of body) (drop 1 body), length-drop 1 body) in
      rw (content_byte body 0 (omega (arith, w.low)), tag, leb_yes {a = 2} {b = length left} size)
      (ap (holds 1) (single left 1 ∙ content_byte body 1 (omega (arith, w.low))))

  unknown : WellTagged body → 10 < byte_at body 2 → holds_at_most 10 (body_fields body).operation ≡ false
  unfolding body_fields fields_from holds_at_most
  unknown w h = rw (operation_field w) (leb_no h)

  pub operation_above_ten : 10 < byte_at body 2 → read_body body ≡ Err BadTags
  operation_above_ten h = unless_tagged body (λ w. false≢true (sym (unknown w h) ∙ w.known))

-- A TAGGED DURATION: FFFFFFFF meets 12; missing is what FFFFFFFF is in the plain kind; any other is the plain
-- kind's
pub duration_all_ones : (p : Parameters) → startable p ≡ true → (o : Operation) → fields_refusal p (fields_of o) ≡ None → tagged_request p (reads o (Some 0xffff_ffff)) ≡ Err WholeOutOfRange
unfolding tagged_request command_of command_request_by command_with_duration command_lasting within when◌then◌else◌
duration_all_ones p allowed o e =
    rw (e, leb_no {a = 0xffff_ffff} {b = p.duration} (omega (arith, (startable_of p allowed).duration)))

pub duration_missing : (p : Parameters) (o : Operation) → tagged_request p (reads o None) ≡ command_request p o 0xffff_ffff
unfolding tagged_request command_request plain_duration when◌then◌else◌
duration_missing p o = refl

pub duration_there : (p : Parameters) (o : Operation) (d : ℕ) → d ≢ 0xffff_ffff → tagged_request p (reads o (Some d)) ≡ command_request p o d
unfolding tagged_request command_request plain_duration when◌then◌else◌
duration_there p o d n = rw (eqb_miss {a = d} {b = 0xffff_ffff} n)

-- PROPERTY 0F reads the operation that tag 0 holds, byte 15 of the frame: not 1B less 10
second_byte : (k : Command) → byte_at (body_bytes (command_tags k)) 2 ≡ operation_number k.operation
unfolding body_bytes zero_filled tag_bytes bytes_from field_bytes octets command_tags tags_of byte_at
second_byte k = rw (div-one (operation_number k.operation)) (mod-eq_of_lt (omega (arith, number_most k.operation)))

module _ (p : Parameters) (b : Bytes) (o : Octets b) (size : length b ≡ 31) (k : Command)
    (h : request_of p CommandsTagged b ≡ Ok (ToOutput (Commands k))) where
  pub tagged_number : operation_number k.operation ≡ byte_at b 15
  tagged_number =
      sym (second_byte k)
      ∙ ap (λ (x : Bytes). byte_at x 2)
      (sym (only_written p (drop 13 b) (dropped_octets 13 b o) (omega (arith, length-drop 13 b)) k
      (unfold request_of in asked_by_request (tagged_request p (read_body (drop 13 b))) h)))
      ∙ (unfold byte_at in (get_or-drop 13 b 2 0))

  pub tagged_read : (reader : Bool) (t t' : ℕ) (q : Output)
      → read_property reader t' (alone t q (request_of p CommandsTagged b)).output LastOperation
      ≡ Value (byte_at b 15)
  unfolding acted served done after_events commanded commanded_from with_command read_property
  tagged_read reader t t' q = rw h (ap Value tagged_number)

-- EVERY PLAIN COMMAND goes in tags: its frame becomes one of kind 1B, which is read alike
plain_goes : (action : Action) (b : Bytes) → 0x10 ≤ action_byte action → action_byte action ≤ 0x1a → byte_at (framed b (plain_tags action b)) 0 ≡ 0x1b
unfolding plain_tags byte_at
plain_goes WritesLevel b l h = absurd (omega arith)
plain_goes EmptiesSlot b l h = absurd (omega arith)
plain_goes WritesProperty b l h = absurd (omega arith)
plain_goes ReadsProperty b l h = absurd (omega arith)
plain_goes Stops b l h = refl
plain_goes FadesTo b l h = refl
plain_goes FadesToOver b l h = refl
plain_goes RampsTo b l h = refl
plain_goes RampsToAtRate b l h = refl
plain_goes StepsUp b l h = refl
plain_goes StepsDown b l h = refl
plain_goes StepsUpBy b l h = refl
plain_goes StepsDownBy b l h = refl
plain_goes GoesTo b l h = refl
plain_goes Relinquishes b l h = refl
plain_goes CommandsTagged b l h = absurd (omega arith)

pub goes_in_tags : (b : Bytes) (action : Action) → (kind_row (byte_at b 0)).kind ≡ CallKind action → 0x10 ≤ byte_at b 0 → byte_at b 0 ≤ 0x1a
    → length b ≡ kind_length (byte_at b 0) → byte_at (in_tags b) 0 ≡ 0x1b
unfolding in_tags when◌then◌else◌
goes_in_tags b action k low high l =
    let byte = kind_byte (byte_at b 0) action k in
    rw (eqb_hit {a = length b} {b = kind_length (byte_at b 0)} l, k) (plain_goes action b (omega arith) (omega arith))

-- and asks the same, good fields or bad
request_same : (p : Parameters) (action : Action) (b : Bytes) (f : Option TagFields) → byte_at b 0 ≢ 0x1b → byte_at (framed b f) 0 ≡ 0x1b → SameIf action b f
    → request_of p CommandsTagged (framed b f) ≡ request_of p action b
request_same p action b None n e s = absurd (n e)
request_same p action b (Some f) n e s = tagged_asks b f s p

pub asks_the_same : (p : Parameters) (b : Bytes) (action : Action) → Octets b → (kind_row (byte_at b 0)).kind ≡ CallKind action → 0x10 ≤ byte_at b 0 → byte_at b 0 ≤ 0x1a
    → length b ≡ kind_length (byte_at b 0) → request_of p CommandsTagged (in_tags b) ≡ request_of p action b
unfolding in_tags when◌then◌else◌
asks_the_same p b action o k low high l =
    let byte = kind_byte (byte_at b 0) action k in
    rw (eqb_hit {a = length b} {b = kind_length (byte_at b 0)} l, k)
    (request_same p action b (plain_tags action b) (λ e. omega arith) (plain_goes action b (omega arith) (omega arith)) (same b o action byte (l ∙ ap kind_length byte)))

pub read_alike : (p : Parameters) (c : ℕ) (b : Bytes) → Octets b → parse p c (in_tags b) ≡ parse p c b
unfolding sent when◌then◌else◌
read_alike p c b o = parse_sent p c b (sent_as (λ (x : Bytes). true) b o)

-- THE RANGES of a command are judged alike in whatever form it came, plain or in tags
pub both_forms : (p : Parameters) (operation : Operation) (d : ℕ) (duration : Option ℕ)
    → (command_request p operation d ≡ command_of p operation (plain_duration d))
    × (tagged_request p (reads operation duration) ≡ command_of p operation duration)
unfolding command_request tagged_request
both_forms p operation d duration = (refl, refl)
