-- A PLAIN COMMAND'S FIELDS IN TAGS (§1): what they ask is what its frame asks, good fields or bad; and they
-- hold every byte of it.
use Rattle.std.specs.Prelude.{Option, Some, None}
use Rattle.lighting_levels.specs.Paper.Choice.{when◌then◌else◌}
use mathlib.Core.Path.{◌≡◌, refl, sym, ap, ap₂, ◌∙◌}
use mathlib.Core.Bool.{true}
use mathlib.Core.List.{◌++◌, append-nil, []}
use Prim.Native.Nat.{ℕ, ◌+◌, ◌≤◌}
use native.Mathlib.Omega.{arith}
use lib.ListN.{length, drop, take-append-drop}
use lib.Seq.{drop-drop, drop-length}
use Rattle.lighting_outputs.specs.Paper.Answers.{as_request}
use Rattle.lighting_outputs.specs.declared.Parameters.{Parameters}
use Rattle.lighting_levels.specs.Paper.Level.{real}
use Rattle.lighting_levels.specs.Paper.Field.{byte_at, big_endian, octets}
use Rattle.lighting_outputs.specs.Paper.Operations.{fields_of}
use Rattle.lighting_frames.specs.Paper.Kinds.{kind_row, kind_length}
use Rattle.lighting_frames.specs.Paper.Tags.{real_octets, tag_octets, listed, field_size, sizes, most_tagged, real_tag, whole_tag, tags_of, held_by, holds_at_most, operation_of, time_of, both_or_neither, own_tags, read_fields, holds}
use Rattle.lighting_frames.specs.Paper.Frames.{Bytes, Octets, tagged_request, request_of}
use Rattle.lighting_outputs.specs.Paper.Requests.{plain_duration, command_request}
use Rattle.lighting_frames.specs.Paper.InTags.{plain_fields, plain_tags}
use Rattle.lighting_frames.specs.declared.Action.{Action}
use Rattle.lighting_frames.specs.declared.Action.TheVariants.{WritesLevel, EmptiesSlot, WritesProperty, ReadsProperty, Stops, FadesTo, FadesToOver, RampsTo, RampsToAtRate, StepsUp, StepsDown, StepsUpBy, StepsDownBy, GoesTo, Relinquishes, CommandsTagged}
use Rattle.lighting_outputs.specs.declared.Operation.{Operation}
use Rattle.lighting_outputs.specs.declared.Operation.TheVariants.{Stop, FadeTo, FadeToOver, RampTo, RampToAtRate, StepUp, StepDown, StepUpBy, StepDownBy, Goto, Relinquish}
use Rattle.lighting_frames.specs.declared.TagContent.{TagContent}
use Rattle.lighting_frames.specs.declared.TagFields.{TagFields}
use Rattle.lighting_levels.proofs.Split.{by_eq, leb_yes}
use Rattle.lighting_frames.proofs.Octets.{word, respelled}
use Rattle.lighting_frames.proofs.KindTable.{action_byte}
use Rattle.lighting_frames.proofs.Tagging.Fields.{Fits, AllFit}
use Rattle.lighting_frames.proofs.Tagging.Commands.{Word, lasting_word, whole_fit, whole_read, whole_fewest, whole_size}

-- THE BYTES OF A PLAIN COMMAND after the 13 common ones, from its fields: each that is there in four, the
-- duration last, FFFFFFFF where it is missing
abbrev plain_word : Option TagContent → Bytes
plain_word (Some content) = octets 4 content.value
plain_word None = []

abbrev duration_word : Option TagContent → Bytes
duration_word (Some content) = octets 4 content.value
duration_word None = octets 4 0xffff_ffff

abbrev pub plain_body : TagFields → Bytes
plain_body f = plain_word f.level ++ (plain_word f.rate ++ (plain_word f.step ++ (plain_word f.fade ++ duration_word f.duration)))

-- WHAT IS THE SAME of a plain command's frame b and its fields in tags
pub record Same (action : Action) (b : Bytes) (f : TagFields) : Type 0 where
  pub long : 13 ≤ length b
  pub fit : AllFit tag_octets (listed f)
  pub low : 2 ≤ sizes (listed f)
  pub high : sizes (listed f) ≤ most_tagged
  pub known : holds_at_most 10 f.operation ≡ true
  pub own : own_tags (tags_of (operation_of f) (time_of f.duration)) f ≡ true
  pub asks : (p : Parameters) → as_request (tagged_request p (read_fields f)) ≡ request_of p action b
  pub kind : byte_at b 0 ≡ 0x10 + held_by f.operation
  pub tail : drop 13 b ≡ plain_body f

abbrev pub SameIf : Action → Bytes → Option TagFields → Type 0
SameIf action b None = Unit {0}
SameIf action b (Some f) = Same action b f

-- its words
duration_spelled : (d : ℕ) → duration_word (whole_tag (plain_duration d)) ≡ octets 4 d
unfolding whole_tag plain_duration when◌then◌else◌
duration_spelled d = by_eq d 0xffff_ffff (λ p e. rw e (ap (octets 4) (sym p))) (λ p e. rw e)

module _ (b : Bytes) (o : Octets b) where
  next_word : (at : ℕ) → at + 4 ≤ length b → drop at b ≡ octets 4 (big_endian 4 b at) ++ drop (at + 4) b
  next_word at h =
      sym (take-append-drop 4 (drop at b))
      ∙ ap₂ (λ (k l : Bytes). k ++ l) (sym (respelled 4 b at o h)) (drop-drop 4 at b)

  last_word : (at : ℕ) → length b ≡ at + 4 → drop at b ≡ duration_word (whole_tag (plain_duration (big_endian 4 b at)))
  last_word at h =
      next_word at (omega arith)
      ∙ ap (λ (l : Bytes). octets 4 (big_endian 4 b at) ++ l) (ap (λ (n : ℕ). drop n b) (sym h) ∙ drop-length b)
      ∙ append-nil (octets 4 (big_endian 4 b at))
      ∙ sym (duration_spelled (big_endian 4 b at))

  two_words : length b ≡ 21 → drop 13 b ≡ octets 4 (big_endian 4 b 13) ++ duration_word (whole_tag (plain_duration (big_endian 4 b 17)))
  two_words h = next_word 13 (omega arith) ∙ ap (λ (l : Bytes). octets 4 (big_endian 4 b 13) ++ l) (last_word 17 h)

  three_words : length b ≡ 25
      → drop 13 b ≡ octets 4 (big_endian 4 b 13) ++ (octets 4 (big_endian 4 b 17) ++ duration_word (whole_tag (plain_duration (big_endian 4 b 21))))
  three_words h =
      next_word 13 (omega arith)
      ∙ ap (λ (l : Bytes). octets 4 (big_endian 4 b 13) ++ l)
      (next_word 17 (omega arith) ∙ ap (λ (l : Bytes). octets 4 (big_endian 4 b 17) ++ l) (last_word 21 h))

  -- A COMMAND: of its operation, its fields and its words
  module _ (number : ℕ) (level rate step : Option TagContent) (fade : Option ℕ) (at : ℕ) (operation : Operation) where
    abbrev fields : TagFields
    fields = plain_fields number level rate step fade (big_endian 4 b at)

    module _ (named : operation_of fields ≡ operation)
        (levels : both_or_neither (tags_of operation None).level level ≡ true)
        (rates : both_or_neither (tags_of operation None).rate rate ≡ true)
        (steps : both_or_neither (tags_of operation None).step step ≡ true)
        (fades : both_or_neither (tags_of operation None).fade (whole_tag fade) ≡ true) where
      fields_own : own_tags (tags_of (operation_of fields) (time_of fields.duration)) fields ≡ true
      unfolding own_tags tags_of both_or_neither when◌then◌else◌
      fields_own =
          rw
          (named, levels, rates, steps, fades, whole_fewest fade, whole_fewest (plain_duration (big_endian 4 b at)))

      fields_asked : (p : Parameters)
          → as_request (tagged_request p (read_fields fields))
          ≡ as_request (command_request p operation (big_endian 4 b at))
      unfolding tagged_request command_request read_fields when◌then◌else◌
      fields_asked p = rw (fields_own, named, whole_read (plain_duration (big_endian 4 b at)))

    fields_same : (action : Action) → 13 ≤ length b → number ≤ 10 → Fits real_octets level → Fits real_octets rate → Fits real_octets step → Word fade
        → field_size level + field_size rate + field_size step + field_size (whole_tag fade) ≤ 10
        → own_tags (tags_of (operation_of fields) (time_of fields.duration)) fields ≡ true
        → ((p : Parameters) → as_request (tagged_request p (read_fields fields)) ≡ request_of p action b)
        → byte_at b 0 ≡ 0x10 + number → drop 13 b ≡ plain_body fields → Same action b fields
    fields_same action long n l r s t size own asks kind tail =
        let d = plain_duration (big_endian 4 b at) in
        let w : Word d = lasting_word (big_endian 4 b at) (word b o at) in
        record {
          long = long;
          fit = ((omega arith, omega arith, omega arith), (l, (r, (s, (whole_fit fade t, (whole_fit d w, tt))))));
          low = least;
          high = most;
          known = unfold holds_at_most in (leb_yes n);
          own = own;
          asks = asks;
          kind = unfold held_by in kind;
          tail = tail;
        }
      where
        least : 2 ≤ sizes (listed fields)
        least = unfold sizes field_size in (omega arith)

        most : sizes (listed fields) ≤ most_tagged
        most = let z = whole_size (plain_duration (big_endian 4 b at)) in unfold sizes in (unfold field_size in (omega arith))

-- EACH PLAIN KIND
module _ (b : Bytes) (o : Octets b) where
  held : (at : ℕ) → Fits real_octets (holds 4 (big_endian 4 b at))
  held at = (omega arith, omega arith, word b o at)

  abbrev word13 : ℕ
  word13 = big_endian 4 b 13

  abbrev word17 : ℕ
  word17 = big_endian 4 b 17

  abbrev real13 : Option TagContent
  real13 = holds 4 word13

  abbrev real17 : Option TagContent
  real17 = holds 4 word17

  pub same : (action : Action) → byte_at b 0 ≡ action_byte action → length b ≡ kind_length (action_byte action) → SameIf action b (plain_tags action b)
  unfolding plain_tags request_of kind_length kind_row operation_of held_by tags_of fields_of real_tag whole_tag both_or_neither field_size when◌then◌else◌
  same WritesLevel k l = tt
  same EmptiesSlot k l = tt
  same WritesProperty k l = tt
  same ReadsProperty k l = tt
  same Stops k l =
      fields_same b o 0 None None None None 13 Stop Stops (omega arith) (omega arith) tt tt tt tt (omega arith)
      (fields_own b o 0 None None None None 13 Stop refl refl refl refl refl)
      (fields_asked b o 0 None None None None 13 Stop refl refl refl refl refl)
      k
      (last_word b o 13 l)
  same FadesTo k l =
      fields_same b o 1 real13 None None None 17 (FadeTo (real word13)) FadesTo (omega arith) (omega arith) (held 13) tt tt tt (omega arith)
      (fields_own b o 1 real13 None None None 17 (FadeTo (real word13)) refl refl refl refl refl)
      (fields_asked b o 1 real13 None None None 17 (FadeTo (real word13)) refl refl refl refl refl)
      k
      (two_words b o l)
  same FadesToOver k l =
      fields_same b o 2 real13 None None (Some word17) 21 (FadeToOver (real word13) word17) FadesToOver (omega arith) (omega arith) (held 13) tt tt (word b o 17) (omega (arith, whole_size (Some word17)))
      (fields_own b o 2 real13 None None (Some word17) 21 (FadeToOver (real word13) word17) refl refl refl refl refl)
      (fields_asked b o 2 real13 None None (Some word17) 21 (FadeToOver (real word13) word17) refl refl refl refl refl)
      k
      (three_words b o l)
  same RampsTo k l =
      fields_same b o 3 real13 None None None 17 (RampTo (real word13)) RampsTo (omega arith) (omega arith) (held 13) tt tt tt (omega arith)
      (fields_own b o 3 real13 None None None 17 (RampTo (real word13)) refl refl refl refl refl)
      (fields_asked b o 3 real13 None None None 17 (RampTo (real word13)) refl refl refl refl refl)
      k
      (two_words b o l)
  same RampsToAtRate k l =
      fields_same b o 4 real13 real17 None None 21 (RampToAtRate (real word13) (real word17)) RampsToAtRate (omega arith) (omega arith) (held 13) (held 17) tt tt (omega arith)
      (fields_own b o 4 real13 real17 None None 21 (RampToAtRate (real word13) (real word17)) refl refl refl refl refl)
      (fields_asked b o 4 real13 real17 None None 21 (RampToAtRate (real word13) (real word17)) refl refl refl refl refl)
      k
      (three_words b o l)
  same StepsUp k l =
      fields_same b o 5 None None None None 13 StepUp StepsUp (omega arith) (omega arith) tt tt tt tt (omega arith)
      (fields_own b o 5 None None None None 13 StepUp refl refl refl refl refl)
      (fields_asked b o 5 None None None None 13 StepUp refl refl refl refl refl)
      k
      (last_word b o 13 l)
  same StepsDown k l =
      fields_same b o 6 None None None None 13 StepDown StepsDown (omega arith) (omega arith) tt tt tt tt (omega arith)
      (fields_own b o 6 None None None None 13 StepDown refl refl refl refl refl)
      (fields_asked b o 6 None None None None 13 StepDown refl refl refl refl refl)
      k
      (last_word b o 13 l)
  same StepsUpBy k l =
      fields_same b o 7 None None real13 None 17 (StepUpBy (real word13)) StepsUpBy (omega arith) (omega arith) tt tt (held 13) tt (omega arith)
      (fields_own b o 7 None None real13 None 17 (StepUpBy (real word13)) refl refl refl refl refl)
      (fields_asked b o 7 None None real13 None 17 (StepUpBy (real word13)) refl refl refl refl refl)
      k
      (two_words b o l)
  same StepsDownBy k l =
      fields_same b o 8 None None real13 None 17 (StepDownBy (real word13)) StepsDownBy (omega arith) (omega arith) tt tt (held 13) tt (omega arith)
      (fields_own b o 8 None None real13 None 17 (StepDownBy (real word13)) refl refl refl refl refl)
      (fields_asked b o 8 None None real13 None 17 (StepDownBy (real word13)) refl refl refl refl refl)
      k
      (two_words b o l)
  same GoesTo k l =
      fields_same b o 9 real13 None None None 17 (Goto (real word13)) GoesTo (omega arith) (omega arith) (held 13) tt tt tt (omega arith)
      (fields_own b o 9 real13 None None None 17 (Goto (real word13)) refl refl refl refl refl)
      (fields_asked b o 9 real13 None None None 17 (Goto (real word13)) refl refl refl refl refl)
      k
      (two_words b o l)
  same Relinquishes k l =
      fields_same b o 10 None None None None 13 Relinquish Relinquishes (omega arith) (omega arith) tt tt tt tt (omega arith)
      (fields_own b o 10 None None None None 13 Relinquish refl refl refl refl refl)
      (fields_asked b o 10 None None None None 13 Relinquish refl refl refl refl refl)
      k
      (last_word b o 13 l)
  same CommandsTagged k l = tt
