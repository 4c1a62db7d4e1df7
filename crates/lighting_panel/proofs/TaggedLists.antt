-- IN LISTS TOO (§1): any commands of a list sent in tags instead, every copy of a frame like its first: what
-- is found and every answer stay, if no frame of the list is what another one becomes.
use Rattle.std.specs.Prelude.{Option, None, Some}
use mathlib.Core.Path.{◌≡◌, refl, sym, ap, ◌∙◌}
use mathlib.Core.Bool.{Bool}
use mathlib.Core.List.{List, ◌∷◌, map, []}
use Prim.Native.Nat.{ℕ, suc, ◌+◌, ◌-◌, ◌≤◌}
use native.Mathlib.Omega.{arith}
use lib.ListN.{length, take, drop, replicate}
use Rattle.lighting_outputs.specs.declared.Parameters.{Parameters}
use Rattle.lighting_levels.specs.Paper.Field.{octets}
use Rattle.lighting_frames.specs.Paper.Tags.{OctetRange, tag_octets, listed, field_bytes, bytes_from, tag_bytes, most_tagged, zero_filled, body_bytes}
use Rattle.lighting_frames.specs.Paper.Frames.{Bytes, Octets, Strings}
use Rattle.lighting_panel.specs.Paper.Panel.{Panel, start_step}
use Rattle.lighting_panel.specs.Paper.Plain.{Plain}
use Rattle.lighting_panel.specs.Paper.Demand.{Among, here, there}
use Rattle.lighting_frames.specs.Paper.InTags.{sent}
use Rattle.lighting_panel.specs.Paper.ActsAsPlain.{NoneBecomesAnother, ActsAsPlain}
use Rattle.lighting_outputs.specs.declared.Answer.TheVariants.{Done}
use Rattle.lighting_frames.specs.declared.TagContent.{TagContent}
use Rattle.lighting_frames.specs.declared.TagFields.{TagFields}
use Rattle.lighting_levels.specs.Paper.Choice.{Every}
use Rattle.lighting_levels.proofs.Every.{every_map}
use Rattle.lighting_panel.proofs.Among.{every_among}
use Rattle.lighting_frames.proofs.Octets.{taken_octets, dropped_octets, appended_octets, repeated_octets, spelled_octets}
use Rattle.lighting_frames.proofs.Tagging.Fields.{AllFit, ThreeBits, three_bits}
use Rattle.lighting_frames.proofs.Tagging.Bodies.{sizes_written}
use Rattle.lighting_frames.proofs.Tagging.InTags.{SentAs, itself, as_tags, sent_as, parse_sent, apart, NeverMade, never_made}
use Rattle.lighting_panel.proofs.Demand.{demand_3}
use Rattle.lighting_panel.proofs.Calls.{once}
use Rattle.lighting_panel.proofs.Renamed.{Renaming, start_renamed}

-- A FRAME IN TAGS IS A STRING OF BYTES
tags_octets : (number : ℕ) (allowed : List OctetRange) (fields : List (Option TagContent)) → ThreeBits allowed → AllFit allowed fields → number + length fields ≤ 16
    → Octets (bytes_from number fields)
unfolding bytes_from field_bytes
tags_octets number [] [] t f h = tt
tags_octets number [] (field ∷ fields) t f h = absurd f
tags_octets number (allowed ∷ more) [] t f h = absurd f
tags_octets number (allowed ∷ more) (Some content ∷ fields) t f h =
    let rest = tags_octets (suc number) more fields t.1 f.1 (omega arith) in
    (omega (arith, f.0.1, t.0), appended_octets (octets content.count content.value) (bytes_from (suc number) fields) (spelled_octets content.count content.value) rest)
tags_octets number (allowed ∷ more) (None ∷ fields) t f h = tags_octets (suc number) more fields t.1 f.1 (omega arith)

body_octets : (f : TagFields) → AllFit tag_octets (listed f) → length (tag_bytes f) ≤ most_tagged → Octets (body_bytes f)
unfolding body_bytes zero_filled tag_bytes
body_octets f fit h =
    let padding = most_tagged - length (bytes_from 0 (listed f)) in
    let tags = tags_octets 0 tag_octets (listed f) three_bits fit (omega arith) in
    (omega arith, appended_octets (bytes_from 0 (listed f)) (replicate padding 0) tags (repeated_octets padding 0 (omega arith)))

sent_octets : (b : Bytes) {b' : Bytes} → Octets b → SentAs b b' → Octets b'
sent_octets b o itself = o
sent_octets b o (as_tags action f k l s) =
    let body = body_octets f s.fit (omega (arith, s.high, sizes_written f)) in
    (omega arith, appended_octets (take 12 (drop 1 b)) (body_bytes f) (taken_octets 12 (drop 1 b) (dropped_octets 1 b o)) body)

left_nothing : (b : Bytes) {a : Bytes} → SentAs b a → a ≡ [] → b ≡ []
left_nothing b itself h = h
left_nothing b (as_tags action f k l s) h = let z : ◌≡◌ {A = ℕ} 0 1 = cc in absurd (omega arith)

module _ (p : Parameters) (marks : ℕ) (chosen : Bytes → Bool) where
  nothing_sent : sent chosen [] ≡ []
  nothing_sent = by (sent chosen []) (sent_as chosen [] tt)
    where
      by : (a : Bytes) → SentAs [] a → a ≡ []
      by a itself = refl
      by a (as_tags action f k l s) = absurd (omega (arith, s.long))

  -- THE RENAMING: of the strings of a list, and of the empty one, which stands where a station has sent
  -- nothing
  module _ (l : List Bytes) (free : NoneBecomesAnother chosen l) where
    abbrev Listed : Bytes → Type 0
    Listed b = Octets b × Among b ([] ∷ l)

    free_or_nothing : (b b' : Bytes) → Octets b → Among b ([] ∷ l) → Among b' ([] ∷ l) → sent chosen b ≡ b' → b ≡ b'
    free_or_nothing b b' o here m' h = sym nothing_sent ∙ h
    free_or_nothing b b' o (there m) here h = left_nothing b (sent_as chosen b o) h
    free_or_nothing b b' o (there m) (there m') h = free b b' m m' h

    renaming : Renaming p (sent chosen) Listed
    renaming =
        record {
          alike = λ c b u. parse_sent p c b (sent_as chosen b u.0);
          apart = λ b b' u u'.
              apart b b' (sent_as chosen b u.0) (sent_as chosen b' u'.0)
              (free_or_nothing b b' u.0 u.1 u'.1)
              (free_or_nothing b' b u'.0 u'.1 u.1)
              (λ e. ap (sent chosen) e);
          empty = (tt, here);
          nothing = nothing_sent;
        }

    each_listed : (k : List Bytes) → Strings k → ((b : Bytes) → Among b k → Among b l) → Every Listed k
    each_listed [] s i = tt
    each_listed (b ∷ k) s i = ((s.0, there (i b here)), each_listed k s.1 (λ x m. i x (there m)))

  strings_sent : (l : List Bytes) → Strings l → Strings (map (sent chosen) l)
  strings_sent l s = every_map Octets Octets (sent chosen) l (λ b o. sent_octets b o (sent_as chosen b o)) s

  -- For EVERY set of parameters, ALL marks and EVERY lent table e on which a start with them answered Done,
  -- EVERY list l of strings of bytes, and EVERY choice of its commands of which none becomes another frame
  -- of the list
  pub acts_as_plain : (e : Panel) (l : List Bytes) → Strings l → NoneBecomesAnother chosen l
      → (start_step p marks e).answer ≡ Done
      → ActsAsPlain p marks e l chosen
  acts_as_plain e l s n h =
      let l' = map (sent chosen) l in
      let plain = demand_3 p marks e l l (once [] l) s h in
      let tags = demand_3 p marks e l' l' (once [] l') (strings_sent l s) h in
      let i = start_renamed p marks (sent chosen) (Listed l n) (renaming l n) l (each_listed l n l s (λ b m. m)) in
      record {
        outputs = tags.outputs ∙ ap (λ (x : Plain). x.outputs) i.0 ∙ sym plain.outputs;
        time = tags.time ∙ ap (λ (x : Plain). x.time) i.0 ∙ sym plain.time;
        answered = tags.answered ∙ i.1 ∙ sym plain.answered;
      }

  -- so with any list none of whose frames is of kind 1B, 31 bytes long and readable
  pub none_made : (l : List Bytes) → Strings l → Every NeverMade l → NoneBecomesAnother chosen l
  none_made l s n b b' m m' h = never_made chosen b b' (every_among Octets l b m s) (every_among NeverMade l b' m' n) h
