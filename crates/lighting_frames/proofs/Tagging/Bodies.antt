-- A BODY IN TAGS, L and 17 bytes, both ways (§1): the fields that were written are read, and a body that
-- meets no 14 is the one that its fields make: no other bytes hold them.
use mathlib.Core.Path.{◌≡◌, refl, sym, ap, ap₂, ◌∙◌}
use mathlib.Core.Bool.{true}
use mathlib.Core.List.{◌∷◌, ◌++◌, []}
use Prim.Native.Nat.{ℕ, zero, suc, ◌+◌, ◌-◌, ◌≤◌}
use native.Mathlib.Omega.{arith}
use lib.Dec.{eqb}
use lib.ListN.{length, get_or, take, drop, replicate, length-take, length-drop, take-append-drop}
use lib.Seq.{take-append_seam, drop-cons, drop-length, drop-nil}
use Rattle.lighting_levels.specs.Paper.Choice.{all_from}
use Rattle.lighting_levels.specs.Paper.Field.{byte_at}
use Rattle.lighting_frames.specs.Paper.Frames.{Bytes, Octets}
use Rattle.lighting_outputs.specs.Paper.Rows.{within}
use Rattle.lighting_frames.specs.Paper.Tags.{tag_octets, listed, named, sizes, tag_bytes, most_tagged, zero_filled, body_bytes, fields_from, length_of, body_fields, zero_beyond, holds_at_most, well_tagged}
use Rattle.lighting_frames.specs.declared.TagFields.{TagFields}
use Rattle.lighting_levels.proofs.Split.{also_both, also_yes, leb_yes, eqb_hit, eq_of, le_of}
use Rattle.lighting_levels.proofs.Scan.{each_all}
use Rattle.lighting_frames.proofs.Octets.{taken_octets, dropped_octets}
use Rattle.lighting_frames.proofs.Tagging.Fields.{AllFit, three_bits, sizes_length, read_back, all_fit, written_back}

-- the L bytes
abbrev content : Bytes → Bytes
content body = take (length_of body) (drop 1 body)

pub named_listed : (body : Bytes) → listed (body_fields body) ≡ fields_from 0 tag_octets (content body)
unfolding body_fields fields_from
named_listed body = refl

-- WRITTEN, THEN READ
content_written : (f : TagFields) → content (body_bytes f) ≡ tag_bytes f
unfolding body_bytes zero_filled byte_at
content_written f = take-append_seam (tag_bytes f) (replicate (most_tagged - length (tag_bytes f)) 0)

content_read : (f : TagFields) → AllFit tag_octets (listed f) → fields_from 0 tag_octets (content (body_bytes f)) ≡ listed f
content_read f fit = rw (content_written f) (unfold tag_bytes in (read_back 0 tag_octets (listed f) three_bits fit))

pub fields_read : (f : TagFields) → AllFit tag_octets (listed f) → body_fields (body_bytes f) ≡ f
unfolding body_fields
fields_read f fit = ap named (content_read f fit)

-- zeros from a place on
zeros : (n : ℕ) (b : Bytes) (at : ℕ) → at + n ≡ length b → all_from (λ (i : ℕ). eqb (byte_at b i) 0) n at ≡ true → drop at b ≡ replicate n 0
unfolding all_from byte_at
zeros zero b at e h = let z : at ≡ length b = omega arith in rw z (drop-length b)
zeros (suc n) b at e h =
    let q = also_both h in
    let next : at + 1 ≡ suc at = omega arith in
    drop-cons b at 0 (omega arith)
    ∙ ap₂ (λ (x : ℕ) (l : Bytes). x ∷ l) (eq_of q.0) (zeros n b (suc at) (omega arith) (rw next at q.1))

padding : (n i : ℕ) → ◌≡◌ {A = ℕ} (get_or (replicate n 0) i 0) 0
padding zero i = refl
padding (suc n) zero = refl
padding (suc n) (suc i) = padding n i

beyond : (front : Bytes) (n i : ℕ) → length front ≤ i → get_or (front ++ replicate n 0) i 0 ≡ 0
beyond [] n i h = padding n i
beyond (x ∷ front) n zero h = absurd (omega arith)
beyond (x ∷ front) n (suc i) h = beyond front n i (omega arith)

length_written : (f : TagFields) → length_of (body_bytes f) ≡ length (tag_bytes f)
unfolding body_bytes byte_at
length_written f = refl

zero_after : (f : TagFields) (j : ℕ) → suc (length (tag_bytes f)) ≤ j → byte_at (body_bytes f) j ≡ 0
unfolding body_bytes zero_filled byte_at
zero_after f zero p = absurd (omega arith)
zero_after f (suc j) p = beyond (tag_bytes f) (most_tagged - length (tag_bytes f)) j (omega arith)

clear_written : (f : TagFields) → zero_beyond (body_bytes f) ≡ true
unfolding zero_beyond
clear_written f =
    each_all (λ (i : ℕ). eqb (byte_at (body_bytes f) i) 0) (most_tagged - length_of (body_bytes f)) (suc (length_of (body_bytes f)))
    (λ j p q. eqb_hit (zero_after f j (omega (arith, length_written f))))

pub sizes_written : (f : TagFields) → sizes (listed f) ≡ length (tag_bytes f)
unfolding tag_bytes
sizes_written f = sym (sizes_length 0 (listed f))

pub well_written : (f : TagFields) → AllFit tag_octets (listed f) → 2 ≤ length (tag_bytes f) → length (tag_bytes f) ≤ most_tagged → holds_at_most 10 f.operation ≡ true
    → well_tagged (body_bytes f) ≡ true
unfolding well_tagged within
well_written f fit low high known =
    rw (fields_read f fit, length_written f)
    (also_yes (also_yes (leb_yes low) (leb_yes high)) (also_yes (eqb_hit (sizes_written f)) (also_yes (clear_written f) known)))

-- READ, THEN WRITTEN
pub record WellTagged (body : Bytes) : Type 0 where
  pub low : 2 ≤ length_of body
  pub high : length_of body ≤ most_tagged
  pub sized : sizes (listed (body_fields body)) ≡ length_of body
  pub clear : zero_beyond body ≡ true
  pub known : holds_at_most 10 (body_fields body).operation ≡ true

pub well_tagged_lem : (body : Bytes) → well_tagged body ≡ true → WellTagged body
unfolding well_tagged within
well_tagged_lem body h =
    let a = also_both h in
    let b = also_both a.1 in
    let c = also_both b.1 in
    let l = also_both a.0 in
    record { low = le_of l.0; high = le_of l.1; sized = eq_of b.0; clear = c.0; known = c.1 }

one_less : (n : ℕ) (b : Bytes) → drop n (drop 1 b) ≡ drop (suc n) b
one_less n [] = drop-nil n
one_less n (x ∷ b) = refl

module _ (body : Bytes) (o : Octets body) where
  content_octets : Octets (content body)
  content_octets = taken_octets (length_of body) (drop 1 body) (dropped_octets 1 body o)

  pub fields_fit : AllFit tag_octets (listed (body_fields body))
  unfolding body_fields fields_from
  fields_fit = all_fit 0 tag_octets (content body) content_octets

  module _ (eighteen : length body ≡ suc most_tagged) where
    content_length : WellTagged body → length (content body) ≡ length_of body
    content_length w = omega (arith, length-take (length_of body) (drop 1 body), length-drop 1 body, w.high)

    tags_read : WellTagged body → tag_bytes (body_fields body) ≡ content body
    unfolding tag_bytes
    tags_read w =
        rw (named_listed body)
        (written_back 0 tag_octets (content body) content_octets (rw (← named_listed body) (w.sized ∙ sym (content_length w))))

    padding_read : WellTagged body → drop (length_of body) (drop 1 body) ≡ replicate (most_tagged - length_of body) 0
    unfolding zero_beyond
    padding_read w =
        one_less (length_of body) body ∙ zeros (most_tagged - length_of body) body (suc (length_of body)) (omega (arith, w.high)) w.clear

    whole : length_of body ∷ drop 1 body ≡ body
    unfolding byte_at
    whole = sym (drop-cons body 0 0 (omega arith))

    pub only_body : well_tagged body ≡ true → body_bytes (body_fields body) ≡ body
    unfolding body_bytes zero_filled
    only_body h =
        let w = well_tagged_lem body h in
        rw (tags_read w, content_length w, ← padding_read w, take-append-drop (length_of body) (drop 1 body)) whole
