-- THE FORM, both ways (§1): fields that were written are read, and what was read is what was written. Over
-- any list of fields whose tags rise, so once for all six.
use Rattle.std.specs.Prelude.{Option, Some, None}
use Rattle.lighting_levels.specs.Paper.Choice.{when◌then◌else◌, Every}
use mathlib.Core.Path.{◌≡◌, refl, ap, ◌∙◌}
use mathlib.Core.Bool.{true, false}
use mathlib.Core.List.{List, ◌∷◌, ◌++◌, []}
use Prim.Native.Nat.{ℕ, suc, ◌-◌, ◌^◌, ◌≤◌, ◌<◌}
use native.Mathlib.Nat.{mod-eq_of_lt}
use native.Mathlib.Omega.{arith}
use lib.Dec.{leb, ltb}
use lib.ListN.{length, take, drop, length-append, length-drop, take-append-drop}
use lib.Seq.{drop_at}
use Rattle.lighting_levels.specs.Paper.Field.{byte_at, big_endian, octets}
use Rattle.lighting_frames.specs.Paper.Frames.{Bytes, Octets}
use Rattle.lighting_outputs.specs.Paper.Rows.{within}
use Rattle.lighting_frames.specs.Paper.Tags.{context_tag, OctetRange, tag_octets, field_size, sizes, field_bytes, bytes_from, field_in, fields_from, holds}
use Rattle.lighting_frames.specs.declared.TagContent.{TagContent}
use Rattle.lighting_levels.proofs.Split.{also_both, by_bool, leb_yes, leb_no, le_of}
use Rattle.lighting_levels.proofs.Fields.{below}
use Rattle.lighting_frames.proofs.Octets.{octet, dropped_octets, length_octets, spelled, respelled}

-- A FIELD FITS: as many octets as it may have, and they hold the number
abbrev pub Fits : OctetRange → Option TagContent → Type 0
Fits allowed (Some content) = (allowed.least ≤ content.count) × (content.count ≤ allowed.most) × (content.value < 256 ^ content.count)
Fits allowed None = Unit {0}

abbrev pub AllFit : List OctetRange → List (Option TagContent) → Type 0
AllFit [] [] = Unit {0}
AllFit [] (field ∷ fields) = ⊥
AllFit (allowed ∷ more) [] = ⊥
AllFit (allowed ∷ more) (field ∷ fields) = Fits allowed field × AllFit more fields

-- a length of three bits, as the tag octet holds it
abbrev pub ThreeBits : List OctetRange → Type 0
ThreeBits l = Every (λ (allowed : OctetRange). allowed.most ≤ 7) l

pub three_bits : ThreeBits tag_octets
three_bits = (omega arith, (omega arith, (omega arith, (omega arith, (omega arith, (omega arith, tt))))))

-- how many bytes fields are
pub sizes_length : (number : ℕ) (fields : List (Option TagContent)) → length (bytes_from number fields) ≡ sizes fields
unfolding bytes_from sizes field_bytes field_size
sizes_length number [] = refl
sizes_length number (Some content ∷ fields) =
    omega (arith, length-append (octets content.count content.value) (bytes_from (suc number) fields), length_octets content.count content.value, sizes_length (suc number) fields)
sizes_length number (None ∷ fields) = omega (arith, sizes_length (suc number) fields)

-- WRITTEN, THEN READ. The next tag is one of a higher number, or there is none: so a missing field is found
-- missing
outside : (allowed : OctetRange) (n number : ℕ) (fields : List (Option TagContent)) → allowed.most ≤ 7 → n < number
    → within (context_tag n allowed.least) (context_tag n allowed.most) (byte_at (bytes_from number fields) 0) ≡ false
unfolding within byte_at bytes_from field_bytes when◌then◌else◌
outside allowed n number [] m h = rw (leb_no {a = context_tag n allowed.least} {b = 0} (omega arith))
outside allowed n number (Some content ∷ fields) m h =
    by_bool
    (leb (context_tag n allowed.least) (context_tag number content.count))
    (λ e. rw (e, leb_no {a = context_tag number content.count} {b = context_tag n allowed.most} (omega arith)))
    (λ e. rw e)
outside allowed n number (None ∷ fields) m h = outside allowed n (suc number) fields m (omega arith)

missing_read : (allowed : OctetRange) (n : ℕ) (left : Bytes) → within (context_tag n allowed.least) (context_tag n allowed.most) (byte_at left 0) ≡ false
    → field_in n allowed left ≡ None
unfolding field_in when◌then◌else◌
missing_read allowed n left e = rw e

held_read : (allowed : OctetRange) (n count value : ℕ) (rest : Bytes) → Fits allowed (holds count value)
    → field_in n allowed (context_tag n count ∷ (octets count value ++ rest)) ≡ holds count value
unfolding field_in within byte_at when◌then◌else◌
held_read allowed n count value rest f =
    let left = context_tag n count ∷ (octets count value ++ rest) in
    let same : context_tag n count - context_tag n 0 ≡ count = omega arith in
    let size : count < length left = omega (arith, length-append (octets count value) rest, length_octets count value) in
    let spells : big_endian count left 1 ≡ value = spelled count value (context_tag n count ∷ []) rest ∙ mod-eq_of_lt f.2 in
    let low : leb (context_tag n allowed.least) (context_tag n count) ≡ true = leb_yes {a = context_tag n allowed.least} {b = context_tag n count} (omega (arith, f.0)) in
    let high : leb (context_tag n count) (context_tag n allowed.most) ≡ true = leb_yes {a = context_tag n count} {b = context_tag n allowed.most} (omega (arith, f.1)) in
    rw (low, high, same, leb_yes {a = suc count} {b = length left} size, spells)

pub read_back : (number : ℕ) (allowed : List OctetRange) (fields : List (Option TagContent)) → ThreeBits allowed → AllFit allowed fields
    → fields_from number allowed (bytes_from number fields) ≡ fields
unfolding fields_from bytes_from field_bytes field_size
read_back number [] [] t f = refl
read_back number [] (field ∷ fields) t f = absurd f
read_back number (allowed ∷ more) [] t f = absurd f
read_back number (allowed ∷ more) (Some content ∷ fields) t f =
    let left = bytes_from (suc number) fields in
    let dropped : drop content.count (octets content.count content.value ++ left) ≡ left = drop_at (octets content.count content.value) left content.count (length_octets content.count content.value) in
    rw (held_read allowed number content.count content.value left f.0, dropped)
    (ap (λ (l : List (Option TagContent)). holds content.count content.value ∷ l) (read_back (suc number) more fields t.1 f.1))
read_back number (allowed ∷ more) (None ∷ fields) t f =
    rw (missing_read allowed number (bytes_from (suc number) fields) (outside allowed number (suc number) fields t.0 (omega arith)))
    (ap (λ (l : List (Option TagContent)). None ∷ l) (read_back (suc number) more fields t.1 f.1))

-- READ, THEN WRITTEN. What a place holds is a tag with its content, and fits
tag_known : (n least most x : ℕ) → within (context_tag n least) (context_tag n most) x ≡ true
    → (least ≤ x - context_tag n 0) × (x - context_tag n 0 ≤ most) × (context_tag n (x - context_tag n 0) ≡ x)
unfolding within
tag_known n least most x e =
    let low : context_tag n least ≤ x = le_of (also_both e).0 in
    let high : x ≤ context_tag n most = le_of (also_both e).1 in
    (omega arith, omega arith, omega arith)

-- the field that a place holds, and what it is if it is there
pub data Read (allowed : OctetRange) (n : ℕ) (left : Bytes) : Option TagContent → Type 0 where
  held : (count : ℕ) → allowed.least ≤ count → count ≤ allowed.most → context_tag n count ≡ byte_at left 0 → count < length left
      → Read allowed n left (holds count (big_endian count left 1))
  nothing : Read allowed n left None

pub read_as : (allowed : OctetRange) (n : ℕ) (left : Bytes) → Read allowed n left (field_in n allowed left)
unfolding field_in when◌then◌else◌
read_as allowed n left =
    let count = byte_at left 0 - context_tag n 0 in
    by_bool
    (within (context_tag n allowed.least) (context_tag n allowed.most) (byte_at left 0))
    (λ e. let k = tag_known n allowed.least allowed.most (byte_at left 0) e in
    by_bool (ltb count (length left)) (λ q. rw (e, q) (held count k.0 k.1 k.2 (le_of q))) (λ q. rw (e, q) nothing))
    (λ e. rw e nothing)

fits_by : {allowed : OctetRange} {n : ℕ} {left : Bytes} {field : Option TagContent} → Octets left → Read allowed n left field → Fits allowed field
fits_by {left = left} o (held count low high tag size) = (low, high, below left (λ i. octet left i o) count 1)
fits_by o nothing = tt

pub all_fit : (number : ℕ) (allowed : List OctetRange) (left : Bytes) → Octets left → AllFit allowed (fields_from number allowed left)
unfolding fields_from
all_fit number [] left o = tt
all_fit number (allowed ∷ more) left o =
    (fits_by o (read_as allowed number left), all_fit (suc number) more (drop (field_size (field_in number allowed left)) left) (dropped_octets (field_size (field_in number allowed left)) left o))

-- its bytes are the first of what was left
first_bytes : {allowed : OctetRange} {n : ℕ} {left : Bytes} {field : Option TagContent} → Octets left → Read allowed n left field
    → (field_bytes n field ++ drop (field_size field) left ≡ left) × (field_size field ≤ length left)
unfolding field_bytes field_size byte_at
first_bytes {left = []} o (held count low high tag size) = absurd (omega arith)
first_bytes {n = n} {left = x ∷ rest} o (held count low high tag size) =
    let spells : octets count (big_endian count (x ∷ rest) 1) ≡ take count rest = respelled count (x ∷ rest) 1 o (omega arith) in
    (rw (tag, spells, take-append-drop count rest), size)
first_bytes o nothing = (refl, omega arith)

pub written_back : (number : ℕ) (allowed : List OctetRange) (left : Bytes) → Octets left → sizes (fields_from number allowed left) ≡ length left
    → bytes_from number (fields_from number allowed left) ≡ left
unfolding fields_from bytes_from sizes
written_back number [] [] o e = refl
written_back number [] (x ∷ left) o e = absurd (omega arith)
written_back number (allowed ∷ more) left o e =
    let field = field_in number allowed left in
    let rest = drop (field_size field) left in
    let f = first_bytes o (read_as allowed number left) in
    let size : sizes (fields_from (suc number) more rest) ≡ length rest = omega (arith, f.1, length-drop (field_size field) left) in
    ap (λ (l : Bytes). field_bytes number field ++ l) (written_back (suc number) more rest (dropped_octets (field_size field) left o) size) ∙ f.0
