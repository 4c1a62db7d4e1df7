-- IT ACTS AS THE PLAIN KIND DOES (§1), frame by frame and in lists.
use Rattle.std.specs.Prelude.{Option, Some, None, Err}
use Rattle.lighting_levels.specs.Paper.Choice.{when◌then◌else◌}
use mathlib.Core.Path.{◌≡◌, refl, sym, ap, ap₂, ◌∙◌}
use mathlib.Core.Logic.{◌≢◌}
use mathlib.Core.Bool.{Bool, true, false≢true}
use mathlib.Core.List.{◌∷◌, ◌++◌, []}
use Prim.Native.Nat.{ℕ, zero, suc, ◌+◌, ◌-◌, ◌≤◌, ◌<◌}
use native.Mathlib.Omega.{arith}
use lib.ListN.{length, get_or, take, drop, replicate, length-append, length-take, length-drop, length-replicate, get_or-append, take-append-drop}
use lib.Seq.{drop_at, take_at, drop-cons, drop-drop, get_or-take, get_or-drop}
use Rattle.lighting_outputs.specs.Paper.Answers.{as_request}
use Rattle.lighting_outputs.specs.declared.Parameters.{Parameters}
use Rattle.lighting_levels.specs.Paper.Field.{byte_at, big_endian}
use Rattle.lighting_frames.specs.Paper.Kinds.{kind_row, kind_length}
use Rattle.lighting_frames.specs.Paper.Tags.{held_by, tag_bytes, most_tagged, zero_filled, body_bytes, body_fields, operation_of, time_of, read_fields, read_body, reads}
use Rattle.lighting_frames.specs.Paper.Frames.{Bytes, Octets, tagged_request, request_of, call_of, called, parse_by, parse}
use Rattle.lighting_frames.specs.Paper.Copies.{same_bytes}
use Rattle.lighting_frames.specs.Paper.InTags.{plain_tags, framed, framed_by, in_tags, sent}
use Rattle.lighting_frames.specs.declared.Action.{Action}
use Rattle.lighting_frames.specs.declared.Action.TheVariants.{CommandsTagged}
use Rattle.lighting_frames.specs.declared.Kind.{Kind}
use Rattle.lighting_frames.specs.declared.Kind.TheVariants.{NoKind, ClockKind, CallKind}
use Rattle.lighting_frames.specs.declared.TagFields.{TagFields}
use Rattle.lighting_levels.proofs.Split.{by_bool, by_eq, also_both, also_yes, eqb_hit, eq_of}
use Rattle.lighting_frames.proofs.KindTable.{kind_byte}
use Rattle.lighting_frames.proofs.Tagging.Bodies.{sizes_written, fields_read, well_written}
use Rattle.lighting_frames.proofs.Tagging.PlainInTags.{plain_body, Same, SameIf, same}
use Rattle.lighting_outputs.specs.declared.refusals.Refusal.{Refusal}

-- A FRAME IN TAGS, of a plain command's frame b and its fields f
module _ {action : Action} (b : Bytes) (f : TagFields) (s : Same action b f) where
  abbrev tagged : Bytes
  tagged = framed b (Some f)

  abbrev common : Bytes
  common = take 12 (drop 1 b)

  length_common : length common ≡ 12
  length_common = omega (arith, s.long, length-take 12 (drop 1 b), length-drop 1 b)

  length_body : length (body_bytes f) ≡ 18
  unfolding body_bytes zero_filled
  length_body =
      omega (arith, sizes_written f, s.high, length-append (tag_bytes f) (replicate (most_tagged - length (tag_bytes f)) 0), length-replicate {A = ℕ} (most_tagged - length (tag_bytes f)) 0)

  length_tagged : length tagged ≡ 31
  length_tagged = omega (arith, length-append common (body_bytes f), length_common, length_body)

  -- the common bytes are the plain frame's
  common_byte : (i : ℕ) → 1 ≤ i → i < 13 → byte_at tagged i ≡ byte_at b i
  unfolding byte_at
  common_byte zero l h = absurd (omega arith)
  common_byte (suc i) l h =
      let z : 1 + i ≡ suc i = omega arith in
      get_or-append common (body_bytes f) 0 i (omega (arith, length_common))
      ∙ get_or-take 12 (drop 1 b) i 0 (omega arith)
      ∙ get_or-drop 1 b i 0
      ∙ ap (λ (n : ℕ). get_or b n 0) z

  common_number : (n at : ℕ) → 1 ≤ at → at + n ≤ 13 → big_endian n tagged at ≡ big_endian n b at
  unfolding big_endian
  common_number zero at l h = refl
  common_number (suc n) at l h = rw (common_number n at l (omega arith), common_byte (at + n) (omega arith) (omega arith))

  body_of : drop 13 tagged ≡ body_bytes f
  body_of = drop_at common (body_bytes f) 12 length_common

  -- and so is what is asked
  body_asks : (p : Parameters) → as_request (tagged_request p (read_body (body_bytes f))) ≡ request_of p action b
  unfolding read_body when◌then◌else◌
  body_asks p =
      let n = sizes_written f in
      let w = well_written f s.fit (omega (arith, s.low)) (omega (arith, s.high)) s.known in
      rw (w, fields_read f s.fit) (s.asks p)

  body_reads : read_body (body_bytes f) ≡ reads (operation_of f) (time_of f.duration)
  unfolding read_body read_fields when◌then◌else◌
  body_reads =
      let n = sizes_written f in
      let w = well_written f s.fit (omega (arith, s.low)) (omega (arith, s.high)) s.known in
      rw (w, fields_read f s.fit, s.own)

  pub tagged_asks : (p : Parameters) → request_of p CommandsTagged tagged ≡ request_of p action b
  unfolding request_of
  tagged_asks p = rw body_of (body_asks p)

  call_same : (p : Parameters) → call_of p CommandsTagged tagged ≡ call_of p action b
  unfolding call_of
  call_same p =
      rw
      (common_byte 1 (omega arith) (omega arith), common_number 4 2 (omega arith) (omega arith), common_number 6 6 (omega arith) (omega arith), common_byte 12 (omega arith) (omega arith), tagged_asks p)

  pub parse_tagged : (p : Parameters) (c : ℕ) → parse p c tagged ≡ called p c (call_of p action b)
  unfolding parse parse_by kind_row byte_at when◌then◌else◌
  parse_tagged p c = rw (eqb_hit {a = length tagged} {b = 31} length_tagged) (ap (called p c) (call_same p))

  -- all of the plain frame can be told from it
  pub rebuilt : (0x10 + held_by f.operation) ∷ (common ++ plain_body f) ≡ b
  unfolding byte_at
  rebuilt =
      rw (← s.kind, ← s.tail, ← drop-drop 12 1 b, take-append-drop 12 (drop 1 b)) (sym (drop-cons b 0 0 (omega (arith, s.long))))

-- HOW A FRAME WAS SENT: as it is, or in tags
pub data SentAs (b : Bytes) : Bytes → Type 0 where
  itself : SentAs b b
  as_tags : (action : Action) (f : TagFields) → (kind_row (byte_at b 0)).kind ≡ CallKind action → length b ≡ kind_length (byte_at b 0) → Same action b f → SentAs b (framed b (Some f))

framed_as : (action : Action) (b : Bytes) (f : Option TagFields) → (kind_row (byte_at b 0)).kind ≡ CallKind action → length b ≡ kind_length (byte_at b 0)
    → SameIf action b f → SentAs b (framed b f)
framed_as action b None k l s = itself
framed_as action b (Some f) k l s = as_tags action f k l s

framed_by_as : (kind : Kind) (b : Bytes) → Octets b → (kind_row (byte_at b 0)).kind ≡ kind → length b ≡ kind_length (byte_at b 0) → SentAs b (framed_by kind b)
framed_by_as NoKind b o k l = itself
framed_by_as ClockKind b o k l = itself
framed_by_as (CallKind action) b o k l =
    let byte = kind_byte (byte_at b 0) action k in
    framed_as action b (plain_tags action b) k l (same b o action byte (l ∙ ap kind_length byte))

pub sent_as : (chosen : Bytes → Bool) (b : Bytes) → Octets b → SentAs b (sent chosen b)
unfolding sent in_tags when◌then◌else◌
sent_as chosen b o =
    by_bool (chosen b)
    (λ e. rw e
    (by_eq (length b) (kind_length (byte_at b 0)) (λ l q. rw q (framed_by_as (kind_row (byte_at b 0)).kind b o refl l)) (λ l q. rw q itself)))
    (λ e. rw e itself)

-- READ ALIKE
parse_call : (p : Parameters) (c : ℕ) (b : Bytes) (action : Action) → (kind_row (byte_at b 0)).kind ≡ CallKind action → length b ≡ kind_length (byte_at b 0)
    → parse p c b ≡ called p c (call_of p action b)
unfolding parse parse_by kind_length when◌then◌else◌
parse_call p c b action k l = rw (k, eqb_hit {a = length b} {b = (kind_row (byte_at b 0)).length} l)

pub parse_sent : (p : Parameters) (c : ℕ) (b : Bytes) {b' : Bytes} → SentAs b b' → parse p c b' ≡ parse p c b
parse_sent p c b itself = refl
parse_sent p c b (as_tags action f k l s) = parse_tagged b f s p c ∙ sym (parse_call p c b action k l)

-- AND NO TWO BECOME ONE, but for one and the same frame, if neither is what the other becomes
told_apart : (b b' : Bytes) {a a' : Bytes} → SentAs b a → SentAs b' a' → (a ≡ b' → b ≡ b') → (a' ≡ b → b' ≡ b) → a ≡ a' → b ≡ b'
told_apart b b' itself itself n n' h = h
told_apart b b' itself (as_tags action f k l s) n n' h = sym (n' (sym h))
told_apart b b' (as_tags action f k l s) itself n n' h = n h
told_apart b b' (as_tags action f k l s) (as_tags action' f' k' l' s') n n' h =
    let body : body_bytes f ≡ body_bytes f' = sym (body_of b f s) ∙ ap (drop 13) h ∙ body_of b' f' s' in
    let fields : f ≡ f' = sym (fields_read f s.fit) ∙ ap body_fields body ∙ fields_read f' s'.fit in
    let front : take 12 (drop 1 b) ≡ take 12 (drop 1 b') =
    sym (take_at (take 12 (drop 1 b)) (body_bytes f) 12 (length_common b f s))
    ∙ ap (λ (x : Bytes). take 12 (drop 1 x)) h
    ∙ take_at (take 12 (drop 1 b')) (body_bytes f') 12 (length_common b' f' s') in
    sym (rebuilt b f s)
    ∙ ap₂ (λ (x : Bytes) (g : TagFields). (0x10 + held_by g.operation) ∷ (x ++ plain_body g)) front fields
    ∙ rebuilt b' f' s'

pub same_equal : (k l : Bytes) → same_bytes k l ≡ true → k ≡ l
unfolding same_bytes
same_equal [] [] h = refl
same_equal [] (y ∷ l) h = absurd (false≢true h)
same_equal (x ∷ k) [] h = absurd (false≢true h)
same_equal (x ∷ k) (y ∷ l) h = ap₂ (λ (z : ℕ) (m : Bytes). z ∷ m) (eq_of (also_both h).0) (same_equal k l (also_both h).1)

pub same_self : (k : Bytes) → same_bytes k k ≡ true
unfolding same_bytes
same_self [] = refl
same_self (x ∷ k) = also_yes (eqb_hit {a = x} refl) (same_self k)

pub apart : (b b' : Bytes) {a a' : Bytes} → SentAs b a → SentAs b' a' → (a ≡ b' → b ≡ b') → (a' ≡ b → b' ≡ b) → (b ≡ b' → a ≡ a') → same_bytes a a' ≡ same_bytes b b'
apart b b' {a} {a'} s s' n n' g =
    by_bool (same_bytes a a')
    (λ e. e ∙ sym (ap (same_bytes b) (sym (told_apart b b' s s' n n' (same_equal a a' e))) ∙ same_self b))
    (λ e. by_bool (same_bytes b b')
    (λ q. absurd (false≢true (sym e ∙ ap (same_bytes a) (sym (g (same_equal b b' q))) ∙ same_self a)))
    (λ q. e ∙ sym q))

-- A FRAME THAT NO OTHER BECOMES, whatever the list: of another kind than 1B, of another length than 31, or
-- with a body that is 14 or 15
pub data NeverMade (b : Bytes) : Type 0 where
  other_kind : byte_at b 0 ≢ 0x1b → NeverMade b
  other_length : length b ≢ 31 → NeverMade b
  unreadable : {refusal : Refusal} → read_body (drop 13 b) ≡ Err refusal → NeverMade b

never_of : (b b' : Bytes) {a : Bytes} → SentAs b a → NeverMade b' → a ≡ b' → b ≡ b'
unfolding byte_at
never_of b b' itself n h = h
never_of b b' (as_tags action f k l s) (other_kind n) h = absurd (n (sym (ap (λ (x : Bytes). get_or x 0 0) h)))
never_of b b' (as_tags action f k l s) (other_length n) h = absurd (n (sym (ap length h) ∙ length_tagged b f s))
never_of b b' (as_tags action f k l s) (unreadable n) h =
    let read = sym (ap read_body (body_of b f s)) ∙ ap (λ (x : Bytes). read_body (drop 13 x)) h ∙ n in
    let never : ◌≡◌ {A = ℕ} 0 1 = cc (body_reads b f s) in
    absurd (omega arith)

pub never_made : (chosen : Bytes → Bool) (b b' : Bytes) → Octets b → NeverMade b' → sent chosen b ≡ b' → b ≡ b'
never_made chosen b b' o n h = never_of b b' (sent_as chosen b o) n h
