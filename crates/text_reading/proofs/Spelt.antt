-- What is spelt is read: a text that spells a string of bytes, fed to a reader at a line's start, makes it
-- hold a frame of those bytes, as far as the first `bytes_kept`.
use mathlib.Core.Path.{◌≡◌, refl, sym, ap, ◌∙◌}
use mathlib.Core.Logic.{◌≢◌}
use mathlib.Core.Bool.{Bool, true, false}
use mathlib.Core.List.{[], ◌∷◌, ◌++◌, append_assoc, append-nil}
use Prim.Native.Nat.{ℕ, zero, suc, ◌+◌, ◌*◌, ◌≤◌, ◌<◌}
use native.Mathlib.Omega.{arith}
use native.Mathlib.Numerals.{add-one}
use lib.ListN.{length, take, length-set, length-take, length-append}
use lib.Seq.{take_all, take-append-le, take-suc-set}
use Rattle.lighting_levels.specs.Paper.Choice.{when◌then◌else◌}
use Rattle.lighting_frames.specs.Paper.Frames.{Bytes, Octets}
use Rattle.lighting_levels.proofs.Split.{by_lt, eqb_miss}
use Rattle.std.specs.Prelude.{Option, Some}
use Rattle.text_characters.specs.Characters.{is_blank, byte_pair}
use Rattle.text_heading.specs.Heading.{run}
use Rattle.text_heading.specs.Spelling.{Unbroken, nothing, char, Digit}
use Rattle.text_heading.proofs.Leads.{blank_no_newline, worth, small, past}
use Rattle.text_reading.specs.Reading.{bytes_kept, digit_held, opened, byte_held, half_held, dashed, step, pushed, joined, joined_by, stored_by, with_held, feed, fed, line_of, content}
use Rattle.text_reading.specs.Spelling.{Spells, end, blank, byte}
use Rattle.text_reading.specs.declared.Held.{Held}
use Rattle.text_reading.specs.declared.Held.TheVariants.{Blank, Whole, Half, Dash}
use Rattle.text_reading.specs.declared.Line.TheVariants.{Frame}
use Rattle.text_reading.specs.declared.Reader.{Reader}

-- A DIGIT is no blank
is_no_blank : (c : ℕ) → 47 < c → is_blank c ≡ false
unfolding is_blank when◌then◌else◌
is_no_blank c h =
    rw (
      eqb_miss {a = c} {b = 32} (omega arith),
      eqb_miss {a = c} {b = 9} (omega arith),
      eqb_miss {a = c} {b = 13} (omega arith),
    )

-- A READER BETWEEN BYTES: the line holds nothing yet, or whole bytes, and the list has named its outputs
pub data Between : Held → Type 0 where
  none : Between Blank
  some : Between Whole

pub record Ready (w : Reader) : Type 0 where
  pub named : w.named ≡ true
  pub room : length w.bytes ≡ bytes_kept
  pub most : w.count ≤ bytes_kept
  pub between : Between w.held

-- a first digit
first_held : (n : Bool) {h : Held} {d c : ℕ} → n ≡ true → Between h → Digit d c → step n h (Some d) c ≡ Half d
unfolding step opened byte_held digit_held when◌then◌else◌
first_held n {d = d} {c = c} p none g =
    rw (
      is_no_blank c (past g),
      eqb_miss {a = c} {b = 35} (omega (arith, past g)),
      p,
      eqb_miss {a = c} {b = 45} (omega (arith, past g)),
    )
first_held n {d = d} {c = c} p some g = rw (is_no_blank c (past g))

unstored : (w : Reader) {h : Held} (v : Option ℕ) → Between h → stored_by w h v ≡ w
unfolding stored_by
unstored w v none = refl
unstored w v some = refl

pub first : (w : Reader) {d c : ℕ} → w.named ≡ true → Between w.held → Digit d c → feed w c ≡ with_held w (Half d)
unfolding feed
first w {d} {c} p b g = rw (worth g, unstored w (Some d) b, first_held w.named p b g)

-- a second one
pub second : (w : Reader) {d v c : ℕ} → d < 16 → Digit v c → feed (with_held w (Half d)) c ≡ with_held (pushed w (d * 16 + v)) Whole
unfolding feed with_held step stored_by joined_by half_held joined pushed when◌then◌else◌
second w {d} {v} {c} h g =
    rw (worth g, pair)
    (by_lt w.count bytes_kept (λ p e. rw e) (λ p e. rw e))
  where
    pair : byte_pair d v ≡ d * 16 + v
    pair = unfold byte_pair in (omega (arith, small g))

-- THE BYTES
pub content_pushed : (w : Reader) (x : ℕ) → length w.bytes ≡ bytes_kept → w.count ≤ bytes_kept → content (pushed w x) ≡ take bytes_kept (content w ++ (x ∷ []))
unfolding content pushed when◌then◌else◌
content_pushed w x r m =
    by_lt w.count bytes_kept
    (λ p e. rw (e, add-one, take-suc-set w.bytes w.count x (omega arith)) (sym (take_all bytes_kept _ (omega (arith, fits p)))))
    (λ p e. rw e (sym (take-append-le bytes_kept (take w.count w.bytes) (x ∷ []) (omega (arith, length-take w.count w.bytes)) ∙ take_all bytes_kept _ (omega (arith, length-take w.count w.bytes)))))
  where
    fits : w.count < bytes_kept → length (take w.count w.bytes ++ (x ∷ [])) ≤ bytes_kept
    fits p = simp (length-append, length-take) (omega arith)

take_again : (n : ℕ) (l b : Bytes) → take n (take n l ++ b) ≡ take n (l ++ b)
take_again zero l b = refl
take_again (suc n) [] b = refl
take_again (suc n) (x ∷ l) b = ap (λ (k : Bytes). x ∷ k) (take_again n l b)

ready_pushed : (w : Reader) (x : ℕ) → Ready w → Ready (with_held (pushed w x) Whole)
unfolding with_held pushed when◌then◌else◌
ready_pushed w x r =
    by_lt w.count bytes_kept
    (λ p e. rw e (record { named = r.named; room = length-set w.bytes w.count x ∙ r.room; most = omega arith; between = some }))
    (λ p e. rw e (record { named = r.named; room = r.room; most = r.most; between = some }))

-- A BLANK changes nothing where the line holds one of these
pub data Steady : Held → Type 0 where
  at_start : Steady Blank
  after_bytes : Steady Whole
  at_dash : Steady Dash

pub blank_steady : (w : Reader) {h : Held} (c : ℕ) → Steady h → is_blank c ≡ true → feed (with_held w h) c ≡ with_held w h
unfolding feed with_held step stored_by opened byte_held dashed when◌then◌else◌
blank_steady w c at_start e = rw e
blank_steady w c after_bytes e = rw e
blank_steady w c at_dash e = rw e

between_steady : {h : Held} → Between h → Steady h
between_steady none = at_start
between_steady some = after_bytes

pub passed_over : (w : Reader) (c : ℕ) → Between w.held → is_blank c ≡ true → feed w c ≡ w
passed_over w c b e = unfold with_held in (blank_steady w c (between_steady b) e)

-- a character, and a byte, at the head of a text
on_blank : (w : Reader) (c : ℕ) (x : Bytes) → Ready w → is_blank c ≡ true → fed w (c ∷ x) ≡ fed w x
unfolding run
on_blank w c x r e = ap (λ (u : Reader). fed u x) (passed_over w c r.between e)

on_byte : (w : Reader) {d v c k : ℕ} (x : Bytes) → Ready w → Digit d c → Digit v k → fed w (c ∷ (k ∷ x)) ≡ fed (with_held (pushed w (d * 16 + v)) Whole) x
unfolding run
on_byte w {k = k} x r g h =
    ap (λ (u : Reader). fed (feed u k) x) (first w r.named r.between g) ∙ ap (λ (u : Reader). fed u x) (second w (small g) h)

-- THE TEXT. What was read before stays in front: at a line's start that is nothing
pub read : {b x : Bytes} → Spells b x → (w : Reader) → Ready w → content (fed w x) ≡ take bytes_kept (content w ++ b)
unfolding run
read end w r =
    sym (rw append-nil (take_all bytes_kept (content w) (unfold content in (omega (arith, length-take w.count w.bytes, r.most)))))
read (blank {b} {x} c e s) w r = ap content (on_blank w c x r e) ∙ read s w r
read (byte {b} {x} {d} {v} g k s) w r =
    ap content (on_byte w x r g k)
    ∙ read s (with_held (pushed w (d * 16 + v)) Whole) (ready_pushed w (d * 16 + v) r)
    ∙ ap (λ (l : Bytes). take bytes_kept (l ++ b)) stored
    ∙ take_again bytes_kept (content w ++ ((d * 16 + v) ∷ [])) b
    ∙ ap (take bytes_kept) (append_assoc (content w) ((d * 16 + v) ∷ []) b)
  where
    stored : content (with_held (pushed w (d * 16 + v)) Whole) ≡ take bytes_kept (content w ++ ((d * 16 + v) ∷ []))
    stored = unfold with_held content in (content_pushed w (d * 16 + v) r.room r.most)

stays : {b x : Bytes} → Spells b x → (w : Reader) → Ready w → w.held ≡ Whole → (fed w x).held ≡ Whole
stays end w r h = unfold run in h
stays (blank {b} {x} c e s) w r h = ap (λ (u : Reader). u.held) (on_blank w c x r e) ∙ stays s w r h
stays (byte {b} {x} {d} {v} g k s) w r h =
    ap (λ (u : Reader). u.held) (on_byte w x r g k)
    ∙ stays s (with_held (pushed w (d * 16 + v)) Whole) (ready_pushed w (d * 16 + v) r) (unfold with_held in refl)

-- one byte or more make a frame
pub frame : {y : ℕ} {b x : Bytes} → Spells (y ∷ b) x → (w : Reader) → Ready w → line_of (fed w x).held ≡ Frame
unfolding line_of
frame (blank {b} {x} c e s) w r = ap (λ (u : Reader). line_of u.held) (on_blank w c x r e) ∙ frame s w r
frame (byte {b} {x} {d} {v} g k s) w r =
    ap (λ (u : Reader). line_of u.held) (on_byte w x r g k)
    ∙ ap line_of (stays s (with_held (pushed w (d * 16 + v)) Whole) (ready_pushed w (d * 16 + v) r) (unfold with_held in refl))

pushed_named : (w : Reader) (x : ℕ) → (pushed w x).named ≡ w.named
unfolding pushed when◌then◌else◌
pushed_named w x = by_lt w.count bytes_kept (λ p e. rw e) (λ p e. rw e)

-- whether the list has named its outputs stays
pub named_kept : {b x : Bytes} → Spells b x → (w : Reader) → Ready w → (fed w x).named ≡ w.named
named_kept end w r = unfold run in refl
named_kept (blank {b} {x} c e s) w r = ap (λ (u : Reader). u.named) (on_blank w c x r e) ∙ named_kept s w r
named_kept (byte {b} {x} {d} {v} g k s) w r =
    ap (λ (u : Reader). u.named) (on_byte w x r g k)
    ∙ named_kept s (with_held (pushed w (d * 16 + v)) Whole) (ready_pushed w (d * 16 + v) r)
    ∙ (unfold with_held in (pushed_named w (d * 16 + v)))

-- the reader is ready again after each byte
pub ready_fed : {b x : Bytes} → Spells b x → (w : Reader) → Ready w → Ready (fed w x)
ready_fed end w r = unfold run in r
ready_fed (blank {b} {x} c e s) w r = rw (on_blank w c x r e) (ready_fed s w r)
ready_fed (byte {b} {x} {d} {v} g k s) w r =
    rw (on_byte w x r g k) (ready_fed s (with_held (pushed w (d * 16 + v)) Whole) (ready_pushed w (d * 16 + v) r))

-- no character of such a text is a newline
pub unbroken : {b x : Bytes} → Spells b x → Unbroken x
unbroken end = nothing
unbroken (blank c e s) = char (blank_no_newline c e) (unbroken s)
unbroken (byte {c = c} {k = k} g h s) =
    let first_char : c ≢ 10 = λ e. omega (arith, past g, e) in
    let second-char : k ≢ 10 = λ e. omega (arith, past h, e) in
    char first_char (char second-char (unbroken s))

-- and its bytes are bytes
pub octets : {b x : Bytes} → Spells b x → Octets b
octets end = tt
octets (blank c e s) = octets s
octets (byte g h s) = (omega (arith, small g, small h), octets s)
