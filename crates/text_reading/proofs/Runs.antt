-- Whole bytes and the blanks between them, one after another, where a byte may begin.
use mathlib.Core.Path.{◌≡◌, ap, ◌∙◌}
use mathlib.Core.Logic.{◌≢◌}
use mathlib.Core.Bool.{Bool, true, false≢true}
use Prim.Native.Nat.{ℕ, suc, ◌+◌, ◌-◌, ◌*◌, ◌<◌}
use native.Mathlib.Omega.{arith}
use lib.ListN.{length, get_or, set}
use Rattle.lighting_levels.specs.Paper.Choice.{when◌then◌else◌}
use Rattle.lighting_frames.specs.Paper.Frames.{Bytes}
use Rattle.lighting_levels.proofs.Split.{by_lt, leb_yes}
use Rattle.std.specs.Prelude.{Some}
use Rattle.text_characters.specs.Characters.{is_blank, hex_value, byte_pair}
use Rattle.text_heading.specs.Spelling.{Digit, figure, upper, lower}
use Rattle.text_heading.proofs.Leads.{blank_no_newline, small, past}
use Rattle.text_reading.specs.Reading.{may_begin, bytes_kept, pushed, with_held, feed}
use Rattle.text_reading.specs.declared.Held.{Held}
use Rattle.text_reading.specs.declared.Held.TheVariants.{Blank, Comment, Naming, Whole, Half, Dash, Spoilt}
use Rattle.text_reading.specs.declared.Reader.{Reader}
use Rattle.text_reading.proofs.Spelt.{Between, none, some, first, second, passed_over}
use Rattle.text_reading.proofs.Lines.{Comes, line_turn}

-- A CHARACTER THAT IS WORTH A DIGIT is one
figure_at : (d c v : ℕ) → d < 10 → c ≡ 48 + d → v ≡ d → Digit v c
figure_at d c v h e f = rw (e, f) (figure h)

upper_at : (d c v : ℕ) → d < 6 → c ≡ 65 + d → v ≡ 10 + d → Digit v c
upper_at d c v h e f = rw (e, f) (upper h)

lower_at : (d c v : ℕ) → d < 6 → c ≡ 97 + d → v ≡ 10 + d → Digit v c
lower_at d c v h e f = rw (e, f) (lower h)

digit_of : (c v : ℕ) → hex_value c ≡ Some v → Digit v c
unfolding hex_value when◌then◌else◌
digit_of c v h =
    by_lt c 48
    (λ l₁ e₁. let z = rw e₁ at h in cc)
    (λ l₁ e₁.
    by_lt c 58
    (λ l₂ e₂. let z : Some (c - 48) ≡ Some v = rw (e₁, e₂) at h in let y : c - 48 ≡ v = cc in figure_at (c - 48) c v (omega arith) (omega arith) (omega arith))
    (λ l₂ e₂.
    by_lt c 65
    (λ l₃ e₃. let z = rw (e₁, e₂, e₃) at h in cc)
    (λ l₃ e₃.
    by_lt c 71
    (λ l₄ e₄. let z : Some (c - 55) ≡ Some v = rw (e₁, e₂, e₃, e₄) at h in let y : c - 55 ≡ v = cc in upper_at (c - 65) c v (omega arith) (omega arith) (omega arith))
    (λ l₄ e₄.
    by_lt c 97
    (λ l₅ e₅. let z = rw (e₁, e₂, e₃, e₄, e₅) at h in cc)
    (λ l₅ e₅.
    by_lt c 103
    (λ l₆ e₆. let z : Some (c - 87) ≡ Some v = rw (e₁, e₂, e₃, e₄, e₅, e₆) at h in let y : c - 87 ≡ v = cc in lower_at (c - 97) c v (omega arith) (omega arith) (omega arith))
    (λ l₆ e₆. let z = rw (e₁, e₂, e₃, e₄, e₅, e₆) at h in cc))))))

digit_no_newline : {d c : ℕ} → Digit d c → c ≢ 10
digit_no_newline g n = omega (arith, past g, n)

-- WHERE A BYTE MAY BEGIN
pub may_begin_lem : (n : Bool) (h : Held) → may_begin n h ≡ true → (n ≡ true) × Between h
unfolding may_begin
may_begin_lem n Blank e = (e, none)
may_begin_lem n Comment e = absurd (false≢true e)
may_begin_lem n (Naming k) e = absurd (false≢true e)
may_begin_lem n Whole e = (e, some)
may_begin_lem n (Half d) e = absurd (false≢true e)
may_begin_lem n Dash e = absurd (false≢true e)
may_begin_lem n (Spoilt f) e = absurd (false≢true e)

pub begins_again : (n : Bool) (h : Held) → may_begin n h ≡ true → may_begin n Whole ≡ true
begins_again n h e = unfold may_begin in (may_begin_lem n h e).0

-- a reader of these parts
abbrev pub reader_with : Bool → ℕ → Held → Bytes → ℕ → Reader
reader_with named line held bytes count = record { named = named; line = line; held = held; bytes = bytes; count = count }

-- the reader after one more byte z
abbrev pub with_byte : Reader → ℕ → Reader
with_byte w z =
    record {
      named = w.named;
      line = w.line;
      held = Whole;
      bytes = set w.bytes w.count z;
      count = w.count + 1;
    }

module _ (w : Reader) (b : may_begin w.named w.held ≡ true) where
  two_fed : {x y c k : ℕ} → Digit x c → Digit y k → w.count < bytes_kept → feed (feed w c) k ≡ with_byte w (byte_pair x y)
  two_fed {x} {y} {c} {k} f g m =
      ap (λ (u : Reader). feed u k) (first w (may_begin_lem _ _ b).0 (may_begin_lem _ _ b).1 f)
      ∙ second w (small f) g
      ∙ (unfold with_held pushed when◌then◌else◌ in (rw (leb_yes {a = suc w.count} {b = bytes_kept} m, pair)))
    where
      pair : byte_pair x y ≡ x * 16 + y
      pair = unfold byte_pair in (omega (arith, small f, small g))

  -- A TURN over a byte, whose digits are worth x and y, and over a blank
  module _ (s : Bytes) (i : ℕ) (d : Reader) (n : ℕ) where
    pub byte_turn : (x y z : ℕ) → i + 1 < length s → w.count < bytes_kept →
        hex_value (get_or s i 0) ≡ Some x → hex_value (get_or s (i + 1) 0) ≡ Some y → z ≡ byte_pair x y →
        Comes w s i d n → Comes (with_byte w z) s (i + 2) d n
    byte_turn x y z h m e f g k =
        let p : Digit x (get_or s i 0) = digit_of (get_or s i 0) x e in
        let q : Digit y (get_or s (i + 1) 0) = digit_of (get_or s (i + 1) 0) y f in
        let one = line_turn w s i d n (omega arith) (digit_no_newline p) k in
        let two = line_turn (feed w (get_or s i 0)) s (i + 1) d n h (digit_no_newline q) one in
        let on : i + 1 + 1 ≡ i + 2 = omega arith in
        rw g (rw (two_fed p q m, on) at two)

    pub blank_turn : i < length s → is_blank (get_or s i 0) ≡ true → Comes w s i d n → Comes w s (i + 1) d n
    blank_turn h e k =
        rw (passed_over w (get_or s i 0) (may_begin_lem _ _ b).1 e) at (line_turn w s i d n h (blank_no_newline _ e) k)
