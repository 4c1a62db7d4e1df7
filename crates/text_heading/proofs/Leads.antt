-- A text within a line takes one state to another, character after character by a step f.
use mathlib.Core.Path.{◌≡◌, refl, ap, ◌∙◌}
use mathlib.Core.Logic.{◌≢◌}
use mathlib.Core.Bool.{true, false≢true}
use mathlib.Core.List.{[], ◌∷◌, ◌++◌}
use Prim.Native.Nat.{ℕ, suc, ◌+◌, ◌<◌}
use native.Mathlib.Omega.{arith}
use Rattle.lighting_levels.specs.Paper.Choice.{when◌then◌else◌}
use Rattle.lighting_frames.specs.Paper.Frames.{Bytes}
use Rattle.lighting_levels.proofs.Split.{by_eq, eq_of, leb_yes, leb_no}
use Rattle.std.specs.Prelude.{Some, None}
use Rattle.text_characters.specs.Characters.{is_blank, hex_value}
use Rattle.text_heading.specs.Heading.{run}
use Rattle.text_heading.specs.Spelling.{Unbroken, nothing, char, Blanks, no_blank, one_blank, Digit, figure, upper, lower}

-- CHARACTERS. A blank is worth no digit, and is no newline
pub blank_worth : (c : ℕ) → is_blank c ≡ true → hex_value c ≡ None
unfolding is_blank hex_value when◌then◌else◌
blank_worth c e =
    by_eq c 32
    (λ p z. rw p)
    (λ p z. by_eq c 9 (λ q y. rw q) (λ q y. let r = rw (z, y) at e in rw (eq_of {a = c} {b = 13} r)))

pub blank_no_newline : (c : ℕ) → is_blank c ≡ true → c ≢ 10
unfolding is_blank when◌then◌else◌
blank_no_newline c h e = false≢true (rw e at h)

pub no_newline : (c : ℕ) → 10 < c → c ≢ 10
no_newline c h e = omega (arith, e)

-- a digit is worth its number
pub worth : {d c : ℕ} → Digit d c → hex_value c ≡ Some d
unfolding hex_value when◌then◌else◌
worth (figure {d} h) =
    rw (
      leb_no {a = suc (48 + d)} {b = 48} (omega arith),
      leb_yes {a = suc (48 + d)} {b = 58} (omega arith),
    ) (ap Some (omega arith))
worth (upper {d} h) =
    rw (
      leb_no {a = suc (65 + d)} {b = 48} (omega arith),
      leb_no {a = suc (65 + d)} {b = 58} (omega arith),
      leb_no {a = suc (65 + d)} {b = 65} (omega arith),
      leb_yes {a = suc (65 + d)} {b = 71} (omega arith),
    ) (ap Some (omega arith))
worth (lower {d} h) =
    rw (
      leb_no {a = suc (97 + d)} {b = 48} (omega arith),
      leb_no {a = suc (97 + d)} {b = 58} (omega arith),
      leb_no {a = suc (97 + d)} {b = 65} (omega arith),
      leb_no {a = suc (97 + d)} {b = 71} (omega arith),
      leb_no {a = suc (97 + d)} {b = 97} (omega arith),
      leb_yes {a = suc (97 + d)} {b = 103} (omega arith),
    ) (ap Some (omega arith))

pub small : {d c : ℕ} → Digit d c → d < 16
small (figure h) = omega arith
small (upper h) = omega arith
small (lower h) = omega arith

-- and is past every blank and mark
pub past : {d c : ℕ} → Digit d c → 47 < c
past (figure h) = omega arith
past (upper h) = omega arith
past (lower h) = omega arith

-- TEXTS
pub record Leads {A : Type 0} (f : A → ℕ → A) (a : A) (x : Bytes) (b : A) : Type 0 where
  pub comes : run f a x ≡ b
  pub whole : Unbroken x

unbroken_append : {x y : Bytes} → Unbroken x → Unbroken y → Unbroken (x ++ y)
unbroken_append nothing v = v
unbroken_append (char d u) v = char d (unbroken_append u v)

run_append : {A : Type 0} (f : A → ℕ → A) (a : A) (x y : Bytes) → run f a (x ++ y) ≡ run f (run f a x) y
unfolding run
run_append f a [] y = refl
run_append f a (c ∷ x) y = run_append f (f a c) x y

module _ {A : Type 0} {f : A → ℕ → A} where
  -- no text, a character, and one text after another
  pub leads_none : {a : A} → Leads f a [] a
  unfolding run
  leads_none = record { comes = refl; whole = nothing }

  pub leads_char : {a b d : A} {c : ℕ} {x : Bytes} → f a c ≡ b → c ≢ 10 → Leads f b x d → Leads f a (c ∷ x) d
  unfolding run
  leads_char e n l = record { comes = rw e l.comes; whole = char n l.whole }

  pub leads_then : {a b d : A} {x y : Bytes} → Leads f a x b → Leads f b y d → Leads f a (x ++ y) d
  leads_then {a = a} {x = x} {y = y} l m =
      record {
        comes = run_append f a x y ∙ ap (λ (u : A). run f u y) l.comes ∙ m.comes;
        whole = unbroken_append l.whole m.whole;
      }

  -- blanks that change nothing
  pub leads_blanks : {a : A} {x : Bytes} → ((c : ℕ) → is_blank c ≡ true → f a c ≡ a) → Blanks x → Leads f a x a
  leads_blanks k no_blank = leads_none
  leads_blanks k (one_blank {c} e s) = leads_char (k c e) (blank_no_newline c e) (leads_blanks k s)
