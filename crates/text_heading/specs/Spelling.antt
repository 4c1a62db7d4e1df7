-- Which texts name which set of parameters, and which marks of tenants.
use Rattle.std.specs.Prelude.{◌≡◌, ◌≢◌, true, false, [], ◌∷◌, ◌++◌, ℕ, ◌+◌, ◌*◌, ◌<◌}
use Rattle.lighting_frames.specs.Paper.Frames.{Bytes}
use Rattle.text_characters.specs.Characters.{is_blank}
use Rattle.text_heading.specs.Words.{letters, base, may_follow, with_number, has_come, with_come}
use Rattle.text_heading.specs.Heading.{left_out, none_came}
use Rattle.text_heading.specs.declared.Word.{Word}
use Rattle.text_heading.specs.declared.Word.TheVariants.{Outputs}
use Rattle.text_heading.specs.declared.Named.{Named}
use Rattle.text_heading.specs.declared.Came.{Came}

-- TEXTS WITHIN A LINE. No character is a newline (10)
pub data Unbroken : Bytes → Type 0 where
  nothing : Unbroken []
  char : {c : ℕ} {x : Bytes} → c ≢ 10 → Unbroken x → Unbroken (c ∷ x)

-- every character is a blank
pub data Blanks : Bytes → Type 0 where
  no_blank : Blanks []
  one_blank : {c : ℕ} {x : Bytes} → is_blank c ≡ true → Blanks x → Blanks (c ∷ x)

-- A DIGIT of a base up to 16, and its character, in either case: `0` to `9`, `A` to `F`, `a` to `f`
pub data Digit : ℕ → ℕ → Type 0 where
  figure : {d : ℕ} → d < 10 → Digit d (48 + d)
  upper : {d : ℕ} → d < 6 → Digit (10 + d) (65 + d)
  lower : {d : ℕ} → d < 6 → Digit (10 + d) (97 + d)

-- `Writes w k m n x`: after k digits, which make m, the digits x make the number n of the word w
pub data Writes (w : Word) : ℕ → ℕ → ℕ → Bytes → Type 0 where
  no_digit : {k n : ℕ} → Writes w k n n []
  one_digit :
      {k m n d c : ℕ} {x : Bytes} →
      may_follow w k ≡ true → Digit d c → d < base w → Writes w (k + 1) (base w * m + d) n x →
      Writes w k m n (c ∷ x)

-- A WORD, BLANKS, AND ITS NUMBER, which has at least one digit
pub data Says (w : Word) (n : ℕ) : Bytes → Type 0 where
  says :
      {c d : ℕ} {gap digits : Bytes} →
      Blanks (c ∷ gap) → Writes w 0 0 n (d ∷ digits) →
      Says w n (letters w ++ ((c ∷ gap) ++ (d ∷ digits)))

-- THE WORDS AFTER `outputs`, in any order and each at most once: where some words have come and named p, the
-- text x makes it q
pub data Further : Came → Named → Named → Bytes → Type 0 where
  no_more : {came : Came} {p : Named} {x : Bytes} → Blanks x → Further came p p x
  one_more :
      {came : Came} {p q : Named} {n c : ℕ} {gap x y : Bytes} (w : Word) →
      has_come w came ≡ false → Blanks (c ∷ gap) → Says w n x → Further (with_come w came) (with_number w n p) q y →
      Further came p q ((c ∷ gap) ++ (x ++ y))

-- THE LINE, from the word `outputs` on: the set and the marks that it names
pub data Names : Named → Bytes → Type 0 where
  names :
      {q : Named} {n : ℕ} {x y : Bytes} →
      Says Outputs n x → Further none_came (with_number Outputs n left_out) q y → Names q (x ++ y)
