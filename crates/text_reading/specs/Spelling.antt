-- Which texts spell which strings of bytes, and how the lines of a list are written.
use Rattle.std.specs.Prelude.{◌≡◌, true, [], ◌∷◌, ◌++◌, ℕ, ◌+◌, ◌*◌}
use Rattle.lighting_outputs.specs.Paper.Startable.{startable}
use Rattle.lighting_frames.specs.Paper.Frames.{Bytes}
use Rattle.text_characters.specs.Characters.{is_blank}
use Rattle.text_heading.specs.declared.Named.{Named}
use Rattle.text_heading.specs.Spelling.{Unbroken, Blanks, Digit, Names}

-- BYTES. Two hexadecimal digits a byte, the first the more significant, with blanks between bytes, before the
-- first and after the last
pub data Spells : Bytes → Bytes → Type 0 where
  end : Spells [] []
  blank : {b x : Bytes} (c : ℕ) → is_blank c ≡ true → Spells b x → Spells b (c ∷ x)
  byte : {b x : Bytes} {d v c k : ℕ} → Digit d c → Digit v k → Spells b x → Spells ((d * 16 + v) ∷ b) (c ∷ (k ∷ x))

-- A LINE THAT SAYS NOTHING: blanks, or, after blanks, `#` and anything
pub data Silent : Bytes → Type 0 where
  blanks : {x : Bytes} → Blanks x → Silent x
  comment : {before x : Bytes} → Blanks before → Unbroken x → Silent (before ++ (35 ∷ x))

-- A STRING'S LINE: its bytes, or `-` for the empty string
pub data Gives : Bytes → Bytes → Type 0 where
  bytes : {y : ℕ} {b x : Bytes} → Spells (y ∷ b) x → Gives (y ∷ b) x
  dash : {before after : Bytes} → Blanks before → Blanks after → Gives [] (before ++ (45 ∷ after))

-- THE LINE THAT NAMES THE OUTPUTS, with them a set that may be started, and any marks (§8)
pub data Heading : Named → Bytes → Type 0 where
  heading :
      {q : Named} {before x : Bytes} →
      Blanks before → Names q x → startable q.parameters ≡ true → Heading q (before ++ x)
