-- A loop that feeds characters up to a newline.
use mathlib.Core.Path.{◌≡◌}
use mathlib.Core.Logic.{◌≢◌}
use Prim.Native.Nat.{ℕ, ◌+◌, ◌≤◌, ◌<◌}
use native.Mathlib.Omega.{arith}
use native.Mathlib.Numerals.{add-one}
use lib.Dec.{eqb}
use lib.ListN.{length, drop, get_or, drop_of_length-le}
use lib.Seq.{drop-cons}
use Rattle.lighting_levels.specs.Paper.Choice.{when◌then◌else◌}
use Rattle.lighting_frames.specs.Paper.Frames.{Bytes}
use Rattle.lighting_levels.proofs.Split.{eqb_miss}
use Rattle.text_reading.specs.Reading.{feed, fed_line, line_length}
use Rattle.text_reading.specs.declared.Reader.{Reader}

-- the characters s from i on are fed to w, and come to the reader d and the place n
abbrev pub Comes : Reader → Bytes → ℕ → Reader → ℕ → Type 0
Comes w s i d n = (fed_line w (drop i s) ≡ d) × (i + line_length (drop i s) ≡ n)

module _ (w : Reader) (s : Bytes) (i : ℕ) (d : Reader) (n : ℕ) where
  -- a turn: a character that is no newline is fed
  pub line_turn : i < length s → get_or s i 0 ≢ 10 → Comes w s i d n → Comes (feed w (get_or s i 0)) s (i + 1) d n
  unfolding fed_line line_length when◌then◌else◌
  line_turn h k q =
      let e : eqb (get_or s i 0) 10 ≡ _ = eqb_miss k in
      let f = rw (drop-cons s i 0 h, e) at q.0 in
      let l = rw (drop-cons s i 0 h, e) at q.1 in
      (rw add-one f, rw add-one (omega arith))

  -- a newline, and the end of the characters
  pub line_newline : i < length s → get_or s i 0 ≡ 10 → Comes w s i d n → (w ≡ d) × (i ≡ n)
  unfolding fed_line line_length when◌then◌else◌
  line_newline h k q =
      let f = rw (drop-cons s i 0 h, k) at q.0 in
      let l = rw (drop-cons s i 0 h, k) at q.1 in
      (f, omega arith)

  pub line_over : length s ≤ i → Comes w s i d n → (w ≡ d) × (i ≡ n)
  unfolding fed_line line_length
  line_over h q =
      let f = rw (drop_of_length-le s h) at q.0 in
      let l = rw (drop_of_length-le s h) at q.1 in
      (f, omega arith)
