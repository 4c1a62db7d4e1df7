-- The table at a kind byte that a match has found, and past its rows.
use mathlib.Core.Path.{◌≡◌, refl, sym}
use Prim.Native.Nat.{ℕ, ◌+◌, ◌-◌, ◌≤◌, ◌<◌}
use native.Mathlib.Omega.{arith}
use lib.ListN.{length, get_or, get_or-eq_default}
use Rattle.lighting_frames.specs.Paper.Kinds.{unknown_row, plain_rows, command_rows, kind_row}
use Rattle.lighting_frames.specs.declared.KindRow.{KindRow}
use Rattle.lighting_levels.proofs.Choosing.{if_le, if_nle}
use Rattle.lighting_levels.proofs.Keys.{Missed, keys_from, past_keys}
use Rattle.lighting_levels.proofs.Split.{by_lt}

pub kind_row_on : (k n : ℕ) (r : KindRow) → k ≡ n → r ≡ kind_row n → r ≡ kind_row k
kind_row_on k n r e p = rw e p

-- a kind byte that an arm of a match names
pub row_plain : (k n : ℕ) (r : KindRow) → k ≡ n → n < 0x10 → r ≡ get_or plain_rows n unknown_row → r ≡ kind_row k
unfolding kind_row
row_plain k n r e h p = rw e (if_nle 0x10 n _ _ _ h p)

pub row_command : (k n : ℕ) (r : KindRow) → k ≡ n → 0x10 ≤ n → r ≡ get_or command_rows (n - 0x10) unknown_row → r ≡ kind_row k
unfolding kind_row
row_command k n r e h p = rw e (if_le 0x10 n _ _ _ h p)

-- no kind is 00, or past the rows
pub row_zero : (k : ℕ) → k < 1 → unknown_row ≡ kind_row k
unfolding kind_row
row_zero k h = let e : k ≡ 0 = omega arith in rw e (if_nle 0x10 0 _ _ _ (omega arith) refl)

pub row_between : (k : ℕ) → length plain_rows ≤ k → k < 0x10 → unknown_row ≡ kind_row k
unfolding kind_row
row_between k low high = if_nle 0x10 k _ _ _ high (sym (get_or-eq_default plain_rows unknown_row {n = k} low))

pub row_above : (k : ℕ) → 0x10 + length command_rows ≤ k → unknown_row ≡ kind_row k
unfolding kind_row
row_above k low =
    if_le 0x10 k _ _ _ (omega arith) (sym (get_or-eq_default command_rows unknown_row {n = k - 0x10} (omega arith)))

-- a kind byte that no arm of a match names
pub row_no_plain : (k : ℕ) → k < length plain_rows → Missed (keys_from 1 (length plain_rows - 1)) k → unknown_row ≡ kind_row k
row_no_plain k h o = by_lt k 1 (λ l e. row_zero k l) (λ l e. absurd (omega (arith, past_keys 1 (length plain_rows - 1) k l o)))

pub row_no_command : (k : ℕ) → 0x10 ≤ k → Missed (keys_from 0x10 (length command_rows)) k → unknown_row ≡ kind_row k
row_no_command k h o = row_above k (past_keys 0x10 (length command_rows) k h o)

pub ruleset table = (row_plain, row_command, row_zero, row_between, row_above, row_no_plain, row_no_command)
