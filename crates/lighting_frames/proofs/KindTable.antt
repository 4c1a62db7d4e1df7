-- The table of kinds: a fact that each row has is one test over the rows, computed. No frame is longer than
-- the longest; and the kind byte of an action.
use mathlib.Core.Path.{◌≡◌, refl, sym, ap, ◌∙◌}
use mathlib.Core.Bool.{Bool, true}
use mathlib.Core.List.{List, [], ◌∷◌}
use Prim.Native.Nat.{ℕ, zero, suc, ◌+◌, ◌-◌, ◌≤◌}
use native.Mathlib.Omega.{arith}
use lib.Dec.{leb, eqb}
use lib.ListN.{get_or}
use Rattle.lighting_levels.specs.Paper.Choice.{when◌then◌else◌, ◌also◌}
use Rattle.lighting_frames.specs.Paper.Kinds.{longest_frame, unknown_row, plain_rows, command_rows, kind_row, kind_length}
use Rattle.lighting_frames.specs.declared.Action.{Action}
use Rattle.lighting_frames.specs.declared.Action.TheVariants.{WritesLevel, EmptiesSlot, WritesProperty, ReadsProperty, Stops, FadesTo, FadesToOver, RampsTo, RampsToAtRate, StepsUp, StepsDown, StepsUpBy, StepsDownBy, GoesTo, Relinquishes, CommandsTagged}
use Rattle.lighting_frames.specs.declared.Kind.{Kind}
use Rattle.lighting_frames.specs.declared.Kind.TheVariants.{NoKind, ClockKind, CallKind}
use Rattle.lighting_frames.specs.declared.KindRow.{KindRow}
use Rattle.lighting_levels.proofs.Split.{by_le, also_both, le_of, eq_of}

-- a test of each row, with the kind byte that it stands at
unfoldable pub rows_from : (ℕ → KindRow → Bool) → ℕ → List KindRow → Bool
rows_from f n [] = true
rows_from f n (row ∷ rows) = f n row also rows_from f (suc n) rows

row_at : (f : ℕ → KindRow → Bool) (k n i : ℕ) (rows : List KindRow) → k ≡ n + i → ((k : ℕ) → f k unknown_row ≡ true) → rows_from f n rows ≡ true
    → f k (get_or rows i unknown_row) ≡ true
unfolding rows_from
row_at f k n i [] e u h = u k
row_at f k n zero (row ∷ rows) e u h = let e' : k ≡ n = omega arith in rw e' (also_both h).0
row_at f k n (suc i) (row ∷ rows) e u h = row_at f k (suc n) i rows (omega arith) u (also_both h).1

pub each_row : (f : ℕ → KindRow → Bool) → ((k : ℕ) → f k unknown_row ≡ true) → rows_from f 0 plain_rows ≡ true → rows_from f 0x10 command_rows ≡ true
    → (k : ℕ) → f k (kind_row k) ≡ true
unfolding kind_row when◌then◌else◌
each_row f u a b k =
    by_le
    0x10
    k
    (λ h e. rw e (row_at f k 0x10 (k - 0x10) command_rows (omega arith) u b))
    (λ h e. rw e (row_at f k 0 k plain_rows (omega arith) u a))

-- no kind is longer than the longest frame
pub length_most : (k : ℕ) → kind_length k ≤ longest_frame
unfolding kind_length rows_from when◌then◌else◌
length_most k = le_of (each_row (λ (n : ℕ) (row : KindRow). leb row.length longest_frame) (λ n. refl) refl refl k)

-- THE KIND BYTE of what a frame is
abbrev pub action_byte : Action → ℕ
action_byte WritesLevel = 0x02
action_byte EmptiesSlot = 0x03
action_byte WritesProperty = 0x04
action_byte ReadsProperty = 0x05
action_byte Stops = 0x10
action_byte FadesTo = 0x11
action_byte FadesToOver = 0x12
action_byte RampsTo = 0x13
action_byte RampsToAtRate = 0x14
action_byte StepsUp = 0x15
action_byte StepsDown = 0x16
action_byte StepsUpBy = 0x17
action_byte StepsDownBy = 0x18
action_byte GoesTo = 0x19
action_byte Relinquishes = 0x1a
action_byte CommandsTagged = 0x1b

is_byte : ℕ → Kind → Bool
is_byte k NoKind = true
is_byte k ClockKind = eqb k 0x01
is_byte k (CallKind action) = eqb k (action_byte action)

-- so the kind byte is that of what the table says it is, and asks
row_byte : (k : ℕ) → is_byte k (kind_row k).kind ≡ true
unfolding is_byte rows_from when◌then◌else◌
row_byte k = each_row (λ (n : ℕ) (row : KindRow). is_byte n row.kind) (λ n. refl) refl refl k

pub clock_byte : (k : ℕ) → (kind_row k).kind ≡ ClockKind → k ≡ 0x01
unfolding is_byte
clock_byte k h = eq_of (sym (ap (is_byte k) h) ∙ row_byte k)

pub kind_byte : (k : ℕ) (action : Action) → (kind_row k).kind ≡ CallKind action → k ≡ action_byte action
unfolding is_byte
kind_byte k action h = eq_of (sym (ap (is_byte k) h) ∙ row_byte k)
