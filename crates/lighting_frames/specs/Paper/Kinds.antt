-- THE TABLE OF KINDS: 'The kind byte fixes the length', whether a frame is a call of a station, and what it
-- asks. A new kind is a row here and a clause of `request_of` (Frames.antt).
use Rattle.std.specs.Prelude.{Bool, true, false, List, [], ◌∷◌, ℕ, ◌-◌, leb, get_or}
use Rattle.lighting_levels.specs.Paper.Choice.{when◌then◌else◌}
use Rattle.lighting_frames.specs.declared.Action.{Action}
use Rattle.lighting_frames.specs.declared.Action.TheVariants.{WritesLevel, EmptiesSlot, WritesProperty, ReadsProperty, Stops, FadesTo, FadesToOver, RampsTo, RampsToAtRate, StepsUp, StepsDown, StepsUpBy, StepsDownBy, GoesTo, Relinquishes, CommandsTagged}
use Rattle.lighting_frames.specs.declared.Kind.{Kind}
use Rattle.lighting_frames.specs.declared.Kind.TheVariants.{NoKind, ClockKind, CallKind}
use Rattle.lighting_frames.specs.declared.KindRow.{KindRow}

-- the bytes of the longest frame: no kind has more (proofs/KindTable.antt, `length_most`)
abbrev pub longest_frame : ℕ
longest_frame = 31

-- an unknown kind; and a kind of a call: so many bytes, and what it asks
abbrev pub unknown_row : KindRow
unknown_row = record { length = 0; kind = NoKind }

abbrev pub call_row : ℕ → Action → KindRow
call_row bytes action = record { length = bytes; kind = CallKind action }

-- kinds 01 to 05; 00 is none
abbrev pub plain_rows : List KindRow
plain_rows =
    unknown_row
    ∷ record { length = 7; kind = ClockKind }
    ∷ call_row 18 WritesLevel
    ∷ call_row 14 EmptiesSlot
    ∷ call_row 18 WritesProperty
    ∷ call_row 14 ReadsProperty
    ∷ []

-- the commands, 10 to 1A; 'New kind 1B: after the 13 common bytes, a length L from 2 to 17, then 17 bytes
-- [..] (31 in all)' (§1)
abbrev pub command_rows : List KindRow
command_rows =
    call_row 17 Stops
    ∷ call_row 21 FadesTo
    ∷ call_row 25 FadesToOver
    ∷ call_row 21 RampsTo
    ∷ call_row 25 RampsToAtRate
    ∷ call_row 17 StepsUp
    ∷ call_row 17 StepsDown
    ∷ call_row 21 StepsUpBy
    ∷ call_row 21 StepsDownBy
    ∷ call_row 21 GoesTo
    ∷ call_row 17 Relinquishes
    ∷ call_row 31 CommandsTagged
    ∷ []

unfoldable pub kind_row : ℕ → KindRow
kind_row k = when leb 0x10 k then get_or command_rows (k - 0x10) unknown_row else get_or plain_rows k unknown_row

unfoldable pub kind_length : ℕ → ℕ
kind_length k = (kind_row k).length

-- 'Every other kind goes on with station (1), number (4), time (6), output (1)': any known one but the
-- clock's
unfoldable pub calls_by : Kind → Bool
calls_by NoKind = false
calls_by ClockKind = false
calls_by (CallKind action) = true

unfoldable pub is_call : ℕ → Bool
is_call k = calls_by (kind_row k).kind
