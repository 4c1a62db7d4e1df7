-- WHERE THE FIELDS STAND: the kinds and their lengths, the bytes of station, number, time and output, and of
-- what follows; and refusals 2 to 5.
--
use Rattle.std.specs.Prelude.{Some, None, Result, Ok, Err}
use mathlib.Core.Path.{◌≡◌, refl, ap, ◌∙◌}
use mathlib.Core.Logic.{◌≢◌}
use mathlib.Core.Bool.{Bool, true}
use mathlib.Core.List.{[], ◌∷◌, map}
use Prim.Native.Nat.{ℕ, suc, ◌-◌, ◌≤◌, ◌<◌}
use native.Mathlib.Omega.{arith}
use lib.Dec.{ltb, eqb}
use lib.ListN.{get_or, length, get_or-eq_default}
use Rattle.lighting_levels.specs.Paper.Choice.{when◌then◌else◌, ◌also◌}
use Rattle.lighting_outputs.specs.declared.Parameters.{Parameters}
use Rattle.lighting_levels.specs.Paper.Level.{real, level_of}
use Rattle.lighting_levels.specs.Paper.Field.{byte_at, big_endian}
use Rattle.lighting_frames.specs.Paper.Kinds.{longest_frame, unknown_row, command_rows, kind_row, kind_length}
use Rattle.lighting_frames.specs.Paper.Frames.{Bytes, request_of, call_of, called, clock_of, parse_by, parse}
use Rattle.lighting_outputs.specs.Paper.Requests.{write_level, write_of, empty_of}
use Rattle.lighting_outputs.specs.Paper.Passing.{after_events}
use Rattle.lighting_outputs.specs.Paper.Writing.{written, slot_relinquished}
use Rattle.lighting_outputs.specs.Paper.Acting.{done, acted, served}
use Rattle.lighting_frames.specs.declared.Kind.{Kind}
use Rattle.lighting_frames.specs.declared.Kind.TheVariants.{NoKind, ClockKind, CallKind}
use Rattle.lighting_frames.specs.declared.KindRow.{KindRow}
use Rattle.lighting_outputs.specs.declared.Answer.TheVariants.{Done}
use Rattle.lighting_outputs.specs.declared.Output.{Output}
use Rattle.lighting_outputs.specs.Paper.Answers.{as_request, Request}
use Rattle.lighting_outputs.specs.declared.PanelRequest.TheVariants.{ToOutput}
use Rattle.lighting_outputs.specs.declared.OutputRequest.TheVariants.{Write, Empty, Read}
use Rattle.lighting_frames.specs.declared.Call.{Call}
use Rattle.lighting_frames.specs.declared.Frame.{Frame}
use Rattle.lighting_frames.specs.declared.Frame.TheVariants.{Clock, Calls}
use Rattle.lighting_levels.proofs.Split.{also_both, eq_of, le_of, eqb_hit, eqb_miss, leb_yes, leb_no}
use Rattle.lighting_outputs.proofs.Rules.Facts.{Slot}
use Rattle.lighting_frames.proofs.KindTable.{rows_from, each_row}
use Rattle.lighting_outputs.proofs.Consequences.Alone.{alone}
use Rattle.lighting_outputs.proofs.Rules.PrioritiesNamed.{priority_yes, NoPriority, priority_no}
use Rattle.lighting_outputs.specs.Paper.Properties.{property_of, change_of}
use Rattle.lighting_outputs.specs.declared.refusals.Refusal.{Refusal}
use Rattle.lighting_outputs.specs.declared.refusals.Refusal.TheVariants.{UnknownKind, WrongLength, UnknownStation, UnknownOutput, NotWritable, RealOutOfRange, BadPriority}

-- THE TABLE OF KINDS: 01 to 05 and 10 to 1B have these lengths, and no other kind is known
pub lengths : map kind_length (0x01 ∷ 0x02 ∷ 0x03 ∷ 0x04 ∷ 0x05 ∷ 0x10 ∷ 0x11 ∷ 0x12 ∷ 0x13 ∷ 0x14 ∷ 0x15 ∷ 0x16 ∷ 0x17 ∷ 0x18 ∷ 0x19 ∷ 0x1a ∷ 0x1b ∷ [])
    ≡ 7 ∷ 18 ∷ 14 ∷ 18 ∷ 14 ∷ 17 ∷ 21 ∷ 25 ∷ 21 ∷ 25 ∷ 17 ∷ 17 ∷ 21 ∷ 21 ∷ 21 ∷ 17 ∷ 31 ∷ []
unfolding kind_length kind_row when◌then◌else◌
lengths = refl

-- no kind is longer than the longest frame (proofs/KindTable.antt, `length_most`), and 1B is as long
pub longest_kind : kind_length 0x1b ≡ longest_frame
unfolding kind_length kind_row when◌then◌else◌
longest_kind = refl

pub unknown_low : map kind_length (0x00 ∷ 0x06 ∷ 0x07 ∷ 0x08 ∷ 0x09 ∷ 0x0a ∷ 0x0b ∷ 0x0c ∷ 0x0d ∷ 0x0e ∷ 0x0f ∷ [])
    ≡ 0 ∷ 0 ∷ 0 ∷ 0 ∷ 0 ∷ 0 ∷ 0 ∷ 0 ∷ 0 ∷ 0 ∷ 0 ∷ []
unfolding kind_length kind_row when◌then◌else◌
unknown_low = refl

pub unknown_high : (k : ℕ) → 0x1c ≤ k → kind_length k ≡ 0
unfolding kind_length
unknown_high k h = ap (λ (row : KindRow). row.length) past
  where
    beyond : (i : ℕ) → 0x0b < i → get_or command_rows i unknown_row ≡ unknown_row
    beyond i l = get_or-eq_default command_rows unknown_row l

    past : kind_row k ≡ unknown_row
    past = unfold kind_row when◌then◌else◌ in (rw (leb_yes {a = 0x10} {b = k} (omega arith)) (beyond (k - 0x10) (omega arith)))

-- an unknown kind has no length, kind 01 is the clock's, and every other asks something
abbrev Fits : ℕ → ℕ → Kind → Bool
Fits k l NoKind = eqb l 0
Fits k l ClockKind = eqb k 1 also ltb 0 l
Fits k l (CallKind action) = ltb 1 k also ltb 0 l

fits : (k : ℕ) → Fits k (kind_length k) (kind_row k).kind ≡ true
unfolding kind_length rows_from when◌then◌else◌
fits k = each_row (λ (n : ℕ) (row : KindRow). Fits n row.length row.kind) (λ n. refl) refl refl k

-- WHAT THE BYTES ASK by the kind k: nothing, unless it is a call's
abbrev asked_by : (p : Parameters) → Kind → Bytes → Request
asked_by p NoKind b = Err NotWritable
asked_by p ClockKind b = Err NotWritable
asked_by p (CallKind action) b = request_of p action b

abbrev pub asked : (p : Parameters) → ℕ → Bytes → Request
asked p k b = asked_by p (kind_row k).kind b

-- THE CALL that the bytes are: station, number, time, output, and what they ask
abbrev pub the_call : (p : Parameters) → Bytes → Call
the_call p b = record { station = byte_at b 1; number = big_endian 4 b 2; time = big_endian 6 b 6; output = byte_at b 12; request = asked p (byte_at b 0) b }

-- REFUSALS 2 TO 5, in their order
module _ (p : Parameters) (c : ℕ) (b : Bytes) where
  abbrev Parsed : Kind → Result Frame Refusal → Type 0
  Parsed k f = (kind_row (byte_at b 0)).kind ≡ k → Fits (byte_at b 0) (kind_length (byte_at b 0)) k ≡ true → parse_by p c (kind_length (byte_at b 0)) k b ≡ f

  parsed : (f : Result Frame Refusal) → ((k : Kind) → Parsed k f) → parse p c b ≡ f
  unfolding parse
  parsed f h = unfold kind_length in (h (kind_row (byte_at b 0)).kind refl (fits (byte_at b 0)))

  pub two : kind_length (byte_at b 0) ≡ 0 → parse p c b ≡ Err UnknownKind
  unfolding parse_by
  two e = parsed (Err UnknownKind) by
    where
      by : (k : Kind) → Parsed k (Err UnknownKind)
      by NoKind q h = refl
      by ClockKind q h = let l : 1 ≤ kind_length (byte_at b 0) = le_of (also_both h).1 in absurd (omega arith)
      by (CallKind action) q h = let l : 1 ≤ kind_length (byte_at b 0) = le_of (also_both h).1 in absurd (omega arith)

  pub three : kind_length (byte_at b 0) ≢ 0 → length b ≢ kind_length (byte_at b 0) → parse p c b ≡ Err WrongLength
  unfolding parse_by when◌then◌else◌
  three known n = parsed (Err WrongLength) by
    where
      by : (k : Kind) → Parsed k (Err WrongLength)
      by NoKind q h = absurd (known (eq_of h))
      by ClockKind q h = rw (eqb_miss {a = length b} {b = kind_length (byte_at b 0)} n)
      by (CallKind action) q h = rw (eqb_miss {a = length b} {b = kind_length (byte_at b 0)} n)

  module _ (known : kind_length (byte_at b 0) ≢ 0) (sized : length b ≡ kind_length (byte_at b 0)) where
    pub clock : byte_at b 0 ≡ 1 → parse p c b ≡ Ok (Clock (big_endian 6 b 1))
    unfolding parse_by clock_of when◌then◌else◌
    clock e = parsed (Ok (Clock (big_endian 6 b 1))) by
      where
        by : (k : Kind) → Parsed k (Ok (Clock (big_endian 6 b 1)))
        by NoKind q h = absurd (known (eq_of h))
        by ClockKind q h = rw (eqb_hit {a = length b} {b = kind_length (byte_at b 0)} sized)
        by (CallKind action) q h = let l : 2 ≤ byte_at b 0 = le_of (also_both h).0 in absurd (omega arith)

    module _ (call : byte_at b 0 ≢ 1) where
      calls : parse p c b ≡ called p c (the_call p b)
      unfolding parse_by call_of when◌then◌else◌
      calls = parsed (called p c (the_call p b)) by
        where
          by : (k : Kind) → Parsed k (called p c (the_call p b))
          by NoKind q h = absurd (known (eq_of h))
          by ClockKind q h = absurd (call (eq_of (also_both h).0))
          by (CallKind action) q h = rw (q, eqb_hit {a = length b} {b = kind_length (byte_at b 0)} sized)

      pub four_station : p.stations ≤ byte_at b 1 → parse p c b ≡ Err UnknownStation
      unfolding called when◌then◌else◌
      four_station l = calls ∙ rw (leb_no {a = suc (byte_at b 1)} {b = p.stations} (omega arith))

      pub four_number : byte_at b 1 < p.stations → big_endian 4 b 2 ≡ 0 → parse p c b ≡ Err UnknownStation
      unfolding called when◌then◌else◌
      four_number l e = calls ∙ rw (leb_yes {a = suc (byte_at b 1)} {b = p.stations} l, eqb_hit {a = big_endian 4 b 2} {b = 0} e)

      pub five : byte_at b 1 < p.stations → big_endian 4 b 2 ≢ 0 → c ≤ byte_at b 12 → parse p c b ≡ Err UnknownOutput
      unfolding called when◌then◌else◌
      five l n m =
          calls ∙ rw (leb_yes {a = suc (byte_at b 1)} {b = p.stations} l, eqb_miss {a = big_endian 4 b 2} {b = 0} n, leb_no {a = suc (byte_at b 12)} {b = c} (omega arith))

      -- else it is a call, and the request is read off the bytes from 13 on
      pub call_of_lem : byte_at b 1 < p.stations → big_endian 4 b 2 ≢ 0 → byte_at b 12 < c → parse p c b ≡ Ok (Calls (the_call p b))
      unfolding called when◌then◌else◌
      call_of_lem l n m =
          calls ∙ rw (leb_yes {a = suc (byte_at b 1)} {b = p.stations} l, eqb_miss {a = big_endian 4 b 2} {b = 0} n, leb_yes {a = suc (byte_at b 12)} {b = c} m)

-- byte 13 is the priority, and kind 02's REAL follows it
module _ (p : Parameters) (b : Bytes) where
  pub write_slot : (i v : ℕ) → Slot i → byte_at b 13 ≡ suc i → level_of (real (big_endian 4 b 14)) ≡ Some v
      → asked p 2 b ≡ Ok (ToOutput (Write i v))
  unfolding kind_row request_of write_of write_level when◌then◌else◌
  write_slot i v k n e = let z : suc i - 1 ≡ i = omega arith in rw (n, priority_yes i k, e, z)

  pub write_real : (i : ℕ) → Slot i → byte_at b 13 ≡ suc i → level_of (real (big_endian 4 b 14)) ≡ None
      → asked p 2 b ≡ Err RealOutOfRange
  unfolding kind_row request_of write_of write_level when◌then◌else◌
  write_real i k n e = rw (n, priority_yes i k, e)

  pub empty_slot : (i : ℕ) → Slot i → byte_at b 13 ≡ suc i → asked p 3 b ≡ Ok (ToOutput (Empty i))
  unfolding kind_row request_of empty_of when◌then◌else◌
  empty_slot i k n = let z : suc i - 1 ≡ i = omega arith in rw (n, priority_yes i k, z)

  pub write_priority : NoPriority (byte_at b 13) → asked p 2 b ≡ Err BadPriority
  unfolding kind_row request_of write_of when◌then◌else◌
  write_priority h = rw (priority_no (byte_at b 13) h)

  pub empty_priority : NoPriority (byte_at b 13) → asked p 3 b ≡ Err BadPriority
  unfolding kind_row request_of empty_of when◌then◌else◌
  empty_priority h = rw (priority_no (byte_at b 13) h)

  -- and what they do: kinds 02 and 03 are answered Done, and act on slot i alone through `written` and
  -- `slot_relinquished`; then the relay is judged (§3)
  pub writes_slot : (t : ℕ) (o : Output) (i v : ℕ) → Slot i → byte_at b 13 ≡ suc i → level_of (real (big_endian 4 b 14)) ≡ Some v
      → alone t o (asked p 2 b) ≡ record { output = after_events (written t o i v); answer = Done }
  unfolding acted served done
  writes_slot t o i v k n e = rw (write_slot i v k n e)

  pub empties_slot : (t : ℕ) (o : Output) (i : ℕ) → Slot i → byte_at b 13 ≡ suc i
      → alone t o (asked p 3 b) ≡ record { output = after_events (slot_relinquished o i); answer = Done }
  unfolding acted served done
  empties_slot t o i k n = rw (empty_slot i k n)

pub read_asked : (p : Parameters) (b : Bytes)
    → asked p 5 b ≡ Ok (ToOutput (Read (property_of (byte_at b 13))))
unfolding kind_row request_of when◌then◌else◌
read_asked p b = refl

pub write_asked : (p : Parameters) (b : Bytes)
    → asked p 4 b ≡ as_request (change_of p (property_of (byte_at b 13)) (big_endian 4 b 14))
unfolding kind_row request_of when◌then◌else◌
write_asked p b = refl
