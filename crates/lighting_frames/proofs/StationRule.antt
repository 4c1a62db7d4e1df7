-- The rule of a station's record as a fact, as Facts.antt has those of an output: 'each station's record
-- keeps its last answer, number and frame (of its kind's length), number 0 meaning none'. The test holds
-- exactly where the fact does.
use mathlib.Core.Path.{◌≡◌, refl}
use mathlib.Core.Logic.{◌≢◌, ◌⊎◌, inl, inr}
use mathlib.Core.Bool.{Bool, true}
use Prim.Native.Nat.{ℕ}
use native.Mathlib.Omega.{arith}
use Rattle.lighting_levels.specs.Paper.Choice.{when◌then◌else◌, all_from}
use Rattle.lighting_levels.specs.Paper.Field.{byte_at}
use Rattle.lighting_outputs.specs.Paper.Rows.{within}
use Rattle.lighting_frames.specs.Paper.Kinds.{kind_row, calls_by, is_call}
use Rattle.lighting_frames.specs.Paper.Stations.{station_sound}
use Rattle.lighting_frames.specs.declared.KindRow.{KindRow}
use Rattle.lighting_frames.specs.declared.Station.{Station}
use Rattle.lighting_levels.proofs.Split.{by_bool, by_eq}
use Rattle.lighting_levels.proofs.Scan.{all_each}
use Rattle.lighting_outputs.proofs.Rules.Facts.{Within}
use Rattle.lighting_outputs.proofs.Rules.Tied.{within_of}
use Rattle.lighting_frames.proofs.KindTable.{rows_from, each_row}

-- THE KINDS OF CALLS: 02 to 05, and 10 to 1B. 01 is the clock's, and the others are none
abbrev pub CallByte : ℕ → Type 0
CallByte k = Within 0x02 0x05 k ⊎ Within 0x10 0x1b k

-- THE RULE: a record with a number keeps a frame of a call
pub record StationKept (station : Station) : Type 0 where
  pub kind : station.number ≢ 0 → CallByte (byte_at station.frame 0)

is_call_byte : ℕ → Bool
is_call_byte k = when within 0x02 0x05 k then true else within 0x10 0x1b k

if_calls : ℕ → KindRow → Bool
if_calls k row = when calls_by row.kind then is_call_byte k else true

each_call : (k : ℕ) → if_calls k (kind_row k) ≡ true
unfolding if_calls is_call_byte rows_from calls_by within when◌then◌else◌
each_call k = each_row if_calls (λ unknown. refl) refl refl k

pub call_byte : (k : ℕ) → is_call k ≡ true → CallByte k
unfolding is_call if_calls is_call_byte when◌then◌else◌
call_byte k calls =
    let either : is_call_byte k ≡ true = rw calls at (each_call k) in
    by_bool (within 0x02 0x05 k)
    (λ test. inl (within_of 0x02 0x05 k test))
    (λ test. inr (within_of 0x10 0x1b k (rw test at either)))

pub byte_call : (k : ℕ) → CallByte k → is_call k ≡ true
unfolding all_from is_call kind_row calls_by when◌then◌else◌
byte_call k (inl inside) = all_each is_call 4 0x02 k refl inside.least (omega arith)
byte_call k (inr inside) = all_each is_call 12 0x10 k refl inside.least (omega arith)

pub station_facts : (station : Station) → station_sound station ≡ true → StationKept station
unfolding station_sound when◌then◌else◌
station_facts station =
    by_eq station.number 0
    (λ none test. rw test (λ sound. record { kind = λ some. absurd (some none) }))
    (λ some test. rw test (λ sound. record { kind = λ given. call_byte (byte_at station.frame 0) sound }))

pub facts_station : (station : Station) → StationKept station → station_sound station ≡ true
unfolding station_sound when◌then◌else◌
facts_station station kept = by_eq station.number 0 (λ none test. rw test) (λ some test. rw test (byte_call (byte_at station.frame 0) (kept.kind some)))
