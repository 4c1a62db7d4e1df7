-- What the reading of a frame leaves in range.
use Rattle.std.specs.Prelude.{Option, Some, None, Result, Ok, Err}
use mathlib.Core.Path.{◌≡◌, refl}
use mathlib.Core.Bool.{true}
use Prim.Native.Nat.{ℕ, ◌+◌, ◌-◌, ◌*◌, ◌^◌, ◌≤◌, ◌<◌, min}
use native.Mathlib.Omega.{arith}
use lib.Dec.{eqb}
use lib.ListN.{length, drop}
use Rattle.lighting_levels.specs.Paper.Choice.{when◌then◌else◌}
use Rattle.lighting_outputs.specs.declared.Parameters.{Parameters}
use Rattle.lighting_levels.specs.Paper.Level.{least_level, greatest_level, real, level_of}
use Rattle.lighting_levels.specs.Paper.Field.{byte_at, big_endian}
use Rattle.lighting_outputs.specs.Paper.Rows.{is_priority}
use Rattle.lighting_outputs.specs.Paper.Properties.{property_of}
use Rattle.lighting_frames.specs.Paper.Kinds.{kind_row, kind_length, calls_by, is_call}
use Rattle.lighting_frames.specs.Paper.Frames.{Bytes, Octets, request_of, call_of, called, clock_of, parse_by, parse}
use Rattle.lighting_outputs.specs.Paper.Requests.{write_level, write_of, empty_of}
use Rattle.lighting_frames.specs.declared.Action.{Action}
use Rattle.lighting_frames.specs.declared.Action.TheVariants.{WritesLevel, EmptiesSlot, WritesProperty, ReadsProperty, Stops, FadesTo, FadesToOver, RampsTo, RampsToAtRate, StepsUp, StepsDown, StepsUpBy, StepsDownBy, GoesTo, Relinquishes, CommandsTagged}
use Rattle.lighting_frames.specs.declared.Kind.{Kind}
use Rattle.lighting_frames.specs.declared.Kind.TheVariants.{NoKind, ClockKind, CallKind}
use Rattle.lighting_frames.specs.declared.Call.{Call}
use Rattle.lighting_frames.specs.declared.Frame.{Frame}
use Rattle.lighting_frames.specs.declared.Frame.TheVariants.{Clock, Calls}
use Rattle.lighting_levels.proofs.Split.{by_bool, by_eq, by_lt}
use Rattle.lighting_levels.proofs.Ranges.{level_units_lem}
use Rattle.lighting_frames.proofs.Octets.{octet}
use Rattle.lighting_outputs.proofs.Rules.Facts.{Slot}
use Rattle.lighting_outputs.proofs.Rules.RequestInRange.{RequestInRange}
use Rattle.lighting_outputs.proofs.Rules.Rows.{priority_of, change_good}
use Rattle.lighting_outputs.proofs.Rules.CommandRanges.{command_request_good}
use Rattle.lighting_frames.proofs.Tagging.Refused.{tagged_good}
use Rattle.lighting_outputs.specs.declared.refusals.Refusal.{Refusal}
use Rattle.lighting_outputs.specs.Paper.Answers.{as_request, refusal_number}

-- KINDS 02 TO 05
level_good : (p : Parameters) (i : ℕ) (l : Option ℕ) → Slot i
    → ((v : ℕ) → l ≡ Some v → (least_level * min 1 v ≤ v) × (v ≤ greatest_level))
    → RequestInRange p (as_request (write_level i l))
unfolding write_level
level_good p i (Some v) g f = let r = f v refl in (g, record { least = r.0; most = r.1 })
level_good p i None g f = omega arith

request_good : (p : Parameters) (action : Action) (b : Bytes) → RequestInRange p (request_of p action b)
unfolding request_of write_of empty_of when◌then◌else◌
request_good p WritesLevel b =
    let n = byte_at b 13 in
    let x = real (big_endian 4 b 14) in
    by_bool (is_priority n) (λ u. rw u (level_good p (n - 1) (level_of x) (priority_of n u) (level_units_lem x))) (λ u. rw u (omega arith))
request_good p EmptiesSlot b =
    by_bool (is_priority (byte_at b 13)) (λ u. rw u (priority_of (byte_at b 13) u)) (λ u. rw u (omega arith))
request_good p WritesProperty b = change_good p (property_of (byte_at b 13)) (big_endian 4 b 14)
request_good p ReadsProperty b = tt
request_good p Stops b = command_request_good p _ _
request_good p FadesTo b = command_request_good p _ _
request_good p FadesToOver b = command_request_good p _ _
request_good p RampsTo b = command_request_good p _ _
request_good p RampsToAtRate b = command_request_good p _ _
request_good p StepsUp b = command_request_good p _ _
request_good p StepsDown b = command_request_good p _ _
request_good p StepsUpBy b = command_request_good p _ _
request_good p StepsDownBy b = command_request_good p _ _
request_good p GoesTo b = command_request_good p _ _
request_good p Relinquishes b = command_request_good p _ _
request_good p CommandsTagged b = tagged_good p (drop 13 b)

-- A TIME of six bytes
pub six_bytes : (b : Bytes) (at : ℕ) → Octets b → big_endian 6 b at < 2 ^ 48
unfolding big_endian
six_bytes b at h =
    omega (
      arith,
      octet b (at + 0) h,
      octet b (at + 1) h,
      octet b (at + 2) h,
      octet b (at + 3) h,
      octet b (at + 4) h,
      octet b (at + 5) h,
    )

-- THE FRAME
pub record Called (p : Parameters) (c : ℕ) (b : Bytes) (call : Call) : Type 0 where
  pub station : call.station < p.stations
  pub number : 0 < call.number
  pub time : call.time < 2 ^ 48
  pub output : call.output < c
  pub good : RequestInRange p call.request
  -- the bytes are those of a call, and as many as its kind has
  pub sized : length b ≡ kind_length (byte_at b 0)
  pub kind : is_call (byte_at b 0) ≡ true

abbrev pub FrameInRange : Parameters → ℕ → Bytes → Result Frame Refusal → Type 0
FrameInRange p c b (Err refusal) = 2 ≤ refusal_number refusal
FrameInRange p c b (Ok (Clock t)) = t < 2 ^ 48
FrameInRange p c b (Ok (Calls call)) = Called p c b call

called_in_range : (p : Parameters) (c : ℕ) (b : Bytes) (action : Action) → Octets b → length b ≡ kind_length (byte_at b 0) → is_call (byte_at b 0) ≡ true
    → FrameInRange p c b (called p c (call_of p action b))
unfolding called call_of when◌then◌else◌
called_in_range p c b action h z y =
    by_lt
    (byte_at b 1)
    p.stations
    (λ l e. by_eq
    (big_endian 4 b 2)
    0
    (λ u e'. rw (e, e') (omega arith))
    (λ u e'. by_lt
    (byte_at b 12)
    c
    (λ m e''. rw
    (e, e', e'')
    (record {
      station = l;
      number = omega arith;
      time = six_bytes b 6 h;
      output = m;
      good = request_good p action b;
      sized = z;
      kind = y;
    }))
    (λ m e''. rw (e, e', e'') (omega arith))))
    (λ l e. rw e (omega arith))

kind_in_range : (p : Parameters) (c : ℕ) (b : Bytes) (k : Kind) → Octets b → (kind_row (byte_at b 0)).kind ≡ k → FrameInRange p c b (parse_by p c (kind_length (byte_at b 0)) k b)
unfolding parse_by clock_of when◌then◌else◌
kind_in_range p c b NoKind h e = omega arith
kind_in_range p c b ClockKind h e =
    by_bool (eqb (length b) (kind_length (byte_at b 0))) (λ q. rw q (six_bytes b 1 h)) (λ q. rw q (omega arith))
kind_in_range p c b (CallKind action) h e =
    by_eq
    (length b)
    (kind_length (byte_at b 0))
    (λ q e'. rw e' (called_in_range p c b action h q (unfold is_call calls_by in (rw e))))
    (λ q e'. rw e' (omega arith))

pub frame_in_range : (p : Parameters) (c : ℕ) (b : Bytes) → Octets b → FrameInRange p c b (parse p c b)
unfolding parse
frame_in_range p c b h = unfold kind_length in (kind_in_range p c b (kind_row (byte_at b 0)).kind h refl)
