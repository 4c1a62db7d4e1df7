-- THE NUMBER OF OUTPUTS of a set plays no part in the reading of a frame, which is given how many there are.
use mathlib.Core.Path.{◌≡◌, refl, ap}
use Prim.Native.Nat.{ℕ}
use Rattle.lighting_levels.specs.Paper.Field.{byte_at}
use Rattle.lighting_outputs.specs.declared.Parameters.{Parameters}
use Rattle.lighting_outputs.specs.Paper.Answers.{as_request}
use Rattle.lighting_outputs.proofs.OutputCount.{with_outputs, change, command}
use Rattle.lighting_frames.specs.Paper.Kinds.{kind_row}
use Rattle.lighting_frames.specs.Paper.Frames.{Bytes, request_of, call_of, called, parse_by, parse}
use Rattle.lighting_frames.specs.declared.Action.{Action}
use Rattle.lighting_frames.specs.declared.Kind.{Kind}
use Rattle.lighting_frames.specs.declared.Kind.TheVariants.{NoKind, ClockKind, CallKind}
use Rattle.lighting_frames.proofs.KindTable.{kind_byte}
use Rattle.lighting_frames.proofs.SetRead.{SetRead, none, refuses, writes, commands, set_read}
use Rattle.lighting_frames.specs.Paper.Tags.{reads}

module _ (p : Parameters) (n : ℕ) where
  abbrev other : Parameters
  other = with_outputs p n

  request : (action : Action) (b : Bytes) → SetRead action b → request_of other action b ≡ request_of p action b
  request action b (none reads carried) = rw (reads p, reads other)
  request action b (refuses reads) = rw (reads p, reads other)
  request action b (writes property x reads carried) = rw (reads p, reads other) (ap as_request (change p n property x))
  request action b (commands operation duration reads carried) =
      rw (reads p, reads other) (ap as_request (command p n operation duration))

  by_kind : (c size : ℕ) (kind : Kind) (b : Bytes) → (kind_row (byte_at b 0)).kind ≡ kind
      → parse_by other c size kind b ≡ parse_by p c size kind b
  unfolding parse_by call_of called
  by_kind c size NoKind b is = refl
  by_kind c size ClockKind b is = refl
  by_kind c size (CallKind action) b is = rw (request action b (set_read action b (kind_byte (byte_at b 0) action is)))

  pub parsed : (c : ℕ) (b : Bytes) → parse other c b ≡ parse p c b
  unfolding parse
  parsed c b = by_kind c (kind_row (byte_at b 0)).length (kind_row (byte_at b 0)).kind b refl
