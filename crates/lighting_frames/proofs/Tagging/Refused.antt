-- What a body in tags asks is in range, or is refused 14 or 15 (§1).
use Rattle.lighting_levels.specs.Paper.Choice.{when◌then◌else◌}
use mathlib.Core.List.{List}
use Prim.Native.Nat.{ℕ}
use native.Mathlib.Omega.{arith}
use Rattle.lighting_outputs.specs.Paper.Answers.{as_request}
use Rattle.lighting_outputs.specs.declared.Parameters.{Parameters}
use Rattle.lighting_frames.specs.Paper.Tags.{tags_of, operation_of, time_of, own_tags, read_fields, body_fields, well_tagged, read_body}
use Rattle.lighting_frames.specs.Paper.Frames.{tagged_request}
use Rattle.lighting_frames.specs.declared.TagFields.{TagFields}
use Rattle.lighting_levels.proofs.Split.{by_bool}
use Rattle.lighting_outputs.proofs.Rules.RequestInRange.{RequestInRange}
use Rattle.lighting_outputs.proofs.Rules.CommandRanges.{command_of_good}

fields_good : (p : Parameters) (f : TagFields) → RequestInRange p (as_request (tagged_request p (read_fields f)))
unfolding read_fields tagged_request when◌then◌else◌
fields_good p f =
    by_bool
    (own_tags (tags_of (operation_of f) (time_of f.duration)) f)
    (λ e. rw e (command_of_good p _ _))
    (λ e. rw e (omega arith))

pub tagged_good : (p : Parameters) (body : List ℕ) → RequestInRange p (as_request (tagged_request p (read_body body)))
unfolding read_body when◌then◌else◌
tagged_good p body =
    by_bool (well_tagged body) (λ e. rw e (fields_good p (body_fields body))) (λ e. unfold tagged_request in (rw e (omega arith)))
