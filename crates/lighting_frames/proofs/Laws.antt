-- Made by tools/laws.py: each definition by clauses, at the variant that a match has found.
use mathlib.Core.Path.{◌≡◌}
use Prim.Native.Nat.{ℕ}
use Rattle.lighting_frames.specs.Paper.Frames.{tagged_request, request_of, parse_by, Bytes}
use Rattle.lighting_frames.specs.Paper.InTags.{plain_tags}
use Rattle.lighting_frames.specs.Paper.Kinds.{calls_by}
use Rattle.lighting_frames.specs.Paper.Tags.{field_size, field_bytes, real_tag, whole_tag, holds_at_most, held_by, time_of, fewest}
use Rattle.lighting_frames.specs.declared.Action.{Action}
use Rattle.lighting_frames.specs.declared.Frame.{Frame}
use Rattle.lighting_frames.specs.declared.Kind.{Kind}
use Rattle.lighting_frames.specs.declared.TagContent.{TagContent}
use Rattle.lighting_frames.specs.declared.TagFields.{TagFields}
use Rattle.lighting_frames.specs.declared.TaggedCommand.{TaggedCommand}
use Rattle.lighting_outputs.specs.Paper.Answers.{Asked, Request}
use Rattle.lighting_outputs.specs.declared.Parameters.{Parameters}
use Rattle.lighting_outputs.specs.declared.refusals.Refusal.{Refusal}
use Rattle.std.specs.Prelude.{Float, Option, Result}
use mathlib.Core.Bool.{Bool}
use mathlib.Core.List.{List}

pub tagged_request_on : (x0 : Parameters) (x1 : Result TaggedCommand Refusal) (k : Result TaggedCommand Refusal) (r : Asked) → x1 ≡ k → r ≡ tagged_request x0 k → r ≡ tagged_request x0 x1
tagged_request_on x0 x1 k r e p = rw e p

pub request_of_on : (x0 : Parameters) (x1 : Action) (x2 : Bytes) (k : Action) (r : Request) → x1 ≡ k → r ≡ request_of x0 k x2 → r ≡ request_of x0 x1 x2
request_of_on x0 x1 x2 k r e p = rw e p

pub parse_by_on : (x0 : Parameters) (x1 : ℕ) (x2 : ℕ) (x3 : Kind) (x4 : Bytes) (k : Kind) (r : Result Frame Refusal) → x3 ≡ k → r ≡ parse_by x0 x1 x2 k x4 → r ≡ parse_by x0 x1 x2 x3 x4
parse_by_on x0 x1 x2 x3 x4 k r e p = rw e p

pub plain_tags_on : (x0 : Action) (x1 : Bytes) (k : Action) (r : Option TagFields) → x0 ≡ k → r ≡ plain_tags k x1 → r ≡ plain_tags x0 x1
plain_tags_on x0 x1 k r e p = rw e p

pub calls_by_on : (x0 : Kind) (k : Kind) (r : Bool) → x0 ≡ k → r ≡ calls_by k → r ≡ calls_by x0
calls_by_on x0 k r e p = rw e p

pub field_size_on : (x0 : Option TagContent) (k : Option TagContent) (r : ℕ) → x0 ≡ k → r ≡ field_size k → r ≡ field_size x0
field_size_on x0 k r e p = rw e p

pub field_bytes_on : (x0 : ℕ) (x1 : Option TagContent) (k : Option TagContent) (r : List ℕ) → x1 ≡ k → r ≡ field_bytes x0 k → r ≡ field_bytes x0 x1
field_bytes_on x0 x1 k r e p = rw e p

pub real_tag_on : (x0 : Option Float) (k : Option Float) (r : Option TagContent) → x0 ≡ k → r ≡ real_tag k → r ≡ real_tag x0
real_tag_on x0 k r e p = rw e p

pub whole_tag_on : (x0 : Option ℕ) (k : Option ℕ) (r : Option TagContent) → x0 ≡ k → r ≡ whole_tag k → r ≡ whole_tag x0
whole_tag_on x0 k r e p = rw e p

pub holds_at_most_on : (x0 : ℕ) (x1 : Option TagContent) (k : Option TagContent) (r : Bool) → x1 ≡ k → r ≡ holds_at_most x0 k → r ≡ holds_at_most x0 x1
holds_at_most_on x0 x1 k r e p = rw e p

pub held_by_on : (x0 : Option TagContent) (k : Option TagContent) (r : ℕ) → x0 ≡ k → r ≡ held_by k → r ≡ held_by x0
held_by_on x0 k r e p = rw e p

pub time_of_on : (x0 : Option TagContent) (k : Option TagContent) (r : Option ℕ) → x0 ≡ k → r ≡ time_of k → r ≡ time_of x0
time_of_on x0 k r e p = rw e p

pub fewest_on : (x0 : Option TagContent) (k : Option TagContent) (r : Bool) → x0 ≡ k → r ≡ fewest k → r ≡ fewest x0
fewest_on x0 k r e p = rw e p
