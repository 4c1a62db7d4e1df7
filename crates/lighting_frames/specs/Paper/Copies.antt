-- 'The last number with the same bytes is a copy: last answer', with other bytes refusal 6. A copy is what
-- the field calls a retransmission. Beside `parse`, the engine, which has the station's record, and the plain
-- panel, which has the list, share no more than this in judging a frame.
--
use Rattle.std.specs.Prelude.{Bool, true, false, [], ◌∷◌, eqb, Result, Ok, Err}
use Rattle.lighting_levels.specs.Paper.Choice.{when◌then◌else◌, ◌also◌}
use Rattle.lighting_frames.specs.Paper.Frames.{Bytes}
use Rattle.lighting_outputs.specs.declared.Answer.{Answer}
use Rattle.lighting_frames.specs.declared.Verdict.{Verdict}
use Rattle.lighting_frames.specs.declared.Verdict.TheVariants.{Copied}
use Rattle.lighting_outputs.specs.declared.refusals.Refusal.{Refusal}
use Rattle.lighting_outputs.specs.declared.refusals.Refusal.TheVariants.{OtherBytes}

-- 'the same bytes'
unfoldable pub same_bytes : Bytes → Bytes → Bool
same_bytes [] [] = true
same_bytes [] (b ∷ l) = false
same_bytes (a ∷ k) [] = false
same_bytes (a ∷ k) (b ∷ l) = eqb a b also same_bytes k l

unfoldable pub retransmission_or_conflict : Bool → Answer → Result Verdict Refusal
retransmission_or_conflict same a = when same then Ok (Copied a) else Err OtherBytes
