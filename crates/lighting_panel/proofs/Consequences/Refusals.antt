-- THE NUMBER OF EVERY REFUSAL, in the order of the table of refusals and of the change requests.
use Rattle.std.specs.Prelude.{map}
use mathlib.Core.Path.{◌≡◌, refl}
use mathlib.Core.List.{[], ◌∷◌}
use Rattle.lighting_outputs.specs.Paper.Answers.{refusal_number}
use Rattle.lighting_outputs.specs.declared.refusals.Refusal.TheVariants.{BrokenRecords, UnknownKind, WrongLength, UnknownStation, UnknownOutput, OtherBytes, PastNumber, PastTime, NotWritable, BadPriority, RealOutOfRange, WholeOutOfRange, MinOverMax, BadTags, BadFields, RelayNotInOrder, BadParameters}

pub by_number : map refusal_number
    (BrokenRecords ∷ UnknownKind ∷ WrongLength ∷ UnknownStation ∷ UnknownOutput ∷ OtherBytes ∷ PastNumber ∷ PastTime ∷ NotWritable ∷ BadPriority ∷ RealOutOfRange ∷ WholeOutOfRange ∷ MinOverMax ∷ BadTags ∷ BadFields ∷ RelayNotInOrder ∷ BadParameters ∷ [])
    ≡ 1 ∷ 2 ∷ 3 ∷ 4 ∷ 5 ∷ 6 ∷ 7 ∷ 8 ∷ 9 ∷ 10 ∷ 11 ∷ 12 ∷ 13 ∷ 14 ∷ 15 ∷ 16 ∷ 17 ∷ []
by_number = refl
