-- 'The answer is Done, a Value of 32 bits, Absent, or Refused with a number': the paper's number and value
-- for each case of each enum that is an answer.
use Rattle.std.specs.Prelude.{List, [], ◌∷◌, ℕ, Option, Some, None, Result, Ok, Err}
use Rattle.lighting_levels.specs.Paper.Field.{octets}
use Rattle.lighting_outputs.specs.declared.Answer.{Answer}
use Rattle.lighting_outputs.specs.declared.Answer.TheVariants.{Done, Value, Absent, Refused}
use Rattle.lighting_outputs.specs.declared.OutputRequest.{OutputRequest}
use Rattle.lighting_outputs.specs.declared.PanelRequest.{PanelRequest}
use Rattle.lighting_outputs.specs.declared.PanelRequest.TheVariants.{ToOutput}
use Rattle.lighting_outputs.specs.declared.refusals.Refusal.{Refusal}
use Rattle.lighting_outputs.specs.declared.refusals.Refusal.TheVariants.{BrokenRecords, UnknownKind, WrongLength, UnknownStation, UnknownOutput, OtherBytes, PastNumber, PastTime, NotWritable, BadPriority, RealOutOfRange, WholeOutOfRange, MinOverMax, BadTags, BadFields, RelayNotInOrder, BadParameters, Other}

-- THE NUMBER AND THE VALUES OF EVERY ANSWER, as the bytes by which a bus log writes it down: 80 Done; 81
-- Value, its 32 bits; 82 Absent; 83 Refused, its number. No two answers have the same
-- (proofs/AnswersApart.antt, `told_apart`)
unfoldable pub answer_bytes : Answer → List ℕ
answer_bytes Done = 0x80 ∷ []
answer_bytes (Value v) = 0x81 ∷ octets 4 v
answer_bytes Absent = 0x82 ∷ []
answer_bytes (Refused n) = 0x83 ∷ n ∷ []

-- the value of 32 bits, where there is one
abbrev pub value_of : Answer → Option ℕ
value_of Done = None
value_of (Value v) = Some v
value_of Absent = None
value_of (Refused n) = None

-- THE NUMBER OF EVERY REFUSAL, as the table of refusals and the change requests have it; any other number has
-- a refusal too
abbrev pub refusal_number : Refusal → ℕ
refusal_number BrokenRecords = 1
refusal_number UnknownKind = 2
refusal_number WrongLength = 3
refusal_number UnknownStation = 4
refusal_number UnknownOutput = 5
refusal_number OtherBytes = 6
refusal_number PastNumber = 7
refusal_number PastTime = 8
refusal_number NotWritable = 9
refusal_number BadPriority = 10
refusal_number RealOutOfRange = 11
refusal_number WholeOutOfRange = 12
refusal_number MinOverMax = 13
refusal_number BadTags = 14
refusal_number BadFields = 15
refusal_number RelayNotInOrder = 16
refusal_number BadParameters = 17
refusal_number (Other number) = number

-- what a frame's fields ask of its output, or the refusal that they meet
abbrev pub Asked : Type 0
Asked = Result OutputRequest Refusal

-- what a frame asks of the panel, or that refusal
abbrev pub Request : Type 0
Request = Result PanelRequest Refusal

-- what the fields ask of the frame's own output, as a request to the panel
abbrev pub as_request : Asked → Request
as_request (Ok request) = Ok (ToOutput request)
as_request (Err refusal) = Err refusal

-- a REAL turned into units: out of range it meets a refusal, else none
abbrev pub level_refusal : Option ℕ → Option Refusal
level_refusal (Some v) = None
level_refusal None = Some RealOutOfRange

-- a level as a value, or its refusal's number
unfoldable pub level_answered : Option ℕ → Answer
level_answered (Some v) = Value v
level_answered None = Refused (refusal_number RealOutOfRange)
