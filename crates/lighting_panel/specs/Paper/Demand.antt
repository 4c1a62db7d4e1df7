-- DEMAND 3 as one statement about a whole list of byte strings.
use Rattle.std.specs.Prelude.{◌≡◌, ◌≢◌, true, List, [], ◌∷◌, map, ℕ, Option}
use Rattle.lighting_levels.specs.Paper.Choice.{Every}
use Rattle.lighting_outputs.specs.declared.Parameters.{Parameters}
use Rattle.lighting_frames.specs.Paper.Frames.{Bytes}
use Rattle.lighting_outputs.specs.Paper.Slots.{slots_of}
use Rattle.lighting_outputs.specs.Paper.Value.{present_value, progress_value, in_process}
use Rattle.lighting_outputs.specs.Paper.Answers.{answer_bytes}
use Rattle.lighting_panel.specs.Paper.Panel.{Panel, panel_sound, start_step}
use Rattle.lighting_panel.specs.Engine.Executing.{frame_step}
use Rattle.lighting_panel.specs.Paper.Plain.{Plain, PlainState, plain_frame_step, plain_start}
use Rattle.lighting_outputs.specs.declared.Settings.{Settings}
use Rattle.lighting_outputs.specs.declared.Relay.{Relay}
use Rattle.lighting_outputs.specs.declared.Command.{Command}
use Rattle.lighting_outputs.specs.declared.Output.{Output}
use Rattle.lighting_outputs.specs.declared.Answer.{Answer}
use Rattle.lighting_outputs.specs.declared.Answer.TheVariants.{Refused}

-- EVERYTHING FOUND of an output: 'a slot is compared by being live and, if live, by its level; burning time
-- in milliseconds'. In the relay stand the settings of §3 and Binary_Present_Value: 'The plain panel carries
-- the same values through every list'
pub record Found : Type 0 where
  pub slots : List (Option ℕ)
  pub present : ℕ
  pub progress : ℕ
  pub process : ℕ
  pub settings : Settings
  pub last : Command
  pub burning : ℕ
  pub relay : Relay

abbrev pub found : ℕ → Output → Found
found t o =
    record {
      slots = slots_of o.slots;
      present = present_value o.settings o.slots;
      progress = progress_value t o;
      process = in_process o.activity;
      settings = o.settings;
      last = o.last;
      burning = o.burning;
      relay = o.relay;
    }

abbrev pub found_in : Panel → List Found
found_in e = map (found e.kept.time) e.outputs

abbrev pub found_plain : Plain → List Found
found_plain plain = map (found plain.time) plain.outputs

-- A LIST OF FRAMES: 'outputs, station records and time pass from frame to frame as left'. The panel after it,
-- and the answers
unfoldable pub after : Panel → List Bytes → Panel
after e [] = e
after e (b ∷ l) = after (frame_step e b).panel l

unfoldable pub answers : Panel → List Bytes → List Answer
answers e [] = []
answers e (b ∷ l) = (frame_step e b).answer ∷ answers (frame_step e b).panel l

-- the same of the plain panel, which is given the set and the marks
unfoldable pub plain_after : Parameters → ℕ → PlainState → List Bytes → PlainState
plain_after p marks w [] = w
plain_after p marks w (b ∷ l) = plain_after p marks (plain_frame_step p marks w b).state l

unfoldable pub plain_answers : Parameters → ℕ → PlainState → List Bytes → List Answer
plain_answers p marks w [] = []
plain_answers p marks w (b ∷ l) =
    (plain_frame_step p marks w b).answer ∷ plain_answers p marks (plain_frame_step p marks w b).state l

-- A LIST WITH FRAMES THAT COME AGAIN (retransmissions), anywhere later and any number of times. `Again seen l
-- l'`: after the frames of `seen`, l' is l with frames put in that came before, of `seen` or of l, byte for
-- byte
pub data Among : Bytes → List Bytes → Type 0 where
  here : {b : Bytes} {l : List Bytes} → Among b (b ∷ l)
  there : {b a : Bytes} {l : List Bytes} → Among b l → Among b (a ∷ l)

pub data Again : List Bytes → List Bytes → List Bytes → Type 0 where
  end : {seen : List Bytes} → Again seen [] []
  own : {seen l l' : List Bytes} {b : Bytes} → Again (b ∷ seen) l l' → Again seen (b ∷ l) (b ∷ l')
  copy : {seen l l' : List Bytes} {b : Bytes} → Among b seen → Again seen l l' → Again seen l (b ∷ l')

-- of what was answered to l', the answers to the frames of l
unfoldable pub answers_to_originals : {seen l l' : List Bytes} → Again seen l l' → List Answer → List Answer
answers_to_originals end z = []
answers_to_originals (own r) [] = []
answers_to_originals (own r) (a ∷ z) = a ∷ answers_to_originals r z
answers_to_originals (copy m r) [] = []
answers_to_originals (copy m r) (a ∷ z) = answers_to_originals r z

-- 'Refusal 1 never comes'
abbrev pub NeverOne : List Answer → Type 0
NeverOne given = Every (λ (a : Answer). answer_bytes a ≢ answer_bytes (Refused 1)) given

-- THE DEMAND, for a set of parameters p, any marks, a lent table e, a list of frames l, and the list l' in
-- which frames of l come again
pub record Demand (p : Parameters) (marks : ℕ) (e : Panel) (l l' : List Bytes) (r : Again [] l l') : Type 0 where
  -- after every list the outputs, all of every record, are the plain panel's, at the same time: so all that
  -- is found is the same (proofs/Demand.antt, `finds`)
  pub outputs : (after (start_step p marks e).panel l).outputs ≡ (plain_after p marks (plain_start p) l).panel.outputs
  pub time : (after (start_step p marks e).panel l).kept.time ≡ (plain_after p marks (plain_start p) l).panel.time
  -- the set and the marks are kept as they were started with: no frame changes them
  pub parameters : (after (start_step p marks e).panel l).kept.parameters ≡ p
  pub tenants : (after (start_step p marks e).panel l).kept.tenants ≡ marks
  -- and every answer is the plain panel's answer
  pub answered : answers (start_step p marks e).panel l ≡ plain_answers p marks (plain_start p) l
  -- 'Refusal 1 never comes in it': every record keeps the rules, and no answer is 1
  pub sound : panel_sound (after (start_step p marks e).panel l) ≡ true
  pub never : NeverOne (answers (start_step p marks e).panel l)
  -- frames that come again change nothing at all of the panel, and no answer to the frames of the list
  pub again : after (start_step p marks e).panel l' ≡ after (start_step p marks e).panel l
  pub answered_again :
      answers_to_originals r (answers (start_step p marks e).panel l') ≡ answers (start_step p marks e).panel l
