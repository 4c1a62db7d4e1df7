-- What a caller has who called `start` and then calls `frame` for each string of a list, on the same lent
-- tables: by the contracts of the crate `panel`, each call leaves and answers what `frame_step` says.
use Rattle.std.specs.Prelude.{◌≡◌, List, [], ◌∷◌, ℕ, true}
use Rattle.lighting_outputs.specs.declared.Parameters.{Parameters}
use Rattle.lighting_frames.specs.Paper.Frames.{Bytes}
use Rattle.lighting_panel.specs.Paper.Panel.{Panel, panel_result, panel_sound}
use Rattle.lighting_panel.specs.Engine.Executing.{frame_step}
use Rattle.lighting_panel.specs.Paper.Plain.{plain_start}
use Rattle.lighting_panel.specs.Paper.Demand.{plain_after, plain_answers, Again, answers_to_originals, NeverOne}
use Rattle.lighting_outputs.specs.declared.Answer.{Answer}

-- `Calls e l a e'`: a call of `frame` for each string of l took the panel from e to e' and answered a
pub data Calls : Panel → List Bytes → List Answer → Panel → Type 0 where
  none : {e : Panel} → Calls e [] [] e
  call : {e e₁ e₂ : Panel} {b : Bytes} {l : List Bytes} {a : Answer} {given : List Answer}
      → panel_result e₁ a ≡ frame_step e b → Calls e₁ l given e₂ → Calls e (b ∷ l) (a ∷ given) e₂

-- what such a caller may conclude who started with the set p and the marks: the outputs, all of every record,
-- are the plain panel's, at the same time, and every answer was its answer; set and marks are kept, the
-- records keep the rules, and no answer was refusal 1. So the tables show what the plain panel shows
-- (proofs/Calls.antt, `shows`)
pub record Concluded (p : Parameters) (marks : ℕ) (l : List Bytes) (given : List Answer) (e' : Panel) : Type 0 where
  pub outputs : e'.outputs ≡ (plain_after p marks (plain_start p) l).panel.outputs
  pub time : e'.kept.time ≡ (plain_after p marks (plain_start p) l).panel.time
  pub parameters : e'.kept.parameters ≡ p
  pub tenants : e'.kept.tenants ≡ marks
  pub answered : given ≡ plain_answers p marks (plain_start p) l
  pub sound : panel_sound e' ≡ true
  pub never : NeverOne given

-- and one whose list is l', in which frames of l come again: the whole panel is the one that l leaves, and so
-- are the answers to the frames of l
pub record ConcludedAgain (l l' : List Bytes) (r : Again [] l l') (given given' : List Answer) (e' e'' : Panel) : Type 0 where
  pub again : e'' ≡ e'
  pub answered_again : answers_to_originals r given' ≡ given
