-- §7: 'The old panel's set now ends in 14,400,000, 86,400,000, and equals it on lists without a longer fade
-- time'. Which lists these are, and what is the same; proofs/FourHours.antt proves it, and that on every
-- other list an answer differs.
use Rattle.std.specs.Prelude.{◌≡◌, Bool, false, List, [], ◌∷◌, length}
use Rattle.lighting_levels.specs.Paper.Choice.{Every}
use Rattle.lighting_outputs.specs.Paper.Parameters.{four_hours}
use Rattle.lighting_frames.specs.Paper.Frames.{Bytes}
use Rattle.lighting_frames.specs.Paper.FadeTimes.{carries}
use Rattle.lighting_panel.specs.Paper.Panel.{Panel, Step, start_step}
use Rattle.lighting_panel.specs.Paper.Demand.{found_in, after, answers}
use Rattle.lighting_panel.specs.Paper.OldPanel.{OldPanel, without_set, old_start, old_after, old_answers, old_found}
use Rattle.lighting_outputs.specs.declared.Answer.{Answer}
use Rattle.lighting_outputs.specs.declared.Answer.TheVariants.{Done}

-- a longer fade time: the old panel takes it, and four hours are less
abbrev pub carries_longer : Bytes → Bool
carries_longer b = carries 14400001 86400000 b

-- A LIST WITHOUT ONE, by its bytes alone
abbrev pub NoneLonger : List Bytes → Type 0
NoneLonger l = Every (λ (b : Bytes). carries_longer b ≡ false) l

-- and less is enough: of the frames to which the old panel answered Done none carries one. What it refused
-- may carry any
abbrev pub NoneLongerDone : List Bytes → List Answer → Type 0
NoneLongerDone [] given = Unit {0}
NoneLongerDone (b ∷ l) [] = Unit {0}
NoneLongerDone (b ∷ l) (a ∷ given) = (a ≡ Done → carries_longer b ≡ false) × NoneLongerDone l given

-- THE TWO PANELS over the same lent table e: the start of now with 8, as many outputs as there are,
-- 14,400,000, 86,400,000 and the marks 0, no station a tenant (§8); and the old one's
abbrev pub start_now : Panel → Step
start_now e = start_step (four_hours (length e.outputs)) 0 e

abbrev pub started_old : Panel → OldPanel
started_old e = (old_start (without_set e)).panel

-- WHAT IS THE SAME after the list l: the outputs, all of every record, the station records and the time; so
-- all that is found; and every answer
pub record AsOld (e : Panel) (l : List Bytes) : Type 0 where
  pub started : (old_start (without_set e)).answer ≡ Done
  pub panel : without_set (after (start_now e).panel l) ≡ old_after (started_old e) l
  pub found : found_in (after (start_now e).panel l) ≡ old_found (old_after (started_old e) l)
  pub answered : answers (start_now e).panel l ≡ old_answers (started_old e) l
