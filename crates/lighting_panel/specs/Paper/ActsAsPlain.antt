-- §1, 'It acts as the plain kind does, in lists too': what is asked of lists.
use Rattle.std.specs.Prelude.{◌≡◌, Bool, List, map, ℕ}
use Rattle.lighting_outputs.specs.declared.Parameters.{Parameters}
use Rattle.lighting_frames.specs.Paper.Frames.{Bytes}
use Rattle.lighting_panel.specs.Paper.Panel.{Panel, start_step}
use Rattle.lighting_panel.specs.Paper.Demand.{Among, after, answers}
use Rattle.lighting_frames.specs.Paper.InTags.{sent}

-- NO FRAME OF A LIST IS, byte for byte, what another one of it becomes. If one were, the two would be
-- different frames in the one list and one and the same in the other. Nothing else is asked: frames of kind
-- 1B may stand in the list, good or bad
abbrev pub NoneBecomesAnother : (Bytes → Bool) → List Bytes → Type 0
NoneBecomesAnother chosen l = (b b' : Bytes) → Among b l → Among b' l → sent chosen b ≡ b' → b ≡ b'

-- THE CLAIM, for a lent table e and a list l: what is found and every answer stay. The station records alone
-- differ, which keep the frames as they came
pub record ActsAsPlain (p : Parameters) (marks : ℕ) (e : Panel) (l : List Bytes) (chosen : Bytes → Bool) : Type 0 where
  pub outputs :
      (after (start_step p marks e).panel (map (sent chosen) l)).outputs ≡ (after (start_step p marks e).panel l).outputs
  pub time :
      (after (start_step p marks e).panel (map (sent chosen) l)).kept.time
      ≡ (after (start_step p marks e).panel l).kept.time
  pub answered : answers (start_step p marks e).panel (map (sent chosen) l) ≡ answers (start_step p marks e).panel l
