-- What a request does to the one output of a table.
use mathlib.Core.Path.{◌≡◌, refl}
use mathlib.Core.List.{List, [], ◌∷◌}
use Prim.Native.Nat.{ℕ}
use lib.ListN.{get_or, set}
use Rattle.std.specs.Prelude.{Ok, Err}
use Rattle.lighting_outputs.specs.Paper.Fresh.{fresh_output}
use Rattle.lighting_outputs.specs.Paper.Acting.{served}
use Rattle.lighting_outputs.specs.Paper.Tenants.{for_service}
use Rattle.lighting_outputs.specs.declared.Output.{Output}
use Rattle.lighting_outputs.specs.declared.Outcome.{Outcome}
use Rattle.lighting_outputs.specs.Paper.Answers.{refusal_number, Request}
use Rattle.lighting_outputs.specs.declared.PanelRequest.TheVariants.{ToOutput}
use Rattle.lighting_outputs.specs.declared.OutputRequest.{OutputRequest}
use Rattle.lighting_outputs.specs.declared.Answer.TheVariants.{Refused}
use Rattle.lighting_outputs.specs.declared.refusals.Refusal.{Refusal}

-- WHAT A REQUEST of a service station DOES to the one output of a table, and what it is answered
abbrev pub alone : ℕ → Output → Request → Outcome
alone t o r =
    let done = served for_service t (o ∷ []) 0 r in
    record { output = get_or done.outputs 0 fresh_output; answer = done.answer }

-- what it does to the one output of a table, it does to the frame's own of any table, and no other is
-- touched; refused, it touches none. What a tenant's does and is answered, Consequences/Tenants.antt says
pub in_any_table : (t : ℕ) (l : List Output) (i : ℕ) (q : OutputRequest)
    → ((served for_service t l i (Ok (ToOutput q))).outputs
    ≡ set l i (alone t (get_or l i fresh_output) (Ok (ToOutput q))).output)
    × ((served for_service t l i (Ok (ToOutput q))).answer
    ≡ (alone t (get_or l i fresh_output) (Ok (ToOutput q))).answer)
unfolding served
in_any_table t l i q = (refl, refl)

pub refused_in_any_table : (t : ℕ) (l : List Output) (i : ℕ) (refusal : Refusal)
    → ((served for_service t l i (Err refusal)).outputs ≡ l)
    × ((served for_service t l i (Err refusal)).answer ≡ Refused (refusal_number refusal))
unfolding served
refused_in_any_table t l i refusal = (refl, refl)
