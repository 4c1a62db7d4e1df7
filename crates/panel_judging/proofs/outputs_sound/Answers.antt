use Rattle.std.proofs.Common.{rules, tests, ◌∙◌}
use Rattle.std.proofs.lemmas.Iterator.{YieldsList-from_slice}
use Rattle.std.proofs.lemmas.Iterator.Search.{all_from_yields_List}
use Rattle.lighting_outputs.specs.Paper.Rules.{sound}
use Rattle.panel_judging.proofs.Loops.{all_every}
use Rattle.panel_judging.proofs.outputs_sound.Goals as goal

-- each record in turn
pub returns : goal.returns
returns c =
    all_from_yields_List (sound c.args.parameters c.args.t) _ _ c.all.result c.all.ensures.ran (YieldsList-from_slice c.args.outputs.now (cc)) (λ x r q k. search (rules, tests))
    ∙ all_every (sound c.args.parameters c.args.t) c.args.outputs.now
