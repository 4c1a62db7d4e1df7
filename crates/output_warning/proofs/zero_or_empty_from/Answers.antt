use Rattle.std.proofs.Common.{rules, arith, tests, ◌∙◌, ◌-◌}
use Rattle.std.proofs.lemmas.Iterator.{YieldsList-from_range}
use Rattle.std.proofs.lemmas.Iterator.Search.{all_from_yields_List}
use Rattle.lighting_outputs.specs.Paper.Writing.{zero_or_empty, zero_or_empty_from}
use Rattle.output_warning.proofs.Slots.{listed}
use Rattle.output_warning.proofs.zero_or_empty_from.Goals as goal

pub returns : goal.returns
unfolding zero_or_empty_from
returns c =
    let s = c.args.s in
    let i = c.args.from in
    all_from_yields_List (zero_or_empty s) _ _ c.all.result c.all.ensures.ran
    (YieldsList-from_range i 16 (16 - i) (cc) (omega arith))
    (λ x r q k. search (rules, tests))
    ∙ listed (zero_or_empty s) (16 - i) i
