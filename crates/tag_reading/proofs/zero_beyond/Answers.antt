-- The numbers from behind the L on, each asked in turn.
use Rattle.std.proofs.Common.{rules, arith, tests, ◌∙◌, ◌-◌, ◌+◌}
use Rattle.std.proofs.lemmas.Iterator.{YieldsList-from_range}
use Rattle.std.proofs.lemmas.Iterator.Search.{all_from_yields_List}
use Rattle.lighting_frames.specs.Paper.Tags.{length_of}
use Rattle.tag_reading.proofs.Judging.{is_zero, beyond}
use Rattle.tag_reading.proofs.zero_beyond.Goals as goal

pub returns : goal.returns
returns c =
    let b = c.args.body.now in
    all_from_yields_List (is_zero b) _ _ c.all.result c.all.ensures.ran
    (YieldsList-from_range (1 + length_of b) 18 (17 - length_of b) (cc) (omega arith))
    (λ x r q k. search (rules, tests))
    ∙ beyond b
