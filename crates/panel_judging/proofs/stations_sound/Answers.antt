use Rattle.std.proofs.Common.{rules, tests, ◌∙◌}
use Rattle.std.proofs.lemmas.Iterator.{YieldsList-from_slice}
use Rattle.std.proofs.lemmas.Iterator.Search.{all_from_yields_List}
use Rattle.lighting_frames.specs.Paper.Stations.{station_sound}
use Rattle.panel_judging.proofs.Loops.{all_every}
use Rattle.panel_judging.proofs.stations_sound.Goals as goal

-- each record in turn
pub returns : goal.returns
returns c =
    all_from_yields_List station_sound _ _ c.all.result c.all.ensures.ran (YieldsList-from_slice c.args.stations.now (cc)) (λ x r q k. search (rules, tests))
    ∙ all_every station_sound c.args.stations.now
