-- Past the first test the rules are kept, and of a table that keeps them the judging and the carrying out
-- have what they ask for.
use Rattle.std.proofs.Common.{sym, ◌∙◌}
use Rattle.lighting_panel.specs.Paper.Panel.{panel_of}
use Rattle.lighting_panel.proofs.Carried.{sound_startable, sound_stations, sound_outputs, all_stay}
use Rattle.panel.proofs.frame.Goals as goal

pub decide-verdict-requires-clause-parameters_value : goal.decide-verdict-requires-clause-parameters_value
decide-verdict-requires-clause-parameters_value c =
    sound_startable (panel_of c.args.outputs.now c.args.stations.now c.args.kept.now) (sym c.panel_sound.ensures ∙ c.if-not-panel_sound.false)

pub decide-verdict-requires-clause-stations_len : goal.decide-verdict-requires-clause-stations_len
decide-verdict-requires-clause-stations_len c =
    sound_stations (panel_of c.args.outputs.now c.args.stations.now c.args.kept.now) (sym c.panel_sound.ensures ∙ c.if-not-panel_sound.false)

pub execute-requires-clause-standing : goal.execute-requires-clause-standing
execute-requires-clause-standing c =
    let e = panel_of c.args.outputs.now c.args.stations.now c.args.kept.now in
    λ bounded. all_stay c.args.kept.now.parameters c.args.kept.now.time c.args.outputs.now bounded (sound_outputs e (sym c.panel_sound.ensures ∙ c.if-not-panel_sound.false))
