use Rattle.std.proofs.Common.{ℕ, ◌<◌, length, ap, arith}
use Rattle.std.proofs.lemmas.List.{get_or_default}
use Rattle.lighting_frames.specs.declared.Station.{Station}
use Rattle.lighting_frames.specs.Paper.Frames.{parse}
use Rattle.lighting_frames.specs.Paper.Stations.{fresh_station}
use Rattle.lighting_panel.specs.Engine.Judging.{station_of, judged_by_station, decide}
use Rattle.lighting_panel.proofs.Carried.{octets, station_found}
use Rattle.panel_judging.proofs.decide.Goals as goal

pub returns : goal.returns
unfolding decide
returns c =
    let p = c.args.kept.parameters in
    let f = parse p (length c.args.outputs.now) c.args.bytes.now in
    -- the station that the frame names has its record
    let named = station_found p c.requires.parameters_value (length c.args.outputs.now) c.args.bytes.now (octets c.args.bytes.now (λ (i : ℕ). (c.type_inv.bytes i).fits)) in
    let within : station_of f < length c.args.stations.now = omega (arith, c.requires.stations_len, named) in
    simp (
      c.judge_by_station.ensures,
      c.time_of.ensures,
      c.index-at.ensures,
      c.station_of.ensures,
      c.parse-f.ensures,
      c.parameters_of-parameters.ensures,
    )
    (ap (λ (k : Station). judged_by_station c.args.kept.time k c.args.bytes.now f) (get_or_default c.args.stations.now (station_of f) _ fresh_station within))
