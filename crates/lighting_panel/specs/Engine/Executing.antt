-- THE ENGINE carries a verdict out over the lent tables: `frame_step` is the right side of the contract of
-- `panel::frame`.
use Rattle.std.specs.Prelude.{map, set, Result, Ok, Err}
use Rattle.lighting_levels.specs.Paper.Choice.{when◌then◌else◌}
use Rattle.lighting_frames.specs.Paper.Frames.{Bytes}
use Rattle.lighting_outputs.specs.Engine.Advance.{advance}
use Rattle.lighting_outputs.specs.Paper.Tenants.{is_tenant}
use Rattle.lighting_outputs.specs.Paper.Acting.{served}
use Rattle.lighting_outputs.specs.declared.Answer.TheVariants.{Done, Refused}
use Rattle.lighting_frames.specs.declared.Verdict.{Verdict}
use Rattle.lighting_frames.specs.declared.Verdict.TheVariants.{Copied, Clocked, Arrives}
use Rattle.lighting_panel.specs.Paper.Panel.{Panel, Step, with_time, panel_sound}
use Rattle.lighting_panel.specs.Engine.Judging.{padded, decide}
use Rattle.lighting_outputs.specs.declared.refusals.Refusal.{Refusal}
use Rattle.lighting_outputs.specs.Paper.Answers.{refusal_number}

-- CARRIED OUT: refusals 2 to 8 and copies leave everything; a clock brings every output to its time; a first
-- arrival does so too, acts, by its station's mark (§8), and 'the station keeps number, frame and answer'
unfoldable pub execute : Bytes → Panel → Result Verdict Refusal → Step
execute b e (Err r) = record { panel = e; answer = Refused (refusal_number r) }
execute b e (Ok (Copied a)) = record { panel = e; answer = a }
execute b e (Ok (Clocked t)) =
    record {
      panel = record { outputs = map (advance e.kept.time t) e.outputs; stations = e.stations; kept = with_time e.kept t };
      answer = Done;
    }
execute b e (Ok (Arrives call)) =
    let t = call.time in
    let tenant = is_tenant e.kept.tenants call.station in
    let done = served tenant t (map (advance e.kept.time t) e.outputs) call.output call.request in
    record {
      panel =
          record {
            outputs = done.outputs;
            stations = set e.stations call.station (record { answer = done.answer; number = call.number; frame = padded b });
            kept = with_time e.kept t;
          };
      answer = done.answer;
    }

-- ONE FRAME, by the set that is kept
unfoldable pub frame_step : Panel → Bytes → Step
frame_step e b = when panel_sound e then execute b e (decide e b) else record { panel = e; answer = Refused 1 }
