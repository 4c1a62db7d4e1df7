-- THE ENGINE judges a frame by its station's record. What it judges over a list, Paper/Plain.antt judges from
-- the list alone (`judged`); proofs/Lists.antt has that both come to the same.
use Rattle.std.specs.Prelude.{Bool, ◌++◌, ℕ, ◌-◌, ltb, eqb, get_or, length, replicate, take, Result, Ok, Err}
use Rattle.lighting_levels.specs.Paper.Choice.{when◌then◌else◌}
use Rattle.lighting_levels.specs.Paper.Field.{byte_at}
use Rattle.lighting_frames.specs.Paper.Kinds.{longest_frame, kind_length}
use Rattle.lighting_frames.specs.Paper.Frames.{Bytes, parse}
use Rattle.lighting_frames.specs.Paper.Copies.{same_bytes, retransmission_or_conflict}
use Rattle.lighting_frames.specs.Paper.Stations.{fresh_station}
use Rattle.lighting_frames.specs.declared.Call.{Call}
use Rattle.lighting_frames.specs.declared.Frame.{Frame}
use Rattle.lighting_frames.specs.declared.Frame.TheVariants.{Clock, Calls}
use Rattle.lighting_frames.specs.declared.Verdict.{Verdict}
use Rattle.lighting_frames.specs.declared.Verdict.TheVariants.{Clocked, Arrives}
use Rattle.lighting_frames.specs.declared.Station.{Station}
use Rattle.lighting_panel.specs.Paper.Panel.{Panel}
use Rattle.lighting_outputs.specs.declared.refusals.Refusal.{Refusal}
use Rattle.lighting_outputs.specs.declared.refusals.Refusal.TheVariants.{PastNumber, PastTime}

-- A FRAME AS A STATION KEEPS IT, in the bytes of the longest, zeros after its own; and read back: 'of its
-- kind's length'
unfoldable pub padded : Bytes → Bytes
padded b = b ++ replicate (longest_frame - length b) 0

unfoldable pub restored : Bytes → Bytes
restored frame = take (kind_length (byte_at frame 0)) frame

-- JUDGED by the station's record k at panel time: 'station's last number, other bytes' is 6, the same bytes
-- 'a copy: last answer'; 'number below the station's last' is 7, 'time before panel time' 8. 'A clock meets
-- 1, 2, 3, 8'
unfoldable pub judged_by_number : ℕ → Station → Bool → Call → Result Verdict Refusal
judged_by_number now k same call =
    when eqb call.number k.number then retransmission_or_conflict same k.answer
    else when ltb call.number k.number then Err PastNumber
    else when ltb call.time now then Err PastTime
    else Ok (Arrives call)

-- `same`: whether the frame's bytes are the ones that the station's record keeps
unfoldable pub judged_by_record : ℕ → Station → Bool → Result Frame Refusal → Result Verdict Refusal
judged_by_record now k same (Err r) = Err r
judged_by_record now k same (Ok (Clock t)) = when ltb t now then Err PastTime else Ok (Clocked t)
judged_by_record now k same (Ok (Calls call)) = judged_by_number now k same call

unfoldable pub station_of : Result Frame Refusal → ℕ
station_of (Err r) = 0
station_of (Ok (Clock t)) = 0
station_of (Ok (Calls call)) = call.station

unfoldable pub judged_by_station : ℕ → Station → Bytes → Result Frame Refusal → Result Verdict Refusal
judged_by_station now k b f = judged_by_record now k (same_bytes b (restored k.frame)) f

-- the frame is read by the kept set
unfoldable pub decide : Panel → Bytes → Result Verdict Refusal
decide e b =
    let f = parse e.kept.parameters (length e.outputs) b in
    judged_by_station e.kept.time (get_or e.stations (station_of f) fresh_station) b f
