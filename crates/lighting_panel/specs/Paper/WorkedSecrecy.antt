-- §8, THAT NO PREMISE OF THE CLAIM OF SECRECY IS TOO MANY: for each of them two panels that differ in it
-- alone, and a tenant's kind 05 to which they answer differently. proofs/Needed.antt proves both; the answers
-- by number stand below, and proofs/Figures.antt computes them. Slots are counted from 0: slot 7 is 6.
use Rattle.std.specs.Prelude.{Bool, true, false, List, [], ◌∷◌, map, ℕ, replicate, set, None}
use Rattle.lighting_outputs.specs.Paper.Parameters.{four_hours}
use Rattle.lighting_outputs.specs.Paper.Slots.{filled}
use Rattle.lighting_outputs.specs.Paper.Fresh.{fresh_settings, fresh_output}
use Rattle.lighting_outputs.specs.Paper.Learnt.{the_settings, the_relay_settings, the_slots, the_last_command, the_process, the_binary_value, the_burning_time, the_present_value, the_progress_value}
use Rattle.lighting_outputs.specs.declared.Activity.{Activity}
use Rattle.lighting_outputs.specs.declared.Activity.TheVariants.{Still, Moving, Warned}
use Rattle.lighting_outputs.specs.declared.Answer.{Answer}
use Rattle.lighting_outputs.specs.declared.Answer.TheVariants.{Done, Value, Absent, Refused}
use Rattle.lighting_outputs.specs.declared.Duration.TheVariants.{Omitted}
use Rattle.lighting_outputs.specs.declared.Operation.{Operation}
use Rattle.lighting_outputs.specs.declared.Operation.TheVariants.{Stop, StepUp}
use Rattle.lighting_outputs.specs.declared.Output.{Output}
use Rattle.lighting_outputs.specs.declared.Pace.TheVariants.{Fade}
use Rattle.lighting_outputs.specs.declared.Phase.TheVariants.{Delay}
use Rattle.lighting_outputs.specs.declared.Slots.{Slots}
use Rattle.lighting_frames.specs.Paper.Frames.{Bytes}
use Rattle.lighting_frames.specs.Paper.Stations.{fresh_station}
use Rattle.lighting_frames.specs.declared.Station.{Station}
use Rattle.lighting_panel.specs.Paper.Panel.{Panel, panel_of}
use Rattle.lighting_panel.specs.Engine.Judging.{padded}
use Rattle.lighting_panel.specs.Engine.Executing.{frame_step}
use Rattle.lighting_panel.specs.Paper.Secrecy.{Premise, neither_meets_one, station_counts, output_counts, its_mark, panel_times, its_record, learnt, premises}
use Rattle.lighting_panel.specs.Paper.Worked.{asked}
use Rattle.lighting_outputs.specs.Paper.Passing.{running}

-- AN OUTPUT at 10,000 ms: slot 1 holds 47.25 percent, or another level, and wins; slot 7 holds 30, or
-- another. The relay may be on or off there, between 45 and 50 percent
abbrev slots_with : ℕ → ℕ → Slots
slots_with first seventh = filled (filled fresh_output.slots 0 first) 6 seventh

abbrev output_of : ℕ → Slots → Activity → ℕ → Operation → Bool → Bool → Output
output_of fade slots activity burning operation reverse binary =
    record {
      settings = fresh_settings fade;
      slots = slots;
      activity = activity;
      timer = None;
      burning = burning;
      last = record { operation = operation; duration = Omitted };
      relay = record { active = 3276800; inactive = 2949120; reverse = reverse; binary = binary };
    }

abbrev resting : Output
resting = output_of 1000 (slots_with 3096576 1966080) Still 5000 Stop false false

-- on its way from a level to what slot 1 holds, over a second that ends so many milliseconds after 10,000
abbrev under_way : ℕ → ℕ → ℕ → Output
under_way start first over =
    output_of 1000 (slots_with first 1966080)
    (Moving (record { owner = 0; start = start; target = first; length = 1000; over = over; pace = Fade }))
    5000 Stop false false

-- A PANEL: so many stations, all fresh, of which a word of marks tells the tenants; and one of eight stations
-- and one output, whose station 0 is a tenant
abbrev panel_at : ℕ → ℕ → ℕ → ℕ → List Output → Panel
panel_at stations count time marks outputs =
    panel_of outputs (replicate stations fresh_station)
    (record {
      time = time;
      parameters = record { stations = stations; outputs = count; fade = 14400000; duration = 86400000 };
      tenants = marks;
    })

abbrev panel_with : Output → Panel
panel_with o = panel_at 8 1 10000 1 (o ∷ [])

-- a station that has sent a fifth frame
abbrev fifth : Station
fifth = record { answer = Done; number = 5; frame = padded (asked 0 5 10000 0 0x0c) }

abbrev heard : Panel
heard =
    panel_of (resting ∷ []) (set (replicate 8 fresh_station) 0 fifth)
    (record { time = 10000; parameters = four_hours 1; tenants = 1 })

-- THE TWO PANELS for each premise
abbrev pub the_one : Premise → Panel
the_one neither_meets_one = panel_with resting
the_one station_counts = panel_at 8 1 10000 0x100 (resting ∷ [])
the_one output_counts = panel_with resting
the_one its_mark = panel_with resting
the_one panel_times = panel_at 8 1 10000 1 (fresh_output ∷ [])
the_one its_record = panel_with resting
the_one (learnt the_settings) = panel_with resting
the_one (learnt the_relay_settings) = panel_with resting
the_one (learnt the_slots) = panel_with resting
the_one (learnt the_last_command) = panel_with resting
the_one (learnt the_process) = panel_with resting
the_one (learnt the_binary_value) = panel_with resting
the_one (learnt the_burning_time) = panel_with resting
the_one (learnt the_present_value) = panel_with (under_way 1310720 3096576 11000)
the_one (learnt the_progress_value) = panel_with (under_way 1310720 3096576 11000)

abbrev pub the_other : Premise → Panel
-- slot 2 holds a unit, which breaks a rule, and which no tenant is shown
the_other neither_meets_one =
    panel_with (output_of 1000 (filled (slots_with 3096576 1966080) 1 1) Still 5000 Stop false false)
the_other station_counts = panel_at 9 1 10000 0x100 (resting ∷ [])
the_other output_counts = panel_at 8 2 10000 1 (resting ∷ fresh_output ∷ [])
the_other its_mark = panel_at 8 1 10000 0 (resting ∷ [])
the_other panel_times = panel_at 8 1 10002 1 (fresh_output ∷ [])
the_other its_record = heard
the_other (learnt the_settings) = panel_with (output_of 2000 (slots_with 3096576 1966080) Still 5000 Stop false false)
the_other (learnt the_relay_settings) =
    panel_with (output_of 1000 (slots_with 3096576 1966080) Still 5000 Stop true false)
-- slot 7 holds 31 percent
the_other (learnt the_slots) = panel_with (output_of 1000 (slots_with 3096576 2031616) Still 5000 Stop false false)
the_other (learnt the_last_command) =
    panel_with (output_of 1000 (slots_with 3096576 1966080) Still 5000 StepUp false false)
-- on its way inside the 47th percent
the_other (learnt the_process) = panel_with (under_way 3080292 3096576 10500)
the_other (learnt the_binary_value) = panel_with (output_of 1000 (slots_with 3096576 1966080) Still 5000 Stop false true)
-- a second more
the_other (learnt the_burning_time) = panel_with (output_of 1000 (slots_with 3096576 1966080) Still 6000 Stop false false)
-- to 48.25 percent, and from 30
the_other (learnt the_present_value) = panel_with (under_way 1310720 3162112 11000)
the_other (learnt the_progress_value) = panel_with (under_way 1966080 3096576 11000)

-- and what the tenant reads: station 0 of output 0 but where stations, outputs or times differ
abbrev pub the_string : Premise → Bytes
the_string neither_meets_one = asked 0 1 10000 0 0x0c
the_string station_counts = asked 8 1 10000 0 0x0c
the_string output_counts = asked 0 1 10000 1 0x02
the_string its_mark = asked 0 1 10000 0 0x0c
the_string panel_times = asked 0 1 10001 0 0x02
the_string its_record = asked 0 1 10000 0 0x0c
the_string (learnt the_settings) = asked 0 1 10000 0 0x02
the_string (learnt the_relay_settings) = asked 0 1 10000 0 0x19
the_string (learnt the_slots) = asked 0 1 10000 0 0x27
the_string (learnt the_last_command) = asked 0 1 10000 0 0x0f
the_string (learnt the_process) = asked 0 1 10000 0 0x0e
the_string (learnt the_binary_value) = asked 0 1 10000 0 0x1a
the_string (learnt the_burning_time) = asked 0 1 10000 0 0x0b
the_string (learnt the_present_value) = asked 0 1 10000 0 0x0c
the_string (learnt the_progress_value) = asked 0 1 10000 0 0x0d

-- THE ANSWERS, by number
abbrev pub two_given : List (List Answer)
two_given =
    map
    (λ (k : Premise). (frame_step (the_one k) (the_string k)).answer ∷ (frame_step (the_other k) (the_string k)).answer ∷ [])
    premises

abbrev pub two_said : List (List Answer)
two_said =
    (Value 0x423c_0000 ∷ Refused 1 ∷ [])
    ∷ (Refused 4 ∷ Value 0x423c_0000 ∷ [])
    ∷ (Refused 5 ∷ Value 1000 ∷ [])
    ∷ (Value 0x423c_0000 ∷ Value 0x423d_0000 ∷ [])
    ∷ (Value 1000 ∷ Refused 8 ∷ [])
    ∷ (Value 0x423c_0000 ∷ Refused 7 ∷ [])
    ∷ (Value 1000 ∷ Value 2000 ∷ [])
    ∷ (Value 0 ∷ Value 1 ∷ [])
    ∷ (Value 0x41f0_0000 ∷ Value 0x41f8_0000 ∷ [])
    ∷ (Value 0 ∷ Value 5 ∷ [])
    ∷ (Value 0 ∷ Value 1 ∷ [])
    ∷ (Value 0 ∷ Value 1 ∷ [])
    ∷ (Value 5 ∷ Value 6 ∷ [])
    ∷ (Value 0x423c_0000 ∷ Value 0x4240_0000 ∷ [])
    ∷ (Value 0x41a0_0000 ∷ Value 0x41f0_0000 ∷ [])
    ∷ []

-- WHAT IS FREE TO DIFFER: two panels of two outputs, whose station 1 is a tenant and station 2 is none. In
-- the one slot 1 holds 47.25 percent; in the other a warning shows 47.75, a duration runs, the second output
-- is lit, station 3 has sent a frame, the longest times are shorter and other stations are tenants
abbrev pub quiet : Panel
quiet =
    panel_at 8 2 10000 0x0000_0002
    (output_of 1000 (filled (filled fresh_output.slots 0 3096576) 7 0) Still 5000 Stop false false ∷ fresh_output ∷ [])

abbrev pub busy : Panel
busy =
    panel_of
    (record {
      settings = fresh_settings 1000;
      slots = filled (filled fresh_output.slots 5 3129344) 7 0;
      activity = Warned (record { phase = Delay; owner = 7; level = 3129344; turn = 9000; over = 12000 });
      timer = running 3 20000;
      burning = 5000;
      last = record { operation = Stop; duration = Omitted };
      relay = record { active = 3276800; inactive = 2949120; reverse = false; binary = false };
    }
    ∷ resting
    ∷ [])
    (set (replicate 8 fresh_station) 3 fifth)
    (record {
      time = 10000;
      parameters = record { stations = 8; outputs = 2; fade = 1000; duration = 100 };
      tenants = 0xffff_fffa;
    })

-- each reads properties 0C, 0D, 0E and 21 to 28 of output 0: the tenant of the one and of the other, the
-- service station of the one and of the other
abbrev pub free_given : List (List Answer)
free_given =
    map
    (λ (n : ℕ). (frame_step quiet (asked 1 1 10000 0 n)).answer
    ∷ (frame_step busy (asked 1 1 10000 0 n)).answer
    ∷ (frame_step quiet (asked 2 1 10000 0 n)).answer
    ∷ (frame_step busy (asked 2 1 10000 0 n)).answer
    ∷ [])
    (0x0c ∷ 0x0d ∷ 0x0e ∷ 0x21 ∷ 0x22 ∷ 0x23 ∷ 0x24 ∷ 0x25 ∷ 0x26 ∷ 0x27 ∷ 0x28 ∷ [])

abbrev pub free_said : List (List Answer)
free_said =
    (Value 0x423c_0000 ∷ Value 0x423c_0000 ∷ Value 0x423d_0000 ∷ Value 0x423f_0000 ∷ [])
    ∷ (Value 0x423c_0000 ∷ Value 0x423c_0000 ∷ Value 0x423d_0000 ∷ Value 0x423f_0000 ∷ [])
    ∷ (Value 0 ∷ Value 0 ∷ Value 0 ∷ Value 0 ∷ [])
    ∷ (Absent ∷ Absent ∷ Value 0x423d_0000 ∷ Absent ∷ [])
    ∷ replicate 4 Absent
    ∷ replicate 4 Absent
    ∷ replicate 4 Absent
    ∷ replicate 4 Absent
    ∷ (Absent ∷ Absent ∷ Absent ∷ Value 0x423f_0000 ∷ [])
    ∷ replicate 4 Absent
    ∷ replicate 4 (Value 0)
    ∷ []
