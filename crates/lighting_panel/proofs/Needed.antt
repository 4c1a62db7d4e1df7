-- Made by tools/figures.py: §8, each premise of the claim of secrecy is needed. For each of them two panels
-- (WorkedSecrecy.antt) that are alike in all the others, and a string of kind 05 that they answer
-- differently.
use mathlib.Core.Path.{◌≡◌, refl}
use Prim.Native.Nat.{ℕ, ◌<◌}
use native.Mathlib.Omega.{arith}
use Rattle.lighting_frames.specs.Paper.Frames.{Octets}
use lib.Ieee.{to_bits, round, of_bits}
use lib.Bits.{bit_and, bit_or}
use Rattle.lighting_levels.specs.Paper.Choice.{when◌then◌else◌, all_from, every}
use Rattle.lighting_levels.specs.Paper.Level.{real, bits, level_of, real_of, read_out, real_from_to, amount_of, limit_of, in_range, units_or, amount_units, level_units}
use Rattle.lighting_outputs.specs.Paper.Slots.{view, slots_of, first_live, winner, is_live, mask_emptied, mask_filled, level_set, put, level_at, winning_level}
use Rattle.lighting_outputs.specs.Paper.Value.{clamp_lit, present_value, distance_moved, reached_by, reached, progress_by, progress_value, lit, in_process}
use Rattle.lighting_outputs.specs.Paper.Relay.{binary_at, switched, relay_state, inactive_not_below}
use Rattle.lighting_outputs.specs.Paper.Record.{with_burning, with_effect, with_command, with_settings}
use Rattle.lighting_outputs.specs.Paper.Passing.{lit_milliseconds, with_burned, timer_due, phase_end, activity_due, is_due, timer_at, emptied_by, expired, end_movement_of, end_movement_by, end_movement_on_expiry, delayed, next_phase, next_activity, activity_at, phase_slots, next_slots, slots_at, after_events, fire, tick, ticks}
use Rattle.lighting_outputs.specs.Engine.Light.{last_short, moment_after, gone_at, count_before, count_since, lit_from_zero, lit_from_light, lit_at, lit_by_pace, lit_moving, lit_in_movement, lit_resting, lit_stretch}
use Rattle.lighting_outputs.specs.Engine.Advance.{sooner, due, burned_by, with_burned_saturating, fire_due, event_step, event_steps, advance, later}
use Rattle.lighting_outputs.specs.Paper.Writing.{end_movement_unless_above, stored, zero_or_empty, zero_or_empty_from, blinks, zero_or_empty_above, warns_by, warns, first_level, first_phase, warning_from, warned_by, warned, ended_empty, ended_stored, written_warned, written_zero, written_calm, written_by, written, activity_relinquished, slot_relinquished}
use Rattle.lighting_outputs.specs.Paper.Operations.{operation_number, fields_of, duration_field}
use Rattle.lighting_outputs.specs.Paper.Commands.{without_warning, activity_without_warning, replaced, placed, movement, ramp_length, target, faded_over, faded_to, ramped_at, ramped_to, jumped, went_to, step_up_from, step_down_from, stepped_up, stepped_down, raised, halted, stopped, relinquished, effect, timed, commanded_from, commanded}
use Rattle.lighting_outputs.specs.Paper.Tenants.{is_tenant, whole_percent, shown_level, hidden}
use Rattle.lighting_outputs.specs.Paper.Answers.{answer_bytes, level_answered}
use Rattle.lighting_outputs.specs.Paper.Rows.{within, is_level, is_amount, is_slot, is_priority, meets}
use Rattle.lighting_outputs.specs.Paper.Properties.{numbered, property_of, same, change_to, change_by, change_of, settings_with, relay_with, end_movement, activity_with, burning_with, changed, min_over_max, level_answer, level_or_absent, slot_answer, flag, elapsed_active, real_answer, real_field_answer, time_field_answer, last_duration, read_property}
use Rattle.lighting_outputs.specs.Paper.Fresh.{fresh_settings, fresh_relay, fresh_with, fresh_for, fresh_output}
use Rattle.lighting_outputs.specs.Paper.Requests.{level_field_refusal, amount_field_refusal, time_field_refusal, first_refusal, fields_refusal, command_lasting, command_with_duration, command_request_by, command_of, plain_duration, command_request, write_level, write_of, empty_of}
use Rattle.lighting_outputs.specs.Paper.Acting.{done, unchanged, changed_unless, acted, served}
use Rattle.lighting_levels.specs.Paper.Field.{byte_at, big_endian, octets}
use Rattle.lighting_frames.specs.Paper.Kinds.{kind_row, kind_length, calls_by, is_call}
use Rattle.lighting_frames.specs.Paper.Tags.{fewest_octets, field_size, sizes, field_bytes, bytes_from, tag_bytes, real_tag, whole_tag, tags_of, command_tags, zero_filled, tagged_body, body_bytes, field_in, fields_from, body_fields, zero_beyond, holds_at_most, well_tagged, held_by, operation_of, time_of, both_or_neither, fewest, own_tags, read_fields, read_body}
use Rattle.lighting_frames.specs.Paper.Frames.{tagged_request, request_of, call_of, called, clock_of, parse_by, parse}
use Rattle.lighting_outputs.specs.Paper.Startable.{startable}
use Rattle.lighting_outputs.specs.Paper.Rules.{levels_sound, times_sound, reals_sound, settings_sound, slot_sound, slots_sound, span_sound, movement_sound, warning_by, warning_sound, activity_by, activity_sound, timer_sound, agrees, relay_sound, sound}
use Rattle.lighting_frames.specs.Paper.Stations.{fresh_station, station_sound}
use Rattle.lighting_frames.specs.Paper.Copies.{same_bytes, retransmission_or_conflict}
use Rattle.lighting_panel.specs.Paper.Panel.{counts_sound, rules_kept, panel_sound, fresh_panel, start_step}
use Rattle.lighting_panel.specs.Engine.Judging.{padded, restored, judged_by_number, judged_by_record, station_of, judged_by_station, decide}
use Rattle.lighting_panel.specs.Engine.Executing.{execute, frame_step}
use Rattle.lighting_outputs.specs.Paper.Learnt.{the_settings, the_relay_settings, the_slots, the_last_command, the_process, the_binary_value, the_burning_time, the_present_value, the_progress_value}
use Rattle.lighting_panel.specs.Paper.Secrecy.{Premise, neither_meets_one, station_counts, output_counts, its_mark, panel_times, its_record, learnt, Alike, Needed}
use Rattle.lighting_panel.specs.Paper.WorkedSecrecy.{the_one, the_other, the_string, quiet, busy}
use Rattle.lighting_panel.specs.Paper.Worked.{asked}
use Rattle.lighting_panel.proofs.Secrecy.{secret, apart_answers}

pub needed : (k : Premise) → Needed k
unfolding to_bits round bit_and bit_or of_bits when◌then◌else◌ all_from every real bits level_of real_of read_out real_from_to amount_of limit_of in_range units_or amount_units level_units view slots_of first_live winner is_live mask_emptied mask_filled level_set put level_at winning_level clamp_lit present_value distance_moved reached_by reached progress_by progress_value lit in_process binary_at switched relay_state inactive_not_below with_burning with_effect with_command with_settings lit_milliseconds with_burned timer_due phase_end activity_due is_due timer_at emptied_by expired end_movement_of end_movement_by end_movement_on_expiry delayed next_phase next_activity activity_at phase_slots next_slots slots_at after_events fire tick ticks last_short moment_after gone_at count_before count_since lit_from_zero lit_from_light lit_at lit_by_pace lit_moving lit_in_movement lit_resting lit_stretch sooner due burned_by with_burned_saturating fire_due event_step event_steps advance later end_movement_unless_above stored zero_or_empty zero_or_empty_from blinks zero_or_empty_above warns_by warns first_level first_phase warning_from warned_by warned ended_empty ended_stored written_warned written_zero written_calm written_by written activity_relinquished slot_relinquished operation_number fields_of duration_field without_warning activity_without_warning replaced placed movement ramp_length target faded_over faded_to ramped_at ramped_to jumped went_to step_up_from step_down_from stepped_up stepped_down raised halted stopped relinquished effect timed commanded_from commanded is_tenant whole_percent shown_level hidden answer_bytes level_answered within is_level is_amount is_slot is_priority meets numbered property_of same change_to change_by change_of settings_with relay_with end_movement activity_with burning_with changed min_over_max level_answer level_or_absent slot_answer flag elapsed_active real_answer real_field_answer time_field_answer last_duration read_property fresh_settings fresh_relay fresh_with fresh_for fresh_output level_field_refusal amount_field_refusal time_field_refusal first_refusal fields_refusal command_lasting command_with_duration command_request_by command_of plain_duration command_request write_level write_of empty_of done unchanged changed_unless acted served byte_at big_endian octets kind_row kind_length calls_by is_call fewest_octets field_size sizes field_bytes bytes_from tag_bytes real_tag whole_tag tags_of command_tags zero_filled tagged_body body_bytes field_in fields_from body_fields zero_beyond holds_at_most well_tagged held_by operation_of time_of both_or_neither fewest own_tags read_fields read_body tagged_request request_of call_of called clock_of parse_by parse startable levels_sound times_sound reals_sound settings_sound slot_sound slots_sound span_sound movement_sound warning_by warning_sound activity_by activity_sound timer_sound agrees relay_sound sound fresh_station station_sound same_bytes retransmission_or_conflict counts_sound rules_kept panel_sound fresh_panel start_step padded restored judged_by_number judged_by_record station_of judged_by_station decide execute frame_step
needed neither_meets_one =
    record {
      one = the_one neither_meets_one;
      other = the_other neither_meets_one;
      string = the_string neither_meets_one;
      octets = refl;
      kind = refl;
      alike = (tt, (refl, (refl, ((refl, refl), (refl, (refl, (λ timely. refl, (λ timely. (refl, refl, refl), (λ timely. refl, (λ timely. refl, (λ timely. refl, (λ timely. refl, (λ timely. refl, (λ timely. refl, (λ timely. refl, tt)))))))))))))));
      differ = apart_answers _ _ refl;
    }
needed station_counts =
    record {
      one = the_one station_counts;
      other = the_other station_counts;
      string = the_string station_counts;
      octets = refl;
      kind = refl;
      alike = ((refl, refl), (tt, (refl, ((refl, refl), (refl, (refl, (λ timely. refl, (λ timely. (refl, refl, refl), (λ timely. refl, (λ timely. refl, (λ timely. refl, (λ timely. refl, (λ timely. refl, (λ timely. refl, (λ timely. refl, tt)))))))))))))));
      differ = apart_answers _ _ refl;
    }
needed output_counts =
    record {
      one = the_one output_counts;
      other = the_other output_counts;
      string = the_string output_counts;
      octets = refl;
      kind = refl;
      alike = ((refl, refl), (refl, (tt, ((refl, refl), (refl, (refl, (λ timely. refl, (λ timely. (refl, refl, refl), (λ timely. refl, (λ timely. refl, (λ timely. refl, (λ timely. refl, (λ timely. refl, (λ timely. refl, (λ timely. refl, tt)))))))))))))));
      differ = apart_answers _ _ refl;
    }
needed its_mark =
    record {
      one = the_one its_mark;
      other = the_other its_mark;
      string = the_string its_mark;
      octets = refl;
      kind = refl;
      alike = ((refl, refl), (refl, (refl, (tt, (refl, (refl, (λ timely. refl, (λ timely. (refl, refl, refl), (λ timely. refl, (λ timely. refl, (λ timely. refl, (λ timely. refl, (λ timely. refl, (λ timely. refl, (λ timely. refl, tt)))))))))))))));
      differ = apart_answers _ _ refl;
    }
needed panel_times =
    record {
      one = the_one panel_times;
      other = the_other panel_times;
      string = the_string panel_times;
      octets = refl;
      kind = refl;
      alike = ((refl, refl), (refl, (refl, ((refl, refl), (tt, (refl, (λ timely. refl, (λ timely. (refl, refl, refl), (λ timely. refl, (λ timely. refl, (λ timely. refl, (λ timely. refl, (λ timely. refl, (λ timely. refl, (λ timely. refl, tt)))))))))))))));
      differ = apart_answers _ _ refl;
    }
needed its_record =
    record {
      one = the_one its_record;
      other = the_other its_record;
      string = the_string its_record;
      octets = refl;
      kind = refl;
      alike = ((refl, refl), (refl, (refl, ((refl, refl), (refl, (tt, (λ timely. refl, (λ timely. (refl, refl, refl), (λ timely. refl, (λ timely. refl, (λ timely. refl, (λ timely. refl, (λ timely. refl, (λ timely. refl, (λ timely. refl, tt)))))))))))))));
      differ = apart_answers _ _ refl;
    }
needed (learnt the_settings) =
    record {
      one = the_one (learnt the_settings);
      other = the_other (learnt the_settings);
      string = the_string (learnt the_settings);
      octets = refl;
      kind = refl;
      alike = ((refl, refl), (refl, (refl, ((refl, refl), (refl, (refl, (tt, (λ timely. (refl, refl, refl), (λ timely. refl, (λ timely. refl, (λ timely. refl, (λ timely. refl, (λ timely. refl, (λ timely. refl, (λ timely. refl, tt)))))))))))))));
      differ = apart_answers _ _ refl;
    }
needed (learnt the_relay_settings) =
    record {
      one = the_one (learnt the_relay_settings);
      other = the_other (learnt the_relay_settings);
      string = the_string (learnt the_relay_settings);
      octets = refl;
      kind = refl;
      alike = ((refl, refl), (refl, (refl, ((refl, refl), (refl, (refl, (λ timely. refl, (tt, (λ timely. refl, (λ timely. refl, (λ timely. refl, (λ timely. refl, (λ timely. refl, (λ timely. refl, (λ timely. refl, tt)))))))))))))));
      differ = apart_answers _ _ refl;
    }
needed (learnt the_slots) =
    record {
      one = the_one (learnt the_slots);
      other = the_other (learnt the_slots);
      string = the_string (learnt the_slots);
      octets = refl;
      kind = refl;
      alike = ((refl, refl), (refl, (refl, ((refl, refl), (refl, (refl, (λ timely. refl, (λ timely. (refl, refl, refl), (tt, (λ timely. refl, (λ timely. refl, (λ timely. refl, (λ timely. refl, (λ timely. refl, (λ timely. refl, tt)))))))))))))));
      differ = apart_answers _ _ refl;
    }
needed (learnt the_last_command) =
    record {
      one = the_one (learnt the_last_command);
      other = the_other (learnt the_last_command);
      string = the_string (learnt the_last_command);
      octets = refl;
      kind = refl;
      alike = ((refl, refl), (refl, (refl, ((refl, refl), (refl, (refl, (λ timely. refl, (λ timely. (refl, refl, refl), (λ timely. refl, (tt, (λ timely. refl, (λ timely. refl, (λ timely. refl, (λ timely. refl, (λ timely. refl, tt)))))))))))))));
      differ = apart_answers _ _ refl;
    }
needed (learnt the_process) =
    record {
      one = the_one (learnt the_process);
      other = the_other (learnt the_process);
      string = the_string (learnt the_process);
      octets = refl;
      kind = refl;
      alike = ((refl, refl), (refl, (refl, ((refl, refl), (refl, (refl, (λ timely. refl, (λ timely. (refl, refl, refl), (λ timely. refl, (λ timely. refl, (tt, (λ timely. refl, (λ timely. refl, (λ timely. refl, (λ timely. refl, tt)))))))))))))));
      differ = apart_answers _ _ refl;
    }
needed (learnt the_binary_value) =
    record {
      one = the_one (learnt the_binary_value);
      other = the_other (learnt the_binary_value);
      string = the_string (learnt the_binary_value);
      octets = refl;
      kind = refl;
      alike = ((refl, refl), (refl, (refl, ((refl, refl), (refl, (refl, (λ timely. refl, (λ timely. (refl, refl, refl), (λ timely. refl, (λ timely. refl, (λ timely. refl, (tt, (λ timely. refl, (λ timely. refl, (λ timely. refl, tt)))))))))))))));
      differ = apart_answers _ _ refl;
    }
needed (learnt the_burning_time) =
    record {
      one = the_one (learnt the_burning_time);
      other = the_other (learnt the_burning_time);
      string = the_string (learnt the_burning_time);
      octets = refl;
      kind = refl;
      alike = ((refl, refl), (refl, (refl, ((refl, refl), (refl, (refl, (λ timely. refl, (λ timely. (refl, refl, refl), (λ timely. refl, (λ timely. refl, (λ timely. refl, (λ timely. refl, (tt, (λ timely. refl, (λ timely. refl, tt)))))))))))))));
      differ = apart_answers _ _ refl;
    }
needed (learnt the_present_value) =
    record {
      one = the_one (learnt the_present_value);
      other = the_other (learnt the_present_value);
      string = the_string (learnt the_present_value);
      octets = refl;
      kind = refl;
      alike = ((refl, refl), (refl, (refl, ((refl, refl), (refl, (refl, (λ timely. refl, (λ timely. (refl, refl, refl), (λ timely. refl, (λ timely. refl, (λ timely. refl, (λ timely. refl, (λ timely. refl, (tt, (λ timely. refl, tt)))))))))))))));
      differ = apart_answers _ _ refl;
    }
needed (learnt the_progress_value) =
    record {
      one = the_one (learnt the_progress_value);
      other = the_other (learnt the_progress_value);
      string = the_string (learnt the_progress_value);
      octets = refl;
      kind = refl;
      alike = ((refl, refl), (refl, (refl, ((refl, refl), (refl, (refl, (λ timely. refl, (λ timely. (refl, refl, refl), (λ timely. refl, (λ timely. refl, (λ timely. refl, (λ timely. refl, (λ timely. refl, (λ timely. refl, (tt, tt)))))))))))))));
      differ = apart_answers _ _ refl;
    }

-- two panels that are alike in all of them and differ in much else
alike : (n : ℕ) (k : Premise) → Alike k quiet busy (asked 1 1 10000 0 n)
unfolding to_bits round bit_and bit_or of_bits when◌then◌else◌ all_from every real bits level_of real_of read_out real_from_to amount_of limit_of in_range units_or amount_units level_units view slots_of first_live winner is_live mask_emptied mask_filled level_set put level_at winning_level clamp_lit present_value distance_moved reached_by reached progress_by progress_value lit in_process binary_at switched relay_state inactive_not_below with_burning with_effect with_command with_settings lit_milliseconds with_burned timer_due phase_end activity_due is_due timer_at emptied_by expired end_movement_of end_movement_by end_movement_on_expiry delayed next_phase next_activity activity_at phase_slots next_slots slots_at after_events fire tick ticks last_short moment_after gone_at count_before count_since lit_from_zero lit_from_light lit_at lit_by_pace lit_moving lit_in_movement lit_resting lit_stretch sooner due burned_by with_burned_saturating fire_due event_step event_steps advance later end_movement_unless_above stored zero_or_empty zero_or_empty_from blinks zero_or_empty_above warns_by warns first_level first_phase warning_from warned_by warned ended_empty ended_stored written_warned written_zero written_calm written_by written activity_relinquished slot_relinquished operation_number fields_of duration_field without_warning activity_without_warning replaced placed movement ramp_length target faded_over faded_to ramped_at ramped_to jumped went_to step_up_from step_down_from stepped_up stepped_down raised halted stopped relinquished effect timed commanded_from commanded is_tenant whole_percent shown_level hidden answer_bytes level_answered within is_level is_amount is_slot is_priority meets numbered property_of same change_to change_by change_of settings_with relay_with end_movement activity_with burning_with changed min_over_max level_answer level_or_absent slot_answer flag elapsed_active real_answer real_field_answer time_field_answer last_duration read_property fresh_settings fresh_relay fresh_with fresh_for fresh_output level_field_refusal amount_field_refusal time_field_refusal first_refusal fields_refusal command_lasting command_with_duration command_request_by command_of plain_duration command_request write_level write_of empty_of done unchanged changed_unless acted served byte_at big_endian octets kind_row kind_length calls_by is_call fewest_octets field_size sizes field_bytes bytes_from tag_bytes real_tag whole_tag tags_of command_tags zero_filled tagged_body body_bytes field_in fields_from body_fields zero_beyond holds_at_most well_tagged held_by operation_of time_of both_or_neither fewest own_tags read_fields read_body tagged_request request_of call_of called clock_of parse_by parse startable levels_sound times_sound reals_sound settings_sound slot_sound slots_sound span_sound movement_sound warning_by warning_sound activity_by activity_sound timer_sound agrees relay_sound sound fresh_station station_sound same_bytes retransmission_or_conflict counts_sound rules_kept panel_sound fresh_panel start_step padded restored judged_by_number judged_by_record station_of judged_by_station decide execute frame_step
alike n neither_meets_one = (refl, refl)
alike n station_counts = refl
alike n output_counts = refl
alike n its_mark = (refl, refl)
alike n panel_times = refl
alike n its_record = refl
alike n (learnt the_settings) = λ timely. refl
alike n (learnt the_relay_settings) = λ timely. (refl, refl, refl)
alike n (learnt the_slots) = λ timely. refl
alike n (learnt the_last_command) = λ timely. refl
alike n (learnt the_process) = λ timely. refl
alike n (learnt the_binary_value) = λ timely. refl
alike n (learnt the_burning_time) = λ timely. refl
alike n (learnt the_present_value) = λ timely. refl
alike n (learnt the_progress_value) = λ timely. refl

-- so a tenant cannot tell them apart, whatever it reads
pub untold : (n : ℕ) → n < 256
    → (frame_step quiet (asked 1 1 10000 0 n)).answer ≡ (frame_step busy (asked 1 1 10000 0 n)).answer
untold n below = secret quiet busy (asked 1 1 10000 0 n) bytes (unfold byte_at in refl) (alike n)
  where
    bytes : Octets (asked 1 1 10000 0 n)
    bytes = unfold octets in (omega arith, (omega arith, (omega arith, (omega arith, (omega arith, (omega arith, (omega arith, (omega arith, (omega arith, (omega arith, (omega arith, (omega arith, (omega arith, (below, tt))))))))))))))
