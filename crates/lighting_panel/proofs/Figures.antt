-- Made by tools/figures.py: figures, traps and worked lists of this layer, computed by the definitions.
use mathlib.Core.Path.{◌≡◌, refl}
use Rattle.lighting_panel.specs.Paper.Demand.{answers}
use lib.Ieee.{to_bits, round, of_bits}
use lib.Bits.{bit_and, bit_or}
use Rattle.lighting_levels.specs.Paper.Choice.{when◌then◌else◌, all_from, every}
use Rattle.lighting_levels.specs.Paper.Level.{real, bits, level_of, real_of, read_out, real_from_to, amount_of, limit_of, in_range, units_or, amount_units, level_units}
use Rattle.lighting_outputs.specs.Paper.Slots.{view, slots_of, first_live, winner, is_live, mask_emptied, mask_filled, level_set, put, level_at, winning_level}
use Rattle.lighting_outputs.specs.Paper.Value.{clamp_lit, present_value, distance_moved, reached_by, reached, progress_by, progress_value, lit, in_process}
use Rattle.lighting_outputs.specs.Paper.Relay.{binary_at, switched, relay_state, inactive_not_below}
use Rattle.lighting_outputs.specs.Paper.Record.{with_burning, with_effect, with_command, with_settings}
use Rattle.lighting_outputs.specs.Paper.Passing.{lit_milliseconds, with_burned, timer_due, phase_end, activity_due, is_due, timer_at, emptied_by, expired, end_movement_of, end_movement_by, end_movement_on_expiry, delayed, next_phase, next_activity, activity_at, phase_slots, next_slots, slots_at, after_events, fire, tick, ticks}
use Rattle.lighting_outputs.specs.Engine.Light.{last_short, moment_after, gone_at, count_before, count_since, lit_from_zero, lit_from_light, lit_at, lit_by_pace, lit_moving, lit_in_movement, lit_resting, lit_stretch}
use Rattle.lighting_outputs.specs.Engine.Advance.{sooner, due, burned_by, with_burned_saturating, fire_due, event_step, event_steps, advance, later}
use Rattle.lighting_outputs.specs.Paper.Writing.{end_movement_unless_above, stored, zero_or_empty, zero_or_empty_from, blinks, zero_or_empty_above, warns_by, warns, first_level, first_phase, warning_from, warned_by, warned, ended_empty, ended_stored, written_warned, written_zero, written_calm, written_by, written, activity_relinquished, slot_relinquished}
use Rattle.lighting_outputs.specs.Paper.Operations.{operation_number, fields_of, duration_field}
use Rattle.lighting_outputs.specs.Paper.Commands.{without_warning, activity_without_warning, replaced, placed, movement, ramp_length, target, faded_over, faded_to, ramped_at, ramped_to, jumped, went_to, step_up_from, step_down_from, stepped_up, stepped_down, raised, halted, stopped, relinquished, effect, timed, commanded_from, commanded}
use Rattle.lighting_outputs.specs.Paper.Tenants.{is_tenant, whole_percent, shown_level, hidden}
use Rattle.lighting_outputs.specs.Paper.Answers.{answer_bytes, level_answered}
use Rattle.lighting_outputs.specs.Paper.Rows.{within, is_level, is_amount, is_slot, is_priority, meets}
use Rattle.lighting_outputs.specs.Paper.Properties.{numbered, property_of, same, change_to, change_by, change_of, settings_with, relay_with, end_movement, activity_with, burning_with, changed, min_over_max, level_answer, level_or_absent, slot_answer, flag, elapsed_active, real_answer, real_field_answer, time_field_answer, last_duration, read_property}
use Rattle.lighting_outputs.specs.Paper.Fresh.{fresh_settings, fresh_relay, fresh_with, fresh_for, fresh_output}
use Rattle.lighting_outputs.specs.Paper.Requests.{level_field_refusal, amount_field_refusal, time_field_refusal, first_refusal, fields_refusal, command_lasting, command_with_duration, command_request_by, command_of, plain_duration, command_request, write_level, write_of, empty_of}
use Rattle.lighting_outputs.specs.Paper.Acting.{done, unchanged, changed_unless, acted, served}
use Rattle.lighting_levels.specs.Paper.Field.{byte_at, big_endian, octets}
use Rattle.lighting_frames.specs.Paper.Kinds.{kind_row, kind_length, calls_by, is_call}
use Rattle.lighting_frames.specs.Paper.Tags.{fewest_octets, field_size, sizes, field_bytes, bytes_from, tag_bytes, real_tag, whole_tag, tags_of, command_tags, zero_filled, tagged_body, body_bytes, field_in, fields_from, body_fields, zero_beyond, holds_at_most, well_tagged, held_by, operation_of, time_of, both_or_neither, fewest, own_tags, read_fields, read_body}
use Rattle.lighting_frames.specs.Paper.Frames.{tagged_request, request_of, call_of, called, clock_of, parse_by, parse}
use Rattle.lighting_outputs.specs.Paper.Startable.{startable}
use Rattle.lighting_outputs.specs.Paper.Rules.{levels_sound, times_sound, reals_sound, settings_sound, slot_sound, slots_sound, span_sound, movement_sound, warning_by, warning_sound, activity_by, activity_sound, timer_sound, agrees, relay_sound, sound}
use Rattle.lighting_frames.specs.Paper.Stations.{fresh_station, station_sound}
use Rattle.lighting_frames.specs.Paper.Copies.{same_bytes, retransmission_or_conflict}
use Rattle.lighting_panel.specs.Paper.Panel.{counts_sound, rules_kept, panel_sound, fresh_panel, start_step}
use Rattle.lighting_panel.specs.Engine.Judging.{padded, restored, judged_by_number, judged_by_record, station_of, judged_by_station, decide}
use Rattle.lighting_panel.specs.Engine.Executing.{execute, frame_step}
use Rattle.lighting_panel.specs.Paper.OldPanel.{old_counts, old_sound, old_start, old_decide, old_execute, old_frame, old_after, old_answers}
use Rattle.lighting_outputs.specs.Paper.TimeWithin.{time_within}
use Rattle.lighting_frames.specs.Paper.FadeTimes.{fade_time_in, carries}
use Rattle.lighting_outputs.specs.Paper.Parameters.{four_hours}
use Rattle.lighting_panel.specs.Paper.Worked.{frames, expected}
use Rattle.lighting_panel.specs.Paper.WorkedTagLists.{frames_in_tags, answers_in_tags}
use Rattle.lighting_panel.specs.Paper.WorkedJumpLists.{frames_of_jumps, answers_to_jumps}
use Rattle.lighting_panel.specs.Paper.WorkedHalfLists.{frames_of_halves, answers_to_halves}
use Rattle.lighting_panel.specs.Paper.WorkedOrder.{frames_of_order, answers_in_order}
use Rattle.lighting_panel.specs.Paper.WorkedRules.{rules_given, rules_said}
use Rattle.lighting_panel.specs.Paper.WorkedSets.{ends_given, ends_said, kept_given, kept_said, sizes_given, sizes_said, frames_given, frames_said, fresh_fades_given, fresh_fades_said, ramp_given, ramp_said}
use Rattle.lighting_panel.specs.Paper.WorkedFourHours.{top_given, top_said, longer_given, longer_said, unasked_given, unasked_said, carried_given, carried_said}
use Rattle.lighting_panel.specs.Paper.WorkedTenantLists.{tenant_given, tenant_said}
use Rattle.lighting_panel.specs.Paper.WorkedSecrecy.{two_given, two_said, free_given, free_said}

-- bench figures 9 and 10, and the traps of a list
pub worked : answers (fresh_panel (four_hours 2) 0) frames ≡ expected
unfolding answers to_bits round bit_and bit_or of_bits when◌then◌else◌ all_from every real bits level_of real_of read_out real_from_to amount_of limit_of in_range units_or amount_units level_units view slots_of first_live winner is_live mask_emptied mask_filled level_set put level_at winning_level clamp_lit present_value distance_moved reached_by reached progress_by progress_value lit in_process binary_at switched relay_state inactive_not_below with_burning with_effect with_command with_settings lit_milliseconds with_burned timer_due phase_end activity_due is_due timer_at emptied_by expired end_movement_of end_movement_by end_movement_on_expiry delayed next_phase next_activity activity_at phase_slots next_slots slots_at after_events fire tick ticks last_short moment_after gone_at count_before count_since lit_from_zero lit_from_light lit_at lit_by_pace lit_moving lit_in_movement lit_resting lit_stretch sooner due burned_by with_burned_saturating fire_due event_step event_steps advance later end_movement_unless_above stored zero_or_empty zero_or_empty_from blinks zero_or_empty_above warns_by warns first_level first_phase warning_from warned_by warned ended_empty ended_stored written_warned written_zero written_calm written_by written activity_relinquished slot_relinquished operation_number fields_of duration_field without_warning activity_without_warning replaced placed movement ramp_length target faded_over faded_to ramped_at ramped_to jumped went_to step_up_from step_down_from stepped_up stepped_down raised halted stopped relinquished effect timed commanded_from commanded is_tenant whole_percent shown_level hidden answer_bytes level_answered within is_level is_amount is_slot is_priority meets numbered property_of same change_to change_by change_of settings_with relay_with end_movement activity_with burning_with changed min_over_max level_answer level_or_absent slot_answer flag elapsed_active real_answer real_field_answer time_field_answer last_duration read_property fresh_settings fresh_relay fresh_with fresh_for fresh_output level_field_refusal amount_field_refusal time_field_refusal first_refusal fields_refusal command_lasting command_with_duration command_request_by command_of plain_duration command_request write_level write_of empty_of done unchanged changed_unless acted served byte_at big_endian octets kind_row kind_length calls_by is_call fewest_octets field_size sizes field_bytes bytes_from tag_bytes real_tag whole_tag tags_of command_tags zero_filled tagged_body body_bytes field_in fields_from body_fields zero_beyond holds_at_most well_tagged held_by operation_of time_of both_or_neither fewest own_tags read_fields read_body tagged_request request_of call_of called clock_of parse_by parse startable levels_sound times_sound reals_sound settings_sound slot_sound slots_sound span_sound movement_sound warning_by warning_sound activity_by activity_sound timer_sound agrees relay_sound sound fresh_station station_sound same_bytes retransmission_or_conflict counts_sound rules_kept panel_sound fresh_panel start_step padded restored judged_by_number judged_by_record station_of judged_by_station decide execute frame_step
worked = refl

-- §1 in a list
pub worked_in_tags : answers (fresh_panel (four_hours 2) 0) frames_in_tags ≡ answers_in_tags
unfolding answers to_bits round bit_and bit_or of_bits when◌then◌else◌ all_from every real bits level_of real_of read_out real_from_to amount_of limit_of in_range units_or amount_units level_units view slots_of first_live winner is_live mask_emptied mask_filled level_set put level_at winning_level clamp_lit present_value distance_moved reached_by reached progress_by progress_value lit in_process binary_at switched relay_state inactive_not_below with_burning with_effect with_command with_settings lit_milliseconds with_burned timer_due phase_end activity_due is_due timer_at emptied_by expired end_movement_of end_movement_by end_movement_on_expiry delayed next_phase next_activity activity_at phase_slots next_slots slots_at after_events fire tick ticks last_short moment_after gone_at count_before count_since lit_from_zero lit_from_light lit_at lit_by_pace lit_moving lit_in_movement lit_resting lit_stretch sooner due burned_by with_burned_saturating fire_due event_step event_steps advance later end_movement_unless_above stored zero_or_empty zero_or_empty_from blinks zero_or_empty_above warns_by warns first_level first_phase warning_from warned_by warned ended_empty ended_stored written_warned written_zero written_calm written_by written activity_relinquished slot_relinquished operation_number fields_of duration_field without_warning activity_without_warning replaced placed movement ramp_length target faded_over faded_to ramped_at ramped_to jumped went_to step_up_from step_down_from stepped_up stepped_down raised halted stopped relinquished effect timed commanded_from commanded is_tenant whole_percent shown_level hidden answer_bytes level_answered within is_level is_amount is_slot is_priority meets numbered property_of same change_to change_by change_of settings_with relay_with end_movement activity_with burning_with changed min_over_max level_answer level_or_absent slot_answer flag elapsed_active real_answer real_field_answer time_field_answer last_duration read_property fresh_settings fresh_relay fresh_with fresh_for fresh_output level_field_refusal amount_field_refusal time_field_refusal first_refusal fields_refusal command_lasting command_with_duration command_request_by command_of plain_duration command_request write_level write_of empty_of done unchanged changed_unless acted served byte_at big_endian octets kind_row kind_length calls_by is_call fewest_octets field_size sizes field_bytes bytes_from tag_bytes real_tag whole_tag tags_of command_tags zero_filled tagged_body body_bytes field_in fields_from body_fields zero_beyond holds_at_most well_tagged held_by operation_of time_of both_or_neither fewest own_tags read_fields read_body tagged_request request_of call_of called clock_of parse_by parse startable levels_sound times_sound reals_sound settings_sound slot_sound slots_sound span_sound movement_sound warning_by warning_sound activity_by activity_sound timer_sound agrees relay_sound sound fresh_station station_sound same_bytes retransmission_or_conflict counts_sound rules_kept panel_sound fresh_panel start_step padded restored judged_by_number judged_by_record station_of judged_by_station decide execute frame_step
worked_in_tags = refl

-- §4 in a list
pub worked_jumps : answers (fresh_panel (four_hours 2) 0) frames_of_jumps ≡ answers_to_jumps
unfolding answers to_bits round bit_and bit_or of_bits when◌then◌else◌ all_from every real bits level_of real_of read_out real_from_to amount_of limit_of in_range units_or amount_units level_units view slots_of first_live winner is_live mask_emptied mask_filled level_set put level_at winning_level clamp_lit present_value distance_moved reached_by reached progress_by progress_value lit in_process binary_at switched relay_state inactive_not_below with_burning with_effect with_command with_settings lit_milliseconds with_burned timer_due phase_end activity_due is_due timer_at emptied_by expired end_movement_of end_movement_by end_movement_on_expiry delayed next_phase next_activity activity_at phase_slots next_slots slots_at after_events fire tick ticks last_short moment_after gone_at count_before count_since lit_from_zero lit_from_light lit_at lit_by_pace lit_moving lit_in_movement lit_resting lit_stretch sooner due burned_by with_burned_saturating fire_due event_step event_steps advance later end_movement_unless_above stored zero_or_empty zero_or_empty_from blinks zero_or_empty_above warns_by warns first_level first_phase warning_from warned_by warned ended_empty ended_stored written_warned written_zero written_calm written_by written activity_relinquished slot_relinquished operation_number fields_of duration_field without_warning activity_without_warning replaced placed movement ramp_length target faded_over faded_to ramped_at ramped_to jumped went_to step_up_from step_down_from stepped_up stepped_down raised halted stopped relinquished effect timed commanded_from commanded is_tenant whole_percent shown_level hidden answer_bytes level_answered within is_level is_amount is_slot is_priority meets numbered property_of same change_to change_by change_of settings_with relay_with end_movement activity_with burning_with changed min_over_max level_answer level_or_absent slot_answer flag elapsed_active real_answer real_field_answer time_field_answer last_duration read_property fresh_settings fresh_relay fresh_with fresh_for fresh_output level_field_refusal amount_field_refusal time_field_refusal first_refusal fields_refusal command_lasting command_with_duration command_request_by command_of plain_duration command_request write_level write_of empty_of done unchanged changed_unless acted served byte_at big_endian octets kind_row kind_length calls_by is_call fewest_octets field_size sizes field_bytes bytes_from tag_bytes real_tag whole_tag tags_of command_tags zero_filled tagged_body body_bytes field_in fields_from body_fields zero_beyond holds_at_most well_tagged held_by operation_of time_of both_or_neither fewest own_tags read_fields read_body tagged_request request_of call_of called clock_of parse_by parse startable levels_sound times_sound reals_sound settings_sound slot_sound slots_sound span_sound movement_sound warning_by warning_sound activity_by activity_sound timer_sound agrees relay_sound sound fresh_station station_sound same_bytes retransmission_or_conflict counts_sound rules_kept panel_sound fresh_panel start_step padded restored judged_by_number judged_by_record station_of judged_by_station decide execute frame_step
worked_jumps = refl

-- §5 in a list
pub worked_halves : answers (fresh_panel (four_hours 2) 0) frames_of_halves ≡ answers_to_halves
unfolding answers to_bits round bit_and bit_or of_bits when◌then◌else◌ all_from every real bits level_of real_of read_out real_from_to amount_of limit_of in_range units_or amount_units level_units view slots_of first_live winner is_live mask_emptied mask_filled level_set put level_at winning_level clamp_lit present_value distance_moved reached_by reached progress_by progress_value lit in_process binary_at switched relay_state inactive_not_below with_burning with_effect with_command with_settings lit_milliseconds with_burned timer_due phase_end activity_due is_due timer_at emptied_by expired end_movement_of end_movement_by end_movement_on_expiry delayed next_phase next_activity activity_at phase_slots next_slots slots_at after_events fire tick ticks last_short moment_after gone_at count_before count_since lit_from_zero lit_from_light lit_at lit_by_pace lit_moving lit_in_movement lit_resting lit_stretch sooner due burned_by with_burned_saturating fire_due event_step event_steps advance later end_movement_unless_above stored zero_or_empty zero_or_empty_from blinks zero_or_empty_above warns_by warns first_level first_phase warning_from warned_by warned ended_empty ended_stored written_warned written_zero written_calm written_by written activity_relinquished slot_relinquished operation_number fields_of duration_field without_warning activity_without_warning replaced placed movement ramp_length target faded_over faded_to ramped_at ramped_to jumped went_to step_up_from step_down_from stepped_up stepped_down raised halted stopped relinquished effect timed commanded_from commanded is_tenant whole_percent shown_level hidden answer_bytes level_answered within is_level is_amount is_slot is_priority meets numbered property_of same change_to change_by change_of settings_with relay_with end_movement activity_with burning_with changed min_over_max level_answer level_or_absent slot_answer flag elapsed_active real_answer real_field_answer time_field_answer last_duration read_property fresh_settings fresh_relay fresh_with fresh_for fresh_output level_field_refusal amount_field_refusal time_field_refusal first_refusal fields_refusal command_lasting command_with_duration command_request_by command_of plain_duration command_request write_level write_of empty_of done unchanged changed_unless acted served byte_at big_endian octets kind_row kind_length calls_by is_call fewest_octets field_size sizes field_bytes bytes_from tag_bytes real_tag whole_tag tags_of command_tags zero_filled tagged_body body_bytes field_in fields_from body_fields zero_beyond holds_at_most well_tagged held_by operation_of time_of both_or_neither fewest own_tags read_fields read_body tagged_request request_of call_of called clock_of parse_by parse startable levels_sound times_sound reals_sound settings_sound slot_sound slots_sound span_sound movement_sound warning_by warning_sound activity_by activity_sound timer_sound agrees relay_sound sound fresh_station station_sound same_bytes retransmission_or_conflict counts_sound rules_kept panel_sound fresh_panel start_step padded restored judged_by_number judged_by_record station_of judged_by_station decide execute frame_step
worked_halves = refl

-- wrong in two places at once
pub worked_order : answers (fresh_panel (four_hours 1) 0) frames_of_order ≡ answers_in_order
unfolding answers to_bits round bit_and bit_or of_bits when◌then◌else◌ all_from every real bits level_of real_of read_out real_from_to amount_of limit_of in_range units_or amount_units level_units view slots_of first_live winner is_live mask_emptied mask_filled level_set put level_at winning_level clamp_lit present_value distance_moved reached_by reached progress_by progress_value lit in_process binary_at switched relay_state inactive_not_below with_burning with_effect with_command with_settings lit_milliseconds with_burned timer_due phase_end activity_due is_due timer_at emptied_by expired end_movement_of end_movement_by end_movement_on_expiry delayed next_phase next_activity activity_at phase_slots next_slots slots_at after_events fire tick ticks last_short moment_after gone_at count_before count_since lit_from_zero lit_from_light lit_at lit_by_pace lit_moving lit_in_movement lit_resting lit_stretch sooner due burned_by with_burned_saturating fire_due event_step event_steps advance later end_movement_unless_above stored zero_or_empty zero_or_empty_from blinks zero_or_empty_above warns_by warns first_level first_phase warning_from warned_by warned ended_empty ended_stored written_warned written_zero written_calm written_by written activity_relinquished slot_relinquished operation_number fields_of duration_field without_warning activity_without_warning replaced placed movement ramp_length target faded_over faded_to ramped_at ramped_to jumped went_to step_up_from step_down_from stepped_up stepped_down raised halted stopped relinquished effect timed commanded_from commanded is_tenant whole_percent shown_level hidden answer_bytes level_answered within is_level is_amount is_slot is_priority meets numbered property_of same change_to change_by change_of settings_with relay_with end_movement activity_with burning_with changed min_over_max level_answer level_or_absent slot_answer flag elapsed_active real_answer real_field_answer time_field_answer last_duration read_property fresh_settings fresh_relay fresh_with fresh_for fresh_output level_field_refusal amount_field_refusal time_field_refusal first_refusal fields_refusal command_lasting command_with_duration command_request_by command_of plain_duration command_request write_level write_of empty_of done unchanged changed_unless acted served byte_at big_endian octets kind_row kind_length calls_by is_call fewest_octets field_size sizes field_bytes bytes_from tag_bytes real_tag whole_tag tags_of command_tags zero_filled tagged_body body_bytes field_in fields_from body_fields zero_beyond holds_at_most well_tagged held_by operation_of time_of both_or_neither fewest own_tags read_fields read_body tagged_request request_of call_of called clock_of parse_by parse startable levels_sound times_sound reals_sound settings_sound slot_sound slots_sound span_sound movement_sound warning_by warning_sound activity_by activity_sound timer_sound agrees relay_sound sound fresh_station station_sound same_bytes retransmission_or_conflict counts_sound rules_kept panel_sound fresh_panel start_step padded restored judged_by_number judged_by_record station_of judged_by_station decide execute frame_step
worked_order = refl

-- refusal 1: the record rules
pub rules_by_number : rules_given ≡ rules_said
unfolding to_bits round bit_and bit_or of_bits when◌then◌else◌ all_from every real bits level_of real_of read_out real_from_to amount_of limit_of in_range units_or amount_units level_units view slots_of first_live winner is_live mask_emptied mask_filled level_set put level_at winning_level clamp_lit present_value distance_moved reached_by reached progress_by progress_value lit in_process binary_at switched relay_state inactive_not_below with_burning with_effect with_command with_settings lit_milliseconds with_burned timer_due phase_end activity_due is_due timer_at emptied_by expired end_movement_of end_movement_by end_movement_on_expiry delayed next_phase next_activity activity_at phase_slots next_slots slots_at after_events fire tick ticks last_short moment_after gone_at count_before count_since lit_from_zero lit_from_light lit_at lit_by_pace lit_moving lit_in_movement lit_resting lit_stretch sooner due burned_by with_burned_saturating fire_due event_step event_steps advance later end_movement_unless_above stored zero_or_empty zero_or_empty_from blinks zero_or_empty_above warns_by warns first_level first_phase warning_from warned_by warned ended_empty ended_stored written_warned written_zero written_calm written_by written activity_relinquished slot_relinquished operation_number fields_of duration_field without_warning activity_without_warning replaced placed movement ramp_length target faded_over faded_to ramped_at ramped_to jumped went_to step_up_from step_down_from stepped_up stepped_down raised halted stopped relinquished effect timed commanded_from commanded is_tenant whole_percent shown_level hidden answer_bytes level_answered within is_level is_amount is_slot is_priority meets numbered property_of same change_to change_by change_of settings_with relay_with end_movement activity_with burning_with changed min_over_max level_answer level_or_absent slot_answer flag elapsed_active real_answer real_field_answer time_field_answer last_duration read_property fresh_settings fresh_relay fresh_with fresh_for fresh_output level_field_refusal amount_field_refusal time_field_refusal first_refusal fields_refusal command_lasting command_with_duration command_request_by command_of plain_duration command_request write_level write_of empty_of done unchanged changed_unless acted served byte_at big_endian octets kind_row kind_length calls_by is_call fewest_octets field_size sizes field_bytes bytes_from tag_bytes real_tag whole_tag tags_of command_tags zero_filled tagged_body body_bytes field_in fields_from body_fields zero_beyond holds_at_most well_tagged held_by operation_of time_of both_or_neither fewest own_tags read_fields read_body tagged_request request_of call_of called clock_of parse_by parse startable levels_sound times_sound reals_sound settings_sound slot_sound slots_sound span_sound movement_sound warning_by warning_sound activity_by activity_sound timer_sound agrees relay_sound sound fresh_station station_sound same_bytes retransmission_or_conflict counts_sound rules_kept panel_sound fresh_panel start_step padded restored judged_by_number judged_by_record station_of judged_by_station decide execute frame_step
rules_by_number = refl

-- §6: which sets may be started
pub ends_by_number : ends_given ≡ ends_said
unfolding to_bits round bit_and bit_or of_bits when◌then◌else◌ all_from every real bits level_of real_of read_out real_from_to amount_of limit_of in_range units_or amount_units level_units view slots_of first_live winner is_live mask_emptied mask_filled level_set put level_at winning_level clamp_lit present_value distance_moved reached_by reached progress_by progress_value lit in_process binary_at switched relay_state inactive_not_below with_burning with_effect with_command with_settings lit_milliseconds with_burned timer_due phase_end activity_due is_due timer_at emptied_by expired end_movement_of end_movement_by end_movement_on_expiry delayed next_phase next_activity activity_at phase_slots next_slots slots_at after_events fire tick ticks last_short moment_after gone_at count_before count_since lit_from_zero lit_from_light lit_at lit_by_pace lit_moving lit_in_movement lit_resting lit_stretch sooner due burned_by with_burned_saturating fire_due event_step event_steps advance later end_movement_unless_above stored zero_or_empty zero_or_empty_from blinks zero_or_empty_above warns_by warns first_level first_phase warning_from warned_by warned ended_empty ended_stored written_warned written_zero written_calm written_by written activity_relinquished slot_relinquished operation_number fields_of duration_field without_warning activity_without_warning replaced placed movement ramp_length target faded_over faded_to ramped_at ramped_to jumped went_to step_up_from step_down_from stepped_up stepped_down raised halted stopped relinquished effect timed commanded_from commanded is_tenant whole_percent shown_level hidden answer_bytes level_answered within is_level is_amount is_slot is_priority meets numbered property_of same change_to change_by change_of settings_with relay_with end_movement activity_with burning_with changed min_over_max level_answer level_or_absent slot_answer flag elapsed_active real_answer real_field_answer time_field_answer last_duration read_property fresh_settings fresh_relay fresh_with fresh_for fresh_output level_field_refusal amount_field_refusal time_field_refusal first_refusal fields_refusal command_lasting command_with_duration command_request_by command_of plain_duration command_request write_level write_of empty_of done unchanged changed_unless acted served byte_at big_endian octets kind_row kind_length calls_by is_call fewest_octets field_size sizes field_bytes bytes_from tag_bytes real_tag whole_tag tags_of command_tags zero_filled tagged_body body_bytes field_in fields_from body_fields zero_beyond holds_at_most well_tagged held_by operation_of time_of both_or_neither fewest own_tags read_fields read_body tagged_request request_of call_of called clock_of parse_by parse startable levels_sound times_sound reals_sound settings_sound slot_sound slots_sound span_sound movement_sound warning_by warning_sound activity_by activity_sound timer_sound agrees relay_sound sound fresh_station station_sound same_bytes retransmission_or_conflict counts_sound rules_kept panel_sound fresh_panel start_step padded restored judged_by_number judged_by_record station_of judged_by_station decide execute frame_step
ends_by_number = refl

-- §6: which sets may be kept
pub kept_by_number : kept_given ≡ kept_said
unfolding to_bits round bit_and bit_or of_bits when◌then◌else◌ all_from every real bits level_of real_of read_out real_from_to amount_of limit_of in_range units_or amount_units level_units view slots_of first_live winner is_live mask_emptied mask_filled level_set put level_at winning_level clamp_lit present_value distance_moved reached_by reached progress_by progress_value lit in_process binary_at switched relay_state inactive_not_below with_burning with_effect with_command with_settings lit_milliseconds with_burned timer_due phase_end activity_due is_due timer_at emptied_by expired end_movement_of end_movement_by end_movement_on_expiry delayed next_phase next_activity activity_at phase_slots next_slots slots_at after_events fire tick ticks last_short moment_after gone_at count_before count_since lit_from_zero lit_from_light lit_at lit_by_pace lit_moving lit_in_movement lit_resting lit_stretch sooner due burned_by with_burned_saturating fire_due event_step event_steps advance later end_movement_unless_above stored zero_or_empty zero_or_empty_from blinks zero_or_empty_above warns_by warns first_level first_phase warning_from warned_by warned ended_empty ended_stored written_warned written_zero written_calm written_by written activity_relinquished slot_relinquished operation_number fields_of duration_field without_warning activity_without_warning replaced placed movement ramp_length target faded_over faded_to ramped_at ramped_to jumped went_to step_up_from step_down_from stepped_up stepped_down raised halted stopped relinquished effect timed commanded_from commanded is_tenant whole_percent shown_level hidden answer_bytes level_answered within is_level is_amount is_slot is_priority meets numbered property_of same change_to change_by change_of settings_with relay_with end_movement activity_with burning_with changed min_over_max level_answer level_or_absent slot_answer flag elapsed_active real_answer real_field_answer time_field_answer last_duration read_property fresh_settings fresh_relay fresh_with fresh_for fresh_output level_field_refusal amount_field_refusal time_field_refusal first_refusal fields_refusal command_lasting command_with_duration command_request_by command_of plain_duration command_request write_level write_of empty_of done unchanged changed_unless acted served byte_at big_endian octets kind_row kind_length calls_by is_call fewest_octets field_size sizes field_bytes bytes_from tag_bytes real_tag whole_tag tags_of command_tags zero_filled tagged_body body_bytes field_in fields_from body_fields zero_beyond holds_at_most well_tagged held_by operation_of time_of both_or_neither fewest own_tags read_fields read_body tagged_request request_of call_of called clock_of parse_by parse startable levels_sound times_sound reals_sound settings_sound slot_sound slots_sound span_sound movement_sound warning_by warning_sound activity_by activity_sound timer_sound agrees relay_sound sound fresh_station station_sound same_bytes retransmission_or_conflict counts_sound rules_kept panel_sound fresh_panel start_step padded restored judged_by_number judged_by_record station_of judged_by_station decide execute frame_step
kept_by_number = refl

-- §6: 17 before 1, exactly that many records
pub sizes_by_number : sizes_given ≡ sizes_said
unfolding to_bits round bit_and bit_or of_bits when◌then◌else◌ all_from every real bits level_of real_of read_out real_from_to amount_of limit_of in_range units_or amount_units level_units view slots_of first_live winner is_live mask_emptied mask_filled level_set put level_at winning_level clamp_lit present_value distance_moved reached_by reached progress_by progress_value lit in_process binary_at switched relay_state inactive_not_below with_burning with_effect with_command with_settings lit_milliseconds with_burned timer_due phase_end activity_due is_due timer_at emptied_by expired end_movement_of end_movement_by end_movement_on_expiry delayed next_phase next_activity activity_at phase_slots next_slots slots_at after_events fire tick ticks last_short moment_after gone_at count_before count_since lit_from_zero lit_from_light lit_at lit_by_pace lit_moving lit_in_movement lit_resting lit_stretch sooner due burned_by with_burned_saturating fire_due event_step event_steps advance later end_movement_unless_above stored zero_or_empty zero_or_empty_from blinks zero_or_empty_above warns_by warns first_level first_phase warning_from warned_by warned ended_empty ended_stored written_warned written_zero written_calm written_by written activity_relinquished slot_relinquished operation_number fields_of duration_field without_warning activity_without_warning replaced placed movement ramp_length target faded_over faded_to ramped_at ramped_to jumped went_to step_up_from step_down_from stepped_up stepped_down raised halted stopped relinquished effect timed commanded_from commanded is_tenant whole_percent shown_level hidden answer_bytes level_answered within is_level is_amount is_slot is_priority meets numbered property_of same change_to change_by change_of settings_with relay_with end_movement activity_with burning_with changed min_over_max level_answer level_or_absent slot_answer flag elapsed_active real_answer real_field_answer time_field_answer last_duration read_property fresh_settings fresh_relay fresh_with fresh_for fresh_output level_field_refusal amount_field_refusal time_field_refusal first_refusal fields_refusal command_lasting command_with_duration command_request_by command_of plain_duration command_request write_level write_of empty_of done unchanged changed_unless acted served byte_at big_endian octets kind_row kind_length calls_by is_call fewest_octets field_size sizes field_bytes bytes_from tag_bytes real_tag whole_tag tags_of command_tags zero_filled tagged_body body_bytes field_in fields_from body_fields zero_beyond holds_at_most well_tagged held_by operation_of time_of both_or_neither fewest own_tags read_fields read_body tagged_request request_of call_of called clock_of parse_by parse startable levels_sound times_sound reals_sound settings_sound slot_sound slots_sound span_sound movement_sound warning_by warning_sound activity_by activity_sound timer_sound agrees relay_sound sound fresh_station station_sound same_bytes retransmission_or_conflict counts_sound rules_kept panel_sound fresh_panel start_step padded restored judged_by_number judged_by_record station_of judged_by_station decide execute frame_step
sizes_by_number = refl

-- §6: refusals 4 and 12 at some sets
pub frames_at_sets : frames_given ≡ frames_said
unfolding answers to_bits round bit_and bit_or of_bits when◌then◌else◌ all_from every real bits level_of real_of read_out real_from_to amount_of limit_of in_range units_or amount_units level_units view slots_of first_live winner is_live mask_emptied mask_filled level_set put level_at winning_level clamp_lit present_value distance_moved reached_by reached progress_by progress_value lit in_process binary_at switched relay_state inactive_not_below with_burning with_effect with_command with_settings lit_milliseconds with_burned timer_due phase_end activity_due is_due timer_at emptied_by expired end_movement_of end_movement_by end_movement_on_expiry delayed next_phase next_activity activity_at phase_slots next_slots slots_at after_events fire tick ticks last_short moment_after gone_at count_before count_since lit_from_zero lit_from_light lit_at lit_by_pace lit_moving lit_in_movement lit_resting lit_stretch sooner due burned_by with_burned_saturating fire_due event_step event_steps advance later end_movement_unless_above stored zero_or_empty zero_or_empty_from blinks zero_or_empty_above warns_by warns first_level first_phase warning_from warned_by warned ended_empty ended_stored written_warned written_zero written_calm written_by written activity_relinquished slot_relinquished operation_number fields_of duration_field without_warning activity_without_warning replaced placed movement ramp_length target faded_over faded_to ramped_at ramped_to jumped went_to step_up_from step_down_from stepped_up stepped_down raised halted stopped relinquished effect timed commanded_from commanded is_tenant whole_percent shown_level hidden answer_bytes level_answered within is_level is_amount is_slot is_priority meets numbered property_of same change_to change_by change_of settings_with relay_with end_movement activity_with burning_with changed min_over_max level_answer level_or_absent slot_answer flag elapsed_active real_answer real_field_answer time_field_answer last_duration read_property fresh_settings fresh_relay fresh_with fresh_for fresh_output level_field_refusal amount_field_refusal time_field_refusal first_refusal fields_refusal command_lasting command_with_duration command_request_by command_of plain_duration command_request write_level write_of empty_of done unchanged changed_unless acted served byte_at big_endian octets kind_row kind_length calls_by is_call fewest_octets field_size sizes field_bytes bytes_from tag_bytes real_tag whole_tag tags_of command_tags zero_filled tagged_body body_bytes field_in fields_from body_fields zero_beyond holds_at_most well_tagged held_by operation_of time_of both_or_neither fewest own_tags read_fields read_body tagged_request request_of call_of called clock_of parse_by parse startable levels_sound times_sound reals_sound settings_sound slot_sound slots_sound span_sound movement_sound warning_by warning_sound activity_by activity_sound timer_sound agrees relay_sound sound fresh_station station_sound same_bytes retransmission_or_conflict counts_sound rules_kept panel_sound fresh_panel start_step padded restored judged_by_number judged_by_record station_of judged_by_station decide execute frame_step
frames_at_sets = refl

-- §6: a fresh Fade_Time
pub fresh_fades : fresh_fades_given ≡ fresh_fades_said
unfolding answers to_bits round bit_and bit_or of_bits when◌then◌else◌ all_from every real bits level_of real_of read_out real_from_to amount_of limit_of in_range units_or amount_units level_units view slots_of first_live winner is_live mask_emptied mask_filled level_set put level_at winning_level clamp_lit present_value distance_moved reached_by reached progress_by progress_value lit in_process binary_at switched relay_state inactive_not_below with_burning with_effect with_command with_settings lit_milliseconds with_burned timer_due phase_end activity_due is_due timer_at emptied_by expired end_movement_of end_movement_by end_movement_on_expiry delayed next_phase next_activity activity_at phase_slots next_slots slots_at after_events fire tick ticks last_short moment_after gone_at count_before count_since lit_from_zero lit_from_light lit_at lit_by_pace lit_moving lit_in_movement lit_resting lit_stretch sooner due burned_by with_burned_saturating fire_due event_step event_steps advance later end_movement_unless_above stored zero_or_empty zero_or_empty_from blinks zero_or_empty_above warns_by warns first_level first_phase warning_from warned_by warned ended_empty ended_stored written_warned written_zero written_calm written_by written activity_relinquished slot_relinquished operation_number fields_of duration_field without_warning activity_without_warning replaced placed movement ramp_length target faded_over faded_to ramped_at ramped_to jumped went_to step_up_from step_down_from stepped_up stepped_down raised halted stopped relinquished effect timed commanded_from commanded is_tenant whole_percent shown_level hidden answer_bytes level_answered within is_level is_amount is_slot is_priority meets numbered property_of same change_to change_by change_of settings_with relay_with end_movement activity_with burning_with changed min_over_max level_answer level_or_absent slot_answer flag elapsed_active real_answer real_field_answer time_field_answer last_duration read_property fresh_settings fresh_relay fresh_with fresh_for fresh_output level_field_refusal amount_field_refusal time_field_refusal first_refusal fields_refusal command_lasting command_with_duration command_request_by command_of plain_duration command_request write_level write_of empty_of done unchanged changed_unless acted served byte_at big_endian octets kind_row kind_length calls_by is_call fewest_octets field_size sizes field_bytes bytes_from tag_bytes real_tag whole_tag tags_of command_tags zero_filled tagged_body body_bytes field_in fields_from body_fields zero_beyond holds_at_most well_tagged held_by operation_of time_of both_or_neither fewest own_tags read_fields read_body tagged_request request_of call_of called clock_of parse_by parse startable levels_sound times_sound reals_sound settings_sound slot_sound slots_sound span_sound movement_sound warning_by warning_sound activity_by activity_sound timer_sound agrees relay_sound sound fresh_station station_sound same_bytes retransmission_or_conflict counts_sound rules_kept panel_sound fresh_panel start_step padded restored judged_by_number judged_by_record station_of judged_by_station decide execute frame_step
fresh_fades = refl

-- §6: a ramp that is longer than every fade
pub longest_ramp : ramp_given ≡ ramp_said
unfolding answers to_bits round bit_and bit_or of_bits when◌then◌else◌ all_from every real bits level_of real_of read_out real_from_to amount_of limit_of in_range units_or amount_units level_units view slots_of first_live winner is_live mask_emptied mask_filled level_set put level_at winning_level clamp_lit present_value distance_moved reached_by reached progress_by progress_value lit in_process binary_at switched relay_state inactive_not_below with_burning with_effect with_command with_settings lit_milliseconds with_burned timer_due phase_end activity_due is_due timer_at emptied_by expired end_movement_of end_movement_by end_movement_on_expiry delayed next_phase next_activity activity_at phase_slots next_slots slots_at after_events fire tick ticks last_short moment_after gone_at count_before count_since lit_from_zero lit_from_light lit_at lit_by_pace lit_moving lit_in_movement lit_resting lit_stretch sooner due burned_by with_burned_saturating fire_due event_step event_steps advance later end_movement_unless_above stored zero_or_empty zero_or_empty_from blinks zero_or_empty_above warns_by warns first_level first_phase warning_from warned_by warned ended_empty ended_stored written_warned written_zero written_calm written_by written activity_relinquished slot_relinquished operation_number fields_of duration_field without_warning activity_without_warning replaced placed movement ramp_length target faded_over faded_to ramped_at ramped_to jumped went_to step_up_from step_down_from stepped_up stepped_down raised halted stopped relinquished effect timed commanded_from commanded is_tenant whole_percent shown_level hidden answer_bytes level_answered within is_level is_amount is_slot is_priority meets numbered property_of same change_to change_by change_of settings_with relay_with end_movement activity_with burning_with changed min_over_max level_answer level_or_absent slot_answer flag elapsed_active real_answer real_field_answer time_field_answer last_duration read_property fresh_settings fresh_relay fresh_with fresh_for fresh_output level_field_refusal amount_field_refusal time_field_refusal first_refusal fields_refusal command_lasting command_with_duration command_request_by command_of plain_duration command_request write_level write_of empty_of done unchanged changed_unless acted served byte_at big_endian octets kind_row kind_length calls_by is_call fewest_octets field_size sizes field_bytes bytes_from tag_bytes real_tag whole_tag tags_of command_tags zero_filled tagged_body body_bytes field_in fields_from body_fields zero_beyond holds_at_most well_tagged held_by operation_of time_of both_or_neither fewest own_tags read_fields read_body tagged_request request_of call_of called clock_of parse_by parse startable levels_sound times_sound reals_sound settings_sound slot_sound slots_sound span_sound movement_sound warning_by warning_sound activity_by activity_sound timer_sound agrees relay_sound sound fresh_station station_sound same_bytes retransmission_or_conflict counts_sound rules_kept panel_sound fresh_panel start_step padded restored judged_by_number judged_by_record station_of judged_by_station decide execute frame_step
longest_ramp = refl

-- §7: the longest fade, today and before
pub fades_at_the_top : top_given ≡ top_said
unfolding answers to_bits round bit_and bit_or of_bits when◌then◌else◌ all_from every real bits level_of real_of read_out real_from_to amount_of limit_of in_range units_or amount_units level_units view slots_of first_live winner is_live mask_emptied mask_filled level_set put level_at winning_level clamp_lit present_value distance_moved reached_by reached progress_by progress_value lit in_process binary_at switched relay_state inactive_not_below with_burning with_effect with_command with_settings lit_milliseconds with_burned timer_due phase_end activity_due is_due timer_at emptied_by expired end_movement_of end_movement_by end_movement_on_expiry delayed next_phase next_activity activity_at phase_slots next_slots slots_at after_events fire tick ticks last_short moment_after gone_at count_before count_since lit_from_zero lit_from_light lit_at lit_by_pace lit_moving lit_in_movement lit_resting lit_stretch sooner due burned_by with_burned_saturating fire_due event_step event_steps advance later end_movement_unless_above stored zero_or_empty zero_or_empty_from blinks zero_or_empty_above warns_by warns first_level first_phase warning_from warned_by warned ended_empty ended_stored written_warned written_zero written_calm written_by written activity_relinquished slot_relinquished operation_number fields_of duration_field without_warning activity_without_warning replaced placed movement ramp_length target faded_over faded_to ramped_at ramped_to jumped went_to step_up_from step_down_from stepped_up stepped_down raised halted stopped relinquished effect timed commanded_from commanded is_tenant whole_percent shown_level hidden answer_bytes level_answered within is_level is_amount is_slot is_priority meets numbered property_of same change_to change_by change_of settings_with relay_with end_movement activity_with burning_with changed min_over_max level_answer level_or_absent slot_answer flag elapsed_active real_answer real_field_answer time_field_answer last_duration read_property fresh_settings fresh_relay fresh_with fresh_for fresh_output level_field_refusal amount_field_refusal time_field_refusal first_refusal fields_refusal command_lasting command_with_duration command_request_by command_of plain_duration command_request write_level write_of empty_of done unchanged changed_unless acted served byte_at big_endian octets kind_row kind_length calls_by is_call fewest_octets field_size sizes field_bytes bytes_from tag_bytes real_tag whole_tag tags_of command_tags zero_filled tagged_body body_bytes field_in fields_from body_fields zero_beyond holds_at_most well_tagged held_by operation_of time_of both_or_neither fewest own_tags read_fields read_body tagged_request request_of call_of called clock_of parse_by parse startable levels_sound times_sound reals_sound settings_sound slot_sound slots_sound span_sound movement_sound warning_by warning_sound activity_by activity_sound timer_sound agrees relay_sound sound fresh_station station_sound same_bytes retransmission_or_conflict counts_sound rules_kept panel_sound fresh_panel start_step padded restored judged_by_number judged_by_record station_of judged_by_station decide execute frame_step old_counts old_sound old_start old_decide old_execute old_frame old_after old_answers
fades_at_the_top = refl

-- §7: lists with a longer fade time differ
pub longer_needed : longer_given ≡ longer_said
unfolding answers to_bits round bit_and bit_or of_bits when◌then◌else◌ all_from every real bits level_of real_of read_out real_from_to amount_of limit_of in_range units_or amount_units level_units view slots_of first_live winner is_live mask_emptied mask_filled level_set put level_at winning_level clamp_lit present_value distance_moved reached_by reached progress_by progress_value lit in_process binary_at switched relay_state inactive_not_below with_burning with_effect with_command with_settings lit_milliseconds with_burned timer_due phase_end activity_due is_due timer_at emptied_by expired end_movement_of end_movement_by end_movement_on_expiry delayed next_phase next_activity activity_at phase_slots next_slots slots_at after_events fire tick ticks last_short moment_after gone_at count_before count_since lit_from_zero lit_from_light lit_at lit_by_pace lit_moving lit_in_movement lit_resting lit_stretch sooner due burned_by with_burned_saturating fire_due event_step event_steps advance later end_movement_unless_above stored zero_or_empty zero_or_empty_from blinks zero_or_empty_above warns_by warns first_level first_phase warning_from warned_by warned ended_empty ended_stored written_warned written_zero written_calm written_by written activity_relinquished slot_relinquished operation_number fields_of duration_field without_warning activity_without_warning replaced placed movement ramp_length target faded_over faded_to ramped_at ramped_to jumped went_to step_up_from step_down_from stepped_up stepped_down raised halted stopped relinquished effect timed commanded_from commanded is_tenant whole_percent shown_level hidden answer_bytes level_answered within is_level is_amount is_slot is_priority meets numbered property_of same change_to change_by change_of settings_with relay_with end_movement activity_with burning_with changed min_over_max level_answer level_or_absent slot_answer flag elapsed_active real_answer real_field_answer time_field_answer last_duration read_property fresh_settings fresh_relay fresh_with fresh_for fresh_output level_field_refusal amount_field_refusal time_field_refusal first_refusal fields_refusal command_lasting command_with_duration command_request_by command_of plain_duration command_request write_level write_of empty_of done unchanged changed_unless acted served byte_at big_endian octets kind_row kind_length calls_by is_call fewest_octets field_size sizes field_bytes bytes_from tag_bytes real_tag whole_tag tags_of command_tags zero_filled tagged_body body_bytes field_in fields_from body_fields zero_beyond holds_at_most well_tagged held_by operation_of time_of both_or_neither fewest own_tags read_fields read_body tagged_request request_of call_of called clock_of parse_by parse startable levels_sound times_sound reals_sound settings_sound slot_sound slots_sound span_sound movement_sound warning_by warning_sound activity_by activity_sound timer_sound agrees relay_sound sound fresh_station station_sound same_bytes retransmission_or_conflict counts_sound rules_kept panel_sound fresh_panel start_step padded restored judged_by_number judged_by_record station_of judged_by_station decide execute frame_step old_counts old_sound old_start old_decide old_execute old_frame old_after old_answers
longer_needed = refl

-- §7: longer fade times that neither panel takes
pub longer_unasked : unasked_given ≡ unasked_said
unfolding answers to_bits round bit_and bit_or of_bits when◌then◌else◌ all_from every real bits level_of real_of read_out real_from_to amount_of limit_of in_range units_or amount_units level_units view slots_of first_live winner is_live mask_emptied mask_filled level_set put level_at winning_level clamp_lit present_value distance_moved reached_by reached progress_by progress_value lit in_process binary_at switched relay_state inactive_not_below with_burning with_effect with_command with_settings lit_milliseconds with_burned timer_due phase_end activity_due is_due timer_at emptied_by expired end_movement_of end_movement_by end_movement_on_expiry delayed next_phase next_activity activity_at phase_slots next_slots slots_at after_events fire tick ticks last_short moment_after gone_at count_before count_since lit_from_zero lit_from_light lit_at lit_by_pace lit_moving lit_in_movement lit_resting lit_stretch sooner due burned_by with_burned_saturating fire_due event_step event_steps advance later end_movement_unless_above stored zero_or_empty zero_or_empty_from blinks zero_or_empty_above warns_by warns first_level first_phase warning_from warned_by warned ended_empty ended_stored written_warned written_zero written_calm written_by written activity_relinquished slot_relinquished operation_number fields_of duration_field without_warning activity_without_warning replaced placed movement ramp_length target faded_over faded_to ramped_at ramped_to jumped went_to step_up_from step_down_from stepped_up stepped_down raised halted stopped relinquished effect timed commanded_from commanded is_tenant whole_percent shown_level hidden answer_bytes level_answered within is_level is_amount is_slot is_priority meets numbered property_of same change_to change_by change_of settings_with relay_with end_movement activity_with burning_with changed min_over_max level_answer level_or_absent slot_answer flag elapsed_active real_answer real_field_answer time_field_answer last_duration read_property fresh_settings fresh_relay fresh_with fresh_for fresh_output level_field_refusal amount_field_refusal time_field_refusal first_refusal fields_refusal command_lasting command_with_duration command_request_by command_of plain_duration command_request write_level write_of empty_of done unchanged changed_unless acted served byte_at big_endian octets kind_row kind_length calls_by is_call fewest_octets field_size sizes field_bytes bytes_from tag_bytes real_tag whole_tag tags_of command_tags zero_filled tagged_body body_bytes field_in fields_from body_fields zero_beyond holds_at_most well_tagged held_by operation_of time_of both_or_neither fewest own_tags read_fields read_body tagged_request request_of call_of called clock_of parse_by parse startable levels_sound times_sound reals_sound settings_sound slot_sound slots_sound span_sound movement_sound warning_by warning_sound activity_by activity_sound timer_sound agrees relay_sound sound fresh_station station_sound same_bytes retransmission_or_conflict counts_sound rules_kept panel_sound fresh_panel start_step padded restored judged_by_number judged_by_record station_of judged_by_station decide execute frame_step old_counts old_sound old_start old_decide old_execute old_frame old_after old_answers
longer_unasked = refl

-- §7: which frames carry a longer fade time
pub longer_carried : carried_given ≡ carried_said
unfolding when◌then◌else◌ all_from every byte_at big_endian octets within is_level is_amount is_slot is_priority meets time_within fewest_octets field_size sizes field_bytes bytes_from tag_bytes real_tag whole_tag tags_of command_tags zero_filled tagged_body body_bytes field_in fields_from body_fields zero_beyond holds_at_most well_tagged held_by operation_of time_of both_or_neither fewest own_tags read_fields read_body fade_time_in carries
longer_carried = refl

-- §8 in a list
pub worked_tenants : tenant_given ≡ tenant_said
unfolding answers to_bits round bit_and bit_or of_bits when◌then◌else◌ all_from every real bits level_of real_of read_out real_from_to amount_of limit_of in_range units_or amount_units level_units view slots_of first_live winner is_live mask_emptied mask_filled level_set put level_at winning_level clamp_lit present_value distance_moved reached_by reached progress_by progress_value lit in_process binary_at switched relay_state inactive_not_below with_burning with_effect with_command with_settings lit_milliseconds with_burned timer_due phase_end activity_due is_due timer_at emptied_by expired end_movement_of end_movement_by end_movement_on_expiry delayed next_phase next_activity activity_at phase_slots next_slots slots_at after_events fire tick ticks last_short moment_after gone_at count_before count_since lit_from_zero lit_from_light lit_at lit_by_pace lit_moving lit_in_movement lit_resting lit_stretch sooner due burned_by with_burned_saturating fire_due event_step event_steps advance later end_movement_unless_above stored zero_or_empty zero_or_empty_from blinks zero_or_empty_above warns_by warns first_level first_phase warning_from warned_by warned ended_empty ended_stored written_warned written_zero written_calm written_by written activity_relinquished slot_relinquished operation_number fields_of duration_field without_warning activity_without_warning replaced placed movement ramp_length target faded_over faded_to ramped_at ramped_to jumped went_to step_up_from step_down_from stepped_up stepped_down raised halted stopped relinquished effect timed commanded_from commanded is_tenant whole_percent shown_level hidden answer_bytes level_answered within is_level is_amount is_slot is_priority meets numbered property_of same change_to change_by change_of settings_with relay_with end_movement activity_with burning_with changed min_over_max level_answer level_or_absent slot_answer flag elapsed_active real_answer real_field_answer time_field_answer last_duration read_property fresh_settings fresh_relay fresh_with fresh_for fresh_output level_field_refusal amount_field_refusal time_field_refusal first_refusal fields_refusal command_lasting command_with_duration command_request_by command_of plain_duration command_request write_level write_of empty_of done unchanged changed_unless acted served byte_at big_endian octets kind_row kind_length calls_by is_call fewest_octets field_size sizes field_bytes bytes_from tag_bytes real_tag whole_tag tags_of command_tags zero_filled tagged_body body_bytes field_in fields_from body_fields zero_beyond holds_at_most well_tagged held_by operation_of time_of both_or_neither fewest own_tags read_fields read_body tagged_request request_of call_of called clock_of parse_by parse startable levels_sound times_sound reals_sound settings_sound slot_sound slots_sound span_sound movement_sound warning_by warning_sound activity_by activity_sound timer_sound agrees relay_sound sound fresh_station station_sound same_bytes retransmission_or_conflict counts_sound rules_kept panel_sound fresh_panel start_step padded restored judged_by_number judged_by_record station_of judged_by_station decide execute frame_step
worked_tenants = refl

-- §8: two panels for each premise of the claim of secrecy
pub two_panels : two_given ≡ two_said
unfolding to_bits round bit_and bit_or of_bits when◌then◌else◌ all_from every real bits level_of real_of read_out real_from_to amount_of limit_of in_range units_or amount_units level_units view slots_of first_live winner is_live mask_emptied mask_filled level_set put level_at winning_level clamp_lit present_value distance_moved reached_by reached progress_by progress_value lit in_process binary_at switched relay_state inactive_not_below with_burning with_effect with_command with_settings lit_milliseconds with_burned timer_due phase_end activity_due is_due timer_at emptied_by expired end_movement_of end_movement_by end_movement_on_expiry delayed next_phase next_activity activity_at phase_slots next_slots slots_at after_events fire tick ticks last_short moment_after gone_at count_before count_since lit_from_zero lit_from_light lit_at lit_by_pace lit_moving lit_in_movement lit_resting lit_stretch sooner due burned_by with_burned_saturating fire_due event_step event_steps advance later end_movement_unless_above stored zero_or_empty zero_or_empty_from blinks zero_or_empty_above warns_by warns first_level first_phase warning_from warned_by warned ended_empty ended_stored written_warned written_zero written_calm written_by written activity_relinquished slot_relinquished operation_number fields_of duration_field without_warning activity_without_warning replaced placed movement ramp_length target faded_over faded_to ramped_at ramped_to jumped went_to step_up_from step_down_from stepped_up stepped_down raised halted stopped relinquished effect timed commanded_from commanded is_tenant whole_percent shown_level hidden answer_bytes level_answered within is_level is_amount is_slot is_priority meets numbered property_of same change_to change_by change_of settings_with relay_with end_movement activity_with burning_with changed min_over_max level_answer level_or_absent slot_answer flag elapsed_active real_answer real_field_answer time_field_answer last_duration read_property fresh_settings fresh_relay fresh_with fresh_for fresh_output level_field_refusal amount_field_refusal time_field_refusal first_refusal fields_refusal command_lasting command_with_duration command_request_by command_of plain_duration command_request write_level write_of empty_of done unchanged changed_unless acted served byte_at big_endian octets kind_row kind_length calls_by is_call fewest_octets field_size sizes field_bytes bytes_from tag_bytes real_tag whole_tag tags_of command_tags zero_filled tagged_body body_bytes field_in fields_from body_fields zero_beyond holds_at_most well_tagged held_by operation_of time_of both_or_neither fewest own_tags read_fields read_body tagged_request request_of call_of called clock_of parse_by parse startable levels_sound times_sound reals_sound settings_sound slot_sound slots_sound span_sound movement_sound warning_by warning_sound activity_by activity_sound timer_sound agrees relay_sound sound fresh_station station_sound same_bytes retransmission_or_conflict counts_sound rules_kept panel_sound fresh_panel start_step padded restored judged_by_number judged_by_record station_of judged_by_station decide execute frame_step
two_panels = refl

-- §8: two panels that a tenant cannot tell apart
pub free_to_differ : free_given ≡ free_said
unfolding to_bits round bit_and bit_or of_bits when◌then◌else◌ all_from every real bits level_of real_of read_out real_from_to amount_of limit_of in_range units_or amount_units level_units view slots_of first_live winner is_live mask_emptied mask_filled level_set put level_at winning_level clamp_lit present_value distance_moved reached_by reached progress_by progress_value lit in_process binary_at switched relay_state inactive_not_below with_burning with_effect with_command with_settings lit_milliseconds with_burned timer_due phase_end activity_due is_due timer_at emptied_by expired end_movement_of end_movement_by end_movement_on_expiry delayed next_phase next_activity activity_at phase_slots next_slots slots_at after_events fire tick ticks last_short moment_after gone_at count_before count_since lit_from_zero lit_from_light lit_at lit_by_pace lit_moving lit_in_movement lit_resting lit_stretch sooner due burned_by with_burned_saturating fire_due event_step event_steps advance later end_movement_unless_above stored zero_or_empty zero_or_empty_from blinks zero_or_empty_above warns_by warns first_level first_phase warning_from warned_by warned ended_empty ended_stored written_warned written_zero written_calm written_by written activity_relinquished slot_relinquished operation_number fields_of duration_field without_warning activity_without_warning replaced placed movement ramp_length target faded_over faded_to ramped_at ramped_to jumped went_to step_up_from step_down_from stepped_up stepped_down raised halted stopped relinquished effect timed commanded_from commanded is_tenant whole_percent shown_level hidden answer_bytes level_answered within is_level is_amount is_slot is_priority meets numbered property_of same change_to change_by change_of settings_with relay_with end_movement activity_with burning_with changed min_over_max level_answer level_or_absent slot_answer flag elapsed_active real_answer real_field_answer time_field_answer last_duration read_property fresh_settings fresh_relay fresh_with fresh_for fresh_output level_field_refusal amount_field_refusal time_field_refusal first_refusal fields_refusal command_lasting command_with_duration command_request_by command_of plain_duration command_request write_level write_of empty_of done unchanged changed_unless acted served byte_at big_endian octets kind_row kind_length calls_by is_call fewest_octets field_size sizes field_bytes bytes_from tag_bytes real_tag whole_tag tags_of command_tags zero_filled tagged_body body_bytes field_in fields_from body_fields zero_beyond holds_at_most well_tagged held_by operation_of time_of both_or_neither fewest own_tags read_fields read_body tagged_request request_of call_of called clock_of parse_by parse startable levels_sound times_sound reals_sound settings_sound slot_sound slots_sound span_sound movement_sound warning_by warning_sound activity_by activity_sound timer_sound agrees relay_sound sound fresh_station station_sound same_bytes retransmission_or_conflict counts_sound rules_kept panel_sound fresh_panel start_step padded restored judged_by_number judged_by_record station_of judged_by_station decide execute frame_step
free_to_differ = refl
