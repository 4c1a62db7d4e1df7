-- Made by tools/figures.py: figures, traps and worked lists of this layer, computed by the definitions.
use mathlib.Core.Path.{◌≡◌, refl}
use lib.Bits.{bit_and, bit_or}
use lib.Ieee.{of_bits, to_bits, round}
use Rattle.lighting_levels.specs.Paper.Choice.{when◌then◌else◌, all_from, every}
use Rattle.lighting_levels.specs.Paper.Level.{real, bits, level_of, real_of, read_out, real_from_to, amount_of, limit_of, in_range, units_or, amount_units, level_units}
use Rattle.lighting_outputs.specs.Paper.Slots.{view, slots_of, first_live, winner, is_live, mask_emptied, mask_filled, level_set, put, level_at, winning_level}
use Rattle.lighting_outputs.specs.Paper.Value.{clamp_lit, present_value, distance_moved, reached_by, reached, progress_by, progress_value, lit, in_process}
use Rattle.lighting_outputs.specs.Paper.Relay.{binary_at, switched, relay_state, inactive_not_below}
use Rattle.lighting_outputs.specs.Paper.Record.{with_burning, with_effect, with_command, with_settings}
use Rattle.lighting_outputs.specs.Paper.Passing.{lit_milliseconds, with_burned, timer_due, phase_end, activity_due, is_due, timer_at, emptied_by, expired, end_movement_of, end_movement_by, end_movement_on_expiry, delayed, next_phase, next_activity, activity_at, phase_slots, next_slots, slots_at, after_events, fire, tick, ticks}
use Rattle.lighting_outputs.specs.Engine.Light.{last_short, moment_after, gone_at, count_before, count_since, lit_from_zero, lit_from_light, lit_at, lit_by_pace, lit_moving, lit_in_movement, lit_resting, lit_stretch}
use Rattle.lighting_outputs.specs.Engine.Advance.{sooner, due, burned_by, with_burned_saturating, fire_due, event_step, event_steps, advance, later}
use Rattle.lighting_outputs.specs.Paper.Writing.{end_movement_unless_above, stored, zero_or_empty, zero_or_empty_from, blinks, zero_or_empty_above, warns_by, warns, first_level, first_phase, warning_from, warned_by, warned, ended_empty, ended_stored, written_warned, written_zero, written_calm, written_by, written, activity_relinquished, slot_relinquished}
use Rattle.lighting_outputs.specs.Paper.Operations.{operation_number, fields_of, duration_field}
use Rattle.lighting_outputs.specs.Paper.Commands.{without_warning, activity_without_warning, replaced, placed, movement, ramp_length, target, faded_over, faded_to, ramped_at, ramped_to, jumped, went_to, step_up_from, step_down_from, stepped_up, stepped_down, raised, halted, stopped, relinquished, effect, timed, commanded_from, commanded}
use Rattle.lighting_outputs.specs.Paper.Tenants.{is_tenant, whole_percent, shown_level, hidden}
use Rattle.lighting_outputs.specs.Paper.Answers.{answer_bytes, level_answered}
use Rattle.lighting_outputs.specs.Paper.Rows.{within, is_level, is_amount, is_slot, is_priority, meets}
use Rattle.lighting_outputs.specs.Paper.Properties.{numbered, property_of, same, change_to, change_by, change_of, settings_with, relay_with, end_movement, activity_with, burning_with, changed, min_over_max, level_answer, level_or_absent, slot_answer, flag, elapsed_active, real_answer, real_field_answer, time_field_answer, last_duration, read_property}
use Rattle.lighting_outputs.specs.Paper.Fresh.{fresh_settings, fresh_relay, fresh_with, fresh_for, fresh_output}
use Rattle.lighting_outputs.specs.Paper.Requests.{level_field_refusal, amount_field_refusal, time_field_refusal, first_refusal, fields_refusal, command_lasting, command_with_duration, command_request_by, command_of, plain_duration, command_request, write_level, write_of, empty_of}
use Rattle.lighting_outputs.specs.Paper.Acting.{done, unchanged, changed_unless, acted, served}
use Rattle.lighting_outputs.specs.Paper.Figures.{given, said, traps_given, traps_said}
use Rattle.lighting_outputs.specs.Paper.WorkedLight.{burning_given, burning_said}
use Rattle.lighting_outputs.specs.Paper.WorkedRelay.{relay_given, relay_said}
use Rattle.lighting_outputs.specs.Paper.WorkedJumps.{jumps_given, jumps_said}
use Rattle.lighting_outputs.specs.Paper.WorkedFresh.{fresh_given, fresh_said, emptied_given, emptied_said}
use Rattle.lighting_outputs.specs.Paper.WorkedOutside.{outside_given, outside_said, ends_given, ends_said}
use Rattle.lighting_outputs.specs.Paper.WorkedTenants.{side_by_side_given, side_by_side_said, warned_given, warned_said, rounded_given, rounded_said, marks_given, marks_said}

-- bench figures 1 to 8
pub figures : given ≡ said
unfolding bit_and bit_or of_bits when◌then◌else◌ all_from every real bits level_of real_of read_out real_from_to amount_of limit_of in_range units_or amount_units level_units view slots_of first_live winner is_live mask_emptied mask_filled level_set put level_at winning_level clamp_lit present_value distance_moved reached_by reached progress_by progress_value lit in_process binary_at switched relay_state inactive_not_below with_burning with_effect with_command with_settings lit_milliseconds with_burned timer_due phase_end activity_due is_due timer_at emptied_by expired end_movement_of end_movement_by end_movement_on_expiry delayed next_phase next_activity activity_at phase_slots next_slots slots_at after_events fire tick ticks last_short moment_after gone_at count_before count_since lit_from_zero lit_from_light lit_at lit_by_pace lit_moving lit_in_movement lit_resting lit_stretch sooner due burned_by with_burned_saturating fire_due event_step event_steps advance later end_movement_unless_above stored zero_or_empty zero_or_empty_from blinks zero_or_empty_above warns_by warns first_level first_phase warning_from warned_by warned ended_empty ended_stored written_warned written_zero written_calm written_by written activity_relinquished slot_relinquished operation_number fields_of duration_field without_warning activity_without_warning replaced placed movement ramp_length target faded_over faded_to ramped_at ramped_to jumped went_to step_up_from step_down_from stepped_up stepped_down raised halted stopped relinquished effect timed commanded_from commanded is_tenant whole_percent shown_level hidden answer_bytes level_answered within is_level is_amount is_slot is_priority meets numbered property_of same change_to change_by change_of settings_with relay_with end_movement activity_with burning_with changed min_over_max level_answer level_or_absent slot_answer flag elapsed_active real_answer real_field_answer time_field_answer last_duration read_property fresh_settings fresh_relay fresh_with fresh_for fresh_output
figures = refl

-- the traps that one output shows
pub traps : traps_given ≡ traps_said
unfolding bit_and bit_or of_bits when◌then◌else◌ all_from every real bits level_of real_of read_out real_from_to amount_of limit_of in_range units_or amount_units level_units view slots_of first_live winner is_live mask_emptied mask_filled level_set put level_at winning_level clamp_lit present_value distance_moved reached_by reached progress_by progress_value lit in_process binary_at switched relay_state inactive_not_below with_burning with_effect with_command with_settings lit_milliseconds with_burned timer_due phase_end activity_due is_due timer_at emptied_by expired end_movement_of end_movement_by end_movement_on_expiry delayed next_phase next_activity activity_at phase_slots next_slots slots_at after_events fire tick ticks last_short moment_after gone_at count_before count_since lit_from_zero lit_from_light lit_at lit_by_pace lit_moving lit_in_movement lit_resting lit_stretch sooner due burned_by with_burned_saturating fire_due event_step event_steps advance later end_movement_unless_above stored zero_or_empty zero_or_empty_from blinks zero_or_empty_above warns_by warns first_level first_phase warning_from warned_by warned ended_empty ended_stored written_warned written_zero written_calm written_by written activity_relinquished slot_relinquished operation_number fields_of duration_field without_warning activity_without_warning replaced placed movement ramp_length target faded_over faded_to ramped_at ramped_to jumped went_to step_up_from step_down_from stepped_up stepped_down raised halted stopped relinquished effect timed commanded_from commanded is_tenant whole_percent shown_level hidden answer_bytes level_answered within is_level is_amount is_slot is_priority meets numbered property_of same change_to change_by change_of settings_with relay_with end_movement activity_with burning_with changed min_over_max level_answer level_or_absent slot_answer flag elapsed_active real_answer real_field_answer time_field_answer last_duration read_property fresh_settings fresh_relay fresh_with fresh_for fresh_output
traps = refl

-- §2: what outputs have burned
pub burning_by_light : burning_given ≡ burning_said
unfolding bit_and bit_or of_bits when◌then◌else◌ all_from every real bits level_of real_of read_out real_from_to amount_of limit_of in_range units_or amount_units level_units view slots_of first_live winner is_live mask_emptied mask_filled level_set put level_at winning_level clamp_lit present_value distance_moved reached_by reached progress_by progress_value lit in_process binary_at switched relay_state inactive_not_below with_burning with_effect with_command with_settings lit_milliseconds with_burned timer_due phase_end activity_due is_due timer_at emptied_by expired end_movement_of end_movement_by end_movement_on_expiry delayed next_phase next_activity activity_at phase_slots next_slots slots_at after_events fire tick ticks last_short moment_after gone_at count_before count_since lit_from_zero lit_from_light lit_at lit_by_pace lit_moving lit_in_movement lit_resting lit_stretch sooner due burned_by with_burned_saturating fire_due event_step event_steps advance later end_movement_unless_above stored zero_or_empty zero_or_empty_from blinks zero_or_empty_above warns_by warns first_level first_phase warning_from warned_by warned ended_empty ended_stored written_warned written_zero written_calm written_by written activity_relinquished slot_relinquished operation_number fields_of duration_field without_warning activity_without_warning replaced placed movement ramp_length target faded_over faded_to ramped_at ramped_to jumped went_to step_up_from step_down_from stepped_up stepped_down raised halted stopped relinquished effect timed commanded_from commanded is_tenant whole_percent shown_level hidden answer_bytes level_answered within is_level is_amount is_slot is_priority meets numbered property_of same change_to change_by change_of settings_with relay_with end_movement activity_with burning_with changed min_over_max level_answer level_or_absent slot_answer flag elapsed_active real_answer real_field_answer time_field_answer last_duration read_property fresh_settings fresh_relay fresh_with fresh_for fresh_output
burning_by_light = refl

-- §3: Binary_Present_Value
pub relay_by_hand : relay_given ≡ relay_said
unfolding bit_and bit_or of_bits when◌then◌else◌ all_from every real bits level_of real_of read_out real_from_to amount_of limit_of in_range units_or amount_units level_units view slots_of first_live winner is_live mask_emptied mask_filled level_set put level_at winning_level clamp_lit present_value distance_moved reached_by reached progress_by progress_value lit in_process binary_at switched relay_state inactive_not_below with_burning with_effect with_command with_settings lit_milliseconds with_burned timer_due phase_end activity_due is_due timer_at emptied_by expired end_movement_of end_movement_by end_movement_on_expiry delayed next_phase next_activity activity_at phase_slots next_slots slots_at after_events fire tick ticks last_short moment_after gone_at count_before count_since lit_from_zero lit_from_light lit_at lit_by_pace lit_moving lit_in_movement lit_resting lit_stretch sooner due burned_by with_burned_saturating fire_due event_step event_steps advance later end_movement_unless_above stored zero_or_empty zero_or_empty_from blinks zero_or_empty_above warns_by warns first_level first_phase warning_from warned_by warned ended_empty ended_stored written_warned written_zero written_calm written_by written activity_relinquished slot_relinquished operation_number fields_of duration_field without_warning activity_without_warning replaced placed movement ramp_length target faded_over faded_to ramped_at ramped_to jumped went_to step_up_from step_down_from stepped_up stepped_down raised halted stopped relinquished effect timed commanded_from commanded is_tenant whole_percent shown_level hidden answer_bytes level_answered within is_level is_amount is_slot is_priority meets numbered property_of same change_to change_by change_of settings_with relay_with end_movement activity_with burning_with changed min_over_max level_answer level_or_absent slot_answer flag elapsed_active real_answer real_field_answer time_field_answer last_duration read_property fresh_settings fresh_relay fresh_with fresh_for fresh_output level_field_refusal amount_field_refusal time_field_refusal first_refusal fields_refusal command_lasting command_with_duration command_request_by command_of plain_duration command_request write_level write_of empty_of done unchanged changed_unless acted served
relay_by_hand = refl

-- §4: movements under way at far jumps
pub jumps_by_hand : jumps_given ≡ jumps_said
unfolding bit_and bit_or of_bits when◌then◌else◌ all_from every real bits level_of real_of read_out real_from_to amount_of limit_of in_range units_or amount_units level_units view slots_of first_live winner is_live mask_emptied mask_filled level_set put level_at winning_level clamp_lit present_value distance_moved reached_by reached progress_by progress_value lit in_process binary_at switched relay_state inactive_not_below with_burning with_effect with_command with_settings lit_milliseconds with_burned timer_due phase_end activity_due is_due timer_at emptied_by expired end_movement_of end_movement_by end_movement_on_expiry delayed next_phase next_activity activity_at phase_slots next_slots slots_at after_events fire tick ticks last_short moment_after gone_at count_before count_since lit_from_zero lit_from_light lit_at lit_by_pace lit_moving lit_in_movement lit_resting lit_stretch sooner due burned_by with_burned_saturating fire_due event_step event_steps advance later end_movement_unless_above stored zero_or_empty zero_or_empty_from blinks zero_or_empty_above warns_by warns first_level first_phase warning_from warned_by warned ended_empty ended_stored written_warned written_zero written_calm written_by written activity_relinquished slot_relinquished operation_number fields_of duration_field without_warning activity_without_warning replaced placed movement ramp_length target faded_over faded_to ramped_at ramped_to jumped went_to step_up_from step_down_from stepped_up stepped_down raised halted stopped relinquished effect timed commanded_from commanded is_tenant whole_percent shown_level hidden answer_bytes level_answered within is_level is_amount is_slot is_priority meets numbered property_of same change_to change_by change_of settings_with relay_with end_movement activity_with burning_with changed min_over_max level_answer level_or_absent slot_answer flag elapsed_active real_answer real_field_answer time_field_answer last_duration read_property fresh_settings fresh_relay fresh_with fresh_for fresh_output
jumps_by_hand = refl

-- every property of a fresh output
pub fresh_by_number : fresh_given ≡ fresh_said
unfolding to_bits round bit_and bit_or of_bits when◌then◌else◌ all_from every real bits level_of real_of read_out real_from_to amount_of limit_of in_range units_or amount_units level_units view slots_of first_live winner is_live mask_emptied mask_filled level_set put level_at winning_level clamp_lit present_value distance_moved reached_by reached progress_by progress_value lit in_process binary_at switched relay_state inactive_not_below with_burning with_effect with_command with_settings lit_milliseconds with_burned timer_due phase_end activity_due is_due timer_at emptied_by expired end_movement_of end_movement_by end_movement_on_expiry delayed next_phase next_activity activity_at phase_slots next_slots slots_at after_events fire tick ticks last_short moment_after gone_at count_before count_since lit_from_zero lit_from_light lit_at lit_by_pace lit_moving lit_in_movement lit_resting lit_stretch sooner due burned_by with_burned_saturating fire_due event_step event_steps advance later end_movement_unless_above stored zero_or_empty zero_or_empty_from blinks zero_or_empty_above warns_by warns first_level first_phase warning_from warned_by warned ended_empty ended_stored written_warned written_zero written_calm written_by written activity_relinquished slot_relinquished operation_number fields_of duration_field without_warning activity_without_warning replaced placed movement ramp_length target faded_over faded_to ramped_at ramped_to jumped went_to step_up_from step_down_from stepped_up stepped_down raised halted stopped relinquished effect timed commanded_from commanded is_tenant whole_percent shown_level hidden answer_bytes level_answered within is_level is_amount is_slot is_priority meets numbered property_of same change_to change_by change_of settings_with relay_with end_movement activity_with burning_with changed min_over_max level_answer level_or_absent slot_answer flag elapsed_active real_answer real_field_answer time_field_answer last_duration read_property fresh_settings fresh_relay fresh_with fresh_for fresh_output level_field_refusal amount_field_refusal time_field_refusal first_refusal fields_refusal command_lasting command_with_duration command_request_by command_of plain_duration command_request write_level write_of empty_of done unchanged changed_unless acted served
fresh_by_number = refl

-- a fresh slot is as emptying leaves it
pub fresh_is_empty : emptied_given ≡ emptied_said
unfolding bit_and bit_or of_bits when◌then◌else◌ all_from every real bits level_of real_of read_out real_from_to amount_of limit_of in_range units_or amount_units level_units view slots_of first_live winner is_live mask_emptied mask_filled level_set put level_at winning_level clamp_lit present_value distance_moved reached_by reached progress_by progress_value lit in_process binary_at switched relay_state inactive_not_below with_burning with_effect with_command with_settings lit_milliseconds with_burned timer_due phase_end activity_due is_due timer_at emptied_by expired end_movement_of end_movement_by end_movement_on_expiry delayed next_phase next_activity activity_at phase_slots next_slots slots_at after_events fire tick ticks last_short moment_after gone_at count_before count_since lit_from_zero lit_from_light lit_at lit_by_pace lit_moving lit_in_movement lit_resting lit_stretch sooner due burned_by with_burned_saturating fire_due event_step event_steps advance later end_movement_unless_above stored zero_or_empty zero_or_empty_from blinks zero_or_empty_above warns_by warns first_level first_phase warning_from warned_by warned ended_empty ended_stored written_warned written_zero written_calm written_by written activity_relinquished slot_relinquished operation_number fields_of duration_field without_warning activity_without_warning replaced placed movement ramp_length target faded_over faded_to ramped_at ramped_to jumped went_to step_up_from step_down_from stepped_up stepped_down raised halted stopped relinquished effect timed commanded_from commanded is_tenant whole_percent shown_level hidden answer_bytes level_answered within is_level is_amount is_slot is_priority meets numbered property_of same change_to change_by change_of settings_with relay_with end_movement activity_with burning_with changed min_over_max level_answer level_or_absent slot_answer flag elapsed_active real_answer real_field_answer time_field_answer last_duration read_property fresh_settings fresh_relay fresh_with fresh_for fresh_output level_field_refusal amount_field_refusal time_field_refusal first_refusal fields_refusal command_lasting command_with_duration command_request_by command_of plain_duration command_request write_level write_of empty_of done unchanged changed_unless acted served
fresh_is_empty = refl

-- REALs outside their ranges
pub outside_by_number : outside_given ≡ outside_said
unfolding bit_and bit_or of_bits when◌then◌else◌ all_from every real bits level_of real_of read_out real_from_to amount_of limit_of in_range units_or amount_units level_units view slots_of first_live winner is_live mask_emptied mask_filled level_set put level_at winning_level clamp_lit present_value distance_moved reached_by reached progress_by progress_value lit in_process binary_at switched relay_state inactive_not_below with_burning with_effect with_command with_settings lit_milliseconds with_burned timer_due phase_end activity_due is_due timer_at emptied_by expired end_movement_of end_movement_by end_movement_on_expiry delayed next_phase next_activity activity_at phase_slots next_slots slots_at after_events fire tick ticks last_short moment_after gone_at count_before count_since lit_from_zero lit_from_light lit_at lit_by_pace lit_moving lit_in_movement lit_resting lit_stretch sooner due burned_by with_burned_saturating fire_due event_step event_steps advance later end_movement_unless_above stored zero_or_empty zero_or_empty_from blinks zero_or_empty_above warns_by warns first_level first_phase warning_from warned_by warned ended_empty ended_stored written_warned written_zero written_calm written_by written activity_relinquished slot_relinquished operation_number fields_of duration_field without_warning activity_without_warning replaced placed movement ramp_length target faded_over faded_to ramped_at ramped_to jumped went_to step_up_from step_down_from stepped_up stepped_down raised halted stopped relinquished effect timed commanded_from commanded is_tenant whole_percent shown_level hidden answer_bytes level_answered within is_level is_amount is_slot is_priority meets numbered property_of same change_to change_by change_of settings_with relay_with end_movement activity_with burning_with changed min_over_max level_answer level_or_absent slot_answer flag elapsed_active real_answer real_field_answer time_field_answer last_duration read_property fresh_settings fresh_relay fresh_with fresh_for fresh_output level_field_refusal amount_field_refusal time_field_refusal first_refusal fields_refusal command_lasting command_with_duration command_request_by command_of plain_duration command_request write_level write_of empty_of done unchanged changed_unless acted served
outside_by_number = refl

-- REALs at the ends of their ranges
pub ends_by_number : ends_given ≡ ends_said
unfolding bit_and bit_or of_bits when◌then◌else◌ all_from every real bits level_of real_of read_out real_from_to amount_of limit_of in_range units_or amount_units level_units view slots_of first_live winner is_live mask_emptied mask_filled level_set put level_at winning_level clamp_lit present_value distance_moved reached_by reached progress_by progress_value lit in_process binary_at switched relay_state inactive_not_below with_burning with_effect with_command with_settings lit_milliseconds with_burned timer_due phase_end activity_due is_due timer_at emptied_by expired end_movement_of end_movement_by end_movement_on_expiry delayed next_phase next_activity activity_at phase_slots next_slots slots_at after_events fire tick ticks last_short moment_after gone_at count_before count_since lit_from_zero lit_from_light lit_at lit_by_pace lit_moving lit_in_movement lit_resting lit_stretch sooner due burned_by with_burned_saturating fire_due event_step event_steps advance later end_movement_unless_above stored zero_or_empty zero_or_empty_from blinks zero_or_empty_above warns_by warns first_level first_phase warning_from warned_by warned ended_empty ended_stored written_warned written_zero written_calm written_by written activity_relinquished slot_relinquished operation_number fields_of duration_field without_warning activity_without_warning replaced placed movement ramp_length target faded_over faded_to ramped_at ramped_to jumped went_to step_up_from step_down_from stepped_up stepped_down raised halted stopped relinquished effect timed commanded_from commanded is_tenant whole_percent shown_level hidden answer_bytes level_answered within is_level is_amount is_slot is_priority meets numbered property_of same change_to change_by change_of settings_with relay_with end_movement activity_with burning_with changed min_over_max level_answer level_or_absent slot_answer flag elapsed_active real_answer real_field_answer time_field_answer last_duration read_property fresh_settings fresh_relay fresh_with fresh_for fresh_output level_field_refusal amount_field_refusal time_field_refusal first_refusal fields_refusal command_lasting command_with_duration command_request_by command_of plain_duration command_request write_level write_of empty_of done unchanged changed_unless acted served
ends_by_number = refl

-- §8: each property, read by a tenant and by a service station
pub side_by_side : side_by_side_given ≡ side_by_side_said
unfolding to_bits round bit_and bit_or of_bits when◌then◌else◌ all_from every real bits level_of real_of read_out real_from_to amount_of limit_of in_range units_or amount_units level_units view slots_of first_live winner is_live mask_emptied mask_filled level_set put level_at winning_level clamp_lit present_value distance_moved reached_by reached progress_by progress_value lit in_process binary_at switched relay_state inactive_not_below with_burning with_effect with_command with_settings lit_milliseconds with_burned timer_due phase_end activity_due is_due timer_at emptied_by expired end_movement_of end_movement_by end_movement_on_expiry delayed next_phase next_activity activity_at phase_slots next_slots slots_at after_events fire tick ticks last_short moment_after gone_at count_before count_since lit_from_zero lit_from_light lit_at lit_by_pace lit_moving lit_in_movement lit_resting lit_stretch sooner due burned_by with_burned_saturating fire_due event_step event_steps advance later end_movement_unless_above stored zero_or_empty zero_or_empty_from blinks zero_or_empty_above warns_by warns first_level first_phase warning_from warned_by warned ended_empty ended_stored written_warned written_zero written_calm written_by written activity_relinquished slot_relinquished operation_number fields_of duration_field without_warning activity_without_warning replaced placed movement ramp_length target faded_over faded_to ramped_at ramped_to jumped went_to step_up_from step_down_from stepped_up stepped_down raised halted stopped relinquished effect timed commanded_from commanded is_tenant whole_percent shown_level hidden answer_bytes level_answered within is_level is_amount is_slot is_priority meets numbered property_of same change_to change_by change_of settings_with relay_with end_movement activity_with burning_with changed min_over_max level_answer level_or_absent slot_answer flag elapsed_active real_answer real_field_answer time_field_answer last_duration read_property fresh_settings fresh_relay fresh_with fresh_for fresh_output level_field_refusal amount_field_refusal time_field_refusal first_refusal fields_refusal command_lasting command_with_duration command_request_by command_of plain_duration command_request write_level write_of empty_of done unchanged changed_unless acted served
side_by_side = refl

-- §8: slot 6 in a warning
pub in_a_warning : warned_given ≡ warned_said
unfolding to_bits round bit_and bit_or of_bits when◌then◌else◌ all_from every real bits level_of real_of read_out real_from_to amount_of limit_of in_range units_or amount_units level_units view slots_of first_live winner is_live mask_emptied mask_filled level_set put level_at winning_level clamp_lit present_value distance_moved reached_by reached progress_by progress_value lit in_process binary_at switched relay_state inactive_not_below with_burning with_effect with_command with_settings lit_milliseconds with_burned timer_due phase_end activity_due is_due timer_at emptied_by expired end_movement_of end_movement_by end_movement_on_expiry delayed next_phase next_activity activity_at phase_slots next_slots slots_at after_events fire tick ticks last_short moment_after gone_at count_before count_since lit_from_zero lit_from_light lit_at lit_by_pace lit_moving lit_in_movement lit_resting lit_stretch sooner due burned_by with_burned_saturating fire_due event_step event_steps advance later end_movement_unless_above stored zero_or_empty zero_or_empty_from blinks zero_or_empty_above warns_by warns first_level first_phase warning_from warned_by warned ended_empty ended_stored written_warned written_zero written_calm written_by written activity_relinquished slot_relinquished operation_number fields_of duration_field without_warning activity_without_warning replaced placed movement ramp_length target faded_over faded_to ramped_at ramped_to jumped went_to step_up_from step_down_from stepped_up stepped_down raised halted stopped relinquished effect timed commanded_from commanded is_tenant whole_percent shown_level hidden answer_bytes level_answered within is_level is_amount is_slot is_priority meets numbered property_of same change_to change_by change_of settings_with relay_with end_movement activity_with burning_with changed min_over_max level_answer level_or_absent slot_answer flag elapsed_active real_answer real_field_answer time_field_answer last_duration read_property fresh_settings fresh_relay fresh_with fresh_for fresh_output level_field_refusal amount_field_refusal time_field_refusal first_refusal fields_refusal command_lasting command_with_duration command_request_by command_of plain_duration command_request write_level write_of empty_of done unchanged changed_unless acted served
in_a_warning = refl

-- §8: levels about whole percents
pub rounded_down : rounded_given ≡ rounded_said
unfolding to_bits round bit_and bit_or of_bits when◌then◌else◌ all_from every real bits level_of real_of read_out real_from_to amount_of limit_of in_range units_or amount_units level_units view slots_of first_live winner is_live mask_emptied mask_filled level_set put level_at winning_level clamp_lit present_value distance_moved reached_by reached progress_by progress_value lit in_process binary_at switched relay_state inactive_not_below with_burning with_effect with_command with_settings lit_milliseconds with_burned timer_due phase_end activity_due is_due timer_at emptied_by expired end_movement_of end_movement_by end_movement_on_expiry delayed next_phase next_activity activity_at phase_slots next_slots slots_at after_events fire tick ticks last_short moment_after gone_at count_before count_since lit_from_zero lit_from_light lit_at lit_by_pace lit_moving lit_in_movement lit_resting lit_stretch sooner due burned_by with_burned_saturating fire_due event_step event_steps advance later end_movement_unless_above stored zero_or_empty zero_or_empty_from blinks zero_or_empty_above warns_by warns first_level first_phase warning_from warned_by warned ended_empty ended_stored written_warned written_zero written_calm written_by written activity_relinquished slot_relinquished operation_number fields_of duration_field without_warning activity_without_warning replaced placed movement ramp_length target faded_over faded_to ramped_at ramped_to jumped went_to step_up_from step_down_from stepped_up stepped_down raised halted stopped relinquished effect timed commanded_from commanded is_tenant whole_percent shown_level hidden answer_bytes level_answered within is_level is_amount is_slot is_priority meets numbered property_of same change_to change_by change_of settings_with relay_with end_movement activity_with burning_with changed min_over_max level_answer level_or_absent slot_answer flag elapsed_active real_answer real_field_answer time_field_answer last_duration read_property fresh_settings fresh_relay fresh_with fresh_for fresh_output level_field_refusal amount_field_refusal time_field_refusal first_refusal fields_refusal command_lasting command_with_duration command_request_by command_of plain_duration command_request write_level write_of empty_of done unchanged changed_unless acted served
rounded_down = refl

-- §8: which stations are tenants
pub marks_by_hand : marks_given ≡ marks_said
unfolding to_bits round bit_and bit_or of_bits when◌then◌else◌ all_from every real bits level_of real_of read_out real_from_to amount_of limit_of in_range units_or amount_units level_units view slots_of first_live winner is_live mask_emptied mask_filled level_set put level_at winning_level clamp_lit present_value distance_moved reached_by reached progress_by progress_value lit in_process binary_at switched relay_state inactive_not_below with_burning with_effect with_command with_settings lit_milliseconds with_burned timer_due phase_end activity_due is_due timer_at emptied_by expired end_movement_of end_movement_by end_movement_on_expiry delayed next_phase next_activity activity_at phase_slots next_slots slots_at after_events fire tick ticks last_short moment_after gone_at count_before count_since lit_from_zero lit_from_light lit_at lit_by_pace lit_moving lit_in_movement lit_resting lit_stretch sooner due burned_by with_burned_saturating fire_due event_step event_steps advance later end_movement_unless_above stored zero_or_empty zero_or_empty_from blinks zero_or_empty_above warns_by warns first_level first_phase warning_from warned_by warned ended_empty ended_stored written_warned written_zero written_calm written_by written activity_relinquished slot_relinquished operation_number fields_of duration_field without_warning activity_without_warning replaced placed movement ramp_length target faded_over faded_to ramped_at ramped_to jumped went_to step_up_from step_down_from stepped_up stepped_down raised halted stopped relinquished effect timed commanded_from commanded is_tenant whole_percent shown_level hidden answer_bytes level_answered within is_level is_amount is_slot is_priority meets numbered property_of same change_to change_by change_of settings_with relay_with end_movement activity_with burning_with changed min_over_max level_answer level_or_absent slot_answer flag elapsed_active real_answer real_field_answer time_field_answer last_duration read_property fresh_settings fresh_relay fresh_with fresh_for fresh_output level_field_refusal amount_field_refusal time_field_refusal first_refusal fields_refusal command_lasting command_with_duration command_request_by command_of plain_duration command_request write_level write_of empty_of done unchanged changed_unless acted served
marks_by_hand = refl
