-- 'An output's record': a fresh output and a fresh station.
use Rattle.std.specs.Prelude.{false, ℕ, ◌*◌, replicate, None}
use Rattle.lighting_outputs.specs.Paper.Parameters.{Parameters, fresh_fade}
use Rattle.lighting_levels.specs.Paper.Level.{least_level, greatest_level, real}
use Rattle.lighting_outputs.specs.Paper.Slots.{slot_count, slot16}
use Rattle.lighting_outputs.specs.declared.Settings.{Settings}
use Rattle.lighting_outputs.specs.declared.Relay.{Relay}
use Rattle.lighting_outputs.specs.declared.Activity.TheVariants.{Still}
use Rattle.lighting_outputs.specs.declared.Duration.TheVariants.{Omitted}
use Rattle.lighting_outputs.specs.declared.Operation.TheVariants.{Stop}
use Rattle.lighting_outputs.specs.declared.Output.{Output}

-- 'Properties, with fresh values'; Fade_Time's follows from the set of parameters
unfoldable pub fresh_settings : ℕ → Settings
fresh_settings fade =
    record {
      default = 0;
      fade = fade;
      ramp = real 0x4120_0000;
      step = real 0x40a0_0000;
      enable = false;
      blink = 0;
      delay = 0;
      min = least_level;
      max = greatest_level;
      slot = slot16;
    }

-- '(properties 17 and 18, levels, fresh values 50 and 45) and Polarity (19, 0 normal, 1 reverse, fresh 0).
-- Binary_Present_Value [..] starts inactive' (§3)
unfoldable pub fresh_relay : Relay
fresh_relay = record { active = 50 * least_level; inactive = 45 * least_level; reverse = false; binary = false }

-- 'A fresh record has no live slot, last operation STOP without duration, burning time 0'
unfoldable pub fresh_with : ℕ → Output
fresh_with fade =
    record {
      settings = fresh_settings fade;
      slots = record { live = 0; levels = replicate slot_count 0 };
      activity = Still;
      timer = None;
      burning = 0;
      last = record { operation = Stop; duration = Omitted };
      relay = fresh_relay;
    }

-- a fresh output of a panel with the set p; and document 01's, which also stands for an output past the end
-- of a table
unfoldable pub fresh_for : Parameters → Output
fresh_for p = fresh_with (fresh_fade p)

unfoldable pub fresh_output : Output
fresh_output = fresh_with 1000
