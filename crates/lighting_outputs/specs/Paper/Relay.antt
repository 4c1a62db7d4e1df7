-- 'Binary relays on a lighting output' (§3 of the change requests).
use Rattle.std.specs.Prelude.{Bool, true, false, not, ℕ, leb}
use Rattle.lighting_levels.specs.Paper.Choice.{when◌then◌else◌}
use Rattle.lighting_outputs.specs.declared.Relay.{Relay}

-- Binary_Present_Value 'turns active when Present_Value is at or above the first, and inactive when at or
-- below the second'; else it is as it was. v is Present_Value
unfoldable pub binary_at : ℕ → Relay → Bool
binary_at v r = when leb r.active v then true else when leb v r.inactive then false else r.binary

-- THE RELAY JUDGED, where Present_Value is v
unfoldable pub switched : ℕ → Relay → Relay
switched v r = record { active = r.active; inactive = r.inactive; reverse = r.reverse; binary = binary_at v r }

-- 'The relay's state (1B, read only) is that value, or its opposite under reverse'
unfoldable pub relay_state : Relay → Bool
relay_state r = when r.reverse then not r.binary else r.binary

-- 'the inactive value not below the active one', which is 16
unfoldable pub inactive_not_below : Relay → Bool
inactive_not_below r = leb r.active r.inactive
