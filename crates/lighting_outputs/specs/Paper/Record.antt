-- EVERY WAY IN WHICH AN OUTPUT'S RECORD IS CHANGED, field by field. A new field of the record is named here
-- and in Fresh.antt, and in the crates `output_record` and `output_fresh`, which are their likes in code.
use Rattle.std.specs.Prelude.{ℕ, Option}
use Rattle.lighting_outputs.specs.Paper.Slots.{Slots}
use Rattle.lighting_outputs.specs.declared.Settings.{Settings}
use Rattle.lighting_outputs.specs.declared.Activity.{Activity}
use Rattle.lighting_outputs.specs.declared.Timer.{Timer}
use Rattle.lighting_outputs.specs.declared.Command.{Command}
use Rattle.lighting_outputs.specs.declared.Effect.{Effect}
use Rattle.lighting_outputs.specs.declared.Relay.{Relay}
use Rattle.lighting_outputs.specs.declared.Output.{Output}

-- time passes while nothing falls due (Passing.antt)
unfoldable pub with_burning : Output → ℕ → Output
with_burning o b = record { settings = o.settings; slots = o.slots; activity = o.activity; timer = o.timer; burning = b; last = o.last; relay = o.relay }

-- a moment's due events (Passing.antt)
abbrev pub with_due : Output → Slots → Activity → Option Timer → Output
with_due o s a timer =
    record { settings = o.settings; slots = s; activity = a; timer = timer; burning = o.burning; last = o.last; relay = o.relay }

-- the relay judged (Passing.antt)
abbrev pub with_relay : Output → Relay → Output
with_relay o relay =
    record { settings = o.settings; slots = o.slots; activity = o.activity; timer = o.timer; burning = o.burning; last = o.last; relay = relay }

-- a slot written or emptied (Writing.antt)
unfoldable pub with_effect : Output → Slots → Activity → Output
with_effect o s a =
    record { settings = o.settings; slots = s; activity = a; timer = o.timer; burning = o.burning; last = o.last; relay = o.relay }

-- a command (Commands.antt)
unfoldable pub with_command : Output → Effect → Option Timer → Command → Output
with_command o r timer k =
    record { settings = o.settings; slots = r.slots; activity = r.activity; timer = timer; burning = o.burning; last = k; relay = o.relay }

-- a property written (Properties.antt)
unfoldable pub with_settings : Output → Settings → Relay → Activity → ℕ → Output
with_settings o c relay a b =
    record { settings = c; slots = o.slots; activity = a; timer = o.timer; burning = b; last = o.last; relay = relay }
