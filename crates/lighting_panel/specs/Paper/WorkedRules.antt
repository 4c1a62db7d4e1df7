-- THE RECORD RULES BY NUMBER: lent records at panel time 1,000, whether each keeps the rules, beside what the
-- papers say. proofs/Figures.antt proves them equal. A record that breaks a rule differs in that alone from
-- one beside it that keeps them all. Slots are counted from 0: slot 6 is 5, slot 16 is 15.
use Rattle.std.specs.Prelude.{Bool, true, false, List, [], ◌∷◌, map, ℕ, replicate, set, Option, None}
use Rattle.lighting_outputs.specs.Paper.Parameters.{fresh_fade, four_hours}
use Rattle.lighting_outputs.specs.declared.Slots.{Slots}
use Rattle.lighting_outputs.specs.Paper.Slots.{filled}
use Rattle.lighting_outputs.specs.Paper.Passing.{after_events, running}
use Rattle.lighting_outputs.specs.Paper.Properties.{property_of, settings_with, relay_with}
use Rattle.lighting_outputs.specs.Paper.Fresh.{fresh_settings, fresh_relay, fresh_output}
use Rattle.lighting_frames.specs.Paper.Stations.{fresh_station, station_sound}
use Rattle.lighting_outputs.specs.Paper.Rules.{sound}
use Rattle.lighting_panel.specs.Paper.Panel.{fresh_record, with_time, counts_sound, panel_of, panel_sound}
use Rattle.lighting_outputs.specs.declared.Activity.{Activity}
use Rattle.lighting_outputs.specs.declared.Activity.TheVariants.{Still, Moving, Warned}
use Rattle.lighting_outputs.specs.declared.Answer.TheVariants.{Done}
use Rattle.lighting_outputs.specs.declared.Output.{Output}
use Rattle.lighting_outputs.specs.declared.Pace.TheVariants.{Fade}
use Rattle.lighting_outputs.specs.declared.Phase.{Phase}
use Rattle.lighting_outputs.specs.declared.Phase.TheVariants.{Blink, Delay}
use Rattle.lighting_outputs.specs.declared.Relay.{Relay}
use Rattle.lighting_outputs.specs.declared.Settings.{Settings}
use Rattle.lighting_frames.specs.declared.Station.{Station}
use Rattle.lighting_outputs.specs.declared.Timer.{Timer}

-- A LENT RECORD, and whether it keeps the rules as it is; and with its relay judged
abbrev lent : Settings → Slots → Activity → Option Timer → ℕ → Relay → Output
lent settings slots activity timer burning relay =
    record {
      settings = settings;
      slots = slots;
      activity = activity;
      timer = timer;
      burning = burning;
      last = fresh_output.last;
      relay = relay;
    }

abbrev keeps : Output → Bool
keeps o = sound (four_hours 2) 1000 o

abbrev keeps_judged : Output → Bool
keeps_judged o = keeps (after_events o)

-- SETTINGS: at rest, all fresh but the property n, which is kept as v
abbrev fresh : Settings
fresh = fresh_settings (fresh_fade (four_hours 2))

abbrev no_slot : Slots
no_slot = fresh_output.slots

abbrev setting : ℕ → ℕ → Bool
setting n v = keeps_judged (lent (settings_with fresh (property_of n) v) no_slot Still None 0 fresh_relay)

abbrev limits : ℕ → ℕ → Bool
limits min max =
    keeps_judged (lent (settings_with (settings_with fresh (property_of 0x08) min) (property_of 0x09) max) no_slot Still None 0 fresh_relay)

abbrev settings_given : List (List Bool)
settings_given =
    map (setting 0x01) (0 ∷ 1 ∷ 65535 ∷ 65536 ∷ 6553600 ∷ 6553601 ∷ [])
    ∷ map (setting 0x02) (99 ∷ 100 ∷ 14400000 ∷ 14400001 ∷ [])
    ∷ map (setting 0x03) (0x3dff_ffff ∷ 0x3e00_0000 ∷ 0x42c8_0000 ∷ 0x42c8_0001 ∷ [])
    ∷ map (setting 0x04) (0x3dff_ffff ∷ 0x3e00_0000 ∷ 0x42c8_0000 ∷ 0x42c8_0001 ∷ [])
    ∷ map (setting 0x06) (0 ∷ 86400000 ∷ 86400001 ∷ [])
    ∷ map (setting 0x07) (0 ∷ 86400000 ∷ 86400001 ∷ [])
    ∷ map (setting 0x08) (65535 ∷ 65536 ∷ 6553600 ∷ [])
    ∷ map (setting 0x09) (65536 ∷ 6553600 ∷ 6553601 ∷ [])
    ∷ map (setting 0x0a) (0 ∷ 4 ∷ 5 ∷ 6 ∷ 15 ∷ 16 ∷ [])
    -- 'Min at most Max'
    ∷ (limits 3276800 3276800 ∷ limits 3276801 3276800 ∷ [])
    ∷ []

abbrev settings_said : List (List Bool)
settings_said =
    (true ∷ false ∷ false ∷ true ∷ true ∷ false ∷ [])
    ∷ (false ∷ true ∷ true ∷ false ∷ [])
    ∷ (false ∷ true ∷ true ∷ false ∷ [])
    ∷ (false ∷ true ∷ true ∷ false ∷ [])
    ∷ (true ∷ true ∷ false ∷ [])
    ∷ (true ∷ true ∷ false ∷ [])
    ∷ (false ∷ true ∷ true ∷ [])
    ∷ (true ∷ true ∷ false ∷ [])
    ∷ (true ∷ true ∷ false ∷ true ∷ true ∷ false ∷ [])
    ∷ (true ∷ false ∷ [])
    ∷ []

-- SLOTS: slot i is live with v; and no slot is, whatever the levels of empty ones
abbrev holds : ℕ → ℕ → Bool
holds i v = keeps_judged (lent fresh (filled no_slot i v) Still None 0 fresh_relay)

abbrev slots_given : List (List Bool)
slots_given =
    map (holds 0) (0 ∷ 1 ∷ 65535 ∷ 65536 ∷ 6553600 ∷ 6553601 ∷ [])
    ∷ map (holds 15) (0 ∷ 1 ∷ 65535 ∷ 65536 ∷ 6553600 ∷ 6553601 ∷ [])
    ∷ (keeps (lent fresh (record { live = 0; levels = replicate 16 7 }) Still None 0 fresh_relay) ∷ [])
    -- 'slot 6 live exactly during a warning': without one it is not
    ∷ (holds 4 65536 ∷ holds 5 65536 ∷ holds 6 65536 ∷ [])
    ∷ []

abbrev slots_said : List (List Bool)
slots_said =
    (true ∷ false ∷ false ∷ true ∷ true ∷ false ∷ [])
    ∷ (true ∷ false ∷ false ∷ true ∷ true ∷ false ∷ [])
    ∷ (true ∷ [])
    ∷ (true ∷ false ∷ true ∷ [])
    ∷ []

-- A MOVEMENT of slot 16 to 50 percent, which it holds: its owner, from where, to where, how long, and when it
-- is over
abbrev half : Slots
half = filled no_slot 15 3276800

abbrev moving_with : Settings → Slots → ℕ → ℕ → ℕ → ℕ → ℕ → Bool
moving_with settings slots owner start target length over =
    keeps_judged
    (lent settings slots (Moving (record { owner = owner; start = start; target = target; length = length; over = over; pace = Fade })) None 0 fresh_relay)

abbrev moving_in : Slots → ℕ → ℕ → ℕ → ℕ → ℕ → Bool
moving_in slots owner start target length over = moving_with fresh slots owner start target length over

abbrev moving : ℕ → ℕ → ℕ → ℕ → ℕ → Bool
moving owner start target length over = moving_in half owner start target length over

-- the same with Max at 40 percent, 2,621,440 units, and so with Present_Value there
abbrev moving_below : ℕ → ℕ → Bool
moving_below start target = moving_with (settings_with fresh (property_of 0x09) 2621440) half 15 start target 1000 1500

abbrev movements_given : List (List Bool)
movements_given =
    (moving 15 0 3276800 1000 1500 ∷ [])
    -- 'belongs to the winner': of slot 15, which is empty; of slot 15, which wins; of slot 16, which then
    -- loses; of no slot, 50 percent being Relinquish_Default. And of slot 6, which wins and is a warning's
    ∷ (moving 14 0 3276800 1000 1500
    ∷ moving_in (filled half 14 3276800) 14 0 3276800 1000 1500
    ∷ moving_in (filled half 14 3276800) 15 0 3276800 1000 1500
    ∷ moving_with (settings_with fresh (property_of 0x01) 3276800) no_slot 16 0 3276800 1000 1500
    ∷ moving_in (filled half 5 3276800) 5 0 3276800 1000 1500
    ∷ [])
    -- 'starts from 0 to Max', 'aims at Present_Value'
    ∷ (moving 15 6553600 3276800 1000 1500 ∷ moving 15 6553601 3276800 1000 1500 ∷ moving_below 2621440 2621440 ∷ moving_below 2621441 2621440 ∷ [])
    ∷ (moving 15 0 3276799 1000 1500 ∷ moving 15 0 3276801 1000 1500 ∷ moving_below 0 2621440 ∷ moving_below 0 3276800 ∷ [])
    -- 'every due moment is after panel time', 'began no later than panel time'
    ∷ (moving 15 0 3276800 1000 1000 ∷ moving 15 0 3276800 1000 1001 ∷ moving 15 0 3276800 1000 2000 ∷ moving 15 0 3276800 1000 2001 ∷ [])
    -- 'lasts 1 to 86,400,000 ms', to four hours now (§7); one of 0 ms cannot have begun and not be over
    ∷ (moving 15 0 3276800 0 1000 ∷ moving 15 0 3276800 0 1001 ∷ moving 15 0 3276800 1 1001 ∷ moving 15 0 3276800 14400000 1500 ∷ moving 15 0 3276800 14400001 1500 ∷ [])
    ∷ []

abbrev movements_said : List (List Bool)
movements_said =
    (true ∷ [])
    ∷ (false ∷ true ∷ false ∷ false ∷ false ∷ [])
    ∷ (true ∷ false ∷ true ∷ false ∷ [])
    ∷ (false ∷ false ∷ true ∷ false ∷ [])
    ∷ (false ∷ true ∷ true ∷ false ∷ [])
    ∷ (false ∷ false ∷ true ∷ true ∷ false ∷ [])
    ∷ []

-- A WARNING, slot 6 being live with 0: its phase, its own slot, Y, when slot 6 turns, and when it is over
abbrev warned_in : Slots → Phase → ℕ → ℕ → ℕ → ℕ → Bool
warned_in slots phase owner level turn over =
    keeps_judged
    (lent fresh slots (Warned (record { phase = phase; owner = owner; level = level; turn = turn; over = over })) None 0 fresh_relay)

abbrev warned : Phase → ℕ → ℕ → ℕ → ℕ → Bool
warned phase owner level turn over = warned_in (filled no_slot 5 0) phase owner level turn over

abbrev warnings_given : List (List Bool)
warnings_given =
    -- 'slot 6 live exactly during a warning'
    (warned Blink 15 3276800 1700 121700 ∷ warned_in no_slot Blink 15 3276800 1700 121700 ∷ [])
    -- 'whose own slot is 7 to 16 and whose Y is a slot level'
    ∷ (warned Blink 5 3276800 1700 121700 ∷ warned Blink 6 3276800 1700 121700 ∷ warned Blink 16 3276800 1700 121700 ∷ [])
    ∷ map (λ (y : ℕ). warned Blink 15 y 1700 121700) (0 ∷ 1 ∷ 65535 ∷ 65536 ∷ 6553600 ∷ 6553601 ∷ [])
    -- 'every due moment is after panel time': the turn in the first phase, the end in both; the second phase
    -- has its turn behind it
    ∷ (warned Blink 15 3276800 1000 121700 ∷ warned Blink 15 3276800 1001 121700 ∷ warned Blink 15 3276800 1700 1700 ∷ warned Blink 15 3276800 1700 1699 ∷ [])
    ∷ (warned Delay 15 3276800 700 1000 ∷ warned Delay 15 3276800 700 1001 ∷ [])
    ∷ []

abbrev warnings_said : List (List Bool)
warnings_said =
    (true ∷ false ∷ [])
    ∷ (false ∷ true ∷ false ∷ [])
    ∷ (true ∷ false ∷ false ∷ true ∷ true ∷ false ∷ [])
    ∷ (false ∷ true ∷ true ∷ false ∷ [])
    ∷ (false ∷ true ∷ [])
    ∷ []

-- A DURATION and its slot; BURNING TIME
abbrev timed : ℕ → ℕ → Bool
timed slot due = keeps (lent fresh no_slot Still (running slot due) 0 fresh_relay)

abbrev burnt : ℕ → Bool
burnt burning = keeps (lent fresh no_slot Still None burning fresh_relay)

abbrev times_given : List (List Bool)
times_given =
    (timed 15 1000 ∷ timed 15 1001 ∷ [])
    ∷ (timed 0 1001 ∷ timed 4 1001 ∷ timed 5 1001 ∷ timed 6 1001 ∷ timed 16 1001 ∷ [])
    ∷ (burnt 0 ∷ burnt 1000 ∷ burnt 1001 ∷ [])
    ∷ []

abbrev times_said : List (List Bool)
times_said = (false ∷ true ∷ []) ∷ (true ∷ true ∷ false ∷ true ∷ false ∷ []) ∷ (true ∷ true ∷ false ∷ []) ∷ []

-- A RELAY (§3): its two values, dark; and Binary_Present_Value at a level v in slot 16, the values being 50
-- and 45 percent
abbrev values : ℕ → ℕ → Bool
values active inactive =
    keeps_judged (lent fresh no_slot Still None 0 (relay_with (relay_with fresh_relay (property_of 0x17) active) (property_of 0x18) inactive))

abbrev shows : ℕ → Bool → Bool
shows v binary =
    keeps (lent fresh (filled no_slot 15 v) Still None 0 (record { active = 3276800; inactive = 2949120; reverse = false; binary = binary }))

abbrev relays_given : List (List Bool)
relays_given =
    (values 6553600 2949120 ∷ values 6553601 2949120 ∷ values 1 0 ∷ values 65535 0 ∷ values 65536 0 ∷ [])
    ∷ (values 3276800 0 ∷ values 3276800 1 ∷ values 3276800 65535 ∷ values 3276800 65536 ∷ [])
    ∷ (values 3276800 3276799 ∷ values 3276800 3276800 ∷ [])
    ∷ (shows 3276800 true ∷ shows 3276800 false ∷ shows 3276799 true ∷ shows 3276799 false ∷ shows 2949120 true ∷ shows 2949120 false ∷ [])
    ∷ []

abbrev relays_said : List (List Bool)
relays_said =
    (true ∷ false ∷ false ∷ false ∷ true ∷ [])
    ∷ (true ∷ false ∷ false ∷ true ∷ [])
    ∷ (true ∷ false ∷ [])
    ∷ (true ∷ false ∷ true ∷ true ∷ false ∷ true ∷ [])
    ∷ []

-- A STATION'S RECORD: its number, and the kind of the frame that it keeps. Number 0 is none, whatever stands
-- there; a clock's frame is never kept
abbrev station_with : ℕ → ℕ → Station
station_with number kind = record { answer = Done; number = number; frame = kind ∷ replicate 30 0 }

abbrev stations_given : List (List Bool)
stations_given =
    map (λ (kind : ℕ). station_sound (station_with 0 kind)) (0x00 ∷ 0x01 ∷ 0xff ∷ [])
    ∷ map (λ (kind : ℕ). station_sound (station_with 1 kind)) (0x00 ∷ 0x01 ∷ 0x02 ∷ 0x03 ∷ 0x04 ∷ 0x05 ∷ 0x06 ∷ 0x0f ∷ [])
    ∷ map (λ (kind : ℕ). station_sound (station_with 4294967295 kind)) (0x10 ∷ 0x11 ∷ 0x12 ∷ 0x13 ∷ 0x14 ∷ 0x15 ∷ 0x16 ∷ 0x17 ∷ 0x18 ∷ 0x19 ∷ 0x1a ∷ 0x1b ∷ 0x1c ∷ 0xff ∷ [])
    ∷ []

abbrev stations_said : List (List Bool)
stations_said =
    (true ∷ true ∷ true ∷ [])
    ∷ (false ∷ false ∷ true ∷ true ∷ true ∷ true ∷ false ∷ false ∷ [])
    ∷ (true ∷ true ∷ true ∷ true ∷ true ∷ true ∷ true ∷ true ∷ true ∷ true ∷ true ∷ true ∷ false ∷ false ∷ [])
    ∷ []

-- THE COUNTS, 'now exactly that many records': of the old panel's set with two outputs; and that panel
-- whole, with one record of each table out of the rules
abbrev counts : ℕ → ℕ → Bool
counts outputs stations = counts_sound (four_hours 2) outputs stations

abbrev late : Output
late = lent fresh no_slot Still None 1001 fresh_relay

abbrev panel : Output → Output → Station → Bool
panel one other last =
    panel_sound
    (panel_of (one ∷ other ∷ []) (set (replicate 8 fresh_station) 7 last) (with_time (fresh_record (four_hours 2) 0) 1000))

abbrev panels_given : List (List Bool)
panels_given =
    (counts 1 8 ∷ counts 2 8 ∷ counts 3 8 ∷ counts 2 7 ∷ counts 2 9 ∷ [])
    ∷ (panel fresh_output fresh_output (station_with 1 2)
    ∷ panel late fresh_output (station_with 1 2)
    ∷ panel fresh_output late (station_with 1 2)
    ∷ panel fresh_output fresh_output (station_with 1 1)
    ∷ [])
    ∷ []

abbrev panels_said : List (List Bool)
panels_said = (false ∷ true ∷ false ∷ false ∷ false ∷ []) ∷ (true ∷ false ∷ false ∷ false ∷ []) ∷ []

-- AT OTHER SETS (§6), whose longest fade is given and whose longest duration is 100: how long a movement may
-- last, 'up to the larger of the longest fade and 800,000 ms'; which Fade_Time is kept; and a duration that
-- runs, whose moment no rule bounds
abbrev at : ℕ → Settings → Slots → Activity → Option Timer → Bool
at longest settings slots activity timer =
    sound (record { stations = 1; outputs = 1; fade = longest; duration = 100 }) 1000
    (after_events (lent settings slots activity timer 0 fresh_relay))

abbrev lasting : ℕ → ℕ → Bool
lasting longest length =
    at longest (fresh_settings 100) half (Moving (record { owner = 15; start = 0; target = 3276800; length = length; over = 1001; pace = Fade })) None

abbrev fading : ℕ → ℕ → Bool
fading longest time = at longest (fresh_settings time) no_slot Still None

abbrev sets_given : List (List Bool)
sets_given =
    map (lasting 100) (1 ∷ 101 ∷ 800000 ∷ 800001 ∷ [])
    ∷ map (lasting 800000) (800000 ∷ 800001 ∷ [])
    ∷ map (lasting 800001) (800001 ∷ 800002 ∷ [])
    ∷ map (lasting 14400000) (14400000 ∷ 14400001 ∷ [])
    ∷ map (fading 100) (99 ∷ 100 ∷ 101 ∷ [])
    ∷ map (fading 5000) (5000 ∷ 5001 ∷ [])
    ∷ map (λ (due : ℕ). at 100 (fresh_settings 100) no_slot Still (running 15 due)) (1000 ∷ 1001 ∷ 1101 ∷ 281474976710656 ∷ [])
    ∷ []

abbrev sets_said : List (List Bool)
sets_said =
    (true ∷ true ∷ true ∷ false ∷ [])
    ∷ (true ∷ false ∷ [])
    ∷ (true ∷ false ∷ [])
    ∷ (true ∷ false ∷ [])
    ∷ (false ∷ true ∷ false ∷ [])
    ∷ (true ∷ false ∷ [])
    ∷ (false ∷ true ∷ true ∷ true ∷ [])
    ∷ []

abbrev pub rules_given : List (List (List Bool))
rules_given =
    settings_given ∷ slots_given ∷ movements_given ∷ warnings_given ∷ times_given ∷ relays_given ∷ stations_given ∷ panels_given ∷ sets_given ∷ []

abbrev pub rules_said : List (List (List Bool))
rules_said = settings_said ∷ slots_said ∷ movements_said ∷ warnings_said ∷ times_said ∷ relays_said ∷ stations_said ∷ panels_said ∷ sets_said ∷ []
