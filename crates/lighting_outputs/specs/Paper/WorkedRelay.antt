-- §3 of the change requests by hand: Binary_Present_Value after writes, commands, milliseconds and due
-- moments, beside what one reckons on paper. proofs/Figures.antt proves them equal. 45 percent is 2,949,120
-- units, 50 percent 3,276,800.
use Rattle.std.specs.Prelude.{true, List, [], ◌∷◌, map, ℕ}
use Rattle.lighting_levels.specs.Paper.Level.{real}
use Rattle.lighting_outputs.specs.Paper.Slots.{slot6, slot16, filled}
use Rattle.lighting_outputs.specs.Paper.Relay.{relay_state}
use Rattle.lighting_outputs.specs.Paper.Passing.{ticks, running}
use Rattle.lighting_outputs.specs.Engine.Advance.{advance}
use Rattle.lighting_outputs.specs.Paper.Properties.{flag}
use Rattle.lighting_outputs.specs.Paper.Acting.{acted}
use Rattle.lighting_outputs.specs.Paper.Fresh.{fresh_output}
use Rattle.lighting_outputs.specs.Paper.Tenants.{for_service}
use Rattle.lighting_outputs.specs.declared.Duration.{Duration}
use Rattle.lighting_outputs.specs.declared.Duration.TheVariants.{Lasts, Omitted}
use Rattle.lighting_outputs.specs.declared.Operation.{Operation}
use Rattle.lighting_outputs.specs.declared.Operation.TheVariants.{FadeToOver, Goto}
use Rattle.lighting_outputs.specs.declared.Phase.TheVariants.{Blink}
use Rattle.lighting_outputs.specs.declared.Activity.TheVariants.{Warned}
use Rattle.lighting_outputs.specs.declared.Property.{Property}
use Rattle.lighting_outputs.specs.declared.Property.TheVariants.{RelinquishDefault, BlinkEnable, BlinkTime, BlinkWarnDelay, MinValue, MaxValue, BinaryActiveValue, BinaryInactiveValue, Polarity}
use Rattle.lighting_outputs.specs.declared.OutputRequest.{OutputRequest}
use Rattle.lighting_outputs.specs.declared.OutputRequest.TheVariants.{Write, Empty, Change, Commands}
use Rattle.lighting_outputs.specs.declared.Output.{Output}

-- what is asked of an output at t: v written to slot 16, a property's kept value, a command
abbrev asked : ℕ → OutputRequest → Output → Output
asked t request o = (acted for_service t o request).output

abbrev write : ℕ → ℕ → Output → Output
write t v o = asked t (Write slot16 v) o

abbrev set : Property → ℕ → Output → Output
set property v o = asked 0 (Change property v) o

abbrev order : ℕ → Operation → Duration → Output → Output
order t operation duration o = asked t (Commands (record { operation = operation; duration = duration })) o

-- Binary_Present_Value, and the relay's state
abbrev binary_of : Output → ℕ
binary_of o = flag o.relay.binary

abbrev state_of : Output → ℕ
state_of o = flag (relay_state o.relay)

-- levels at each of the two values, one unit below it and one above it
abbrev around_both : List ℕ
around_both = 2949119 ∷ 2949120 ∷ 2949121 ∷ 3276799 ∷ 3276800 ∷ 3276801 ∷ []

-- 50 percent in slot 16: its relay is active
abbrev at50 : Output
at50 = write 0 3276800 fresh_output

-- figure 8's warning, and one whose Y, 47 percent, lies between the two values: 50 percent was written before
-- it, so that the relay is active
abbrev warned_from : Output → Output
warned_from o = write 1000 0 (set BlinkEnable 1 (set BlinkTime 700 (set BlinkWarnDelay 120000 o)))

abbrev warned_at50 : Output
warned_at50 = warned_from at50

abbrev warned_at47 : Output
warned_at47 = warned_from (write 0 3080192 at50)

-- a record that may be lent: 47 percent in slot 1 until a duration ends it at 10, and at 10 too a warning's
-- turn puts Y, 47 percent, into slot 6, which was dark. Only between the two is Present_Value 0, and there
-- nothing is judged
abbrev both_at_once : Output
both_at_once =
    record {
      settings = fresh_output.settings;
      slots = filled (filled (filled fresh_output.slots 0 3080192) slot6 0) slot16 0;
      activity = Warned (record { phase = Blink; owner = slot16; level = 3080192; turn = 10; over = 20 });
      timer = running 0 10;
      burning = 0;
      last = fresh_output.last;
      relay = record { active = 3276800; inactive = 2949120; reverse = fresh_output.relay.reverse; binary = true };
    }

abbrev pub relay_given : List (List ℕ)
relay_given =
    -- fresh; and each level written to an output whose relay is inactive, and to one whose relay is active
    (binary_of fresh_output ∷ state_of fresh_output ∷ [])
    ∷ map (λ (v : ℕ). binary_of (write 0 v fresh_output)) around_both
    ∷ map (λ (v : ℕ). binary_of (write 0 v at50)) around_both
    -- a fade from 0 to 50 percent over 1,000 ms, at once and 1 ms later, and one back to 0
    ∷ (binary_of (order 0 (FadeToOver (real 0x4248_0000) 1000) Omitted fresh_output)
    ∷ binary_of (ticks 1 0 (order 0 (FadeToOver (real 0x4248_0000) 1000) Omitted fresh_output))
    ∷ binary_of (order 0 (FadeToOver (real 0) 1000) Omitted at50)
    ∷ binary_of (advance 0 999 (order 0 (FadeToOver (real 0) 1000) Omitted at50))
    ∷ [])
    -- a warning: dark, its second phase, its end
    ∷ (binary_of warned_at50 ∷ binary_of (advance 1000 1699 warned_at50) ∷ binary_of (advance 1000 1700 warned_at50) ∷ binary_of (advance 1000 121700 warned_at50) ∷ [])
    -- between the two values the second phase leaves it as the dark one left it
    ∷ (binary_of (write 0 3080192 at50) ∷ binary_of warned_at47 ∷ binary_of (advance 1000 1700 warned_at47) ∷ [])
    -- Min raises 40 percent to 50, Max lowers 50 to 45; Relinquish_Default; an emptied slot; a duration at
    -- its end
    ∷ (binary_of (set MinValue 3276800 (write 0 2621440 fresh_output)) ∷ binary_of (set MaxValue 2949120 at50) ∷ binary_of (set RelinquishDefault 3276800 fresh_output) ∷ [])
    ∷ (binary_of (asked 0 (Empty slot16) at50)
    ∷ binary_of (advance 0 99 (order 0 (Goto (real 0x4248_0000)) (Lasts 100) fresh_output))
    ∷ binary_of (advance 0 100 (order 0 (Goto (real 0x4248_0000)) (Lasts 100) fresh_output))
    ∷ [])
    -- 40 percent: 17 written down to it, and up again; then 18 up to it
    ∷ (binary_of (set BinaryActiveValue 2621440 (set BinaryInactiveValue 655360 (write 0 2621440 fresh_output)))
    ∷ binary_of (set BinaryActiveValue 3276800 (set BinaryActiveValue 2621440 (set BinaryInactiveValue 655360 (write 0 2621440 fresh_output))))
    ∷ binary_of (set BinaryInactiveValue 2621440 (set BinaryActiveValue 3276800 (set BinaryActiveValue 2621440 (set BinaryInactiveValue 655360 (write 0 2621440 fresh_output)))))
    ∷ [])
    -- under reverse
    ∷ (state_of (set Polarity 1 fresh_output) ∷ binary_of (set Polarity 1 fresh_output) ∷ state_of (set Polarity 1 at50) ∷ state_of (write 0 3276800 (set Polarity 1 fresh_output)) ∷ [])
    -- one millisecond after another, and by the engine
    ∷ (binary_of (ticks 2 9 both_at_once) ∷ binary_of (advance 9 10 both_at_once) ∷ [])
    ∷ []

abbrev pub relay_said : List (List ℕ)
relay_said =
    (0 ∷ 0 ∷ [])
    ∷ (0 ∷ 0 ∷ 0 ∷ 0 ∷ 1 ∷ 1 ∷ [])
    ∷ (0 ∷ 0 ∷ 1 ∷ 1 ∷ 1 ∷ 1 ∷ [])
    ∷ (1 ∷ 1 ∷ 0 ∷ 0 ∷ [])
    ∷ (0 ∷ 0 ∷ 1 ∷ 0 ∷ [])
    ∷ (1 ∷ 0 ∷ 0 ∷ [])
    ∷ (1 ∷ 0 ∷ 1 ∷ [])
    ∷ (0 ∷ 1 ∷ 0 ∷ [])
    ∷ (1 ∷ 1 ∷ 0 ∷ [])
    ∷ (1 ∷ 0 ∷ 0 ∷ 0 ∷ [])
    ∷ (1 ∷ 1 ∷ [])
    ∷ []
