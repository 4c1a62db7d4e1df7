-- The report for people: a line for each output. Levels are in percent, cut to hundredths; times since the
-- start of the panel.
use Rattle.std.specs.Prelude.{Bool, [], ◌∷◌, ◌++◌, ℕ, ◌+◌, ◌*◌, ◌/◌, ◌%◌, ltb, Option, Some, None}
use Rattle.lighting_levels.specs.Paper.Choice.{when◌then◌else◌}
use Rattle.lighting_frames.specs.Paper.Frames.{Bytes}
use Rattle.lighting_outputs.specs.Paper.Value.{present_value, progress_value, lit}
use Rattle.lighting_outputs.specs.Paper.Relay.{relay_state}
use Rattle.lighting_outputs.specs.declared.Relay.{Relay}
use Rattle.lighting_outputs.specs.declared.Activity.{Activity}
use Rattle.lighting_outputs.specs.declared.Activity.TheVariants.{Still, Moving, Warned}
use Rattle.lighting_outputs.specs.declared.Timer.{Timer}
use Rattle.lighting_outputs.specs.declared.Operation.{Operation}
use Rattle.lighting_outputs.specs.declared.Operation.TheVariants.{Stop, FadeTo, FadeToOver, RampTo, RampToAtRate, StepUp, StepDown, StepUpBy, StepDownBy, Goto, Relinquish}
use Rattle.lighting_outputs.specs.declared.Output.{Output}
use Rattle.text_printing.specs.Text.{text}
use Rattle.text_printing.specs.Writing.{decimal, newline}

-- NUMBERS. One, two and three decimal digits
abbrev pub digit : ℕ → Bytes
digit n = (48 + n % 10) ∷ []

unfoldable pub two_digits : ℕ → Bytes
two_digits n = digit (n / 10) ++ digit n

unfoldable pub three_digits : ℕ → Bytes
three_digits n = digit (n / 100) ++ two_digits n

-- a number to the right in three places
unfoldable pub lead : ℕ → Bytes
lead n = when ltb n 10 then text "  " else when ltb n 100 then text " " else []

unfoldable pub aligned : ℕ → Bytes
aligned n = lead n ++ decimal n

-- a level, 65,536 units to a percent
unfoldable pub percent : ℕ → Bytes
percent u = aligned (u / 65536) ++ (text "." ++ two_digits (u % 65536 * 100 / 65536))

-- minutes and seconds of n milliseconds, after the hours: `:mm:ss`
unfoldable pub minutes : ℕ → Bytes
minutes n = text ":" ++ (two_digits (n / 60000 % 60) ++ (text ":" ++ two_digits (n / 1000 % 60)))

-- a moment, h:mm:ss.mmm, and a length of time, h:mm:ss
unfoldable pub moment : ℕ → Bytes
moment t = decimal (t / 3600000) ++ (minutes t ++ (text "." ++ three_digits (t % 1000)))

unfoldable pub lasting : ℕ → Bytes
lasting n = aligned (n / 3600000) ++ minutes n

-- WORDS
abbrev pub gap : Bytes
gap = text "  "

unfoldable pub either : Bytes → Bytes → Bool → Bytes
either this that b = when b then this else that

-- the names of clause 12.X's operations, one as long as the other
unfoldable pub operation_name : Operation → Bytes
operation_name Stop = text "  STOP           "
operation_name (FadeTo x) = text "  FADE_TO        "
operation_name (FadeToOver x l) = text "  FADE_TO_OVER   "
operation_name (RampTo x) = text "  RAMP_TO        "
operation_name (RampToAtRate x r) = text "  RAMP_TO_AT_RATE"
operation_name StepUp = text "  STEP_UP        "
operation_name StepDown = text "  STEP_DOWN      "
operation_name (StepUpBy x) = text "  STEP_UP_BY     "
operation_name (StepDownBy x) = text "  STEP_DOWN_BY   "
operation_name (Goto x) = text "  GOTO           "
operation_name Relinquish = text "  RELINQUISH     "

-- WHAT IS UNDER WAY, and until when
unfoldable pub until : Bytes → ℕ → Bytes
until word t = word ++ moment t

unfoldable pub activity_text : Activity → Bytes
activity_text Still = []
activity_text (Moving m) = until (text "  moving until ") m.over
activity_text (Warned w) = until (text "  blink warning until ") w.over

unfoldable pub timer_text : Option Timer → Bytes
timer_text None = []
timer_text (Some timer) = until (text "  duration until ") timer.due

-- THE LINE of the output i at the time t: output, whether its lamp gives light (by Progress_Value: §2 of the
-- change requests), present and progress level, burning time, last command, the relay's state (§3), what is
-- under way
unfoldable pub light_fields : ℕ → ℕ → Output → Bytes
light_fields i t o = gap ++ (aligned i ++ (gap ++ either (text "  lit  ") (text "  dark ") (lit t o)))

unfoldable pub level_fields : ℕ → Output → Bytes
level_fields t o = gap ++ (percent (present_value o.settings o.slots) ++ (gap ++ (gap ++ percent (progress_value t o))))

unfoldable pub time_fields : Output → Bytes
time_fields o = gap ++ (lasting o.burning ++ operation_name o.last.operation)

unfoldable pub relay_field : Relay → Bytes
relay_field r = either (text "  on   ") (text "  off  ") (relay_state r)

unfoldable pub way_fields : Output → Bytes
way_fields o = relay_field o.relay ++ (activity_text o.activity ++ (timer_text o.timer ++ newline))

unfoldable pub report_line : ℕ → ℕ → Output → Bytes
report_line i t o = light_fields i t o ++ (level_fields t o ++ (time_fields o ++ way_fields o))

-- the lines above: the panel's time, and the heads of the columns
abbrev pub heads : Bytes
heads = text "output  light  present  progress    burning  last command     relay  under way\n"

unfoldable pub report_head : ℕ → Bytes
report_head t = text "panel time " ++ (moment t ++ (newline ++ heads))
