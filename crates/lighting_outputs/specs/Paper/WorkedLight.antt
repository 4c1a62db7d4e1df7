-- §2 of the change requests by hand: the milliseconds that outputs have burned, as the engine counts them and
-- as the plain panel lives them, beside what one reckons on paper. proofs/Figures.antt proves them equal.
use Rattle.std.specs.Prelude.{List, [], ◌∷◌, ℕ}
use Rattle.lighting_levels.specs.Paper.Level.{real}
use Rattle.lighting_outputs.specs.Paper.Passing.{ticks}
use Rattle.lighting_outputs.specs.Engine.Advance.{advance}
use Rattle.lighting_outputs.specs.Paper.Writing.{written}
use Rattle.lighting_outputs.specs.Paper.Fresh.{fresh_output}
use Rattle.lighting_outputs.specs.Paper.Figures.{ordered, half, fade_up, fade_down, ramp_up, slow_ramp}
use Rattle.lighting_outputs.specs.declared.Duration.TheVariants.{Omitted}
use Rattle.lighting_outputs.specs.declared.Operation.TheVariants.{Stop, FadeToOver, RampToAtRate}
use Rattle.lighting_outputs.specs.declared.Pace.{Pace}
use Rattle.lighting_outputs.specs.declared.Pace.TheVariants.{Fade, Ramp}
use Rattle.lighting_outputs.specs.declared.Activity.TheVariants.{Moving}
use Rattle.lighting_outputs.specs.declared.Output.{Output}

-- what has burned at `to`, of an output brought there from t; and after n milliseconds of the plain panel
abbrev burns : ℕ → ℕ → Output → ℕ
burns t to o = (advance t to o).burning

abbrev lives : ℕ → Output → ℕ
lives n o = (ticks n 0 o).burning

-- one percent, which is 65,536 units, over l ms: a unit is gone after ceiling(l / 65,536) ms
abbrev one_percent : ℕ → ℕ → Output → Output
one_percent t l o = ordered t (FadeToOver (real 0x3f80_0000) l) Omitted o

-- the longest fade, four hours (§7)
abbrev longest : Output
longest = one_percent 0 14400000 fresh_output

-- that rise, 100 ms along and still dark: commanded again, stopped, and 50 percent written above it
abbrev dark_rise : Output
dark_rise = advance 0 100 longest

abbrev begun_again : Output
begun_again = one_percent 100 14400000 dark_rise

abbrev halted_dark : Output
halted_dark = ordered 100 Stop Omitted dark_rise

abbrev written_above : Output
written_above = written 100 dark_rise 7 3276800

-- three percent a second down from 50 percent, which takes 16,667 ms
abbrev ramp_down : Output
ramp_down = ordered 0 (RampToAtRate (real 0) (real 0x4040_0000)) Omitted half

-- movements that no command begins, and that a lent record may hold: v in slot 16, from s to it, over 5,000
-- ms
abbrev lent : ℕ → ℕ → Pace → Output
lent s v pace =
    record {
      settings = fresh_output.settings;
      slots = (written 0 fresh_output 15 v).slots;
      activity = Moving (record { owner = 15; start = s; target = v; length = 5000; over = 5000; pace = pace });
      timer = fresh_output.timer;
      burning = 0;
      last = fresh_output.last;
      relay = fresh_output.relay;
    }

-- what such a one has burned 6,000 ms later
abbrev burns_lent : ℕ → ℕ → Pace → ℕ
burns_lent s v pace = burns 0 6000 (lent s v pace)

abbrev slow_rise : Output
slow_rise = one_percent 0 100000 fresh_output

abbrev pub burning_given : List (List ℕ)
burning_given =
    -- a rise is dark while its way is less than a unit: 220 ms of a fade of four hours by one percent, also
    -- where a clock comes in between
    (burns 0 220 longest ∷ burns 0 221 longest ∷ burns 0 14400000 longest ∷ burns 0 14400001 longest ∷ burns 100 221 dark_rise ∷ [])
    -- the millisecond k = 0 alone of faster ones
    ∷ (burns 0 1 fade_up ∷ burns 0 2 fade_up ∷ burns 0 1000 fade_up ∷ [])
    ∷ (burns 0 1 slow_ramp ∷ burns 0 2 slow_ramp ∷ burns 0 800000 slow_ramp ∷ burns 0 334 ramp_up ∷ [])
    -- a fall is lit to its last millisecond
    ∷ (burns 0 999 fade_down ∷ burns 0 1000 fade_down ∷ burns 0 1001 fade_down ∷ [])
    ∷ (burns 0 16666 ramp_down ∷ burns 0 16667 ramp_down ∷ burns 0 20000 ramp_down ∷ [])
    -- a rise that is broken off while it is dark
    ∷ (burns 100 320 begun_again ∷ burns 100 321 begun_again ∷ burns 100 90000 halted_dark ∷ burns 100 600 written_above ∷ [])
    -- from 0 to 0; a ramp that stands; one that is at 0 after a second; no way at all, of a lamp that is lit
    ∷ (burns_lent 0 0 Fade ∷ burns_lent 0 0 (Ramp 65536) ∷ burns_lent 0 65536 (Ramp 0) ∷ burns_lent 65536 0 (Ramp 65536) ∷ burns_lent 65536 65536 Fade ∷ [])
    -- one millisecond after another: two are dark of a fade by one percent over 100 s
    ∷ (lives 1 slow_rise ∷ lives 2 slow_rise ∷ lives 3 slow_rise ∷ lives 4 slow_rise ∷ lives 3 fade_down ∷ [])
    ∷ []

abbrev pub burning_said : List (List ℕ)
burning_said =
    (0 ∷ 1 ∷ 14399780 ∷ 14399781 ∷ 1 ∷ [])
    ∷ (0 ∷ 1 ∷ 999 ∷ [])
    ∷ (0 ∷ 1 ∷ 799999 ∷ 333 ∷ [])
    ∷ (999 ∷ 1000 ∷ 1000 ∷ [])
    ∷ (16666 ∷ 16667 ∷ 16667 ∷ [])
    ∷ (0 ∷ 1 ∷ 0 ∷ 500 ∷ [])
    ∷ (0 ∷ 0 ∷ 1000 ∷ 1000 ∷ 6000 ∷ [])
    ∷ (0 ∷ 0 ∷ 1 ∷ 2 ∷ 3 ∷ [])
    ∷ []
