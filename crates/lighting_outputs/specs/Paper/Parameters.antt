-- §6: THE SET OF PARAMETERS, the four numbers that a panel is started with, and what follows from them. Every
-- definition takes any set; which sets may be started, and kept, Startable.antt says.
use Rattle.std.specs.Prelude.{ℕ, min, max}
pub use Rattle.lighting_outputs.specs.declared.Parameters.{Parameters}

-- 'A movement may last up to the larger of the longest fade and 800,000 ms': a fade takes at most the longest
-- fade time, and no ramp more than 800,000 ms (100 percent at 0.125 a second)
abbrev pub longest_movement : Parameters → ℕ
longest_movement p = max p.fade 800000

-- the longest blink time and blink delay, whatever the set: refusal 12 reads from it '(blink times aside)'
abbrev pub longest_blink : ℕ
longest_blink = 86400000

-- 'A fresh Fade_Time is the smaller of 1,000 and the longest fade'
abbrev pub fresh_fade : Parameters → ℕ
fresh_fade p = min 1000 p.fade

-- document 01's own numbers, of a panel of so many outputs: eight stations, and a day for fades and
-- durations. No panel may be started with them any more (§7)
abbrev pub document01 : ℕ → Parameters
document01 outputs = record { stations = 8; outputs = outputs; fade = 86400000; duration = 86400000 }

-- §7: 'The old panel's set now ends in 14,400,000, 86,400,000'. With this one a panel does what document 01's
-- did, on lists without a longer fade time
abbrev pub four_hours : ℕ → Parameters
four_hours outputs = record { stations = 8; outputs = outputs; fade = 14400000; duration = 86400000 }
