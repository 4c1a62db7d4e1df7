-- Whether a field is there and holds a time from one number to another. §7 asks it of the fade time that a
-- frame carries (FadeTimes.antt of the crate `lighting_frames`).
use Rattle.std.specs.Prelude.{Bool, false, ℕ, Option, Some, None}
use Rattle.lighting_outputs.specs.Paper.Rows.{within}

unfoldable pub time_within : ℕ → ℕ → Option ℕ → Bool
time_within least most (Some x) = within least most x
time_within least most None = false
