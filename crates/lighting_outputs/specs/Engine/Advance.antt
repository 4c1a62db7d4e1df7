-- THE ENGINE's passing of time: from due moment to due moment. proofs/Time/Passing.antt has that it comes to
-- the plain panel's milliseconds (`ticks` of Paper/Passing.antt), so that nobody need believe this file.
use Rattle.std.specs.Prelude.{Bool, true, false, List, [], ◌∷◌, ℕ, zero, suc, ◌+◌, ◌-◌, min, ltb, Option, Some, None}
use Rattle.lighting_levels.specs.Paper.Choice.{when◌then◌else◌}
use Rattle.lighting_outputs.specs.declared.Output.{Output}
use Rattle.lighting_outputs.specs.Paper.Record.{with_burning}
use Rattle.lighting_outputs.specs.Paper.Passing.{due_moments, is_due, fire}
use Rattle.lighting_outputs.specs.Engine.Light.{lit_stretch}

-- THE ENGINE: the next due moment, or `to` if nothing falls due before it
unfoldable pub sooner : ℕ → Option ℕ → ℕ
sooner to None = to
sooner to (Some d) = min to d

abbrev pub soonest : ℕ → List (Option ℕ) → ℕ
soonest to [] = to
soonest to (d ∷ l) = sooner (soonest to l) d

unfoldable pub due : ℕ → Output → ℕ
due to o = soonest to (due_moments o)

-- burning in a count that stays at its top: no frame brings a record that meets the rules there, since its
-- time has 48 bits (proofs/Time/Passing.antt, `event_steps_ticks`)
abbrev pub greatest_count : ℕ
greatest_count = 18446744073709551615

unfoldable pub burned_by : ℕ → Output → Output
burned_by n o = with_burning o (min (o.burning + n) greatest_count)

unfoldable pub with_burned_saturating : ℕ → ℕ → Output → Output
with_burned_saturating from n o = burned_by (lit_stretch from n o) o

-- whether one of these moments is d. The engine does something at due moments alone: elsewhere an output that
-- was judged needs no judging again (proofs/Time/Judged.antt)
abbrev pub any_due : ℕ → List (Option ℕ) → Bool
any_due d [] = false
any_due d (first ∷ rest) = when is_due d first then true else any_due d rest

unfoldable pub fire_due : ℕ → Output → Output
fire_due d o = when any_due d (due_moments o) then fire d o else o

unfoldable pub event_step : ℕ → ℕ → Output → Output
event_step now d o = fire_due d (with_burned_saturating now (d - now) o)

unfoldable pub event_steps : ℕ → ℕ → ℕ → Output → Output
event_steps zero now to o = with_burned_saturating now (to - now) o
event_steps (suc k) now to o = event_steps k (due to o) to (event_step now (due to o) o)

-- 'ours goes from due moment to due moment, at most three an output and frame'
unfoldable pub advance : ℕ → ℕ → Output → Output
advance now to o = event_steps 3 now to o

-- nothing falls due up to the moment `to`: then the way there is burning alone (proofs/Time/Quiet.antt)
unfoldable pub later : ℕ → Output → Bool
later to o = ltb to (due greatest_count o)
