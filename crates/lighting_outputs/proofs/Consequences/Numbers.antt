-- DOCUMENT 01'S OWN NUMBERS. The theorems hold for any set of parameters. At document 01's, of a panel of 64
-- outputs, these are the numbers that they speak of, and that an engineer reads in the paper.
use Rattle.std.specs.Prelude.{Some, Ok, Err, None}
use mathlib.Core.Path.{◌≡◌, refl}
use mathlib.Core.List.{[], ◌∷◌}
use Prim.Native.Nat.{ℕ, ◌-◌, ◌≤◌}
use native.Mathlib.Omega.{arith}
use lib.Dec.{eqb, leb, ltb}
use Rattle.lighting_levels.specs.Paper.Choice.{when◌then◌else◌, ◌also◌}
use Rattle.lighting_outputs.specs.Paper.Parameters.{Parameters, longest_movement, longest_blink, fresh_fade, document01}
use Rattle.lighting_outputs.specs.Paper.Fresh.{fresh_for, fresh_output}
use Rattle.lighting_outputs.specs.Paper.Rows.{row_of, within, meets}
use Rattle.lighting_outputs.specs.Paper.Requests.{time_field_refusal, command_lasting}
use Rattle.lighting_outputs.specs.Paper.Rules.{times_sound, span_sound}
use Rattle.lighting_outputs.specs.declared.Duration.TheVariants.{Cancels, Lasts}
use Rattle.lighting_outputs.specs.declared.Movement.{Movement}
use Rattle.lighting_outputs.specs.declared.Operation.{Operation}
use Rattle.lighting_outputs.specs.declared.OutputRequest.TheVariants.{Commands}
use Rattle.lighting_outputs.specs.declared.Property.TheVariants.{FadeTime}
use Rattle.lighting_outputs.specs.declared.Range.TheVariants.{Whole}
use Rattle.lighting_outputs.specs.declared.Settings.{Settings}
use Rattle.lighting_outputs.specs.declared.refusals.Refusal.TheVariants.{WholeOutOfRange}

-- stations, outputs, the longest fade time and the longest duration; then the longest movement, the longest
-- blink time and a fresh Fade_Time
pub numbers : (document01 64).stations ∷ (document01 64).outputs ∷ (document01 64).fade ∷ (document01 64).duration ∷ longest_movement (document01 64) ∷ longest_blink ∷ fresh_fade (document01 64) ∷ []
    ≡ 8 ∷ 64 ∷ 86400000 ∷ 86400000 ∷ 86400000 ∷ 86400000 ∷ 1000 ∷ []
numbers = refl

-- and a fresh output, which every set has whose longest fade is no less than a fresh Fade_Time
pub fresh : (p : Parameters) → 1000 ≤ p.fade → fresh_for p ≡ fresh_output
unfolding fresh_for fresh_output
fresh p long = let same : fresh_fade p ≡ 1000 = omega arith in rw same

-- EACH DEFINITION THAT READS A NUMBER OF THE SET is at document 01's, whatever the count of outputs, document
-- 01's own clause. Refusal 12: 'Fade times: 100 to 86,400,000', written and in a command; 'Duration is
-- milliseconds: 0 cancels, 100 to 86,400,000 sets'
module _ (outputs : ℕ) where
  pub fade_row : row_of (document01 outputs) FadeTime ≡ Whole 100 86400000
  fade_row = refl

  pub fade_field : (fade : ℕ) → time_field_refusal (document01 outputs) (Some fade) ≡ (when within 100 86400000 fade then None else Some WholeOutOfRange)
  unfolding time_field_refusal meets
  fade_field fade = refl

  pub duration_field_lem : (operation : Operation) (d : ℕ)
      → command_lasting (document01 outputs) operation d
      ≡ (when eqb d 0 then Ok (Commands (record { operation = operation; duration = Cancels }))
      else when within 100 86400000 d then Ok (Commands (record { operation = operation; duration = Lasts d }))
      else Err WholeOutOfRange)
  unfolding command_lasting
  duration_field_lem operation d = refl

  -- the record rules: 'settings in range'; a movement 'lasts 1 to 86,400,000 ms'
  pub times_rule : (c : Settings)
      → times_sound (document01 outputs) c ≡ (within 100 86400000 c.fade also within 0 86400000 c.blink also within 0 86400000 c.delay)
  unfolding times_sound meets
  times_rule c = refl

  pub movement_rule : (t : ℕ) (m : Movement)
      → span_sound (document01 outputs) t m ≡ (ltb t m.over also leb (m.over - t) m.length also within 1 86400000 m.length)
  unfolding span_sound
  movement_rule t m = refl
