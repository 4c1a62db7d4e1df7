-- 'CHECKED IN THIS ORDER; FIELDS LEFT TO RIGHT': of a command with several wrong fields the first one
-- decides. A level out of range is 11, whatever is wrong with the rate, the fade time and the duration behind
-- it; so are a rate and a step before the duration; a fade time is 12, and the duration comes last.
use Rattle.std.specs.Prelude.{Option, Some, None, Err}
use mathlib.Core.Path.{◌≡◌}
use mathlib.Core.Logic.{◌⊎◌, inl, inr}
use mathlib.Core.Bool.{false}
use mathlib.Core.List.{[], ◌∷◌, map}
use Prim.Native.Nat.{ℕ, ◌<◌}
use native.Mathlib.Omega.{arith}
use lib.Dec.{leb}
use lib.ListN.{replicate}
use lib.Ieee.{Float}
use Rattle.lighting_levels.specs.Paper.Choice.{when◌then◌else◌}
use Rattle.lighting_outputs.specs.Paper.Parameters.{Parameters}
use Rattle.lighting_levels.specs.Paper.Level.{level_of, amount_of}
use Rattle.lighting_outputs.specs.Paper.Rows.{within, meets}
use Rattle.lighting_outputs.specs.Paper.Operations.{fields_of}
use Rattle.lighting_outputs.specs.Paper.Requests.{level_field_refusal, amount_field_refusal, time_field_refusal, first_refusal, fields_refusal, command_lasting, command_with_duration, command_request_by, command_of}
use Rattle.lighting_outputs.specs.declared.Operation.{Operation}
use Rattle.lighting_outputs.specs.declared.Operation.TheVariants.{FadeTo, FadeToOver, RampTo, RampToAtRate, StepUpBy, StepDownBy, Goto}
use Rattle.lighting_levels.proofs.Split.{by_bool, eqb_miss, leb_no}
use Rattle.lighting_outputs.specs.declared.refusals.Refusal.TheVariants.{RealOutOfRange, WholeOutOfRange}

-- a whole number out of a range
abbrev pub OutOf : ℕ → ℕ → ℕ → Type 0
OutOf low high n = n < low ⊎ high < n

out_of : (low high n : ℕ) → OutOf low high n → within low high n ≡ false
unfolding within when◌then◌else◌
out_of low high n (inl less) = rw (leb_no {a = low} {b = n} less)
out_of low high n (inr more) = rw (leb_no {a = n} {b = high} more) (by_bool (leb low n) (λ test. rw test) (λ test. rw test))

module _ (p : Parameters) where
  -- BOTH WRONG AT ONCE: the fields and the duration are any, good or bad
  module _ (duration : Option ℕ) where
    pub level_first : (level rate : Float) (fade : ℕ) → level_of level ≡ None
        → map (λ (operation : Operation). command_of p operation duration) (FadeTo level ∷ FadeToOver level fade ∷ RampTo level ∷ RampToAtRate level rate ∷ Goto level ∷ [])
        ≡ replicate 5 (Err RealOutOfRange)
    unfolding command_of command_request_by fields_refusal fields_of level_field_refusal first_refusal when◌then◌else◌
    level_first level rate fade out = rw out

    pub rate_before_duration : (level rate : Float) (v : ℕ) → level_of level ≡ Some v → amount_of rate ≡ None
        → command_of p (RampToAtRate level rate) duration ≡ Err RealOutOfRange
    unfolding command_of command_request_by fields_refusal fields_of level_field_refusal amount_field_refusal first_refusal when◌then◌else◌
    rate_before_duration level rate v good out = rw (good, out)

    pub step_before_duration : (step : Float) → amount_of step ≡ None
        → map (λ (operation : Operation). command_of p operation duration) (StepUpBy step ∷ StepDownBy step ∷ []) ≡ Err RealOutOfRange ∷ Err RealOutOfRange ∷ []
    unfolding command_of command_request_by fields_refusal fields_of level_field_refusal amount_field_refusal first_refusal when◌then◌else◌
    step_before_duration step out = rw out

    pub fade_after_level : (level : Float) (v fade : ℕ) → level_of level ≡ Some v → OutOf 100 p.fade fade
        → command_of p (FadeToOver level fade) duration ≡ Err WholeOutOfRange
    unfolding command_of command_request_by fields_refusal fields_of level_field_refusal amount_field_refusal time_field_refusal meets first_refusal when◌then◌else◌
    fade_after_level level v fade good out = rw (good, out_of 100 p.fade fade out)

  -- THE DURATION LAST: the fields are in range
  pub duration_last : (operation : Operation) (d : ℕ) → fields_refusal p (fields_of operation) ≡ None → 0 < d → OutOf 100 p.duration d
      → command_of p operation (Some d) ≡ Err WholeOutOfRange
  unfolding command_of command_request_by command_with_duration command_lasting when◌then◌else◌
  duration_last operation d good above out = rw (good, eqb_miss {a = d} {b = 0} (λ none. omega arith), out_of 100 p.duration d out)
