-- REFUSAL 11 OF A PROPERTY'S WRITE, over the rows: exactly where the REAL is out of its row's range the
-- answer is 11, and everything is left.
use Rattle.std.specs.Prelude.{Option, Some, None, Err, Ok}
use mathlib.Core.Path.{◌≡◌, refl}
use mathlib.Core.Bool.{false}
use Prim.Native.Nat.{ℕ}
use native.Mathlib.Omega.{arith}
use lib.Ieee.{Float}
use Rattle.lighting_levels.specs.Paper.Choice.{when◌then◌else◌}
use Rattle.lighting_outputs.specs.Paper.Parameters.{Parameters}
use Rattle.lighting_levels.specs.Paper.Level.{real, level_of, real_from_to, amount_of, limit_of, in_range}
use Rattle.lighting_outputs.specs.Paper.Rows.{row_of, within, is_amount, is_priority}
use Rattle.lighting_outputs.specs.Paper.Properties.{change_to, change_by, change_of, settings_with, relay_with, min_over_max}
use Rattle.lighting_outputs.specs.Paper.Relay.{inactive_not_below}
use Rattle.lighting_outputs.specs.Paper.Acting.{done, unchanged, changed_unless, acted, served}
use Rattle.lighting_outputs.specs.declared.Answer.TheVariants.{Refused}
use Rattle.lighting_outputs.specs.declared.Output.{Output}
use Rattle.lighting_outputs.specs.declared.Property.{Property}
use Rattle.lighting_outputs.specs.declared.Range.{Range}
use Rattle.lighting_outputs.specs.declared.Range.TheVariants.{Percent, Limit, Amount, Whole, Priority, ReadOnly}
use Rattle.lighting_outputs.specs.Paper.Answers.{as_request, refusal_number, Request}
use Rattle.lighting_outputs.specs.declared.PanelRequest.TheVariants.{ToOutput}
use Rattle.lighting_outputs.specs.declared.OutputRequest.TheVariants.{Change}
use Rattle.lighting_levels.proofs.Split.{by_bool}
use Rattle.lighting_outputs.proofs.Consequences.Alone.{alone}
use Rattle.lighting_outputs.proofs.Consequences.Outside.{NotFrom, Outside, amounts_refused, amounts_only, levels_refused, levels_only}
use Rattle.lighting_outputs.specs.declared.refusals.Refusal.TheVariants.{RealOutOfRange, NotWritable, BadPriority, WholeOutOfRange}
use Rattle.lighting_outputs.specs.declared.refusals.Refusal.{Refusal}

-- a rate or a step
amount_refused : (x : Float) → NotFrom 1 x → is_amount x ≡ false
unfolding is_amount amount_of in_range
amount_refused x out = rw (amounts_refused 1 x out)

amount_only : (x : Float) → is_amount x ≡ false → NotFrom 1 x
unfolding is_amount amount_of
amount_only x refused = amounts_only 1 x (by (real_from_to 1 x) refused)
  where
    by : (level : Option ℕ) → in_range level ≡ false → level ≡ None
    by (Some v) refused' = let never : ◌≡◌ {A = ℕ} 0 1 = (unfold in_range in cc) in absurd (omega arith)
    by None refused' = refl

-- OUT OF RANGE, IT IS 11: of the value written, its pattern
asks_eleven : (row : Range) (property : Property) (pattern : ℕ) → Outside row (real pattern) → change_by row property pattern ≡ Err RealOutOfRange
unfolding change_by change_to limit_of when◌then◌else◌
asks_eleven Percent property pattern out = rw (levels_refused (real pattern) out)
asks_eleven Limit property pattern out = rw (amounts_refused 8 (real pattern) out)
asks_eleven Amount property pattern out = rw (amount_refused (real pattern) out)
asks_eleven (Whole low high) property pattern out = absurd out
asks_eleven Priority property pattern out = absurd out
asks_eleven ReadOnly property pattern out = absurd out

module _ (t : ℕ) (o : Output) where
  pub eleven : (p : Parameters) (property : Property) (pattern : ℕ) → Outside (row_of p property) (real pattern)
      → alone t o (as_request (change_of p property pattern)) ≡ unchanged o (Refused 11)
  unfolding change_of served unchanged
  eleven p property pattern out = rw (asks_eleven (row_of p property) property pattern out)

  -- AND NO OTHER WRITE IS ANSWERED 11: what is taken is done, 13 or 16, and other rows refuse with 9, 10 and
  -- 12
  abbrev Other : Request → Type 0
  Other request = (alone t o request).answer ≡ Refused 11 → ⊥

  refused_other : (refusal : Refusal) → (refusal_number refusal ≡ 11 → ⊥) → Other (Err refusal)
  unfolding served
  refused_other refusal differs answer = differs (cc)

  changed_other : (property : Property) (v : ℕ) → Other (Ok (ToOutput (Change property v)))
  unfolding served acted changed_unless unchanged done when◌then◌else◌
  changed_other property v =
      by_bool (min_over_max (settings_with o.settings property v))
      (λ test. rw test (λ answer. let never : ◌≡◌ {A = ℕ} 13 11 = cc in omega arith))
      (λ test. rw test
      (by_bool (inactive_not_below (relay_with o.relay property v))
      (λ test'. rw test' (λ answer. let never : ◌≡◌ {A = ℕ} 16 11 = cc in omega arith))
      (λ test'. rw test' (λ answer. let never : ◌≡◌ {A = ℕ} 0 1 = cc in omega arith))))

  by_level : (property : Property) (level : Option ℕ)
      → (alone t o (as_request (change_to property level))).answer ≡ Refused 11 → level ≡ None
  unfolding change_to
  by_level property (Some v) answer = absurd (changed_other property v answer)
  by_level property None answer = refl

  by_row : (row : Range) (property : Property) (pattern : ℕ)
      → (alone t o (as_request (change_by row property pattern))).answer ≡ Refused 11
      → Outside row (real pattern)
  unfolding change_by limit_of when◌then◌else◌
  by_row Percent property pattern = λ answer. levels_only (real pattern) (by_level property (level_of (real pattern)) answer)
  by_row Limit property pattern = λ answer. amounts_only 8 (real pattern) (by_level property (limit_of (real pattern)) answer)
  by_row Amount property pattern =
      by_bool (is_amount (real pattern))
      (λ test. rw test (λ answer. absurd (changed_other property pattern answer)))
      (λ test. rw test (λ answer. amount_only (real pattern) test))
  by_row (Whole low high) property pattern =
      by_bool (within low high pattern)
      (λ test. rw test (λ answer. changed_other property pattern answer))
      (λ test. rw test (λ answer. refused_other WholeOutOfRange (λ same. omega arith) answer))
  by_row Priority property pattern =
      by_bool (is_priority pattern)
      (λ test. rw test (λ answer. changed_other property _ answer))
      (λ test. rw test (λ answer. refused_other BadPriority (λ same. omega arith) answer))
  by_row ReadOnly property pattern = λ answer. refused_other NotWritable (λ same. omega arith) answer

  pub only_eleven : (p : Parameters) (property : Property) (pattern : ℕ)
      → (alone t o (as_request (change_of p property pattern))).answer ≡ Refused 11
      → Outside (row_of p property) (real pattern)
  unfolding change_of
  only_eleven p property pattern answer = by_row (row_of p property) property pattern answer
