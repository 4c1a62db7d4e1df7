-- THE NUMBER OF OUTPUTS of a set is read by no definition of this layer (the counts of lent records read it,
-- and the test of which sets may be started). So two sets that differ in it alone come to the same.
use Rattle.std.specs.Prelude.{Option, Some, None}
use mathlib.Core.Path.{◌≡◌, refl, sym, ◌∙◌}
use mathlib.Core.Bool.{Bool}
use Prim.Native.Nat.{ℕ}
use Rattle.lighting_outputs.specs.Paper.Parameters.{Parameters}
use Rattle.lighting_outputs.specs.Paper.Rows.{row_of}
use Rattle.lighting_outputs.specs.Paper.Properties.{change_of}
use Rattle.lighting_outputs.specs.Paper.Operations.{fields_of}
use Rattle.lighting_outputs.specs.Paper.Requests.{time_field_refusal, fields_refusal, command_lasting, command_with_duration, command_request_by, command_of}
use Rattle.lighting_outputs.specs.Paper.Rules.{levels_sound, times_sound, settings_sound, span_sound, movement_sound, activity_by, activity_sound, relay_sound, sound}
use Rattle.lighting_outputs.specs.Paper.Slots.{is_live, winner, slot6}
use Rattle.lighting_outputs.specs.Paper.Value.{present_value}
use Rattle.lighting_outputs.specs.declared.Activity.{Activity}
use Rattle.lighting_outputs.specs.declared.Activity.TheVariants.{Still, Moving, Warned}
use Rattle.lighting_outputs.specs.declared.Operation.{Operation}
use Rattle.lighting_outputs.specs.declared.Output.{Output}
use Rattle.lighting_outputs.specs.declared.Property.{Property}
use Rattle.lighting_outputs.proofs.Rules.Rows.{row_reads}
use Rattle.lighting_outputs.specs.declared.refusals.Refusal.{Refusal}

-- the set with another number of outputs
abbrev pub with_outputs : Parameters → ℕ → Parameters
with_outputs p n = record { stations = p.stations; outputs = n; fade = p.fade; duration = p.duration }

module _ (p : Parameters) (n : ℕ) where
  abbrev other : Parameters
  other = with_outputs p n

  -- REFUSAL 12
  row : (property : Property) → row_of other property ≡ row_of p property
  row property = row_reads other p property ∙ sym (row_reads p p property)

  pub change : (property : Property) (x : ℕ) → change_of other property x ≡ change_of p property x
  unfolding change_of
  change property x = rw (row property)

  time : (field : Option ℕ) → time_field_refusal other field ≡ time_field_refusal p field
  unfolding time_field_refusal
  time (Some fade) = refl
  time None = refl

  lasting : (operation : Operation) (field : Option ℕ) → command_with_duration other operation field ≡ command_with_duration p operation field
  unfolding command_with_duration command_lasting
  lasting operation (Some d) = refl
  lasting operation None = refl

  by_refusal : (refusal : Option Refusal) (operation : Operation) (duration : Option ℕ)
      → command_request_by other refusal operation duration ≡ command_request_by p refusal operation duration
  unfolding command_request_by
  by_refusal (Some refusal) operation duration = refl
  by_refusal None operation duration = lasting operation duration

  pub command : (operation : Operation) (duration : Option ℕ) → command_of other operation duration ≡ command_of p operation duration
  unfolding command_of fields_refusal
  command operation duration = rw (time (fields_of operation).fade) (by_refusal _ operation duration)

  -- THE RECORD RULES
  activity : (t : ℕ) (l : Bool) (first high v : ℕ) (a : Activity) → activity_by other t l first high v a ≡ activity_by p t l first high v a
  unfolding activity_by movement_sound span_sound
  activity t l first high v Still = refl
  activity t l first high v (Moving m) = refl
  activity t l first high v (Warned g) = refl

  pub rules : (t : ℕ) (o : Output) → sound other t o ≡ sound p t o
  unfolding sound settings_sound levels_sound times_sound activity_sound relay_sound
  rules t o =
      rw
      (activity t (is_live o.slots slot6) (winner o.slots) o.settings.max (present_value o.settings o.slots) o.activity)
