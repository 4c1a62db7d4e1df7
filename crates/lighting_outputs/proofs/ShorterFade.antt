-- A SHORTER LONGEST FADE (§7): two sets that differ in it alone. A record that keeps the rules by the shorter
-- one keeps them by the longer one. A request is read alike by both, unless it takes a fade time between the
-- two: by the shorter one that is 12.
use Rattle.std.specs.Prelude.{Option, Some, None, Ok, Err}
use mathlib.Core.Path.{◌≡◌, refl, ap, ◌∙◌}
use mathlib.Core.Bool.{Bool, true, false}
use Prim.Native.Nat.{ℕ, suc, ◌≤◌}
use native.Mathlib.Omega.{arith}
use lib.Dec.{eqb}
use Rattle.lighting_levels.specs.Paper.Choice.{when◌then◌else◌, ◌also◌}
use Rattle.lighting_outputs.specs.Paper.Parameters.{Parameters, longest_movement}
use Rattle.lighting_outputs.specs.Paper.Rows.{within, meets}
use Rattle.lighting_outputs.specs.Paper.Properties.{same, change_by, change_of}
use Rattle.lighting_outputs.specs.Paper.Operations.{fields_of}
use Rattle.lighting_outputs.specs.Paper.Requests.{level_field_refusal, amount_field_refusal, time_field_refusal, first_refusal, fields_refusal, command_lasting, command_with_duration, command_request_by, command_of}
use Rattle.lighting_outputs.specs.Paper.TimeWithin.{time_within}
use Rattle.lighting_outputs.specs.Paper.Rules.{levels_sound, times_sound, settings_sound, span_sound, movement_sound, activity_by, activity_sound, relay_sound, sound}
use Rattle.lighting_outputs.specs.declared.Activity.{Activity}
use Rattle.lighting_outputs.specs.declared.Activity.TheVariants.{Still, Moving, Warned}
use Rattle.lighting_outputs.specs.declared.Command.{Command}
use Rattle.lighting_outputs.specs.declared.Movement.{Movement}
use Rattle.lighting_outputs.specs.declared.Operation.{Operation}
use Rattle.lighting_outputs.specs.declared.OperationFields.{OperationFields}
use Rattle.lighting_outputs.specs.declared.Output.{Output}
use Rattle.lighting_outputs.specs.declared.OutputRequest.{OutputRequest}
use Rattle.lighting_outputs.specs.declared.OutputRequest.TheVariants.{Change, Commands}
use Rattle.lighting_outputs.specs.declared.Property.{Property}
use Rattle.lighting_outputs.specs.declared.Property.TheVariants.{FadeTime}
use Rattle.lighting_outputs.specs.Paper.Answers.{as_request, Request}
use Rattle.lighting_outputs.specs.declared.PanelRequest.TheVariants.{ToOutput}
use Rattle.lighting_outputs.specs.declared.Settings.{Settings}
use Rattle.lighting_levels.proofs.Split.{by_bool, by_le, also_both, also_yes, leb_yes, leb_no, le_of}
use Rattle.lighting_outputs.proofs.Rules.Rows.{same_is, row_reads}
use Rattle.lighting_outputs.specs.declared.refusals.Refusal.TheVariants.{WholeOutOfRange}
use Rattle.lighting_outputs.specs.declared.refusals.Refusal.{Refusal}

-- the set with another longest fade
abbrev pub with_fade : Parameters → ℕ → Parameters
with_fade p fade = record { stations = p.stations; outputs = p.outputs; fade = fade; duration = p.duration }

-- WHAT THE LONGER SET READS, and what the shorter one reads in its place. `between`: whether a fade time is
-- carried that lies between the two
pub data TakesFade : OutputRequest → Type 0 where
  written : {v : ℕ} → TakesFade (Change FadeTime v)
  commanded : {command : Command} → TakesFade (Commands command)

pub data Shortened (between : Bool) : Request → Request → Type 0 where
  alike : {request : Request} → between ≡ false → Shortened between request request
  refused : {refusal : Refusal} → Shortened between (Err refusal) (Err refusal)
  cut : {request : OutputRequest} → between ≡ true → TakesFade request
      → Shortened between (Ok (ToOutput request)) (Err WholeOutOfRange)

-- a conjunction whose parts imply those of another
also_then : {a a' b b' : Bool} → (a ≡ true → a' ≡ true) → (b ≡ true → b' ≡ true) → (a also b) ≡ true → (a' also b') ≡ true
also_then f g h = let both = also_both h in also_yes (f both.0) (g both.1)

also_rest : (a : Bool) {b b' : Bool} → (b ≡ true → b' ≡ true) → (a also b) ≡ true → (a also b') ≡ true
also_rest a g = also_then {a = a} {a' = a} (λ e. e) g

module _ (p : Parameters) (fade : ℕ) (less : fade ≤ p.fade) where
  abbrev shorter : Parameters
  shorter = with_fade p fade

  -- THE RECORD RULES
  within_longer : (least short long v : ℕ) → short ≤ long → within least short v ≡ true → within least long v ≡ true
  unfolding within
  within_longer least short long v longer =
      also_rest _ (λ high. leb_yes {a = v} {b = long} (omega (arith, le_of {a = v} {b = short} high)))

  times : (c : Settings) → times_sound shorter c ≡ true → times_sound p c ≡ true
  unfolding times_sound meets
  times c = also_then (within_longer 100 fade p.fade c.fade less) (λ blinks. blinks)

  settings : (c : Settings) → settings_sound shorter c ≡ true → settings_sound p c ≡ true
  unfolding settings_sound levels_sound
  settings c = also_rest _ (also_then (times c) (λ others. others))

  movement : (t first high v : ℕ) (m : Movement) → movement_sound shorter t first high v m ≡ true
      → movement_sound p t first high v m ≡ true
  unfolding movement_sound span_sound
  movement t first high v m =
      let length = within_longer 1 (longest_movement shorter) (longest_movement p) m.length (omega arith) in
      also_rest _ (also_rest _ (also_rest _ (also_rest _ (also_rest _ (also_rest _ length)))))

  activity : (t : ℕ) (l : Bool) (first high v : ℕ) (a : Activity) → activity_by shorter t l first high v a ≡ true
      → activity_by p t l first high v a ≡ true
  unfolding activity_by when◌then◌else◌
  activity t l first high v Still h = h
  activity t true first high v (Moving m) h = h
  activity t false first high v (Moving m) h = movement t first high v m h
  activity t l first high v (Warned g) h = h

  pub rules : (t : ℕ) (o : Output) → sound shorter t o ≡ true → sound p t o ≡ true
  unfolding sound activity_sound relay_sound
  rules t o =
      let acts = activity t _ _ _ _ o.activity in
      also_then (settings o.settings) (also_rest _ (also_then acts (λ others. others)))

  -- REFUSAL 12. A time is between the two; or both sets take it, or both refuse it
  by_time : {P : Type 0} (x : ℕ)
      → (within (suc fade) p.fade x ≡ false → within 100 fade x ≡ within 100 p.fade x → P)
      → (within 100 fade x ≡ false → within 100 p.fade x ≡ false → P)
      → (within (suc fade) p.fade x ≡ true → within 100 fade x ≡ false → within 100 p.fade x ≡ true → P)
      → P
  unfolding within when◌then◌else◌
  by_time x outside neither between =
      by_le x fade
      (λ under taken. outside
      (rw (leb_no {a = suc fade} {b = x} (omega arith)))
      (rw (taken, leb_yes {a = x} {b = p.fade} (omega arith))))
      (λ over high. by_le x p.fade
      (λ under taken. by_le 100 x
      (λ above low. between (rw (leb_yes {a = suc fade} {b = x} (omega arith), taken)) (rw (low, high)) (rw (low, taken)))
      (λ below low. neither (rw low) (rw low)))
      (λ past highest. outside (rw (leb_yes {a = suc fade} {b = x} (omega arith), highest)) (rw (high, highest))))

  -- a write of a property
  fade_time : (x : ℕ)
      → Shortened (within (suc fade) p.fade x) (as_request (change_of p FadeTime x))
      (as_request (change_of shorter FadeTime x))
  unfolding change_of change_by when◌then◌else◌
  fade_time x =
      by_time x
      (λ none same_test. rw same_test (alike none))
      (λ high highest. rw (high, highest) refused)
      (λ carried high taken. rw (high, taken) (cut carried written))

  pub change : (property : Property) (x : ℕ)
      → Shortened (same FadeTime property also within (suc fade) p.fade x)
      (as_request (change_of p property x))
      (as_request (change_of shorter property x))
  unfolding change_of when◌then◌else◌
  change property x =
      by_bool (same FadeTime property)
      (λ h. rw h (rw (same_is FadeTime property refl h) (fade_time x)))
      (λ h. rw (row_reads shorter p property, h) (alike refl))

  -- a command: the refusal of its REALs, which read no set, then that of its fade time
  fields : OperationFields → Option Refusal
  fields f =
      let amounts = first_refusal (amount_field_refusal f.rate) (amount_field_refusal f.step) in
      first_refusal (level_field_refusal f.level) amounts

  in_turn : (a b c : Option Refusal) → first_refusal a (first_refusal b c) ≡ first_refusal (first_refusal a b) c
  unfolding first_refusal
  in_turn (Some a) b c = refl
  in_turn None b c = refl

  fields_then : (q : Parameters) (f : OperationFields)
      → fields_refusal q f ≡ first_refusal (fields f) (time_field_refusal q f.fade)
  unfolding fields fields_refusal
  fields_then q f =
      ap (first_refusal (level_field_refusal f.level)) (in_turn (amount_field_refusal f.rate) (amount_field_refusal f.step) (time_field_refusal q f.fade))
      ∙ in_turn (level_field_refusal f.level) _ (time_field_refusal q f.fade)

  -- the duration reads no fade: by both sets it is taken, or 12
  lasting : (operation : Operation) (field : Option ℕ)
      → command_with_duration shorter operation field ≡ command_with_duration p operation field
  unfolding command_with_duration command_lasting
  lasting operation (Some d) = refl
  lasting operation None = refl

  taken : (between : Bool) → between ≡ true → (operation : Operation) (field : Option ℕ)
      → Shortened between (as_request (command_with_duration p operation field)) (Err WholeOutOfRange)
  unfolding command_with_duration command_lasting when◌then◌else◌
  taken between h operation (Some d) =
      by_bool (eqb d 0)
      (λ e. rw e (cut h commanded))
      (λ e. rw e (by_bool (within 100 p.duration d) (λ e'. rw e' (cut h commanded)) (λ e'. rw e' refused)))
  taken between h operation None = cut h commanded

  same_by : {between : Bool} (operation : Operation) (duration : Option ℕ) (refusal : Option Refusal) → between ≡ false
      → Shortened between (as_request (command_request_by p refusal operation duration))
      (as_request (command_request_by shorter refusal operation duration))
  unfolding command_request_by
  same_by operation duration (Some refusal) none = refused
  same_by operation duration None none = rw (lasting operation duration) (alike none)

  by_fade : (operation : Operation) (duration field : Option ℕ) (reals : Option Refusal)
      → Shortened (time_within (suc fade) p.fade field)
      (as_request (command_request_by p (first_refusal reals (time_field_refusal p field)) operation duration))
      (as_request (command_request_by shorter (first_refusal reals (time_field_refusal shorter field)) operation duration))
  unfolding time_within command_request_by first_refusal time_field_refusal meets when◌then◌else◌
  by_fade operation duration None None = rw (lasting operation duration) (alike refl)
  by_fade operation duration None (Some refusal) = refused
  by_fade operation duration (Some x) None =
      by_time x
      (λ none same_test. rw same_test (same_by operation duration _ none))
      (λ high highest. rw (high, highest) refused)
      (λ carried high low. rw (high, low) (taken (within (suc fade) p.fade x) carried operation duration))
  by_fade operation duration (Some x) (Some refusal) = refused

  pub command : (operation : Operation) (duration : Option ℕ)
      → Shortened (time_within (suc fade) p.fade (fields_of operation).fade)
      (as_request (command_of p operation duration))
      (as_request (command_of shorter operation duration))
  unfolding command_of
  command operation duration =
      rw (fields_then p (fields_of operation), fields_then shorter (fields_of operation))
      (by_fade operation duration (fields_of operation).fade (fields (fields_of operation)))
