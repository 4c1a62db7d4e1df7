-- WRITE, THEN READ: kind 04 of property n with x, answered Done; then kind 05 of n answers what was written,
-- and every other property that is kept answers as it did.
use Rattle.std.specs.Prelude.{Option, Some, None, Ok, Err}
use mathlib.Core.Path.{◌≡◌, refl, ap, ap₂, ◌∙◌}
use mathlib.Core.Logic.{◌≢◌}
use mathlib.Core.Bool.{Bool, true, false, false≢true}
use mathlib.Core.List.{List, [], ◌∷◌, map}
use Prim.Native.Nat.{ℕ, suc, ◌-◌, ◌+◌, ◌%◌, ◌^◌, ◌≤◌, ◌<◌}
use native.Mathlib.Omega.{arith}
use lib.Dec.{leb, eqb}
use lib.ListN.{get_or, replicate}
use Rattle.lighting_levels.specs.Paper.Choice.{when◌then◌else◌}
use Rattle.lighting_outputs.specs.Paper.Parameters.{Parameters}
use Rattle.lighting_levels.specs.Paper.Level.{real, bits, read_out, level_of, limit_of, units_or}
use Rattle.lighting_outputs.specs.Paper.Rows.{within, is_amount, is_priority}
use Rattle.lighting_outputs.specs.Paper.Record.{with_settings}
use Rattle.lighting_outputs.specs.Paper.Properties.{numbered, property_of, same, change_to, change_by, change_of, settings_with, relay_with, end_movement, activity_with, burning_with, changed, min_over_max, level_answer, flag, elapsed_active, real_answer, read_property}
use Rattle.lighting_outputs.specs.Paper.Relay.{switched, inactive_not_below}
use Rattle.lighting_outputs.specs.Paper.Passing.{after_events}
use Rattle.lighting_outputs.specs.Paper.Acting.{done, unchanged, changed_unless, acted, served}
use Rattle.lighting_outputs.specs.Paper.Tenants.{for_service}
use Rattle.lighting_outputs.specs.declared.Activity.{Activity}
use Rattle.lighting_outputs.specs.declared.Activity.TheVariants.{Still, Moving, Warned}
use Rattle.lighting_outputs.specs.declared.Answer.{Answer}
use Rattle.lighting_outputs.specs.declared.Answer.TheVariants.{Done, Value, Absent, Refused}
use Rattle.lighting_outputs.specs.declared.Property.{Property}
use Rattle.lighting_outputs.specs.declared.Property.TheVariants.{RelinquishDefault, FadeTime, RampRate, StepIncrement, BlinkEnable, BlinkTime, BlinkWarnDelay, MinValue, MaxValue, CommandPriority, ElapsedActiveTime, BinaryActiveValue, BinaryInactiveValue, Polarity}
use Rattle.lighting_outputs.specs.declared.Range.{Range}
use Rattle.lighting_outputs.specs.declared.Range.TheVariants.{Percent, Limit, Amount, Whole, Priority, ReadOnly}
use Rattle.lighting_outputs.specs.Paper.Answers.{as_request, refusal_number, Request}
use Rattle.lighting_outputs.specs.declared.PanelRequest.TheVariants.{ToOutput}
use Rattle.lighting_outputs.specs.declared.OutputRequest.TheVariants.{Change}
use Rattle.lighting_outputs.specs.declared.Output.{Output}
use Rattle.lighting_outputs.specs.declared.Outcome.{Outcome}
use Rattle.lighting_levels.proofs.Split.{by_bool, by_eq, by_le, leb_yes, leb_no}
use Rattle.lighting_levels.proofs.Scan.{is_in}
use Rattle.lighting_outputs.proofs.Acts.Acted.{by_change}
use Rattle.lighting_outputs.proofs.Rules.Facts.{Slot, Within}
use Rattle.lighting_outputs.proofs.Rules.Tied.{within_of}
use Rattle.lighting_outputs.proofs.Rules.Rows.{unlisted, priority_of}
use Rattle.lighting_outputs.proofs.Patterns.{amount_kept}
use Rattle.lighting_outputs.proofs.Consequences.Alone.{alone}
use Rattle.lighting_outputs.proofs.Rules.PrioritiesNamed.{NoPriority, priority_yes, priority_no}
use Rattle.lighting_outputs.proofs.Consequences.Reads.{reads, refused}
use Rattle.lighting_outputs.specs.declared.refusals.Refusal.TheVariants.{WholeOutOfRange, BadPriority, NotWritable, RealOutOfRange}
use Rattle.lighting_outputs.specs.declared.refusals.Refusal.{Refusal}

-- kind 04 of property n with x, at t: a frame of kind 04 whose byte 13 is n, and x the four after it
abbrev pub writes : (p : Parameters) → ℕ → Output → ℕ → ℕ → Outcome
writes p t o n x = alone t o (as_request (change_of p (property_of n) x))

-- WHAT A PROPERTY READS AS after x was written to it: 01, 08, 09, 17 and 18 as levels, the nearest unit; all
-- others as they were written
abbrev pub said : ℕ → ℕ → ℕ
said n x =
    when eqb n 0x01 then read_out (units_or 0 (level_of (real x)))
    else when eqb n 0x17 then read_out (units_or 0 (level_of (real x)))
    else when eqb n 0x18 then read_out (units_or 0 (level_of (real x)))
    else when eqb n 0x08 then read_out (units_or 0 (limit_of (real x)))
    else when eqb n 0x09 then read_out (units_or 0 (limit_of (real x)))
    else x

-- the settings, burning time and last command, by number, but for n
abbrev kept : List ℕ
kept = 0x01 ∷ 0x02 ∷ 0x03 ∷ 0x04 ∷ 0x05 ∷ 0x06 ∷ 0x07 ∷ 0x08 ∷ 0x09 ∷ 0x0a ∷ 0x0b ∷ 0x0f ∷ 0x10 ∷ 0x11 ∷ 0x12 ∷ 0x13 ∷ 0x14 ∷ 0x17 ∷ 0x18 ∷ 0x19 ∷ []

abbrev pub unless : Bool → ℕ → List ℕ → List ℕ
unless true m l = l
unless false m l = m ∷ l

unfoldable pub without : ℕ → List ℕ → List ℕ
without n [] = []
without n (m ∷ l) = unless (eqb m n) m (without n l)

-- 'Writing 08 or 09 ends the movement'; a warning runs on, and no other property touches either
abbrev pub ended : Activity → Activity
ended Still = Still
ended (Moving m) = Still
ended (Warned w) = Warned w

abbrev pub going : ℕ → Activity → Activity
going n a = when eqb n 0x08 then ended a else when eqb n 0x09 then ended a else a

end_movement_ended : (a : Activity) → end_movement a ≡ ended a
unfolding end_movement
end_movement_ended Still = refl
end_movement_ended (Moving m) = refl
end_movement_ended (Warned w) = refl

pub record WriteRead (t : ℕ) (o o' : Output) (n x : ℕ) : Type 0 where
  pub reads_it : reads t o' n ≡ Value (said n x)
  pub others : map (reads t o') (without n kept) ≡ map (reads t o) (without n kept)
  pub slots : o'.slots ≡ o.slots
  pub timer : o'.timer ≡ o.timer
  pub activity : o'.activity ≡ going n o.activity

-- a write answered Done met neither 13 nor 16, and changed one property; then the relay was judged
write_done : (t : ℕ) (o : Output) (n : Property) (v : ℕ) → (acted for_service t o (Change n v)).answer ≡ Done
    → (acted for_service t o (Change n v)).output ≡ after_events (changed o n v)
unfolding unchanged done
write_done t o n v =
    by_change (λ (z : Outcome). z.answer ≡ Done → z.output ≡ after_events (changed o n v)) for_service t o n v
    (λ r l h. refused h) (λ e e' h. refl)

-- judging leaves all of them as they were
abbrev tail : List Answer → List Answer
tail [] = []
tail (a ∷ l) = l

without_map : (f g : ℕ → Answer) (n : ℕ) (l : List ℕ) → map f l ≡ map g l → map f (without n l) ≡ map g (without n l)
unfolding without
without_map f g n [] h = refl
without_map f g n (m ∷ l) h =
    let rest = without_map f g n l (ap tail h) in
    by_bool (eqb m n) (λ e. rw e rest) (λ e. rw e (ap₂ (λ (a : Answer) (z : List Answer). a ∷ z) (ap (λ (z : List Answer). get_or z 0 Absent) h) rest))

map_at : (f g : ℕ → Answer) (n : ℕ) (l : List ℕ) → is_in n l ≡ true → map f l ≡ map g l → f n ≡ g n
unfolding when◌then◌else◌
map_at f g n [] e h = absurd (false≢true e)
map_at f g n (m ∷ l) e h =
    by_eq n m (λ u q. rw u (ap (λ (z : List Answer). get_or z 0 Absent) h)) (λ u q. map_at f g n l (rw q at e) (ap tail h))

kept_judged : (t : ℕ) (o : Output) → map (reads t (after_events o)) kept ≡ map (reads t o) kept
unfolding acted served unchanged property_of numbered read_property after_events switched when◌then◌else◌
kept_judged t o = refl

-- WHAT IS KEPT, v, of a value x that was taken, by the row
abbrev Keeps : Range → ℕ → ℕ → Type 0
Keeps Percent x v = level_of (real x) ≡ Some v
Keeps Limit x v = limit_of (real x) ≡ Some v
Keeps Amount x v = (v ≡ x) × (is_amount (real x) ≡ true)
Keeps (Whole low high) x v = (v ≡ x) × Within low high x
Keeps Priority x v = (v ≡ x - 1) × Slot (x - 1) × (0 < x)
Keeps ReadOnly x v = ⊥

-- WHAT EACH NUMBER ASKS, and when: 02, 05, 06, 07, 0A and 0B
pub asked_rows : (p : Parameters) (x : ℕ) → map (λ (n : ℕ). change_of p (property_of n) x) (0x02 ∷ 0x05 ∷ 0x06 ∷ 0x07 ∷ 0x0a ∷ 0x0b ∷ [])
    ≡ (when within 100 p.fade x then Ok (Change FadeTime x) else Err WholeOutOfRange)
    ∷ (when leb x 1 then Ok (Change BlinkEnable x) else Err WholeOutOfRange)
    ∷ (when leb x 86400000 then Ok (Change BlinkTime x) else Err WholeOutOfRange)
    ∷ (when leb x 86400000 then Ok (Change BlinkWarnDelay x) else Err WholeOutOfRange)
    ∷ (when is_priority x then Ok (Change CommandPriority (x - 1)) else Err BadPriority)
    ∷ (when eqb x 0 then Ok (Change ElapsedActiveTime x) else Err WholeOutOfRange)
    ∷ []
unfolding property_of numbered change_of change_by within when◌then◌else◌
asked_rows p x =
    let none : leb x 0 ≡ eqb x 0 = by_eq x 0 (λ u e. rw e (leb_yes {a = x} {b = 0} (omega arith))) (λ u e. rw e (leb_no {a = x} {b = 0} (omega arith))) in
    rw (leb_yes {a = 0} {b = x} (omega arith), none)

priority_positive : (x : ℕ) → is_priority x ≡ true → 0 < x
unfolding is_priority when◌then◌else◌
priority_positive x h = by_eq x 0 (λ u e. absurd (false≢true (rw e at h))) (λ u e. omega arith)

-- WRITE, THEN READ, property after property
module _ (p : Parameters) (t t' : ℕ) (o : Output) (x : ℕ) where
  abbrev Then : ℕ → Type 0
  Then n = (writes p t o n x).answer ≡ Done → WriteRead t' o (writes p t o n x).output n x

  -- by the row: of the property p, whose number n is among those that judging leaves as they are
  module _ (n : ℕ) (u : Property) (steady : is_in n kept ≡ true) where
    abbrev After : Request → Type 0
    After r = (alone t o r).answer ≡ Done → WriteRead t' o (alone t o r).output n x

    judged_read : (o' : Output) → WriteRead t' o o' n x → WriteRead t' o (after_events o') n x
    judged_read o' w =
        record {
          reads_it = map_at (reads t' (after_events o')) (reads t' o') n kept steady (kept_judged t' o') ∙ w.reads_it;
          others = without_map (reads t' (after_events o')) (reads t' o') n kept (kept_judged t' o') ∙ w.others;
          slots = unfold after_events in w.slots;
          timer = unfold after_events in w.timer;
          activity = unfold after_events in w.activity;
        }

    changes : (v : ℕ) → WriteRead t' o (changed o u v) n x → After (Ok (ToOutput (Change u v)))
    unfolding served
    changes v w h = rw (write_done t o u v h) (judged_read (changed o u v) w)

    turned_down : (refusal : Refusal) → After (Err refusal)
    unfolding acted served unchanged
    turned_down refusal h = refused h

    to_level : (l : Option ℕ) → ((v : ℕ) → l ≡ Some v → WriteRead t' o (changed o u v) n x) → After (as_request (change_to u l))
    unfolding change_to
    to_level (Some v) f = changes v (f v refl)
    to_level None f = turned_down RealOutOfRange

    by_row : (r : Range) → ((v : ℕ) → Keeps r x v → WriteRead t' o (changed o u v) n x) → After (as_request (change_by r u x))
    unfolding change_by when◌then◌else◌
    by_row Percent f = to_level (level_of (real x)) f
    by_row Limit f = to_level (limit_of (real x)) f
    by_row Amount f = by_bool (is_amount (real x)) (λ e. rw e (changes x (f x (refl, e)))) (λ e. rw e (turned_down RealOutOfRange))
    by_row (Whole low high) f = by_bool (within low high x) (λ e. rw e (changes x (f x (refl, within_of low high x e)))) (λ e. rw e (turned_down WholeOutOfRange))
    by_row Priority f =
        by_bool (is_priority x) (λ e. rw e (changes (x - 1) (f (x - 1) (refl, priority_of x e, priority_positive x e)))) (λ e. rw e (turned_down BadPriority))
    by_row ReadOnly f = turned_down NotWritable

  -- levels
  pub write_01 : Then 0x01
  unfolding units_or acted served unchanged property_of numbered change_of changed with_settings settings_with relay_with activity_with burning_with same without read_property level_answer real_answer flag elapsed_active when◌then◌else◌
  write_01 =
      by_row 0x01 RelinquishDefault refl Percent
      (λ v k. record { reads_it = rw k; others = refl; slots = refl; timer = refl; activity = refl })

  pub write_17 : Then 0x17
  unfolding units_or acted served unchanged property_of numbered change_of changed with_settings settings_with relay_with activity_with burning_with same without read_property level_answer real_answer flag elapsed_active when◌then◌else◌
  write_17 =
      by_row 0x17 BinaryActiveValue refl Percent
      (λ v k. record { reads_it = rw k; others = refl; slots = refl; timer = refl; activity = refl })

  pub write_18 : Then 0x18
  unfolding units_or acted served unchanged property_of numbered change_of changed with_settings settings_with relay_with activity_with burning_with same without read_property level_answer real_answer flag elapsed_active when◌then◌else◌
  write_18 =
      by_row 0x18 BinaryInactiveValue refl Percent
      (λ v k. record { reads_it = rw k; others = refl; slots = refl; timer = refl; activity = refl })

  pub write_08 : Then 0x08
  unfolding units_or acted served unchanged property_of numbered change_of changed with_settings settings_with relay_with activity_with burning_with same without read_property level_answer real_answer flag elapsed_active when◌then◌else◌
  write_08 =
      by_row 0x08 MinValue refl Limit
      (λ v k. record { reads_it = rw k; others = refl; slots = refl; timer = refl; activity = end_movement_ended o.activity })

  pub write_09 : Then 0x09
  unfolding units_or acted served unchanged property_of numbered change_of changed with_settings settings_with relay_with activity_with burning_with same without read_property level_answer real_answer flag elapsed_active when◌then◌else◌
  write_09 =
      by_row 0x09 MaxValue refl Limit
      (λ v k. record { reads_it = rw k; others = refl; slots = refl; timer = refl; activity = end_movement_ended o.activity })

  -- REALs, bit for bit
  pub write_03 : x < 2 ^ 32 → Then 0x03
  unfolding acted served unchanged property_of numbered change_of changed with_settings settings_with relay_with activity_with burning_with same without read_property level_answer real_answer flag elapsed_active when◌then◌else◌
  write_03 b =
      by_row 0x03 RampRate refl Amount
      (λ v k. record { reads_it = ap (λ (y : ℕ). Value (bits (real y))) k.0 ∙ ap Value (amount_kept x b k.1).written; others = refl; slots = refl; timer = refl; activity = refl })

  pub write_04 : x < 2 ^ 32 → Then 0x04
  unfolding acted served unchanged property_of numbered change_of changed with_settings settings_with relay_with activity_with burning_with same without read_property level_answer real_answer flag elapsed_active when◌then◌else◌
  write_04 b =
      by_row 0x04 StepIncrement refl Amount
      (λ v k. record { reads_it = ap (λ (y : ℕ). Value (bits (real y))) k.0 ∙ ap Value (amount_kept x b k.1).written; others = refl; slots = refl; timer = refl; activity = refl })

  -- whole numbers
  flag_of : (v : ℕ) → v ≡ x → x ≤ 1 → (when eqb v 1 then 1 else 0) ≡ x
  unfolding when◌then◌else◌
  flag_of v e h = by_eq v 1 (λ u q. rw q (omega arith)) (λ u q. rw q (omega arith))

  slot_kept : (v : ℕ) → v ≡ x - 1 → Slot (x - 1) → 0 < x → v % 256 + 1 ≡ x
  slot_kept v e k h = omega (arith, k.inside)

  none_with_burned : x ≤ 0 → 0 ≡ x
  none_with_burned h = omega arith

  pub write_02 : Then 0x02
  unfolding acted served unchanged property_of numbered change_of changed with_settings settings_with relay_with activity_with burning_with same without read_property level_answer real_answer flag elapsed_active when◌then◌else◌
  write_02 =
      by_row 0x02 FadeTime refl (Whole 100 p.fade)
      (λ v k. record { reads_it = ap Value k.0; others = refl; slots = refl; timer = refl; activity = refl })

  pub write_05 : Then 0x05
  unfolding acted served unchanged property_of numbered change_of changed with_settings settings_with relay_with activity_with burning_with same without read_property level_answer real_answer flag elapsed_active when◌then◌else◌
  write_05 =
      by_row 0x05 BlinkEnable refl (Whole 0 1)
      (λ v k. record { reads_it = ap Value (flag_of v k.0 k.1.most); others = refl; slots = refl; timer = refl; activity = refl })

  pub write_19 : Then 0x19
  unfolding acted served unchanged property_of numbered change_of changed with_settings settings_with relay_with activity_with burning_with same without read_property level_answer real_answer flag elapsed_active when◌then◌else◌
  write_19 =
      by_row 0x19 Polarity refl (Whole 0 1)
      (λ v k. record { reads_it = ap Value (flag_of v k.0 k.1.most); others = refl; slots = refl; timer = refl; activity = refl })

  pub write_06 : Then 0x06
  unfolding acted served unchanged property_of numbered change_of changed with_settings settings_with relay_with activity_with burning_with same without read_property level_answer real_answer flag elapsed_active when◌then◌else◌
  write_06 =
      by_row 0x06 BlinkTime refl (Whole 0 86400000)
      (λ v k. record { reads_it = ap Value k.0; others = refl; slots = refl; timer = refl; activity = refl })

  pub write_07 : Then 0x07
  unfolding acted served unchanged property_of numbered change_of changed with_settings settings_with relay_with activity_with burning_with same without read_property level_answer real_answer flag elapsed_active when◌then◌else◌
  write_07 =
      by_row 0x07 BlinkWarnDelay refl (Whole 0 86400000)
      (λ v k. record { reads_it = ap Value k.0; others = refl; slots = refl; timer = refl; activity = refl })

  pub write_0a : Then 0x0a
  unfolding acted served unchanged property_of numbered change_of changed with_settings settings_with relay_with activity_with burning_with same without read_property level_answer real_answer flag elapsed_active when◌then◌else◌
  write_0a =
      by_row 0x0a CommandPriority refl Priority
      (λ v k. record { reads_it = ap Value (slot_kept v k.0 k.1 k.2); others = refl; slots = refl; timer = refl; activity = refl })

  pub write_0b : Then 0x0b
  unfolding acted served unchanged property_of numbered change_of changed with_settings settings_with relay_with activity_with burning_with same without read_property level_answer real_answer flag elapsed_active when◌then◌else◌
  write_0b =
      by_row 0x0b ElapsedActiveTime refl (Whole 0 0)
      (λ v k. record { reads_it = ap Value (none_with_burned k.1.most); others = refl; slots = refl; timer = refl; activity = refl })

  -- 'property unknown, or not writable' is 9
  pub not_writable : map (λ (n : ℕ). (writes p t o n x).answer) (0x00 ∷ 0x0c ∷ 0x0d ∷ 0x0e ∷ 0x0f ∷ 0x10 ∷ 0x11 ∷ 0x12 ∷ 0x13 ∷ 0x14 ∷ 0x15 ∷ 0x16 ∷ 0x1a ∷ 0x1b ∷ 0x1c ∷ 0x20 ∷ 0x21 ∷ 0x30 ∷ 0x31 ∷ [])
      ≡ replicate 19 (Refused 9)
  unfolding acted served unchanged property_of numbered change_of change_by when◌then◌else◌
  not_writable = refl

  -- and so is every number past 1B: unknown, or a slot's
  pub none_past : (n : ℕ) → 0x1b < n → writes p t o n x ≡ unchanged o (Refused 9)
  unfolding served unchanged property_of numbered change_of change_by when◌then◌else◌
  none_past n h =
      by_le 0x21 n
      (λ l e. rw e (by_bool (leb n 0x30) (λ f. rw f) (λ f. rw f)))
      (λ l e. rw (e, unlisted n h))

  -- 'Min over Max' is 13, and leaves everything; equal is taken
  pub min_taken : (v : ℕ) → limit_of (real x) ≡ Some v → v ≤ o.settings.max → o.relay.inactive < o.relay.active → (writes p t o 0x08 x).answer ≡ Done
  unfolding acted served unchanged done property_of numbered change_of change_by change_to changed_unless settings_with relay_with same min_over_max inactive_not_below when◌then◌else◌
  min_taken v e h b = rw (e, leb_no {a = suc o.settings.max} {b = v} (omega arith), leb_no {a = o.relay.active} {b = o.relay.inactive} b)

  pub min_over_max_lem : (v : ℕ) → limit_of (real x) ≡ Some v → o.settings.max < v → writes p t o 0x08 x ≡ unchanged o (Refused 13)
  unfolding acted served unchanged done property_of numbered change_of change_by change_to changed_unless settings_with same min_over_max when◌then◌else◌
  min_over_max_lem v e h = rw (e, leb_yes {a = suc o.settings.max} {b = v} h)

  pub max_taken : (v : ℕ) → limit_of (real x) ≡ Some v → o.settings.min ≤ v → o.relay.inactive < o.relay.active → (writes p t o 0x09 x).answer ≡ Done
  unfolding acted served unchanged done property_of numbered change_of change_by change_to changed_unless settings_with relay_with same min_over_max inactive_not_below when◌then◌else◌
  max_taken v e h b = rw (e, leb_no {a = suc v} {b = o.settings.min} (omega arith), leb_no {a = o.relay.active} {b = o.relay.inactive} b)

  pub max_under_min : (v : ℕ) → limit_of (real x) ≡ Some v → v < o.settings.min → writes p t o 0x09 x ≡ unchanged o (Refused 13)
  unfolding acted served unchanged done property_of numbered change_of change_by change_to changed_unless settings_with same min_over_max when◌then◌else◌
  max_under_min v e h = rw (e, leb_yes {a = suc v} {b = o.settings.min} h)

  -- 'a write to 17 or 18 that would leave the inactive value not below the active one' is 16, and leaves
  -- everything; equal is refused
  module _ (order : o.settings.min ≤ o.settings.max) where
    pub active_taken : (v : ℕ) → level_of (real x) ≡ Some v → o.relay.inactive < v → (writes p t o 0x17 x).answer ≡ Done
    unfolding acted served unchanged done property_of numbered change_of change_by change_to changed_unless settings_with relay_with same min_over_max inactive_not_below when◌then◌else◌
    active_taken v e h = rw (e, leb_no {a = suc o.settings.max} {b = o.settings.min} (omega arith), leb_no {a = v} {b = o.relay.inactive} h)

    pub active_not_above : (v : ℕ) → level_of (real x) ≡ Some v → v ≤ o.relay.inactive → writes p t o 0x17 x ≡ unchanged o (Refused 16)
    unfolding acted served unchanged done property_of numbered change_of change_by change_to changed_unless settings_with relay_with same min_over_max inactive_not_below when◌then◌else◌
    active_not_above v e h = rw (e, leb_no {a = suc o.settings.max} {b = o.settings.min} (omega arith), leb_yes {a = v} {b = o.relay.inactive} h)

    pub inactive_taken : (v : ℕ) → level_of (real x) ≡ Some v → v < o.relay.active → (writes p t o 0x18 x).answer ≡ Done
    unfolding acted served unchanged done property_of numbered change_of change_by change_to changed_unless settings_with relay_with same min_over_max inactive_not_below when◌then◌else◌
    inactive_taken v e h = rw (e, leb_no {a = suc o.settings.max} {b = o.settings.min} (omega arith), leb_no {a = o.relay.active} {b = v} h)

    pub inactive_not_below_lem : (v : ℕ) → level_of (real x) ≡ Some v → o.relay.active ≤ v → writes p t o 0x18 x ≡ unchanged o (Refused 16)
    unfolding acted served unchanged done property_of numbered change_of change_by change_to changed_unless settings_with relay_with same min_over_max inactive_not_below when◌then◌else◌
    inactive_not_below_lem v e h = rw (e, leb_no {a = suc o.settings.max} {b = o.settings.min} (omega arith), leb_yes {a = o.relay.active} {b = v} h)

  -- a request that is refused leaves the output as it is
  pub refuses : (n : ℕ) (refusal : Refusal) → change_of p (property_of n) x ≡ Err refusal
      → ((writes p t o n x).answer ≡ Refused (refusal_number refusal)) × ((writes p t o n x).output ≡ o)
  unfolding acted served unchanged
  refuses n refusal e = rw e (refl, refl)

  -- THE RANGES: 02 from 100 to the set's longest fade, else 12; 06 and 07 up to 86,400,000; 05 0 or 1; 0A a
  -- priority, else 10; 0B 0 alone
  in_row : (low high : ℕ) (n : Property) → low ≤ x → x ≤ high → change_by (Whole low high) n x ≡ Ok (Change n x)
  unfolding change_by within when◌then◌else◌
  in_row low high n h k = rw (leb_yes {a = low} {b = x} h, leb_yes {a = x} {b = high} k)

  module _ (order : o.settings.min ≤ o.settings.max) (below : o.relay.inactive < o.relay.active) where
    -- a property but 08, 09, 17 and 18: Min stays at most Max, and the inactive value below the active one
    pub accepted : (n : Property) (v : ℕ) → (settings_with o.settings n v).min ≡ o.settings.min → (settings_with o.settings n v).max ≡ o.settings.max
        → (relay_with o.relay n v).active ≡ o.relay.active → (relay_with o.relay n v).inactive ≡ o.relay.inactive
        → (alone t o (Ok (ToOutput (Change n v)))).answer ≡ Done
    unfolding acted served done changed_unless min_over_max inactive_not_below when◌then◌else◌
    accepted n v e f g h =
        rw
        (e, f, g, h, leb_no {a = suc o.settings.max} {b = o.settings.min} (omega arith), leb_no {a = o.relay.active} {b = o.relay.inactive} below)

    pub fade_time_taken : 100 ≤ x → x ≤ p.fade → (writes p t o 0x02 x).answer ≡ Done
    unfolding property_of numbered change_of settings_with relay_with same when◌then◌else◌
    fade_time_taken h k = rw (in_row 100 p.fade FadeTime h k) (accepted FadeTime x refl refl refl refl)

    pub enable_taken : x ≤ 1 → (writes p t o 0x05 x).answer ≡ Done
    unfolding property_of numbered change_of settings_with relay_with same when◌then◌else◌
    enable_taken h = rw (in_row 0 1 BlinkEnable (omega arith) h) (accepted BlinkEnable x refl refl refl refl)

    pub blink_time_taken : x ≤ 86400000 → (writes p t o 0x06 x).answer ≡ Done
    unfolding property_of numbered change_of settings_with relay_with same when◌then◌else◌
    blink_time_taken h = rw (in_row 0 86400000 BlinkTime (omega arith) h) (accepted BlinkTime x refl refl refl refl)

    pub delay_taken : x ≤ 86400000 → (writes p t o 0x07 x).answer ≡ Done
    unfolding property_of numbered change_of settings_with relay_with same when◌then◌else◌
    delay_taken h = rw (in_row 0 86400000 BlinkWarnDelay (omega arith) h) (accepted BlinkWarnDelay x refl refl refl refl)

    pub polarity_taken : x ≤ 1 → (writes p t o 0x19 x).answer ≡ Done
    unfolding property_of numbered change_of settings_with relay_with same when◌then◌else◌
    polarity_taken h = rw (in_row 0 1 Polarity (omega arith) h) (accepted Polarity x refl refl refl refl)

    pub priority_taken : (i : ℕ) → Slot i → x ≡ suc i → (writes p t o 0x0a x).answer ≡ Done
    unfolding property_of numbered change_of change_by settings_with relay_with same when◌then◌else◌
    priority_taken i k e = rw (e, priority_yes i k) (accepted CommandPriority (suc i - 1) refl refl refl refl)

    pub elapsed_taken : x ≡ 0 → (writes p t o 0x0b x).answer ≡ Done
    unfolding property_of numbered change_of settings_with relay_with same when◌then◌else◌
    elapsed_taken e = rw (in_row 0 0 ElapsedActiveTime (omega arith) (omega arith)) (accepted ElapsedActiveTime x refl refl refl refl)

  -- out of a row of whole numbers
  under_row : (low high : ℕ) (n : Property) → x < low
      → (alone t o (as_request (change_by (Whole low high) n x))).answer ≡ Refused 12
  unfolding acted served unchanged change_by within when◌then◌else◌
  under_row low high n h = rw (leb_no {a = low} {b = x} h)

  over_row : (low high : ℕ) (n : Property) → high < x
      → (alone t o (as_request (change_by (Whole low high) n x))).answer ≡ Refused 12
  unfolding acted served unchanged change_by within when◌then◌else◌
  over_row low high n k = by_bool (leb low x) (λ e. rw (e, leb_no {a = x} {b = high} k)) (λ e. rw e)

  pub fade_time_low : x < 100 → (writes p t o 0x02 x).answer ≡ Refused 12
  unfolding property_of numbered change_of when◌then◌else◌
  fade_time_low h = under_row 100 p.fade FadeTime h

  pub fade_time_high : p.fade < x → (writes p t o 0x02 x).answer ≡ Refused 12
  unfolding property_of numbered change_of when◌then◌else◌
  fade_time_high h = over_row 100 p.fade FadeTime h

  pub enable_high : 1 < x → (writes p t o 0x05 x).answer ≡ Refused 12
  unfolding property_of numbered change_of when◌then◌else◌
  enable_high h = over_row 0 1 BlinkEnable h

  pub polarity_high : 1 < x → (writes p t o 0x19 x).answer ≡ Refused 12
  unfolding property_of numbered change_of when◌then◌else◌
  polarity_high h = over_row 0 1 Polarity h

  pub blink_time_high : 86400000 < x → (writes p t o 0x06 x).answer ≡ Refused 12
  unfolding property_of numbered change_of when◌then◌else◌
  blink_time_high h = over_row 0 86400000 BlinkTime h

  pub delay_high : 86400000 < x → (writes p t o 0x07 x).answer ≡ Refused 12
  unfolding property_of numbered change_of when◌then◌else◌
  delay_high h = over_row 0 86400000 BlinkWarnDelay h

  pub no_priority : NoPriority x → (writes p t o 0x0a x).answer ≡ Refused 10
  unfolding acted served unchanged property_of numbered change_of change_by when◌then◌else◌
  no_priority h = rw (priority_no x h)

  pub elapsed_other : x ≢ 0 → (writes p t o 0x0b x).answer ≡ Refused 12
  unfolding property_of numbered change_of when◌then◌else◌
  elapsed_other h = over_row 0 0 ElapsedActiveTime (omega arith)
