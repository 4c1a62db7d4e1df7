-- What a write of a property leaves meets the property's row, whichever it is.
use Rattle.std.specs.Prelude.{Option, Some, None, Ok}
use mathlib.Core.Path.{◌≡◌, refl, sym, ap, ◌∙◌}
use mathlib.Core.Bool.{true, false≢true}
use mathlib.Core.List.{List, [], ◌∷◌}
use Prim.Native.Nat.{ℕ, ◌+◌, ◌-◌, ◌≤◌, ◌<◌, max}
use native.Mathlib.Omega.{arith}
use native.Mathlib.Nat.{add-sub_cancel_left}
use lib.Dec.{leb, ltb, eqb}
use Rattle.lighting_levels.specs.Paper.Choice.{when◌then◌else◌}
use Rattle.lighting_outputs.specs.Paper.Parameters.{Parameters}
use Rattle.lighting_levels.specs.Paper.Level.{real, level_of, limit_of}
use Rattle.lighting_outputs.specs.Paper.Rows.{row_of, within, is_amount, is_priority}
use Rattle.lighting_outputs.specs.Paper.Properties.{number_of, properties, numbered, property_of, same, change_to, change_by, change_of}
use Rattle.lighting_outputs.specs.declared.Property.{Property}
use Rattle.lighting_outputs.specs.declared.Property.TheVariants.{RelinquishDefault, FadeTime, RampRate, StepIncrement, BlinkEnable, BlinkTime, BlinkWarnDelay, MinValue, MaxValue, CommandPriority, ElapsedActiveTime, PresentValue, ProgressValue, InProcess, LastOperation, LastLevel, LastRate, LastStep, LastFadeTime, LastDuration, BinaryActiveValue, BinaryInactiveValue, Polarity, BinaryPresentValue, RelayState, SlotValue, Unknown}
use Rattle.lighting_outputs.specs.declared.Range.{Range}
use Rattle.lighting_outputs.specs.declared.Range.TheVariants.{Percent, Limit, Amount, Whole, Priority, ReadOnly}
use Rattle.lighting_outputs.specs.declared.OutputRequest.TheVariants.{Change}
use Rattle.lighting_outputs.specs.declared.PanelRequest.TheVariants.{ToOutput}
use Rattle.lighting_outputs.specs.Paper.Answers.{as_request}
use Rattle.lighting_levels.proofs.Split.{by_bool, by_eq, by_le, by_lt, leb_yes, le_of, eq_of, eqb_hit, eqb_miss}
use Rattle.lighting_levels.proofs.Ranges.{level_units_lem, limit_units}
use Rattle.lighting_outputs.proofs.Rules.Facts.{Slot, Meets}
use Rattle.lighting_outputs.proofs.Rules.Tied.{within_of, slot_of}
use Rattle.lighting_outputs.proofs.Rules.RequestInRange.{RequestInRange}
use Rattle.lighting_outputs.specs.Paper.Slots.{slot_count}

-- A WRITE's request is good, by the row
pub priority_of : (n : ℕ) → is_priority n ≡ true → Slot (n - 1)
unfolding is_priority when◌then◌else◌
priority_of n h = by_eq n 0 (λ z e. absurd (false≢true (rw e at h))) (λ z e. slot_of (n - 1) (rw e at h))

to_good : (p : Parameters) (n : Property) (l : Option ℕ)
    → ((v : ℕ) → l ≡ Some v → RequestInRange p (Ok (ToOutput (Change n v))))
    → RequestInRange p (as_request (change_to n l))
unfolding change_to
to_good p n (Some v) f = f v refl
to_good p n None f = omega arith

row_good : (p : Parameters) (r : Range) (n : Property) (x : ℕ)
    → ((v : ℕ) → Meets r v → RequestInRange p (Ok (ToOutput (Change n v))))
    → RequestInRange p (as_request (change_by r n x))
unfolding change_by when◌then◌else◌
row_good p Percent n x f = to_good p n (level_of (real x)) (λ v e. let u = level_units_lem (real x) v e in f v (record { least = u.0; most = u.1 }))
row_good p Limit n x f = to_good p n (limit_of (real x)) (λ v e. let u = limit_units (real x) v e in f v (record { least = u.0; most = u.1 }))
row_good p Amount n x f = by_bool (is_amount (real x)) (λ e. rw e (f x e)) (λ e. rw e (omega arith))
row_good p (Whole low high) n x f = by_bool (within low high x) (λ e. rw e (f x (within_of low high x e))) (λ e. rw e (omega arith))
row_good p Priority n x f = by_bool (is_priority x) (λ e. rw e (f (x - 1) (priority_of x e))) (λ e. rw e (omega arith))
row_good p ReadOnly n x f = omega arith

pub change_good : (p : Parameters) (n : Property) (x : ℕ) → RequestInRange p (as_request (change_of p n x))
unfolding change_of
change_good p n x = row_good p (row_of p n) n x (λ v m. m)

-- THE NUMBER AND THE TABLE of properties say the same: by its number a property is found again, unless it is
-- a slot past the sixteenth
by_number : {P : Type 0} (n : Property) → (property_of (number_of n) ≡ n → P) → ((i : ℕ) → slot_count ≤ i → n ≡ SlotValue i → P) → P
unfolding property_of numbered when◌then◌else◌
by_number RelinquishDefault found past = found refl
by_number FadeTime found past = found refl
by_number RampRate found past = found refl
by_number StepIncrement found past = found refl
by_number BlinkEnable found past = found refl
by_number BlinkTime found past = found refl
by_number BlinkWarnDelay found past = found refl
by_number MinValue found past = found refl
by_number MaxValue found past = found refl
by_number CommandPriority found past = found refl
by_number ElapsedActiveTime found past = found refl
by_number PresentValue found past = found refl
by_number ProgressValue found past = found refl
by_number InProcess found past = found refl
by_number LastOperation found past = found refl
by_number LastLevel found past = found refl
by_number LastRate found past = found refl
by_number LastStep found past = found refl
by_number LastFadeTime found past = found refl
by_number LastDuration found past = found refl
by_number BinaryActiveValue found past = found refl
by_number BinaryInactiveValue found past = found refl
by_number Polarity found past = found refl
by_number BinaryPresentValue found past = found refl
by_number RelayState found past = found refl
by_number (SlotValue i) found past =
    by_lt i 16
    (λ h e. found (rw (leb_yes {a = 0x21} {b = 0x21 + i} (omega arith), leb_yes {a = 0x21 + i} {b = 0x30} (omega arith), add-sub_cancel_left 0x21 i)))
    (λ h e. past i h refl)
by_number Unknown found past = found refl

pub number_kept : (n : Property) → number_of n < 0x31 → property_of (number_of n) ≡ n
number_kept n h = by_number n (λ e. e) (λ i l q. absurd (beyond i l (rw q at h)))
  where
    beyond : (i : ℕ) → slot_count ≤ i → number_of (SlotValue i) < 0x31 → ⊥
    beyond i l h = omega arith

-- no number past the greatest of the table is a property's
abbrev most : List Property → ℕ
most [] = 0
most (x ∷ l) = max (number_of x) (most l)

past_most : (l : List Property) (n : ℕ) → most l < n → numbered l n ≡ Unknown
unfolding numbered when◌then◌else◌
past_most [] n h = refl
past_most (x ∷ l) n h = rw (eqb_miss {a = n} {b = number_of x} (omega arith)) (past_most l n (omega arith))

pub unlisted : (n : ℕ) → 0x1b < n → numbered properties n ≡ Unknown
unlisted n h = past_most properties n h

-- of a property whose number is below that of the slots: the one is the other
pub same_is : (n m : Property) → ltb (number_of n) 0x21 ≡ true → same n m ≡ true → m ≡ n
unfolding same
same_is n m low h =
    let e : number_of n ≡ number_of m = eq_of h in
    let below : number_of n < 0x21 = le_of low in
    sym (number_kept m (omega arith)) ∙ ap property_of (sym e) ∙ number_kept n (omega arith)

-- and a number's property has that number, unless it is unknown
by_numbered : {P : Type 0} (l : List Property) (n : ℕ) → (number_of (numbered l n) ≡ n → P) → (numbered l n ≡ Unknown → P) → P
unfolding numbered when◌then◌else◌
by_numbered [] n found past = past refl
by_numbered (x ∷ l) n found past =
    by_eq n (number_of x) (λ h e. found (rw e (sym h))) (λ h e. by_numbered l n (λ k. found (rw e k)) (λ k. past (rw e k)))

by_property : {P : Type 0} (n : ℕ) → (number_of (property_of n) ≡ n → P) → (property_of n ≡ Unknown → P) → P
unfolding property_of when◌then◌else◌
by_property n found past =
    by_le 0x21 n
    (λ h e. by_bool (leb n 0x30) (λ e'. found (rw (e, e') (omega arith))) (λ e'. past (rw (e, e'))))
    (λ h e. by_numbered properties n (λ k. found (rw e k)) (λ k. past (rw e k)))

-- so a number is a property's by the one test and by the other
pub same_number : (x : Property) (n : ℕ) → 0 < number_of x → number_of x < 0x31 → same x (property_of n) ≡ eqb n (number_of x)
unfolding same
same_number x n above listed =
    by_property n
    (λ e. rw e
    (by_eq n (number_of x)
    (λ h z. rw z (eqb_hit (sym h)))
    (λ h z. rw z (eqb_miss {a = number_of x} {b = n} (λ k. h (sym k))))))
    (λ e. rw e
    (by_eq n (number_of x)
    (λ h z. absurd (zero_not (ap number_of (sym (number_kept x listed) ∙ ap property_of (sym h) ∙ e))))
    (λ h z. rw z (eqb_miss {a = number_of x} {b = 0} zero_not))))
  where
    zero_not : number_of x ≡ 0 → ⊥
    zero_not k = omega arith

-- THE SAME PROPERTY has the same row: the number says which it is
row_number : (p : Parameters) (n : Property) → row_of p (property_of (number_of n)) ≡ row_of p n
row_number p n = by_number n (λ e. ap (row_of p) e) (λ i l q. rw q (beyond i))
  where
    beyond : (i : ℕ) → row_of p (property_of (number_of (SlotValue i))) ≡ ReadOnly
    beyond i = unfold property_of numbered when◌then◌else◌ in (rw (leb_yes {a = 0x21} {b = 0x21 + i} (omega arith)) (by_bool (leb (0x21 + i) 0x30) (λ e. rw e) (λ e. rw e)))

pub same_row : (p : Parameters) (n m : Property) → same n m ≡ true → row_of p n ≡ row_of p m
unfolding same
same_row p n m h =
    sym (row_number p n) ∙ ap (λ (k : ℕ). row_of p (property_of k)) (eq_of h) ∙ row_number p m

-- OF A SET a row reads the longest fade alone, and that in Fade_Time's
pub row_reads : (p q : Parameters) (n : Property) → row_of p n ≡ (when same FadeTime n then Whole 100 p.fade else row_of q n)
unfolding same when◌then◌else◌
row_reads p q RelinquishDefault = refl
row_reads p q FadeTime = refl
row_reads p q RampRate = refl
row_reads p q StepIncrement = refl
row_reads p q BlinkEnable = refl
row_reads p q BlinkTime = refl
row_reads p q BlinkWarnDelay = refl
row_reads p q MinValue = refl
row_reads p q MaxValue = refl
row_reads p q CommandPriority = refl
row_reads p q ElapsedActiveTime = refl
row_reads p q PresentValue = refl
row_reads p q ProgressValue = refl
row_reads p q InProcess = refl
row_reads p q LastOperation = refl
row_reads p q LastLevel = refl
row_reads p q LastRate = refl
row_reads p q LastStep = refl
row_reads p q LastFadeTime = refl
row_reads p q LastDuration = refl
row_reads p q BinaryActiveValue = refl
row_reads p q BinaryInactiveValue = refl
row_reads p q Polarity = refl
row_reads p q BinaryPresentValue = refl
row_reads p q RelayState = refl
row_reads p q (SlotValue i) = rw (eqb_miss {a = 0x02} {b = 0x21 + i} (omega arith))
row_reads p q Unknown = refl

-- A FIELD that takes the value of a write of its own property keeps its row
pub kept_met : (p : Parameters) (field n : Property) (v old : ℕ) → Meets (row_of p n) v → Meets (row_of p field) old
    → Meets (row_of p field) (when same field n then v else old)
unfolding when◌then◌else◌
kept_met p field n v old g h = by_bool (same field n) (λ e. rw e (rw (same_row p field n e) g)) (λ e. rw e h)
