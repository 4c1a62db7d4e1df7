-- TENANT STATIONS (§8): what a tenant's frames do and are answered, what whole percent is, and that two
-- outputs which are alike in all of Learnt.antt read the same to a tenant.
use Rattle.std.specs.Prelude.{Option, None, Ok, Err}
use mathlib.Core.Path.{◌≡◌, refl, sym, ap, ◌∙◌}
use mathlib.Core.Bool.{Bool}
use mathlib.Core.List.{List, [], ◌∷◌, ◌++◌, map}
use Prim.Native.Nat.{ℕ, ◌+◌, ◌-◌, ◌*◌, ◌/◌, ◌≤◌, ◌<◌}
use native.Mathlib.Omega.{arith}
use lib.Seq.{get_or-drop}
use lib.ListN.{get_or, drop}
use Rattle.lighting_levels.specs.Paper.Choice.{when◌then◌else◌}
use Rattle.lighting_outputs.specs.Paper.Slots.{slots_of}
use Rattle.lighting_outputs.specs.Paper.Relay.{relay_state}
use Rattle.lighting_outputs.specs.Paper.Tenants.{for_tenant, for_service, whole_percent, shown_level, hidden}
use Rattle.lighting_outputs.specs.Paper.Properties.{numbered, property_of, level_or_absent, slot_answer, read_property}
use Rattle.lighting_outputs.specs.Paper.Acting.{unchanged, acted, served}
use Rattle.lighting_outputs.specs.Paper.Learnt.{Learnt, the_settings, the_relay_settings, the_slots, the_last_command, the_process, the_binary_value, the_burning_time, the_present_value, the_progress_value, AlikeIn}
use Rattle.lighting_outputs.specs.declared.Output.{Output}
use Rattle.lighting_outputs.specs.declared.PanelRequest.TheVariants.{ToOutput}
use Rattle.lighting_outputs.specs.declared.OutputRequest.{OutputRequest}
use Rattle.lighting_outputs.specs.declared.OutputRequest.TheVariants.{Write, Empty, Change, Read, Commands}
use Rattle.lighting_outputs.specs.declared.Property.{Property}
use Rattle.lighting_outputs.specs.declared.Property.TheVariants.{RelinquishDefault, FadeTime, RampRate, StepIncrement, BlinkEnable, BlinkTime, BlinkWarnDelay, MinValue, MaxValue, CommandPriority, ElapsedActiveTime, PresentValue, ProgressValue, InProcess, LastOperation, LastLevel, LastRate, LastStep, LastFadeTime, LastDuration, BinaryActiveValue, BinaryInactiveValue, Polarity, BinaryPresentValue, RelayState, SlotValue, Unknown}
use Rattle.lighting_levels.proofs.Split.{by_lt}
use Rattle.lighting_outputs.proofs.Consequences.Reads.{reads, reads_as, hides, hides_no_more}
use Rattle.lighting_outputs.specs.Paper.Answers.{Request}

-- A TENANT'S FRAME DOES what any station's does: it may write, empty and command
acts_alike : (tenant : Bool) (t : ℕ) (o : Output) (q : OutputRequest)
    → (acted tenant t o q).output ≡ (acted for_service t o q).output
unfolding acted unchanged
acts_alike tenant t o (Write i v) = refl
acts_alike tenant t o (Empty i) = refl
acts_alike tenant t o (Change n v) = refl
acts_alike tenant t o (Read n) = refl
acts_alike tenant t o (Commands k) = refl

pub done_alike : (tenant : Bool) (t : ℕ) (l : List Output) (i : ℕ) (r : Request)
    → (served tenant t l i r).outputs ≡ (served for_service t l i r).outputs
unfolding served
done_alike tenant t l i (Err n) = refl
done_alike tenant t l i (Ok (ToOutput q)) = rw (acts_alike tenant t (get_or l i _) q)

-- and is answered as any station's, unless it reads
abbrev pub NoRead : OutputRequest → Type 0
NoRead (Write i v) = Unit {0}
NoRead (Empty i) = Unit {0}
NoRead (Change n v) = Unit {0}
NoRead (Read n) = ⊥
NoRead (Commands k) = Unit {0}

pub answered_alike : (tenant : Bool) (t : ℕ) (o : Output) (q : OutputRequest) → NoRead q
    → (acted tenant t o q).answer ≡ (acted for_service t o q).answer
unfolding acted
answered_alike tenant t o (Write i v) n = refl
answered_alike tenant t o (Empty i) n = refl
answered_alike tenant t o (Change m v) n = refl
answered_alike tenant t o (Read m) n = absurd n
answered_alike tenant t o (Commands k) n = refl

-- WHOLE PERCENT of a level: the greatest whole number of percent that is not above it
pub whole_within : (v : ℕ) → (whole_percent v ≤ v) × (v < whole_percent v + 65536)
unfolding whole_percent
whole_within v = (omega arith, omega arith)

pub whole_only : (n v : ℕ) → n * 65536 ≤ v → v < n * 65536 + 65536 → whole_percent v ≡ n * 65536
unfolding whole_percent
whole_only n v h k = let e : v / 65536 ≡ n = omega arith in rw e

-- below 1 percent a tenant reads 0; what it reads of a level up to 100 percent is one that may be written
pub whole_written : (v : ℕ) → v ≤ 6553600 → whole_percent v ≤ 6553600
unfolding whole_percent
whole_written v h = omega arith

-- EVERYTHING ELSE IS EXACT, by number: 01 to 30 but 0C, 0D and 21 to 26, unknown ones among them
abbrev exact_numbers : List ℕ
exact_numbers =
    (0x01 ∷ 0x02 ∷ 0x03 ∷ 0x04 ∷ 0x05 ∷ 0x06 ∷ 0x07 ∷ 0x08 ∷ 0x09 ∷ 0x0a ∷ 0x0b ∷ 0x0e ∷ 0x0f ∷ [])
    ++
    (0x10 ∷ 0x11 ∷ 0x12 ∷ 0x13 ∷ 0x14 ∷ 0x15 ∷ 0x16 ∷ 0x17 ∷ 0x18 ∷ 0x19 ∷ 0x1a ∷ 0x1b ∷ 0x1c ∷ 0x1d ∷ 0x1e ∷ 0x1f ∷ [])
    ++ (0x20 ∷ 0x27 ∷ 0x28 ∷ 0x29 ∷ 0x2a ∷ 0x2b ∷ 0x2c ∷ 0x2d ∷ 0x2e ∷ 0x2f ∷ 0x30 ∷ [])

pub exact : (t : ℕ) (o : Output) → map (reads_as for_tenant t o) exact_numbers ≡ map (reads t o) exact_numbers
unfolding acted unchanged property_of numbered read_property hidden when◌then◌else◌
exact t o = refl

-- ALIKE IN ALL THAT A TENANT MAY LEARN, two outputs read the same to it, whatever it asks for. Slots 1 to 6,
-- what is under way, durations and warnings are free to differ
module _ (t : ℕ) (o o' : Output) (alike : (what : Learnt) → AlikeIn what t o o') where
  past_six : (i : ℕ) (l : List (Option ℕ)) → 6 ≤ i → get_or (drop 6 l) (i - 6) None ≡ get_or l i None
  past_six i l above =
      let place : 6 + (i - 6) ≡ i = omega arith in get_or-drop 6 l (i - 6) None ∙ ap (λ (j : ℕ). get_or l j None) place

  slot_same : (i : ℕ) → 6 ≤ i → slot_answer o.slots i ≡ slot_answer o'.slots i
  unfolding slot_answer
  slot_same i above =
      ap level_or_absent
      (sym (past_six i (slots_of o.slots) above)
      ∙ ap (λ (l : List (Option ℕ)). get_or l (i - 6) None) (alike the_slots)
      ∙ past_six i (slots_of o'.slots) above)

  pub alike_reads : (property : Property)
      → read_property for_tenant t o property ≡ read_property for_tenant t o' property
  unfolding read_property shown_level relay_state when◌then◌else◌
  alike_reads RelinquishDefault = rw (alike the_settings)
  alike_reads FadeTime = rw (alike the_settings)
  alike_reads RampRate = rw (alike the_settings)
  alike_reads StepIncrement = rw (alike the_settings)
  alike_reads BlinkEnable = rw (alike the_settings)
  alike_reads BlinkTime = rw (alike the_settings)
  alike_reads BlinkWarnDelay = rw (alike the_settings)
  alike_reads MinValue = rw (alike the_settings)
  alike_reads MaxValue = rw (alike the_settings)
  alike_reads CommandPriority = rw (alike the_settings)
  alike_reads ElapsedActiveTime = rw (alike the_burning_time)
  alike_reads PresentValue = rw (alike the_present_value)
  alike_reads ProgressValue = rw (alike the_progress_value)
  alike_reads InProcess = rw (alike the_process)
  alike_reads LastOperation = rw (alike the_last_command)
  alike_reads LastLevel = rw (alike the_last_command)
  alike_reads LastRate = rw (alike the_last_command)
  alike_reads LastStep = rw (alike the_last_command)
  alike_reads LastFadeTime = rw (alike the_last_command)
  alike_reads LastDuration = rw (alike the_last_command)
  alike_reads BinaryActiveValue = rw (alike the_relay_settings).0
  alike_reads BinaryInactiveValue = rw (alike the_relay_settings).1
  alike_reads Polarity = rw (alike the_relay_settings).2
  alike_reads BinaryPresentValue = rw (alike the_binary_value)
  alike_reads RelayState = rw ((alike the_relay_settings).2, alike the_binary_value)
  alike_reads (SlotValue i) =
      by_lt i 6 (λ h e. rw (hides i h)) (λ h e. rw (hides_no_more i h) (slot_same i h))
  alike_reads Unknown = refl
