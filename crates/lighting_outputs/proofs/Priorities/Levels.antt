-- Levels stay levels: of Present_Value, and of the slots after one is emptied or filled.
use Rattle.std.specs.Prelude.{Option, None}
use Prim.Native.Nat.{ℕ, ◌<◌}
use native.Mathlib.Omega.{arith}
use lib.ListN.{set, get_or}
use lib.Seq.{get_or-set_same, get_or-set_other}
use Rattle.lighting_outputs.specs.Paper.Parameters.{Parameters}
use Rattle.lighting_levels.specs.Paper.Choice.{when◌then◌else◌}
use Rattle.lighting_levels.proofs.Split.{by_eq}
use Rattle.lighting_outputs.specs.declared.Settings.{Settings}
use Rattle.lighting_outputs.specs.Paper.Slots.{slot_count, Slots, slots_of, put}
use Rattle.lighting_outputs.proofs.Priorities.Mask.{put_slots, slots_size}
use Rattle.lighting_outputs.proofs.Priorities.Winner.{put_sized}
use Rattle.lighting_outputs.specs.Paper.Value.{clamp_lit, present_value}
use Rattle.lighting_outputs.proofs.Rules.Facts.{IsLevel, SettingsInRange, SlotLevel, Filled}

pub level_zero : IsLevel 0
level_zero = record { least = omega arith; most = omega arith }

pub clamp_lit_level : (p : Parameters) (c : Settings) (v : ℕ) → SettingsInRange p c → IsLevel (clamp_lit c v)
unfolding clamp_lit when◌then◌else◌
clamp_lit_level p c v h = by_eq v 0 (λ z e. rw e level_zero) (λ z e. rw e (record { least = omega arith; most = omega arith }))

pub present_level : (p : Parameters) (c : Settings) (s : Slots) → SettingsInRange p c → IsLevel (present_value c s)
unfolding present_value
present_level p c s h = clamp_lit_level p c _ h

pub put_filled : (s : Slots) (i : ℕ) (x : Option ℕ) → Filled s → i < slot_count → SlotLevel x → Filled (put s i x)
put_filled s i x f k l = record { size = put_sized s f.size i x; level = λ j m. rw (put_slots s i x f.size k) (at j m) }
  where
    at : (j : ℕ) → j < slot_count → SlotLevel (get_or (set (slots_of s) i x) j None)
    at j m =
        by_eq
        i
        j
        (λ z e. rw (← z, get_or-set_same (slots_of s) i x None (omega (arith, slots_size s, f.size))) l)
        (λ z e. rw (get_or-set_other (slots_of s) i j x None (omega arith)) (f.level j m))
