-- 'An output's record': the slots. Which are live, what each holds, which one wins. A slot is named by its
-- index, its priority less one.
--
use Rattle.std.specs.Prelude.{Bool, List, [], ◌∷◌, ℕ, suc, ◌-◌, ◌/◌, ◌%◌, ◌^◌, eqb, ltb, set, get_or, Option, Some, None}
use Rattle.std.specs.Int.Bits.{bit_and, bit_or}
use Rattle.lighting_levels.specs.Paper.Choice.{when◌then◌else◌}
use Rattle.lighting_levels.specs.Paper.Field.{bit_set}
pub use Rattle.lighting_outputs.specs.declared.Slots.{Slots}

-- sixteen slots; the last is slot 16, and slot 6 is a warning's
abbrev pub slot_count : ℕ
slot_count = 16

abbrev pub slot16 : ℕ
slot16 = 15

abbrev pub slot6 : ℕ
slot6 = 5

-- 'Sixteen bits say which slots are live' (the paper's word for those that hold a level), priority 1 being
-- the lowest bit: the slots that the mask and the levels stand for
unfoldable pub view : ℕ → List ℕ → List (Option ℕ)
view m [] = []
view m (v ∷ l) = (when eqb (m % 2) 1 then Some v else None) ∷ view (m / 2) l

unfoldable pub slots_of : Slots → List (Option ℕ)
slots_of s = view s.live s.levels

abbrev pub slot : Slots → ℕ → Option ℕ
slot s i = get_or (slots_of s) i None

-- 'the winner is the lowest bit set' (the paper's word for the slot that has its way): the first live slot,
-- or 16, how many there are, where none is live
unfoldable pub first_live : List (Option ℕ) → ℕ
first_live [] = 0
first_live (None ∷ l) = suc (first_live l)
first_live (Some v ∷ l) = 0

unfoldable pub winner : Slots → ℕ
winner s = first_live (slots_of s)

-- whether slot i is live, by the mask
unfoldable pub is_live : Slots → ℕ → Bool
is_live s i = bit_set s.live i

-- bit i cleared and set; a level put in its place. There is no slot from 16 on: the guard stands for records
-- that break the rules (proofs/Priorities/Mask.antt, `put_slots`)
unfoldable pub mask_emptied : ℕ → ℕ → ℕ
mask_emptied m i = when ltb i slot_count then bit_and m (65535 - 2 ^ i) else m

unfoldable pub mask_filled : ℕ → ℕ → ℕ
mask_filled m i = when ltb i slot_count then bit_or m (2 ^ i) else m

unfoldable pub level_set : List ℕ → ℕ → ℕ → List ℕ
level_set l i v = when ltb i slot_count then set l i v else l

-- slot i emptied, its level 0 then; or filled
unfoldable pub put : Slots → ℕ → Option ℕ → Slots
put s i None = record { live = mask_emptied s.live i; levels = level_set s.levels i 0 }
put s i (Some v) = record { live = mask_filled s.live i; levels = level_set s.levels i v }

abbrev pub emptied : Slots → ℕ → Slots
emptied s i = put s i None

abbrev pub filled : Slots → ℕ → ℕ → Slots
filled s i v = put s i (Some v)

-- the level of slot i, or d where there is no such slot; and of the winner, or d with no live slot
unfoldable pub level_at : ℕ → Slots → ℕ → ℕ
level_at d s i = when ltb i slot_count then get_or s.levels i 0 else d

unfoldable pub winning_level : ℕ → Slots → ℕ
winning_level d s = level_at d s (winner s)
