-- The turns of the loops that write fields.
use mathlib.Core.Path.{◌≡◌}
use mathlib.Core.List.{◌++◌}
use Prim.Native.Nat.{ℕ, ◌+◌}
use native.Mathlib.Numerals.{add-one}
use Rattle.lighting_outputs.specs.declared.Output.{Output}
use Rattle.lighting_outputs.specs.declared.Slots.{Slots}
use Rattle.text_block.specs.Block.{slot_field, slot_fields, property_field, property_fields}

pub slots_turn : (s : Slots) (i : ℕ) → slot_fields s (i + 1) ≡ slot_fields s i ++ slot_field s i
unfolding slot_fields
slots_turn s i = rw add-one

pub properties_turn : (t : ℕ) (o : Output) (k i : ℕ) → property_fields t o k (i + 1) ≡ property_fields t o k i ++ property_field t o (k + i)
unfolding property_fields
properties_turn t o k i = rw add-one
