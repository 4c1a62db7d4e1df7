-- §8, 'Tenant stations and service stations': which stations are tenants, and what a tenant is shown.
-- Everything else is exact for a tenant too.
use Rattle.std.specs.Prelude.{Bool, true, false, ℕ, ◌*◌, ◌/◌, leb}
use Rattle.lighting_levels.specs.Paper.Choice.{when◌then◌else◌, ◌also◌}
use Rattle.lighting_levels.specs.Paper.Field.{bit_set}
use Rattle.lighting_outputs.specs.Paper.Slots.{slot6}

-- 'a 32-bit word's bit n, if set, makes station n a tenant, else service'. The paper calls the bits of this
-- word marks
unfoldable pub is_tenant : ℕ → ℕ → Bool
is_tenant marks station = bit_set marks station

-- for whom a frame acts, where a definition asks whether its station is a tenant
abbrev pub for_tenant : Bool
for_tenant = true

abbrev pub for_service : Bool
for_service = false

-- 'rounded down to whole percent': floor(level / 65,536) percent, as a level
unfoldable pub whole_percent : ℕ → ℕ
whole_percent level = level / 65536 * 65536

-- a level that a tenant reads in whole percent
unfoldable pub shown_level : Bool → ℕ → ℕ
shown_level tenant level = when tenant then whole_percent level else level

-- 'A tenant reading slots 1 to 6 gets Absent', whether they are live or not: slot i is hidden
unfoldable pub hidden : Bool → ℕ → Bool
hidden tenant i = tenant also leb i slot6
