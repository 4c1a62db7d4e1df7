-- §8, the claim of secrecy, of one output: in what two outputs are to be alike, so that a tenant who reads
-- them is answered the same. The paper's list, an entry each; lighting_panel's Secrecy.antt has the rest of
-- the claim.
use Rattle.std.specs.Prelude.{◌≡◌, List, [], ◌∷◌, ℕ, drop}
use Rattle.lighting_outputs.specs.Paper.Slots.{slots_of}
use Rattle.lighting_outputs.specs.Paper.Value.{present_value, progress_value, in_process}
use Rattle.lighting_outputs.specs.Paper.Tenants.{whole_percent}
use Rattle.lighting_outputs.specs.Paper.Properties.{elapsed_active}
use Rattle.lighting_outputs.specs.declared.Output.{Output}

-- 'in settings, slots 7 to 16, last command, In_Process, Binary_Present_Value, burning time and the two
-- levels in whole percent'. The settings of the relay, 17 to 19 (§3), are settings too
pub data Learnt : Type 0 where
  the_settings : Learnt
  the_relay_settings : Learnt
  the_slots : Learnt
  the_last_command : Learnt
  the_process : Learnt
  the_binary_value : Learnt
  the_burning_time : Learnt
  the_present_value : Learnt
  the_progress_value : Learnt

-- what is alike of two outputs at the time t. A slot is live or not and, if live, has a level. Of burning
-- time the whole seconds are enough, as 0B reads them
abbrev pub AlikeIn : Learnt → ℕ → Output → Output → Type 0
AlikeIn the_settings t o o' = o.settings ≡ o'.settings
AlikeIn the_relay_settings t o o' =
    (o.relay.active ≡ o'.relay.active)
    × (o.relay.inactive ≡ o'.relay.inactive)
    × (o.relay.reverse ≡ o'.relay.reverse)
AlikeIn the_slots t o o' = drop 6 (slots_of o.slots) ≡ drop 6 (slots_of o'.slots)
AlikeIn the_last_command t o o' = o.last ≡ o'.last
AlikeIn the_process t o o' = in_process o.activity ≡ in_process o'.activity
AlikeIn the_binary_value t o o' = o.relay.binary ≡ o'.relay.binary
AlikeIn the_burning_time t o o' = elapsed_active o.burning ≡ elapsed_active o'.burning
AlikeIn the_present_value t o o' =
    whole_percent (present_value o.settings o.slots) ≡ whole_percent (present_value o'.settings o'.slots)
AlikeIn the_progress_value t o o' = whole_percent (progress_value t o) ≡ whole_percent (progress_value t o')

-- all of the list
abbrev pub every_learnt : List Learnt
every_learnt =
    the_settings
    ∷ the_relay_settings
    ∷ the_slots
    ∷ the_last_command
    ∷ the_process
    ∷ the_binary_value
    ∷ the_burning_time
    ∷ the_present_value
    ∷ the_progress_value
    ∷ []
