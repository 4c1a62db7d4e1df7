-- What a first arrival does: 'Each accepted frame first brings the panel to its time, then acts'. The engine
-- and the plain panel share it.
--
use Rattle.std.specs.Prelude.{Bool, List, ℕ, get_or, set, Ok, Err}
use Rattle.lighting_levels.specs.Paper.Choice.{when◌then◌else◌}
use Rattle.lighting_outputs.specs.Paper.Relay.{inactive_not_below}
use Rattle.lighting_outputs.specs.Paper.Passing.{after_events}
use Rattle.lighting_outputs.specs.Paper.Writing.{written, slot_relinquished}
use Rattle.lighting_outputs.specs.Paper.Properties.{settings_with, relay_with, changed, min_over_max, read_property}
use Rattle.lighting_outputs.specs.Paper.Commands.{commanded}
use Rattle.lighting_outputs.specs.Paper.Fresh.{fresh_output}
use Rattle.lighting_outputs.specs.declared.Property.{Property}
use Rattle.lighting_outputs.specs.Paper.Answers.{refusal_number, Request}
use Rattle.lighting_outputs.specs.declared.PanelRequest.TheVariants.{ToOutput}
use Rattle.lighting_outputs.specs.declared.OutputRequest.{OutputRequest}
use Rattle.lighting_outputs.specs.declared.OutputRequest.TheVariants.{Write, Empty, Change, Read, Commands}
use Rattle.lighting_outputs.specs.declared.Answer.{Answer}
use Rattle.lighting_outputs.specs.declared.Answer.TheVariants.{Done, Refused}
use Rattle.lighting_outputs.specs.declared.Output.{Output}
use Rattle.lighting_outputs.specs.declared.Outcome.{Outcome}
use Rattle.lighting_outputs.specs.declared.refusals.Refusal.TheVariants.{MinOverMax, RelayNotInOrder}

-- the output changed, and its relay judged (`after_events`, Passing.antt); or left as it was
unfoldable pub done : Output → Outcome
done o = record { output = after_events o; answer = Done }

unfoldable pub unchanged : Output → Answer → Outcome
unchanged o a = record { output = o; answer = a }

-- a write of a property, unless it would leave Min over Max (m): 13; or the relay's inactive value not below
-- its active one (unordered): 16, 'tested after 13, leaving what 13 leaves' (§3)
unfoldable pub changed_unless : Bool → Bool → Output → Property → ℕ → Outcome
changed_unless m unordered o property value =
    when m then unchanged o (Refused (refusal_number MinOverMax)) else when unordered then unchanged o (Refused (refusal_number RelayNotInOrder)) else done (changed o property value)

-- A REQUEST TO ONE OUTPUT: 'does what its kind calls for', or refuses 13 or 16. A read of an unknown
-- property is 9. Whether its station is a tenant (§8) is asked by a read alone
unfoldable pub acted : Bool → ℕ → Output → OutputRequest → Outcome
acted tenant t o (Write slot level) = done (written t o slot level)
acted tenant t o (Empty slot) = done (slot_relinquished o slot)
acted tenant t o (Change n v) =
    changed_unless (min_over_max (settings_with o.settings n v)) (inactive_not_below (relay_with o.relay n v)) o n v
acted tenant t o (Read property) = unchanged o (read_property tenant t o property)
acted tenant t o (Commands k) = done (commanded t o k)

-- A REQUEST, over the table: the outputs and the answer after a frame whose output is i. One that is
-- refused by its fields, 9 to 12, 14 or 15, leaves every output. Of the station that it comes from it is
-- asked whether that is a tenant (§8), and nothing else
pub record Served : Type 0 where
  pub outputs : List Output
  pub answer : Answer

unfoldable pub served : Bool → ℕ → List Output → ℕ → Request → Served
served tenant t outputs i (Err refusal) = record { outputs = outputs; answer = Refused (refusal_number refusal) }
served tenant t outputs i (Ok (ToOutput request)) =
    let done = acted tenant t (get_or outputs i fresh_output) request in
    record { outputs = set outputs i done.output; answer = done.answer }
