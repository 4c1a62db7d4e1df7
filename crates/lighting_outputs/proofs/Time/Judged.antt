-- JUDGING A JUDGED OUTPUT CHANGES NOTHING (§3): so the plain panel, which judges after every millisecond, and
-- the engine, which judges at due moments alone, come to the same.
use mathlib.Core.Path.{◌≡◌, sym}
use Prim.Native.Nat.{ℕ}
use lib.Dec.{leb}
use Rattle.lighting_levels.specs.Paper.Choice.{when◌then◌else◌}
use Rattle.lighting_outputs.specs.Paper.Value.{present_value}
use Rattle.lighting_outputs.specs.Paper.Relay.{binary_at, switched}
use Rattle.lighting_outputs.specs.Paper.Record.{with_burning}
use Rattle.lighting_outputs.specs.Paper.Passing.{after_events, fire, tick}
use Rattle.lighting_outputs.specs.declared.Relay.{Relay}
use Rattle.lighting_outputs.specs.declared.Output.{Output}
use Rattle.lighting_levels.proofs.Split.{by_bool}
use Rattle.lighting_outputs.proofs.Rules.Facts.{Judged}

-- of any relay, and any Present_Value
binary_at_again : (v : ℕ) (r : Relay) → binary_at v (switched v r) ≡ binary_at v r
unfolding binary_at switched when◌then◌else◌
binary_at_again v r =
    by_bool
    (leb r.active v)
    (λ e. rw e)
    (λ e. rw e (by_bool (leb v r.inactive) (λ e'. rw e') (λ e'. rw e')))

-- what was judged is judged, and stays as it is
pub after_events_judged : (o : Output) → Judged (after_events o)
unfolding after_events
after_events_judged o = record { same = unfold switched in (sym (binary_at_again (present_value o.settings o.slots) o.relay)) }

pub judged_stays : (o : Output) → Judged o → after_events o ≡ o
unfolding after_events switched
judged_stays o h = rw (← h.same)

-- burning plays no part in it
pub with_burning_judged : (o : Output) (b : ℕ) → Judged o → Judged (with_burning o b)
unfolding with_burning
with_burning_judged o b h = record { same = h.same }

-- after every moment, and so after every millisecond, an output is judged
pub fire_judged : (t : ℕ) (o : Output) → Judged (fire t o)
unfolding fire
fire_judged t o = after_events_judged _

pub tick_judged : (t : ℕ) (o : Output) → Judged (tick t o)
unfolding tick
tick_judged t o = fire_judged _ _
