-- Every request to an output keeps the record rules.
use mathlib.Core.Path.{◌≡◌}
use mathlib.Core.Bool.{Bool, false}
use Prim.Native.Nat.{ℕ, ◌≤◌}
use native.Mathlib.Omega.{arith}
use Rattle.lighting_outputs.specs.Paper.Parameters.{Parameters}
use Rattle.lighting_levels.specs.Paper.Choice.{when◌then◌else◌}
use Rattle.lighting_outputs.specs.Paper.Relay.{inactive_not_below}
use Rattle.lighting_outputs.specs.Paper.Properties.{settings_with, relay_with, changed, min_over_max}
use Rattle.lighting_outputs.specs.Paper.Acting.{done, unchanged, changed_unless, acted}
use Rattle.lighting_outputs.specs.declared.Output.{Output}
use Rattle.lighting_outputs.specs.declared.Outcome.{Outcome}
use Rattle.lighting_outputs.specs.declared.Answer.TheVariants.{Refused}
use Rattle.lighting_outputs.specs.declared.Property.{Property}
use Rattle.lighting_outputs.specs.declared.OutputRequest.{OutputRequest}
use Rattle.lighting_outputs.specs.declared.OutputRequest.TheVariants.{Write, Empty, Change, Read, Commands}
use Rattle.lighting_levels.proofs.Split.{by_bool}
use Rattle.lighting_outputs.proofs.Rules.Facts.{Sound, Judged, Lawful}
use Rattle.lighting_outputs.proofs.Time.Judged.{after_events_judged}
use Rattle.lighting_outputs.proofs.Rules.RequestInRange.{OutputRequestInRange}
use Rattle.lighting_outputs.proofs.Acts.Written.{written_sound, slot_relinquished_sound}
use Rattle.lighting_outputs.proofs.Acts.Changed.{changed_sound}
use Rattle.lighting_outputs.proofs.Acts.Commanded.{commanded_sound}
use Rattle.lighting_outputs.proofs.Time.Ticking.{after_events_sound}

-- A WRITE OF A PROPERTY is turned down and leaves the output as it is, or is done
pub by_change : (P : Outcome → Type 0) (tenant : Bool) (t : ℕ) (o : Output) (n : Property) (v : ℕ)
    → ((r : ℕ) → 9 ≤ r → P (unchanged o (Refused r)))
    → (min_over_max (settings_with o.settings n v) ≡ false → inactive_not_below (relay_with o.relay n v) ≡ false → P (done (changed o n v)))
    → P (acted tenant t o (Change n v))
unfolding acted changed_unless when◌then◌else◌
by_change P tenant t o n v refused taken =
    by_bool
    (min_over_max (settings_with o.settings n v))
    (λ e. rw e (refused 13 (omega arith)))
    (λ e. rw e
    (by_bool
    (inactive_not_below (relay_with o.relay n v))
    (λ e'. rw e' (refused 16 (omega arith)))
    (λ e'. rw e' (taken e e'))))

pub acted_sound : (p : Parameters) (tenant : Bool) (t : ℕ) (o : Output) (q : OutputRequest)
    → OutputRequestInRange p q → Sound p t o → Sound p t (acted tenant t o q).output
unfolding acted done unchanged
acted_sound p tenant t o (Write i v) g h = after_events_sound p t _ (written_sound p t o i v g.0 g.1 h)
acted_sound p tenant t o (Empty i) g h = after_events_sound p t _ (slot_relinquished_sound p t o i g h)
acted_sound p tenant t o (Change n v) g h =
    by_change (λ (z : Outcome). Sound p t z.output) tenant t o n v (λ r l. h)
    (λ e e'. after_events_sound p t _ (changed_sound p t o n v g e e' h))
acted_sound p tenant t o (Read n) g h = h
acted_sound p tenant t o (Commands k) g h = after_events_sound p t _ (commanded_sound p t o k g.0 g.1 h)

-- and leaves the relay judged
acted_judged : (tenant : Bool) (t : ℕ) (o : Output) (q : OutputRequest) → Judged o
    → Judged (acted tenant t o q).output
unfolding acted done unchanged
acted_judged tenant t o (Write i v) j = after_events_judged _
acted_judged tenant t o (Empty i) j = after_events_judged _
acted_judged tenant t o (Change n v) j =
    by_change (λ (z : Outcome). Judged z.output) tenant t o n v (λ r l. j) (λ e e'. after_events_judged _)
acted_judged tenant t o (Read n) j = j
acted_judged tenant t o (Commands k) j = after_events_judged _

pub acted_lawful : (p : Parameters) (tenant : Bool) (t : ℕ) (o : Output) (q : OutputRequest)
    → OutputRequestInRange p q → Lawful p t o → Lawful p t (acted tenant t o q).output
acted_lawful p tenant t o q g h =
    record { sound = acted_sound p tenant t o q g h.sound; judged = acted_judged tenant t o q h.judged }
