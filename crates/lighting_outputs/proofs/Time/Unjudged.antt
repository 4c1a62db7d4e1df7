-- TICKS OF AN OUTPUT WHOSE RELAY NEED NOT HAVE BEEN JUDGED (§3), as between an act and its judging: but for
-- the relay they come to what they come to of a judged one. What is said of levels over time stands on this.
use mathlib.Core.Path.{◌≡◌, sym, ap, ◌∙◌}
use Prim.Native.Nat.{ℕ, zero, suc, ◌+◌}
use native.Mathlib.Omega.{arith}
use Rattle.lighting_outputs.specs.Paper.Value.{present_value}
use Rattle.lighting_outputs.specs.Paper.Relay.{switched}
use Rattle.lighting_outputs.specs.Paper.Record.{with_relay}
use Rattle.lighting_outputs.specs.Paper.Passing.{with_burned, after_events, fire, tick, ticks}
use Rattle.lighting_outputs.specs.declared.Relay.{Relay}
use Rattle.lighting_outputs.specs.declared.Output.{Output}
use Rattle.lighting_outputs.proofs.Time.Judged.{after_events_judged}
use Rattle.lighting_outputs.proofs.Time.Passing.{After, earlier, only_judges, with_burned_zero, with_burned_with_burned, with_burned_with_relay, with_burned_after, one_more, quiet_ticks, ticks_add}

-- with whichever relay, so with its own
own_relay : (o b : Output) (r : Relay) → o ≡ with_relay b r → o ≡ with_relay b o.relay
own_relay o b r e = e ∙ ap (λ (z : Output). with_relay b z.relay) (let f : with_relay b r ≡ o = rw e in f)

with_burned_after_events : (from n : ℕ) (o : Output) → with_burned from n (after_events o) ≡ with_relay (with_burned from n o) (after_events o).relay
unfolding after_events
with_burned_after_events from n o = with_burned_with_relay from n o (switched (present_value o.settings o.slots) o.relay)

after_events_after : (t : ℕ) (o : Output) → After t o → After t (after_events o)
unfolding after_events
after_events_after t o a = record { all = a.all }

-- n MILLISECONDS in which nothing falls due
pub quiet_but_relay : (n t : ℕ) (o : Output) → After (t + n) o → ticks n t o ≡ with_relay (with_burned t n o) (ticks n t o).relay
unfolding ticks tick
quiet_but_relay zero t o a = rw (with_burned_zero t o)
quiet_but_relay (suc n) t o a =
    let b = with_burned t 1 o in
    let a₁ : After (suc t) b = with_burned_after (suc t) t 1 o (earlier o (omega arith) a) in
    let a₂ : After (suc t + n) b = with_burned_after (suc t + n) t 1 o (earlier o (omega arith) a) in
    own_relay
    (ticks n (suc t) (fire (suc t) b))
    (with_burned t (suc n) o)
    (after_events b).relay
    (ap (λ (z : Output). ticks n (suc t) z) (only_judges (suc t) b a₁)
    ∙ quiet_ticks n (suc t) (after_events b) (after_events_after (suc t + n) b a₂) (after_events_judged b)
    ∙ with_burned_after_events (suc t) n b
    ∙ ap (λ (z : Output). with_relay z (after_events b).relay) (one_more n t o))

-- and one more, at which something may
pub step_but_relay : (n t : ℕ) (o : Output) → After (t + n) o
    → ticks (suc n) t o ≡ fire (suc (t + n)) (with_relay (with_burned t (suc n) o) (ticks n t o).relay)
unfolding ticks tick
step_but_relay n t o a =
    ap (λ (k : ℕ). ticks k t o) more
    ∙ ticks_add n 1 t o
    ∙ ap (λ (z : Output). fire (suc (t + n)) (with_burned (t + n) 1 z)) (quiet_but_relay n t o a)
    ∙ ap (fire (suc (t + n))) burned
  where
    more : suc n ≡ n + 1
    more = omega arith

    burned : with_burned (t + n) 1 (with_relay (with_burned t n o) (ticks n t o).relay) ≡ with_relay (with_burned t (suc n) o) (ticks n t o).relay
    burned =
        with_burned_with_relay (t + n) 1 (with_burned t n o) (ticks n t o).relay
        ∙ ap (λ (z : Output). with_relay z (ticks n t o).relay) (with_burned_with_burned t n 1 o ∙ ap (λ (k : ℕ). with_burned t k o) (sym more))
