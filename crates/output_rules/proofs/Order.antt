-- The record rules in the order in which the code tests them: those on the slots, the only ones that copy
-- anything, come last.
use mathlib.Core.Path.{◌≡◌, refl, sym, ap, ◌∙◌}
use mathlib.Core.Bool.{Bool, true, false}
use Prim.Native.Nat.{ℕ}
use lib.Dec.{leb}
use Rattle.lighting_levels.specs.Paper.Choice.{when◌then◌else◌, ◌also◌}
use Rattle.lighting_outputs.specs.Paper.Slots.{is_live, slot6, winner}
use Rattle.lighting_outputs.specs.Paper.Value.{present_value}
use Rattle.lighting_outputs.specs.Paper.Rules.{settings_sound, slots_sound, activity_by, activity_sound, timer_sound, relay_sound, sound}
use Rattle.lighting_outputs.specs.declared.Output.{Output}
use Rattle.lighting_outputs.specs.declared.Parameters.{Parameters}

swapped : (a b : Bool) → (a also b) ≡ (b also a)
unfolding when◌then◌else◌
swapped true true = refl
swapped true false = refl
swapped false true = refl
swapped false false = refl

grouped : (a b c : Bool) → ((a also b) also c) ≡ (a also (b also c))
unfolding when◌then◌else◌
grouped true b c = refl
grouped false b c = refl

reversed : (a b c d e : Bool) → (e also d also c also b also a) ≡ (a also b also c also d also e)
reversed a b c d e =
    sym
    (swapped a (b also c also d also e)
    ∙ ap
    (λ (x : Bool). x also a)
    (swapped b (c also d also e) ∙ ap (λ (x : Bool). x also b) (swapped c (d also e) ∙ ap (λ (x : Bool). x also c) (swapped d e)))
    ∙ grouped ((e also d) also c) b a
    ∙ grouped (e also d) c (b also a)
    ∙ grouped e d (c also b also a))

-- v is Present_Value
pub in_order :
    (p : Parameters) (t : ℕ) (o : Output) (v : ℕ) (r : Bool) →
    v ≡ present_value o.settings o.slots →
    r
    ≡ (settings_sound p o.settings
    also relay_sound p v o.relay
    also leb o.burning t
    also timer_sound t o.timer
    also activity_by p t (is_live o.slots slot6) (winner o.slots) o.settings.max v o.activity
    also slots_sound o.slots) →
    r ≡ sound p t o
unfolding sound activity_sound
in_order p t o v r q e =
    e
    ∙ ap
    (λ (x : Bool). settings_sound p o.settings also x)
    (rw q
    (reversed
    (slots_sound o.slots)
    (activity_by p t (is_live o.slots slot6) (winner o.slots) o.settings.max (present_value o.settings o.slots) o.activity)
    (timer_sound t o.timer)
    (leb o.burning t)
    (relay_sound p (present_value o.settings o.slots) o.relay)))

-- where it has not been looked up: f is what the test of the settings said
pub settings_first :
    (p : Parameters) (t : ℕ) (o : Output) (f r : Bool) → f ≡ settings_sound p o.settings → f ≡ false → r ≡ false → r ≡ sound p t o
unfolding sound when◌then◌else◌
settings_first p t o f r q h e = e ∙ rw (sym q ∙ h)
