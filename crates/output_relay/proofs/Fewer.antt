-- THE RULES ON THE RELAY IN FEWER COMPARISONS, as the code tests them. That the inactive value is below the
-- active one comes first: then the active one is not 0, and the inactive one is under 100 percent if the
-- active one is at most that.
use mathlib.Core.Path.{◌≡◌, refl, sym, ◌∙◌}
use mathlib.Core.Bool.{Bool, true, false}
use Prim.Native.Nat.{ℕ, suc, ◌<◌}
use native.Mathlib.Omega.{arith}
use lib.Dec.{ltb, leb, eqb}
use Rattle.lighting_levels.specs.Paper.Choice.{when◌then◌else◌, ◌also◌}
use Rattle.lighting_outputs.specs.declared.Parameters.{Parameters}
use Rattle.lighting_levels.specs.Paper.Level.{least_level, greatest_level}
use Rattle.lighting_outputs.specs.Paper.Rows.{within, is_level, meets}
use Rattle.lighting_outputs.specs.Paper.Relay.{binary_at}
use Rattle.lighting_outputs.specs.Paper.Rules.{agrees, relay_sound}
use Rattle.lighting_outputs.specs.declared.Relay.{Relay}
use Rattle.lighting_levels.proofs.Split.{by_bool, by_le, by_lt, leb_yes, leb_no, eqb_miss}
use Rattle.lighting_outputs.proofs.Rules.Tied.{within_of}

module _ (v : ℕ) (r : Relay) where
  abbrev low : Bool
  low = when eqb r.inactive 0 then true else leb least_level r.inactive

  abbrev binary : Bool
  binary = when r.binary then ltb r.inactive v else ltb v r.active

  active : r.inactive < r.active → within least_level greatest_level r.active ≡ is_level r.active
  unfolding is_level when◌then◌else◌
  active h = rw (eqb_miss {a = r.active} {b = 0} (omega arith))

  inactive : r.inactive < r.active → within least_level greatest_level r.active ≡ true → low ≡ is_level r.inactive
  unfolding is_level within when◌then◌else◌
  inactive h e =
      let top : leb r.inactive greatest_level ≡ true = leb_yes {a = r.inactive} {b = greatest_level} (omega (arith, within_of least_level greatest_level r.active e)) in
      by_bool
      (eqb r.inactive 0)
      (λ f. rw f)
      (λ f. rw f (by_bool (leb least_level r.inactive) (λ g. rw (g, top)) (λ g. rw g)))

  judged : r.inactive < r.active → binary ≡ agrees r.binary (binary_at v r)
  unfolding agrees binary_at when◌then◌else◌
  judged h =
      by_le
      r.active
      v
      (λ l e. rw (e, leb_yes {a = suc r.inactive} {b = v} (omega arith), leb_no {a = suc v} {b = r.active} (omega arith)))
      (λ l e. by_le
      v
      r.inactive
      (λ k f. rw (e, f, leb_no {a = suc r.inactive} {b = v} (omega arith), leb_yes {a = suc v} {b = r.active} (omega arith)))
      (λ k f. rw
      (e, f, leb_yes {a = suc r.inactive} {b = v} (omega arith), leb_yes {a = suc v} {b = r.active} (omega arith))
      (by_bool r.binary (λ g. rw g) (λ g. rw g))))

  -- three tests of which the third fails
  fails : (a b c : Bool) → (a also b also false also c) ≡ false
  unfolding when◌then◌else◌
  fails true true c = refl
  fails true false c = refl
  fails false b c = refl

  all : (p : Parameters) → (ltb r.inactive r.active also within least_level greatest_level r.active also low also binary) ≡ relay_sound p v r
  unfolding relay_sound meets when◌then◌else◌
  all p =
      by_lt
      r.inactive
      r.active
      (λ h e. rw (e, ← active h)
      (by_bool (within least_level greatest_level r.active) (λ f. rw (f, ← inactive h f, judged h)) (λ f. rw f)))
      (λ h e. rw e (sym (fails (is_level r.active) (is_level r.inactive) (agrees r.binary (binary_at v r)))))

  pub fewer : (p : Parameters) (z : Bool) → z ≡ (ltb r.inactive r.active also within least_level greatest_level r.active also low also binary)
      → z ≡ relay_sound p v r
  fewer p z e = e ∙ all p
