-- REFUSAL 1: a kept number out of range, a wrong count, or one record that breaks a rule, wherever it stands
-- in its table: every string of bytes is answered 1, and everything is left. Which sets are out of range and
-- which records break a rule, specs/Paper/WorkedSets.antt and WorkedRules.antt have by number.
use mathlib.Core.Path.{◌≡◌, refl}
use mathlib.Core.Bool.{Bool, true, false}
use mathlib.Core.List.{List, [], ◌∷◌}
use Prim.Native.Nat.{ℕ, zero, suc, ◌<◌}
use native.Mathlib.Omega.{arith}
use lib.ListN.{length, get_or}
use Rattle.lighting_levels.specs.Paper.Choice.{when◌then◌else◌, ◌also◌, every}
use Rattle.lighting_outputs.specs.declared.Parameters.{Parameters}
use Rattle.lighting_frames.specs.Paper.Frames.{Bytes}
use Rattle.lighting_outputs.specs.Paper.Fresh.{fresh_output}
use Rattle.lighting_frames.specs.Paper.Stations.{fresh_station, station_sound}
use Rattle.lighting_outputs.specs.Paper.Rules.{sound}
use Rattle.lighting_outputs.specs.Paper.Startable.{startable}
use Rattle.lighting_panel.specs.Paper.Panel.{Panel, panel_result, counts_sound, rules_kept, panel_sound}
use Rattle.lighting_panel.specs.Engine.Executing.{frame_step}
use Rattle.lighting_outputs.specs.declared.Answer.TheVariants.{Refused}

also_no : (one other : Bool) → other ≡ false → (one also other) ≡ false
unfolding when◌then◌else◌
also_no true other fails = fails
also_no false other fails = refl

also_not : (one other : Bool) → one ≡ false → (one also other) ≡ false
unfolding when◌then◌else◌
also_not one other fails = rw fails

one_not : {A : Type 0} (test : A → Bool) (l : List A) (j : ℕ) (other : A) → j < length l → test (get_or l j other) ≡ false → every test l ≡ false
unfolding every
one_not test [] j other inside fails = absurd (omega arith)
one_not test (x ∷ l) zero other inside fails = also_not (test x) (every test l) fails
one_not test (x ∷ l) (suc j) other inside fails = also_no (test x) (every test l) (one_not test l j other (omega arith) fails)

module _ (e : Panel) (b : Bytes) where
  abbrev p : Parameters
  p = e.kept.parameters

  abbrev One : Type 0
  One = frame_step e b ≡ panel_result e (Refused 1)

  unsound : panel_sound e ≡ false → One
  unfolding frame_step when◌then◌else◌
  unsound broken = rw broken

  -- a kept number out of range, whatever else is lent
  pub bad_parameters : startable p ≡ false → One
  bad_parameters broken = unsound (unfold panel_sound in (also_not _ _ broken))

  unkept : rules_kept p e ≡ false → One
  unkept broken = unsound (unfold panel_sound in (also_no _ _ broken))

  pub bad_counts : counts_sound p (length e.outputs) (length e.stations) ≡ false → One
  bad_counts broken = unkept (unfold rules_kept in (also_not _ _ broken))

  pub bad_output : (j : ℕ) → j < length e.outputs → sound p e.kept.time (get_or e.outputs j fresh_output) ≡ false → One
  bad_output j inside broken =
      unkept (unfold rules_kept in (also_no _ _ (also_not _ _ (one_not (sound p e.kept.time) e.outputs j fresh_output inside broken))))

  pub bad_station : (j : ℕ) → j < length e.stations → station_sound (get_or e.stations j fresh_station) ≡ false → One
  bad_station j inside broken =
      unkept (unfold rules_kept in (also_no _ _ (also_no _ _ (one_not station_sound e.stations j fresh_station inside broken))))
