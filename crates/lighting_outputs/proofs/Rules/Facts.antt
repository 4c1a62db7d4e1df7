-- The record rules as facts, which the theorems use.
use Rattle.std.specs.Prelude.{Option, Some, None}
use mathlib.Core.Path.{◌≡◌}
use mathlib.Core.Logic.{◌≢◌}
use mathlib.Core.Bool.{true, false}
use Prim.Native.Nat.{ℕ, ◌+◌, ◌-◌, ◌*◌, ◌≤◌, ◌<◌, min}
use lib.ListN.{length}
use Rattle.lighting_outputs.specs.Paper.Parameters.{Parameters, longest_movement}
use Rattle.lighting_outputs.specs.declared.Settings.{Settings}
use Rattle.lighting_outputs.specs.declared.Relay.{Relay}
use Rattle.lighting_outputs.specs.declared.Movement.{Movement}
use Rattle.lighting_outputs.specs.declared.Warning.{Warning}
use Rattle.lighting_outputs.specs.declared.Activity.{Activity}
use Rattle.lighting_outputs.specs.declared.Activity.TheVariants.{Still, Moving, Warned}
use Rattle.lighting_outputs.specs.declared.Timer.{Timer}
use Rattle.lighting_outputs.specs.declared.Output.{Output}
use Rattle.lighting_outputs.specs.Paper.Slots.{Slots, slot_count, slot16, slot6, is_live, winner, slot}
use Rattle.lighting_outputs.specs.Paper.Value.{present_value}
use Rattle.lighting_outputs.specs.Paper.Relay.{binary_at}
use Rattle.lighting_outputs.specs.Paper.Passing.{phase_end}
use Rattle.lighting_levels.specs.Paper.Level.{least_level, greatest_level, real}
use Rattle.lighting_outputs.specs.Paper.Rows.{row_of, is_amount}
use Rattle.lighting_outputs.specs.declared.Range.{Range}
use Rattle.lighting_outputs.specs.declared.Range.TheVariants.{Percent, Limit, Amount, Whole, Priority, ReadOnly}
use Rattle.lighting_outputs.specs.declared.Property.TheVariants.{RelinquishDefault, FadeTime, BlinkTime, BlinkWarnDelay, MinValue, MaxValue, CommandPriority, BinaryActiveValue, BinaryInactiveValue}

-- 0, or 1 to 100 percent: in a form that `omega` reads
pub record IsLevel (v : ℕ) : Type 0 where
  pub least : least_level * min 1 v ≤ v
  pub most : v ≤ greatest_level

pub record Within (low high v : ℕ) : Type 0 where
  pub least : low ≤ v
  pub most : v ≤ high

pub record Slot (i : ℕ) : Type 0 where
  pub inside : i < slot_count
  pub free : i ≢ slot6

-- what is kept meets its property's row
abbrev pub Meets : Range → ℕ → Type 0
Meets Percent v = IsLevel v
Meets Limit v = Within least_level greatest_level v
Meets Amount v = is_amount (real v) ≡ true
Meets (Whole low high) v = Within low high v
Meets Priority v = Slot v
Meets ReadOnly v = ⊥

pub record SettingsInRange (p : Parameters) (c : Settings) : Type 0 where
  pub default : Meets (row_of p RelinquishDefault) c.default
  pub min : Meets (row_of p MinValue) c.min
  pub max : Meets (row_of p MaxValue) c.max
  pub order : c.min ≤ c.max
  pub fade : Meets (row_of p FadeTime) c.fade
  pub blink : Meets (row_of p BlinkTime) c.blink
  pub delay : Meets (row_of p BlinkWarnDelay) c.delay
  pub ramp : is_amount c.ramp ≡ true
  pub step : is_amount c.step ≡ true
  pub slot : Meets (row_of p CommandPriority) c.slot

abbrev pub SlotLevel : Option ℕ → Type 0
SlotLevel None = Unit {0}
SlotLevel (Some v) = IsLevel v

pub record Filled (s : Slots) : Type 0 where
  pub size : length s.levels ≡ slot_count
  pub level : (i : ℕ) → i < slot_count → SlotLevel (slot s i)

pub record Moves (p : Parameters) (t : ℕ) (c : Settings) (s : Slots) (m : Movement) : Type 0 where
  pub six : is_live s slot6 ≡ false
  pub owner : m.owner < slot_count
  pub wins : m.owner ≡ winner s
  pub start : m.start ≤ c.max
  pub aims : m.target ≡ present_value c s
  pub began : m.over - t ≤ m.length
  pub long : Within 1 (longest_movement p) m.length
  pub later : t < m.over

pub record Warns (t : ℕ) (s : Slots) (w : Warning) : Type 0 where
  pub six : is_live s slot6 ≡ true
  pub owner : Within (slot6 + 1) slot16 w.owner
  pub level : IsLevel w.level
  pub later : t < phase_end w w.phase
  pub order : phase_end w w.phase ≤ w.over

abbrev pub Acts : Parameters → ℕ → Settings → Slots → Activity → Type 0
Acts p t c s Still = is_live s slot6 ≡ false
Acts p t c s (Moving m) = Moves p t c s m
Acts p t c s (Warned w) = Warns t s w

abbrev pub Timed : ℕ → Option Timer → Type 0
Timed t None = Unit {0}
Timed t (Some timer) = Slot timer.slot × (t < timer.due)

pub record RelayInRange (p : Parameters) (r : Relay) : Type 0 where
  pub active : Meets (row_of p BinaryActiveValue) r.active
  pub inactive : Meets (row_of p BinaryInactiveValue) r.inactive
  pub order : r.inactive < r.active

-- all the rules but the last
pub record Sound (p : Parameters) (t : ℕ) (o : Output) : Type 0 where
  pub settings : SettingsInRange p o.settings
  pub slots : Filled o.slots
  pub activity : Acts p t o.settings o.slots o.activity
  pub timer : Timed t o.timer
  pub burnt : o.burning ≤ t
  pub relay : RelayInRange p o.relay

-- the last: the relay is as judging leaves it (§3). Between an act and its judging the others hold without it
pub record Judged (o : Output) : Type 0 where
  pub same : o.relay.binary ≡ binary_at (present_value o.settings o.slots) o.relay

pub record Lawful (p : Parameters) (t : ℕ) (o : Output) : Type 0 where
  pub sound : Sound p t o
  pub judged : Judged o
