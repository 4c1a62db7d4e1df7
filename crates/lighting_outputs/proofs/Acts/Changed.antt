-- Kind 04 keeps the record rules.
use mathlib.Core.Path.{◌≡◌, refl, sym, ◌∙◌}
use mathlib.Core.Bool.{true, false}
use Prim.Native.Nat.{ℕ, ◌%◌, ◌≤◌}
use native.Mathlib.Nat.{mod-eq_of_lt}
use native.Mathlib.Omega.{arith}
use lib.Ieee.{Float}
use lib.ListN.{length}
use Rattle.lighting_levels.specs.Paper.Choice.{when◌then◌else◌}
use Rattle.lighting_outputs.specs.Paper.Parameters.{Parameters}
use Rattle.lighting_levels.specs.Paper.Level.{real}
use Rattle.lighting_outputs.specs.Paper.Slots.{slot_count, Slots, winning_level}
use Rattle.lighting_outputs.specs.Paper.Value.{present_value}
use Rattle.lighting_outputs.specs.Paper.Relay.{inactive_not_below}
use Rattle.lighting_outputs.specs.Paper.Record.{with_settings}
use Rattle.lighting_outputs.specs.Paper.Rows.{row_of, is_amount}
use Rattle.lighting_outputs.specs.Paper.Properties.{same, settings_with, relay_with, end_movement, activity_with, burning_with, changed, min_over_max}
use Rattle.lighting_outputs.specs.declared.Settings.{Settings}
use Rattle.lighting_outputs.specs.declared.Relay.{Relay}
use Rattle.lighting_outputs.specs.declared.Activity.{Activity}
use Rattle.lighting_outputs.specs.declared.Activity.TheVariants.{Still, Moving, Warned}
use Rattle.lighting_outputs.specs.declared.Property.{Property}
use Rattle.lighting_outputs.specs.declared.Property.TheVariants.{RelinquishDefault, FadeTime, RampRate, StepIncrement, BlinkTime, BlinkWarnDelay, MinValue, MaxValue, CommandPriority, ElapsedActiveTime, BinaryActiveValue, BinaryInactiveValue}
use Rattle.lighting_outputs.specs.declared.Range.TheVariants.{Amount}
use Rattle.lighting_outputs.specs.declared.Output.{Output}
use Rattle.lighting_levels.proofs.Split.{by_bool, not_le, not_lt}
use Rattle.lighting_outputs.proofs.Priorities.Winner.{winning_level_live}
use Rattle.lighting_outputs.proofs.Rules.Facts.{Slot, Meets, SettingsInRange, Acts, RelayInRange, Sound}
use Rattle.lighting_outputs.proofs.Rules.Rows.{same_row, kept_met}

-- a REAL, and a slot in its byte
real_kept : (p : Parameters) (field n : Property) (v : ℕ) (old : Float) → row_of p field ≡ Amount → Meets (row_of p n) v → is_amount old ≡ true
    → is_amount (when same field n then real v else old) ≡ true
unfolding when◌then◌else◌
real_kept p field n v old r g h = by_bool (same field n) (λ e. rw e (rw (sym (same_row p field n e) ∙ r) at g)) (λ e. rw e h)

slot_kept : (p : Parameters) (n : Property) (v old : ℕ) → Meets (row_of p n) v → Slot old → Slot (when same CommandPriority n then v % 256 else old)
unfolding when◌then◌else◌
slot_kept p n v old g h =
    by_bool
    (same CommandPriority n)
    (λ e. let k : Slot v = rw (sym (same_row p CommandPriority n e)) at g in rw (e, mod-eq_of_lt {n = v} {m = 256} (omega arith)) k)
    (λ e. rw e h)

relay_kept : (p : Parameters) (r : Relay) (n : Property) (v : ℕ) → Meets (row_of p n) v → inactive_not_below (relay_with r n v) ≡ false → RelayInRange p r
    → RelayInRange p (relay_with r n v)
unfolding relay_with inactive_not_below
relay_kept p r n v g z h =
    record {
      active = kept_met p BinaryActiveValue n v r.active g h.active;
      inactive = kept_met p BinaryInactiveValue n v r.inactive g h.inactive;
      order = not_le z;
    }

settings_kept : (p : Parameters) (c : Settings) (n : Property) (v : ℕ) → Meets (row_of p n) v → min_over_max (settings_with c n v) ≡ false → SettingsInRange p c
    → SettingsInRange p (settings_with c n v)
unfolding settings_with min_over_max
settings_kept p c n v g z h =
    record {
      default = kept_met p RelinquishDefault n v c.default g h.default;
      min = kept_met p MinValue n v c.min g h.min;
      max = kept_met p MaxValue n v c.max g h.max;
      order = not_lt z;
      fade = kept_met p FadeTime n v c.fade g h.fade;
      blink = kept_met p BlinkTime n v c.blink g h.blink;
      delay = kept_met p BlinkWarnDelay n v c.delay g h.delay;
      ramp = real_kept p RampRate n v c.ramp refl g h.ramp;
      step = real_kept p StepIncrement n v c.step refl g h.step;
      slot = slot_kept p n v c.slot g h.slot;
    }

end_movement_acts : (p : Parameters) (t : ℕ) (c c' : Settings) (s : Slots) (a : Activity) → Acts p t c s a → Acts p t c' s (end_movement a)
unfolding end_movement
end_movement_acts p t c c' s Still h = h
end_movement_acts p t c c' s (Moving m) h = h.six
end_movement_acts p t c c' s (Warned w) h = search

-- of the settings a movement looks at Min and Max alone: its owner is live, so Relinquish_Default is not
-- shown
same_acts : (p : Parameters) (t : ℕ) (c c' : Settings) (s : Slots) (a : Activity) → length s.levels ≡ slot_count → c'.min ≡ c.min → c'.max ≡ c.max
    → Acts p t c s a → Acts p t c' s a
unfolding present_value
same_acts p t c c' s Still l z q h = h
same_acts p t c c' s (Moving m) l z q h =
    let e = winning_level_live s l c'.default c.default (omega (arith, h.wins, h.owner)) in
    record {
      six = h.six;
      owner = h.owner;
      wins = h.wins;
      start = omega (arith, h.start);
      aims = h.aims ∙ same e;
      began = h.began;
      long = h.long;
      later = h.later;
    }
  where
    same : winning_level c'.default s ≡ winning_level c.default s → present_value c s ≡ present_value c' s
    same e = unfold Rattle.lighting_outputs.specs.Paper.Value.clamp_lit in rw (z, q, e)
same_acts p t c c' s (Warned w) l z q h = h

-- Min and Max change in a write of their own, which ends a movement
acts_kept : (p : Parameters) (t : ℕ) (c : Settings) (s : Slots) (a : Activity) (n : Property) (v : ℕ) → length s.levels ≡ slot_count → Acts p t c s a
    → Acts p t (settings_with c n v) s (activity_with a n)
unfolding activity_with when◌then◌else◌
acts_kept p t c s a n v l h =
    by_bool
    (same MinValue n)
    (λ e. rw e (end_movement_acts p t c (settings_with c n v) s a h))
    (λ e. by_bool
    (same MaxValue n)
    (λ e'. rw (e, e') (end_movement_acts p t c (settings_with c n v) s a h))
    (λ e'. rw (e, e') (same_acts p t c (settings_with c n v) s a l (unfold settings_with in rw e) (unfold settings_with in rw e') h)))

burning_le : (b : ℕ) (n : Property) → burning_with b n ≤ b
unfolding burning_with when◌then◌else◌
burning_le b n = by_bool (same ElapsedActiveTime n) (λ e. rw e (omega arith)) (λ e. rw e (omega arith))

pub changed_sound : (p : Parameters) (t : ℕ) (o : Output) (n : Property) (v : ℕ) → Meets (row_of p n) v → min_over_max (settings_with o.settings n v) ≡ false
    → inactive_not_below (relay_with o.relay n v) ≡ false → Sound p t o → Sound p t (changed o n v)
unfolding changed with_settings
changed_sound p t o n v g z q h =
    record {
      settings = settings_kept p o.settings n v g z h.settings;
      slots = h.slots;
      activity = acts_kept p t o.settings o.slots o.activity n v h.slots.size h.activity;
      timer = h.timer;
      burnt = omega (arith, burning_le o.burning n, h.burnt);
      relay = relay_kept p o.relay n v g q h.relay;
    }
