-- WHAT A COMMAND LEAVES IN THE SLOTS: in slot p what its operation says, slot 6 empty, every other slot as it
-- was.
use Rattle.std.specs.Prelude.{Option, Some, None}
use mathlib.Core.Path.{◌≡◌, refl, sym, ap, ◌∙◌}
use mathlib.Core.Logic.{◌≢◌}
use Prim.Native.Nat.{ℕ, ◌+◌, ◌-◌, min, max}
use native.Mathlib.Omega.{arith}
use lib.Ieee.{Float}
use lib.ListN.{length}
use Rattle.lighting_outputs.specs.Paper.Parameters.{Parameters}
use Rattle.lighting_levels.specs.Paper.Choice.{when◌then◌else◌}
use Rattle.lighting_levels.specs.Paper.Level.{level_units, amount_units}
use Rattle.lighting_outputs.specs.Paper.Slots.{slot_count, slot6, Slots, slot, winner, put, filled}
use Rattle.lighting_outputs.specs.Paper.Value.{clamp_lit, present_value, progress_by, progress_value, in_process}
use Rattle.lighting_outputs.specs.Paper.Passing.{end_movement_of}
use Rattle.lighting_outputs.specs.Paper.Commands.{without_warning, activity_without_warning, replaced, placed, target, faded_over, faded_to, ramped_at, ramped_to, jumped, went_to, step_up_from, step_down_from, stepped_up, stepped_down, raised, halted, as_it_is, stopped, relinquished, effect, commanded_from, commanded}
use Rattle.lighting_outputs.specs.Paper.Record.{with_command}
use Rattle.lighting_outputs.specs.declared.Settings.{Settings}
use Rattle.lighting_outputs.specs.declared.Movement.{Movement}
use Rattle.lighting_outputs.specs.declared.Activity.{Activity}
use Rattle.lighting_outputs.specs.declared.Activity.TheVariants.{Still, Moving, Warned}
use Rattle.lighting_outputs.specs.declared.Duration.{Duration}
use Rattle.lighting_outputs.specs.declared.Operation.{Operation}
use Rattle.lighting_outputs.specs.declared.Operation.TheVariants.{Stop, FadeTo, FadeToOver, RampTo, RampToAtRate, StepUp, StepDown, StepUpBy, StepDownBy, Goto, Relinquish}
use Rattle.lighting_outputs.specs.declared.Effect.{Effect}
use Rattle.lighting_outputs.specs.declared.Output.{Output}
use Rattle.lighting_levels.proofs.Split.{eqb_hit, eqb_miss}
use Rattle.lighting_outputs.proofs.Rules.Facts.{Acts, Sound}
use Rattle.lighting_outputs.proofs.Consequences.Present.{slot_same, slot_other}
use Rattle.lighting_outputs.proofs.Consequences.Movements.{without_warning_size}
use Rattle.lighting_outputs.proofs.Consequences.Warning.{dead_slot}

-- the output after an operation k with a duration d
abbrev pub after : ℕ → Output → Operation → Duration → Output
after t o k d = commanded t o (record { operation = k; duration = d })

-- slot 6 is empty, slot p is x, every other slot as it was; what the command does not speak of stays
pub record Sets (o o' : Output) (y : ℕ) (x : Option ℕ) : Type 0 where
  pub own : slot o'.slots y ≡ x
  pub six : slot o'.slots slot6 ≡ None
  pub rest : (j : ℕ) → j ≢ slot6 → j ≢ y → slot o'.slots j ≡ slot o.slots j
  pub settings : o'.settings ≡ o.settings
  pub burning : o'.burning ≡ o.burning

-- a warning's end
without_warning_six : (p : Parameters) (t : ℕ) (c : Settings) (s : Slots) (a : Activity) → length s.levels ≡ slot_count → Acts p t c s a → slot (without_warning s a) slot6 ≡ None
unfolding without_warning
without_warning_six p t c s Still z h = dead_slot s slot6 z (omega arith) h
without_warning_six p t c s (Moving m) z h = dead_slot s slot6 z (omega arith) h.six
without_warning_six p t c s (Warned w) z h = slot_same s z slot6 None (omega arith)

without_warning_rest : (s : Slots) (a : Activity) (j : ℕ) → length s.levels ≡ slot_count → j ≢ slot6 → slot (without_warning s a) j ≡ slot s j
unfolding without_warning
without_warning_rest s Still j z n = refl
without_warning_rest s (Moving m) j z n = refl
without_warning_rest s (Warned w) j z n = slot_other s z slot6 j None (omega arith) (λ e. n (sym e))

-- STOP, and RELINQUISH's movement, of what was under way
abbrev pub NotMoving : Activity → Type 0
NotMoving Still = Unit {0}
NotMoving (Moving m) = ⊥
NotMoving (Warned w) = Unit {0}

-- 'Without a movement, in a warning too, Progress_Value equals Present_Value'; 'In_Process (1 exactly while a
-- movement lasts, else 0)'
pub progress_present : (t : ℕ) (o : Output) → NotMoving o.activity → progress_value t o ≡ present_value o.settings o.slots
unfolding progress_value
progress_present t o n = go o.activity n
  where
    go : (a : Activity) → NotMoving a → progress_by t (present_value o.settings o.slots) a ≡ present_value o.settings o.slots
    go Still n = unfold progress_by in refl
    go (Moving m) n = elim n [ ]
    go (Warned w) n = unfold progress_by in refl

pub not_in_process : (a : Activity) → NotMoving a → in_process a ≡ 0
unfolding in_process
not_in_process Still n = refl
not_in_process (Moving m) n = elim n [ ]
not_in_process (Warned w) n = refl

stop_own : (t : ℕ) (c : Settings) (f : ℕ) (s : Slots) (a : Activity) (m : Movement) → a ≡ Moving m → m.owner ≡ c.slot
    → effect t c f s (activity_without_warning a) Stop ≡ halted c f s
unfolding effect stopped activity_without_warning when◌then◌else◌
stop_own t c f s a m e w = rw (e, eqb_hit {a = m.owner} {b = c.slot} w)

stop_not_own : (t : ℕ) (c : Settings) (f : ℕ) (s : Slots) (a : Activity) (m : Movement) → a ≡ Moving m → m.owner ≢ c.slot
    → effect t c f s (activity_without_warning a) Stop ≡ as_it_is s (Moving m)
unfolding effect stopped activity_without_warning when◌then◌else◌
stop_not_own t c f s a m e w = rw (e, eqb_miss {a = m.owner} {b = c.slot} w)

stop_none : (t : ℕ) (c : Settings) (f : ℕ) (s : Slots) (a : Activity) → NotMoving a → effect t c f s (activity_without_warning a) Stop ≡ as_it_is s Still
unfolding effect stopped activity_without_warning
stop_none t c f s Still n = refl
stop_none t c f s (Moving m) n = elim n [ ]
stop_none t c f s (Warned w) n = refl

end_movement_of_own : (y : ℕ) (a : Activity) (m : Movement) → a ≡ Moving m → m.owner ≡ y → end_movement_of y (activity_without_warning a) ≡ Still
unfolding end_movement_of activity_without_warning when◌then◌else◌
end_movement_of_own y a m e w = rw (e, eqb_hit {a = m.owner} {b = y} w)

end_movement_of_other : (y : ℕ) (a : Activity) (m : Movement) → a ≡ Moving m → m.owner ≢ y → end_movement_of y (activity_without_warning a) ≡ Moving m
unfolding end_movement_of activity_without_warning when◌then◌else◌
end_movement_of_other y a m e w = rw (e, eqb_miss {a = m.owner} {b = y} w)

module _ (p : Parameters) (t : ℕ) (o : Output) (h : Sound p t o) (d : Duration) where
  abbrev y : ℕ
  y = o.settings.slot

  abbrev before : Slots
  before = without_warning o.slots o.activity

  size : length before.levels ≡ slot_count
  size = without_warning_size o.slots o.activity ∙ h.slots.size

  -- an operation that puts x into slot p
  puts : (k : Operation) (x : Option ℕ)
      → (effect t o.settings (progress_value t o) before (activity_without_warning o.activity) k).slots ≡ put before y x → Sets o (after t o k d) y x
  unfolding commanded commanded_from with_command
  puts k x e =
      record {
        own = rw e (slot_same before size y x h.settings.slot.inside);
        six =
            rw e
            (slot_other before size y slot6 x h.settings.slot.inside h.settings.slot.free
            ∙ without_warning_six p t o.settings o.slots o.activity h.slots.size h.activity);
        rest = λ j m n.
            rw e
            (slot_other before size y j x h.settings.slot.inside (λ q. n (sym q)) ∙ without_warning_rest o.slots o.activity j h.slots.size m);
        settings = refl;
        burning = refl;
      }

  -- 'A target is brought into Min..Max if above zero and put in slot p'
  pub goto : (x : Float) → Sets o (after t o (Goto x) d) y (Some (clamp_lit o.settings (level_units x)))
  goto x = puts (Goto x) (Some _) (unfold effect went_to jumped placed target in refl)

  pub fade_to : (x : Float) → Sets o (after t o (FadeTo x) d) y (Some (clamp_lit o.settings (level_units x)))
  fade_to x = puts (FadeTo x) (Some _) (unfold effect faded_to faded_over placed target in refl)

  pub fade_to_over : (x : Float) (l : ℕ) → Sets o (after t o (FadeToOver x l) d) y (Some (clamp_lit o.settings (level_units x)))
  fade_to_over x l = puts (FadeToOver x l) (Some _) (unfold effect faded_to faded_over placed target in refl)

  pub ramp_to : (x : Float) → Sets o (after t o (RampTo x) d) y (Some (clamp_lit o.settings (level_units x)))
  ramp_to x = puts (RampTo x) (Some _) (unfold effect ramped_to ramped_at placed target in refl)

  pub ramp_to_at_rate : (x r : Float) → Sets o (after t o (RampToAtRate x r) d) y (Some (clamp_lit o.settings (level_units x)))
  ramp_to_at_rate x r = puts (RampToAtRate x r) (Some _) (unfold effect ramped_to ramped_at placed target in refl)

  -- 'Step up: s plus step; step down: s minus step, not below 0; both brought into Min..Max. Step down from s
  -- = 0 stays 0'
  pub step_up : Sets o (after t o StepUp d) y (Some (min o.settings.max (max o.settings.min (progress_value t o + amount_units o.settings.step))))
  step_up = puts StepUp (Some _) (unfold effect stepped_up jumped placed step_up_from in refl)

  pub step_up_by : (x : Float) → Sets o (after t o (StepUpBy x) d) y (Some (min o.settings.max (max o.settings.min (progress_value t o + amount_units x))))
  step_up_by x = puts (StepUpBy x) (Some _) (unfold effect stepped_up jumped placed step_up_from in refl)

  pub step_down : progress_value t o ≢ 0
      → Sets o (after t o StepDown d) y (Some (min o.settings.max (max o.settings.min (progress_value t o - amount_units o.settings.step))))
  step_down n = puts StepDown (Some _) (unfold effect stepped_down jumped placed step_down_from when◌then◌else◌ in (rw (eqb_miss {a = progress_value t o} {b = 0} n)))

  pub step_down_by : (x : Float) → progress_value t o ≢ 0
      → Sets o (after t o (StepDownBy x) d) y (Some (min o.settings.max (max o.settings.min (progress_value t o - amount_units x))))
  step_down_by x n =
      puts (StepDownBy x) (Some _) (unfold effect stepped_down jumped placed step_down_from when◌then◌else◌ in (rw (eqb_miss {a = progress_value t o} {b = 0} n)))

  pub step_down_dark : progress_value t o ≡ 0 → Sets o (after t o StepDown d) y (Some 0)
  step_down_dark e = puts StepDown (Some _) (unfold effect stepped_down jumped placed step_down_from when◌then◌else◌ in (rw (eqb_hit {a = progress_value t o} {b = 0} e)))

  pub step_down_by_dark : (x : Float) → progress_value t o ≡ 0 → Sets o (after t o (StepDownBy x) d) y (Some 0)
  step_down_by_dark x e =
      puts (StepDownBy x) (Some _) (unfold effect stepped_down jumped placed step_down_from when◌then◌else◌ in (rw (eqb_hit {a = progress_value t o} {b = 0} e)))

  -- 'RELINQUISH empties slot p'
  pub relinquish : Sets o (after t o Relinquish d) y None
  relinquish = puts Relinquish None (unfold effect relinquished in refl)

  -- 'STOP: if a movement belongs to p, it ends and slot p gets the reached level, raised to Min if above
  -- zero'
  stop_by : (m : Movement) (v : ℕ) → o.activity ≡ Moving m → m.owner ≡ y → raised o.settings (progress_value t o) ≡ v
      → Sets o (after t o Stop d) y (Some v) × ((after t o Stop d).activity ≡ Still)
  stop_by m v e w r =
      let q = stop_own t o.settings (progress_value t o) before o.activity m e w in (
        puts Stop (Some v) (ap (λ (k : Effect). k.slots) q ∙ (unfold halted in (rw r))),
        unfold commanded commanded_from with_command in (ap (λ (k : Effect). k.activity) q ∙ (unfold halted in refl)),
      )

  pub stop_lit : (m : Movement) → o.activity ≡ Moving m → m.owner ≡ y → progress_value t o ≢ 0
      → Sets o (after t o Stop d) y (Some (max o.settings.min (progress_value t o))) × ((after t o Stop d).activity ≡ Still)
  stop_lit m e w n = stop_by m _ e w (unfold raised when◌then◌else◌ in (rw (eqb_miss {a = progress_value t o} {b = 0} n)))

  pub stop_dark : (m : Movement) → o.activity ≡ Moving m → m.owner ≡ y → progress_value t o ≡ 0
      → Sets o (after t o Stop d) y (Some 0) × ((after t o Stop d).activity ≡ Still)
  stop_dark m e w n = stop_by m _ e w (unfold raised when◌then◌else◌ in (rw (eqb_hit {a = progress_value t o} {b = 0} n)))

  -- 'Else it changes no slot, a warning's end aside', and another slot's movement goes on
  pub stop_other : (m : Movement) → o.activity ≡ Moving m → m.owner ≢ y → ((after t o Stop d).slots ≡ before) × ((after t o Stop d).activity ≡ Moving m)
  unfolding commanded commanded_from with_command
  stop_other m e w =
      let q = stop_not_own t o.settings (progress_value t o) before o.activity m e w in
      (ap (λ (k : Effect). k.slots) q, ap (λ (k : Effect). k.activity) q)

  pub stop_still : NotMoving o.activity → ((after t o Stop d).slots ≡ before) × ((after t o Stop d).activity ≡ Still)
  unfolding commanded commanded_from with_command
  stop_still n =
      let q = stop_none t o.settings (progress_value t o) before o.activity n in
      (ap (λ (k : Effect). k.slots) q, ap (λ (k : Effect). k.activity) q)

  -- a jump of the winner ends the movement; one that does not win leaves it
  pub goto_wins : (x : Float) → winner (after t o (Goto x) d).slots ≡ y → (after t o (Goto x) d).activity ≡ Still
  unfolding commanded commanded_from with_command effect went_to jumped placed replaced when◌then◌else◌
  goto_wins x w = rw (eqb_hit {a = winner (filled before y (target o.settings x))} {b = y} w)

  pub goto_loses : (x : Float) → winner (after t o (Goto x) d).slots ≢ y → (after t o (Goto x) d).activity ≡ activity_without_warning o.activity
  unfolding commanded commanded_from with_command effect went_to jumped placed replaced when◌then◌else◌
  goto_loses x w = rw (eqb_miss {a = winner (filled before y (target o.settings x))} {b = y} w)

  -- 'if p owned the movement, it ends', and no other does
  pub relinquish_own : (m : Movement) → o.activity ≡ Moving m → m.owner ≡ y → (after t o Relinquish d).activity ≡ Still
  unfolding commanded commanded_from with_command effect relinquished
  relinquish_own m e w = end_movement_of_own y o.activity m e w

  pub relinquish_other : (m : Movement) → o.activity ≡ Moving m → m.owner ≢ y → (after t o Relinquish d).activity ≡ Moving m
  unfolding commanded commanded_from with_command effect relinquished
  relinquish_other m e w = end_movement_of_other y o.activity m e w
