-- §7 AS A THEOREM: the old panel and today's, started with the set 8, its output count, 14,400,000,
-- 86,400,000, find the same, keep the same station records and time and give the same answers after every
-- list without a longer fade time. It is asked of the frames alone to which the old panel answers Done; and
-- on every other list an answer differs.
use mathlib.Core.Path.{◌≡◌, refl, sym, ap, ◌∙◌}
use mathlib.Core.List.{List, [], ◌∷◌}
use lib.ListN.{length, replicate}
use Rattle.lighting_outputs.specs.declared.Parameters.{Parameters}
use Rattle.lighting_outputs.specs.Paper.Parameters.{four_hours}
use Rattle.lighting_frames.specs.Paper.Frames.{Bytes, Strings}
use Rattle.lighting_frames.specs.Paper.Stations.{fresh_station}
use Rattle.lighting_panel.specs.Paper.Panel.{Panel, Station, Step, panel_result, fresh_panel}
use Rattle.lighting_panel.specs.Paper.Plain.{PlainState, plain_start}
use Rattle.lighting_panel.specs.Paper.Demand.{after, answers}
use Rattle.lighting_panel.specs.Paper.Calls.{Calls}
use Rattle.lighting_panel.specs.Paper.OldPanel.{OldPanel, without_set, old_after, old_answers, old_found}
use Rattle.lighting_panel.specs.Paper.FourHours.{NoneLonger, NoneLongerDone, start_now, started_old, AsOld}
use Rattle.lighting_outputs.specs.declared.Answer.{Answer}
use Rattle.lighting_outputs.specs.declared.Answer.TheVariants.{Done}
use Rattle.lighting_outputs.proofs.Rules.Startable.{startable_of}
use Rattle.lighting_panel.proofs.Lists.{joined, Refines, linked_start}
use Rattle.lighting_panel.proofs.Demand.{start_step_fresh}
use Rattle.lighting_panel.proofs.Calls.{calls_list}
use Rattle.lighting_panel.proofs.OldPanel.{StartsAlike, starts_alike}
use Rattle.lighting_panel.proofs.OldLists.{old, listed_as_old, short_as_old}

-- A START THAT ANSWERED DONE: then the old panel's did, and both begin alike
module _ (e : Panel) (isDone : (start_now e).answer ≡ Done) where
  abbrev p : Parameters
  p = four_hours (length e.outputs)

  abbrev begun : PlainState
  begun = plain_start p

  abbrev unheard : List Station
  unheard = replicate 8 fresh_station

  alike_started : StartsAlike e
  alike_started =
      let outputs = (startable_of p (start_step_fresh p 0 e isDone).0).outputs in
      starts_alike e outputs.least outputs.most

  begins : (start_now e).panel ≡ joined p 0 unheard begun
  begins = (start_step_fresh p 0 e isDone).1 ∙ (unfold fresh_panel plain_start in refl)

  begins_old : started_old e ≡ old unheard begun
  begins_old = sym alike_started.panel ∙ ap without_set begins

  linked : Refines p (length e.outputs) unheard begun
  linked = linked_start p (start_step_fresh p 0 e isDone).0

  -- THE THEOREM, for every lent table e on which the start with that set answered Done, and every list l of
  -- strings of bytes in which no frame to which the old panel answers Done carries a longer fade time
  pub as_old : (l : List Bytes) → Strings l → NoneLongerDone l (old_answers (started_old e) l) → AsOld e l
  as_old l strings none =
      let all = listed_as_old (length e.outputs) unheard begun l strings linked (rw begins_old at none) in
      let now = ap (λ (x : Panel). without_set (after x l)) begins in
      let before = sym (ap (λ (x : OldPanel). old_after x l) begins_old) in
      let same : without_set (after (start_now e).panel l) ≡ old_after (started_old e) l = now ∙ all.panel ∙ before in
      record {
        started = sym alike_started.answered ∙ isDone;
        panel = same;
        found = ap old_found same;
        answered =
            ap (λ (x : Panel). answers x l) begins ∙ all.answered ∙ sym (ap (λ (x : OldPanel). old_answers x l) begins_old);
      }

  -- and the premise is what it takes: on every other list some answer differs
  pub as_old_only : (l : List Bytes) → Strings l → answers (start_now e).panel l ≡ old_answers (started_old e) l
      → NoneLongerDone l (old_answers (started_old e) l)
  as_old_only l strings alike =
      let alike-begun = rw (begins, begins_old) at alike in
      rw begins_old (short_as_old (length e.outputs) unheard begun l strings linked (unfold plain_start in tt) alike-begun)

-- so after every list in which no frame at all carries one
pub none_longer : (l : List Bytes) (given : List Answer) → NoneLonger l → NoneLongerDone l given
none_longer [] given none = tt
none_longer (b ∷ l) [] none = tt
none_longer (b ∷ l) (a ∷ given) none = (λ isDone. none.0, none_longer l given none.1)

-- WHO CALLS `start` with that set and then `frame` for each string of the list has the old panel's records,
-- time and answers
pub called_as_old : (e e₀ e' : Panel) (l : List Bytes) (given : List Answer) → Strings l → panel_result e₀ Done ≡ start_now e
    → Calls e₀ l given e' → NoneLongerDone l (old_answers (started_old e) l)
    → (without_set e' ≡ old_after (started_old e) l) × (given ≡ old_answers (started_old e) l)
called_as_old e e₀ e' l given strings start calls none =
    let came = calls_list calls in
    let begun = ap (λ (made : Step). made.panel) start in
    let all = as_old e (sym (ap (λ (made : Step). made.answer) start)) l strings none in (
      ap without_set came.0 ∙ ap (λ (x : Panel). without_set (after x l)) begun ∙ all.panel,
      came.1 ∙ ap (λ (x : Panel). answers x l) begun ∙ all.answered,
    )
