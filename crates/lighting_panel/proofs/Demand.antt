-- DEMAND 3, whole.
use mathlib.Core.Path.{◌≡◌, refl, ◌∙◌}
use mathlib.Core.Bool.{true}
use mathlib.Core.List.{List, []}
use Prim.Native.Nat.{ℕ}
use native.Mathlib.Omega.{arith}
use lib.ListN.{length, replicate}
use Rattle.lighting_levels.specs.Paper.Choice.{when◌then◌else◌}
use Rattle.lighting_outputs.specs.declared.Parameters.{Parameters}
use Rattle.lighting_frames.specs.Paper.Frames.{Bytes, Strings}
use Rattle.lighting_frames.specs.Paper.Stations.{fresh_station}
use Rattle.lighting_panel.specs.Paper.Panel.{Panel, counts_sound, fresh_panel, start_step}
use Rattle.lighting_panel.specs.Paper.Plain.{Plain, plain_start}
use Rattle.lighting_panel.specs.Paper.Demand.{found_in, found_plain, after, plain_after, plain_answers, Again, NeverOne, Demand}
use Rattle.lighting_outputs.specs.declared.Answer.{Answer}
use Rattle.lighting_outputs.specs.declared.Answer.TheVariants.{Done, Refused}
use Rattle.lighting_levels.proofs.Split.{by_bool}
use Rattle.lighting_outputs.proofs.AnswersApart.{never_bytes}
use Rattle.lighting_outputs.specs.Paper.Startable.{startable}
use Rattle.lighting_outputs.proofs.Acts.Answered.{NotOne}
use Rattle.lighting_levels.proofs.Every.{every_then}
use Rattle.lighting_panel.proofs.Lists.{AllOther, joined, linked_sound, linked_start, listed}
use Rattle.lighting_panel.proofs.Repeats.{repeats_change_nothing}

never_one : (l : List Answer) → AllOther l → NeverOne l
never_one l h = every_then NotOne _ l (λ a k. never_bytes a 1 k.other) h

-- a refusal is not Done
pub never_done : (r : ℕ) → Refused r ≡ Done → ⊥
never_done r impossible = let one : ◌≡◌ {A = ℕ} 0 1 = cc in omega arith

-- a start that answers Done was given a set that may be started, and leaves fresh records
pub start_step_fresh : (p : Parameters) (marks : ℕ) (e : Panel) → (start_step p marks e).answer ≡ Done
    → (startable p ≡ true) × ((start_step p marks e).panel ≡ fresh_panel p marks)
unfolding start_step when◌then◌else◌
start_step_fresh p marks e h =
    by_bool (startable p)
    (λ x. by_bool
    (counts_sound p (length e.outputs) (length e.stations))
    (λ y. (x, rw (x, y)))
    (λ y. absurd (never_done 1 (rw (x, y) at h))))
    (λ x. absurd (never_done 17 (rw x at h)))

-- For EVERY set of parameters, ALL marks and EVERY lent table e on which a start with these answered Done (so
-- the set is one that may be started), EVERY list l of strings of bytes, and EVERY list l' in which frames of
-- l come again, anywhere later and any number of times
pub demand_3 : (p : Parameters) (marks : ℕ) (e : Panel) (l l' : List Bytes) (r : Again [] l l') → Strings l
    → (start_step p marks e).answer ≡ Done → Demand p marks e l l' r
demand_3 p marks e l l' r s h =
    let c = p.outputs in
    let f = start_step_fresh p marks e h in
    let m = linked_start p f.0 in
    let begin : (start_step p marks e).panel ≡ joined p marks (replicate p.stations fresh_station) (plain_start p) =
    f.1 ∙ (unfold fresh_panel plain_start in refl) in
    let i = listed p marks c (replicate p.stations fresh_station) (plain_start p) l s m in
    let j = repeats_change_nothing p marks c (replicate p.stations fresh_station) (plain_start p) r s m in
    record {
      outputs = rw (begin, i.same);
      time = rw (begin, i.same);
      parameters = rw (begin, i.same);
      tenants = rw (begin, i.same);
      answered = rw begin i.answered;
      sound =
          rw (begin, i.same)
          (linked_sound p marks c i.stations (plain_after p marks (plain_start p) l) i.linked);
      never = rw (begin, i.answered) (never_one (plain_answers p marks (plain_start p) l) i.others);
      again = rw begin j.0;
      answered_again = rw begin j.1;
    }

-- the same outputs at the same time: the same is found
pub same_found : (e : Panel) (w : Plain) → e.outputs ≡ w.outputs → e.kept.time ≡ w.time → found_in e ≡ found_plain w
same_found e w y q = rw (y, q)

-- so by demand 3 all that is found is what the plain panel has
pub finds : (p : Parameters) (marks : ℕ) (e : Panel) (l l' : List Bytes) (r : Again [] l l')
    → Demand p marks e l l' r
    → found_in (after (start_step p marks e).panel l) ≡ found_plain (plain_after p marks (plain_start p) l).panel
finds p marks e l l' r d =
    same_found
    (after (start_step p marks e).panel l)
    (plain_after p marks (plain_start p) l).panel
    d.outputs
    d.time
