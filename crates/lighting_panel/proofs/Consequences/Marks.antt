-- THE MARKS (§8), over every lent table: no frame changes them, and bits at or above the number of stations
-- mean nothing.
use Rattle.std.specs.Prelude.{Result, Ok, Err}
use mathlib.Core.Path.{◌≡◌, refl, ap}
use mathlib.Core.List.{List, [], ◌∷◌}
use Prim.Native.Nat.{ℕ, ◌<◌}
use native.Mathlib.Omega.{arith}
use lib.ListN.{length}
use Rattle.lighting_levels.specs.Paper.Choice.{when◌then◌else◌}
use Rattle.lighting_outputs.specs.Paper.Tenants.{is_tenant}
use Rattle.lighting_outputs.specs.declared.Answer.{Answer}
use Rattle.lighting_frames.specs.Paper.Frames.{Bytes, Octets, Strings}
use Rattle.lighting_frames.specs.declared.Verdict.{Verdict}
use Rattle.lighting_frames.specs.declared.Verdict.TheVariants.{Copied, Clocked, Arrives}
use Rattle.lighting_panel.specs.Paper.Panel.{Panel, PanelRecord, panel_of, panel_result, rules_kept, panel_sound}
use Rattle.lighting_panel.specs.Paper.Demand.{after, answers}
use Rattle.lighting_panel.specs.Engine.Judging.{decide}
use Rattle.lighting_panel.specs.Engine.Executing.{execute, frame_step}
use Rattle.lighting_panel.specs.Engine.VerdictPrecondition.{VerdictPrecondition}
use Rattle.lighting_levels.proofs.Split.{by_bool}
use Rattle.lighting_panel.proofs.Carried.{sound_stations, decide_sure}
use Rattle.lighting_outputs.specs.declared.refusals.Refusal.{Refusal}

-- NO FRAME CHANGES the marks, nor the set: whatever is lent
record Keeps (before now : PanelRecord) : Type 0 where
  tenants : now.tenants ≡ before.tenants
  parameters : now.parameters ≡ before.parameters

execute_keeps : (b : Bytes) (e : Panel) (v : Result Verdict Refusal) → Keeps e.kept (execute b e v).panel.kept
unfolding execute
execute_keeps b e (Err r) = record { tenants = refl; parameters = refl }
execute_keeps b e (Ok (Copied a)) = record { tenants = refl; parameters = refl }
execute_keeps b e (Ok (Clocked t)) = record { tenants = refl; parameters = refl }
execute_keeps b e (Ok (Arrives call)) = record { tenants = refl; parameters = refl }

frame_keeps : (e : Panel) (b : Bytes) → Keeps e.kept (frame_step e b).panel.kept
unfolding frame_step when◌then◌else◌
frame_keeps e b =
    by_bool (panel_sound e)
    (λ h. rw h (execute_keeps b e (decide e b)))
    (λ h. rw h (record { tenants = refl; parameters = refl }))

pub marks_kept : (e : Panel) (b : Bytes) → (frame_step e b).panel.kept.tenants ≡ e.kept.tenants
marks_kept e b = (frame_keeps e b).tenants

-- BITS AT OR ABOVE THE NUMBER OF STATIONS: two words that agree below it
abbrev pub AgreeBelow : ℕ → ℕ → ℕ → Type 0
AgreeBelow stations marks marks' = (n : ℕ) → n < stations → is_tenant marks n ≡ is_tenant marks' n

-- a panel with another word
abbrev pub with_marks : ℕ → Panel → Panel
with_marks marks e =
    panel_of e.outputs e.stations
    (record { time = e.kept.time; parameters = e.kept.parameters; tenants = marks })

execute_beyond : (marks : ℕ) (e : Panel) (b : Bytes) (v : Result Verdict Refusal)
    → VerdictPrecondition e.kept.time (length e.outputs) (length e.stations) b v
    → AgreeBelow (length e.stations) marks e.kept.tenants
    → execute b (with_marks marks e) v ≡ panel_result (with_marks marks (execute b e v).panel) (execute b e v).answer
unfolding execute
execute_beyond marks e b (Err r) g agree = refl
execute_beyond marks e b (Ok (Copied a)) g agree = refl
execute_beyond marks e b (Ok (Clocked t)) g agree = refl
execute_beyond marks e b (Ok (Arrives call)) g agree = rw (agree call.station g.station)

same_sound : (marks : ℕ) (e : Panel) → panel_sound (with_marks marks e) ≡ panel_sound e
unfolding panel_sound rules_kept
same_sound marks e = refl

same_verdict : (marks : ℕ) (e : Panel) (b : Bytes) → decide (with_marks marks e) b ≡ decide e b
unfolding decide
same_verdict marks e b = refl

-- any string of bytes over any lent table leaves and answers the same with either word
pub marks_beyond : (marks : ℕ) (e : Panel) (b : Bytes) → Octets b
    → AgreeBelow e.kept.parameters.stations marks e.kept.tenants
    → frame_step (with_marks marks e) b ≡ panel_result (with_marks marks (frame_step e b).panel) (frame_step e b).answer
unfolding frame_step when◌then◌else◌
marks_beyond marks e b octets agree =
    by_bool (panel_sound e)
    (λ h. rw (same_sound marks e, same_verdict marks e b, h)
    (execute_beyond marks e b (decide e b) (decide_sure e b octets h)
    (λ n below. agree n (omega (arith, sound_stations e h)))))
    (λ h. rw (same_sound marks e, h))

-- so does every list
pub marks_beyond_listed : (marks : ℕ) (e : Panel) (l : List Bytes) → Strings l
    → AgreeBelow e.kept.parameters.stations marks e.kept.tenants
    → (after (with_marks marks e) l ≡ with_marks marks (after e l)) × (answers (with_marks marks e) l ≡ answers e l)
unfolding after answers
marks_beyond_listed marks e [] strings agree = (refl, refl)
marks_beyond_listed marks e (b ∷ l) strings agree =
    let same = marks_beyond marks e b strings.0 agree in
    let kept = frame_keeps e b in
    let next : AgreeBelow (frame_step e b).panel.kept.parameters.stations marks (frame_step e b).panel.kept.tenants =
    rw (kept.parameters, kept.tenants) agree in
    let rest = marks_beyond_listed marks (frame_step e b).panel l strings.1 next in
    rw same (rest.0, ap (λ (given : List Answer). (frame_step e b).answer ∷ given) rest.1)
