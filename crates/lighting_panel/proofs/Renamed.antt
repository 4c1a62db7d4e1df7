-- FRAMES UNDER OTHER NAMES: a list in which each frame is put into another form that is read alike, and in
-- which different frames stay different, finds and answers the same. Nothing here looks at a kind of frame.
use Rattle.std.specs.Prelude.{Result, Ok, Err}
use Rattle.lighting_levels.specs.Paper.Choice.{when◌then◌else◌, Every}
use mathlib.Core.Path.{◌≡◌, refl, ap, ◌∙◌}
use mathlib.Core.List.{List, ◌∷◌, map, []}
use Prim.Native.Nat.{ℕ}
use lib.Dec.{eqb}
use lib.ListN.{length}
use Rattle.lighting_outputs.specs.declared.Parameters.{Parameters}
use Rattle.lighting_frames.specs.Paper.Frames.{Bytes, parse}
use Rattle.lighting_frames.specs.Paper.Copies.{same_bytes}
use Rattle.lighting_panel.specs.Paper.Plain.{Event, clock, first, above, in_time, Latest, latest, judged, PlainState, Reply, plain_execute, plain_frame_step, plain_start}
use Rattle.lighting_panel.specs.Paper.Demand.{plain_after, plain_answers}
use Rattle.lighting_outputs.specs.declared.Answer.{Answer}
use Rattle.lighting_frames.specs.declared.Frame.{Frame}
use Rattle.lighting_frames.specs.declared.Frame.TheVariants.{Clock, Calls}
use Rattle.lighting_frames.specs.declared.Verdict.{Verdict}
use Rattle.lighting_frames.specs.declared.Verdict.TheVariants.{Copied, Clocked, Arrives}
use Rattle.lighting_levels.proofs.Split.{by_bool}
use Rattle.lighting_outputs.specs.declared.refusals.Refusal.{Refusal}

-- a way to rename frames of some sort: they are read alike, and no two become one
pub record Renaming (p : Parameters) (s : Bytes → Bytes) (Sort : Bytes → Type 0) : Type 0 where
  pub alike : (c : ℕ) (b : Bytes) → Sort b → parse p c (s b) ≡ parse p c b
  pub apart : (b b' : Bytes) → Sort b → Sort b' → same_bytes (s b) (s b') ≡ same_bytes b b'
  -- the empty string, which stands where a station has sent nothing
  pub empty : Sort []
  pub nothing : s [] ≡ []

module _ (p : Parameters) (marks : ℕ) (s : Bytes → Bytes) (Sort : Bytes → Type 0) (r : Renaming p s Sort) where
  abbrev rename : Event → Event
  rename (clock t) = clock t
  rename (first k n t b a) = first k n t (s b) a

  abbrev AllPast : List Event → Type 0
  AllPast [] = Unit {0}
  AllPast (clock t ∷ h) = AllPast h
  AllPast (first k n t b a ∷ h) = Sort b × AllPast h

  above_renamed : (k n : ℕ) (h : List Event) → above k n (map rename h) ≡ above k n h
  unfolding above
  above_renamed k n [] = refl
  above_renamed k n (clock t ∷ h) = above_renamed k n h
  above_renamed k n (first k' n' t b a ∷ h) = rw (above_renamed k n h)

  in_time_renamed : (t : ℕ) (h : List Event) → in_time t (map rename h) ≡ in_time t h
  unfolding in_time
  in_time_renamed t [] = refl
  in_time_renamed t (clock t' ∷ h) = rw (in_time_renamed t h)
  in_time_renamed t (first k n t' b a ∷ h) = rw (in_time_renamed t h)

  abbrev rename_latest : Latest → Latest
  rename_latest l = record { answer = l.answer; number = l.number; frame = s l.frame }

  latest_renamed : (k : ℕ) (h : List Event) → latest k (map rename h) ≡ rename_latest (latest k h)
  unfolding latest when◌then◌else◌
  latest_renamed k [] = rw r.nothing
  latest_renamed k (clock t ∷ h) = latest_renamed k h
  latest_renamed k (first k' n t b a ∷ h) = by_bool (eqb k' k) (λ e. rw e) (λ e. rw e (latest_renamed k h))

  latest_sort : (k : ℕ) (h : List Event) → AllPast h → Sort (latest k h).frame
  unfolding latest when◌then◌else◌
  latest_sort k [] g = r.empty
  latest_sort k (clock t ∷ h) g = latest_sort k h g
  latest_sort k (first k' n t b a ∷ h) g = by_bool (eqb k' k) (λ e. rw e g.0) (λ e. rw e (latest_sort k h g.1))

  -- JUDGED ALIKE
  judged_renamed : (h : List Event) (b : Bytes) (f : Result Frame Refusal) → AllPast h → Sort b → judged (map rename h) (s b) f ≡ judged h b f
  unfolding judged
  judged_renamed h b (Err n) g d = refl
  judged_renamed h b (Ok (Clock t)) g d = rw (in_time_renamed t h)
  judged_renamed h b (Ok (Calls call)) g d =
      let k = call.station in
      rw
      (latest_renamed k h, above_renamed k call.number h, in_time_renamed call.time h, r.apart b (latest k h).frame d (latest_sort k h g))

  -- CARRIED OUT ALIKE
  abbrev rename_state : PlainState → PlainState
  rename_state w = record { past = map rename w.past; panel = w.panel }

  execute_renamed : (b : Bytes) (w : PlainState) (v : Result Verdict Refusal)
      → plain_execute marks (s b) (rename_state w) v
      ≡ record { state = rename_state (plain_execute marks b w v).state; answer = (plain_execute marks b w v).answer }
  unfolding plain_execute
  execute_renamed b w (Err n) = refl
  execute_renamed b w (Ok (Copied a)) = refl
  execute_renamed b w (Ok (Clocked t)) = refl
  execute_renamed b w (Ok (Arrives call)) = refl

  execute_sort : (b : Bytes) (w : PlainState) (v : Result Verdict Refusal) → Sort b → AllPast w.past
      → AllPast (plain_execute marks b w v).state.past
  unfolding plain_execute
  execute_sort b w (Err n) d g = g
  execute_sort b w (Ok (Copied a)) d g = g
  execute_sort b w (Ok (Clocked t)) d g = g
  execute_sort b w (Ok (Arrives call)) d g = (d, g)

  step_renamed : (w : PlainState) (b : Bytes) → AllPast w.past → Sort b
      → plain_frame_step p marks (rename_state w) (s b)
      ≡ record { state = rename_state (plain_frame_step p marks w b).state; answer = (plain_frame_step p marks w b).answer }
  unfolding plain_frame_step
  step_renamed w b g d =
      let f = parse p (length w.panel.outputs) b in
      rw (r.alike (length w.panel.outputs) b d, judged_renamed w.past b f g d) (execute_renamed b w (judged w.past b f))

  step_sort : (w : PlainState) (b : Bytes) → AllPast w.past → Sort b
      → AllPast (plain_frame_step p marks w b).state.past
  unfolding plain_frame_step
  step_sort w b g d = execute_sort b w (judged w.past b (parse p (length w.panel.outputs) b)) d g

  -- OVER A LIST
  list_renamed : (w : PlainState) (l : List Bytes) → AllPast w.past → Every Sort l
      → ((plain_after p marks (rename_state w) (map s l)).panel ≡ (plain_after p marks w l).panel)
      × (plain_answers p marks (rename_state w) (map s l) ≡ plain_answers p marks w l)
  unfolding plain_after plain_answers
  list_renamed w [] g d = (refl, refl)
  list_renamed w (b ∷ l) g d =
      let i = list_renamed (plain_frame_step p marks w b).state l (step_sort w b g d.0) d.1 in
      let e = step_renamed w b g d.0 in (
        ap (λ (z : Reply). (plain_after p marks z.state (map s l)).panel) e ∙ i.0,
        ap (λ (z : Reply). z.answer ∷ plain_answers p marks z.state (map s l)) e ∙ ap
            (λ (z : List Answer). (plain_frame_step p marks w b).answer ∷ z) i.1,
      )

  -- from a fresh start
  pub start_renamed : (l : List Bytes) → Every Sort l
      → ((plain_after p marks (plain_start p) (map s l)).panel ≡ (plain_after p marks (plain_start p) l).panel)
      × (plain_answers p marks (plain_start p) (map s l) ≡ plain_answers p marks (plain_start p) l)
  unfolding plain_start
  start_renamed l d = list_renamed (plain_start p) l tt d
