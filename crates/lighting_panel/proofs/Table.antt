-- All outputs of a table at once: the laws of time passing, of acting and of the record rules that the list
-- theorem stands on. It asks nothing else of an output or of a request.
use mathlib.Core.Path.{◌≡◌, refl, sym, ap, ap₂, ◌∙◌}
use mathlib.Core.Logic.{◌≢◌}
use mathlib.Core.Bool.{Bool, true}
use mathlib.Core.List.{List, [], ◌∷◌, map}
use Prim.Native.Nat.{ℕ, zero, suc, ◌+◌, ◌-◌, ◌≤◌}
use native.Mathlib.Nat.{sub_self}
use native.Mathlib.Omega.{arith}
use lib.Dec.{leb}
use lib.Ieee.{of_bits}
use lib.ListN.{set, get_or, length, replicate, length-set}
use lib.Seq.{get_or-set_other}
use Rattle.std.specs.Prelude.{Ok, Err}
use Rattle.lighting_levels.specs.Paper.Choice.{when◌then◌else◌, all_from, Every, every}
use Rattle.lighting_outputs.specs.declared.Parameters.{Parameters}
use Rattle.lighting_outputs.specs.Paper.Parameters.{fresh_fade}
use Rattle.lighting_levels.specs.Paper.Level.{real, amount_of, in_range}
use Rattle.lighting_outputs.specs.Paper.Slots.{view, slots_of, is_live, first_live, winner, level_at, winning_level}
use Rattle.lighting_outputs.specs.Paper.Value.{clamp_lit, present_value}
use Rattle.lighting_outputs.specs.Paper.Relay.{binary_at}
use Rattle.lighting_outputs.specs.Engine.Advance.{greatest_count, advance}
use Rattle.lighting_outputs.specs.Paper.Passing.{tick, ticks}
use Rattle.lighting_outputs.specs.Paper.Rows.{within, is_level, is_amount, is_slot, meets}
use Rattle.lighting_outputs.specs.Paper.Rules.{levels_sound, times_sound, reals_sound, settings_sound, slot_sound, slots_sound, activity_by, activity_sound, timer_sound, agrees, relay_sound, sound}
use Rattle.lighting_outputs.specs.Paper.Fresh.{fresh_settings, fresh_relay, fresh_with, fresh_for, fresh_output}
use Rattle.lighting_outputs.specs.Paper.Acting.{served, acted}
use Rattle.lighting_panel.specs.Paper.Plain.{Plain, run_plain}
use Rattle.lighting_outputs.specs.declared.PanelRequest.TheVariants.{ToOutput}
use Rattle.lighting_outputs.specs.declared.OutputRequest.{OutputRequest}
use Rattle.lighting_outputs.specs.declared.Output.{Output}
use Rattle.lighting_levels.proofs.Split.{leb_yes}
use Rattle.lighting_levels.proofs.Every.{every_map, every_set, every_replicate, every_tested}
use Rattle.lighting_outputs.proofs.Time.Passing.{advance_ticks}
use Rattle.lighting_outputs.proofs.Rules.Facts.{Lawful}
use Rattle.lighting_outputs.proofs.Rules.Startable.{Startable}
use Rattle.lighting_outputs.proofs.Rules.Tied.{sound_facts, facts_sound, sound_calm}
use Rattle.lighting_outputs.proofs.Time.Ticking.{advance_sound}
use Rattle.lighting_outputs.proofs.Rules.RequestInRange.{RequestInRange}
use Rattle.lighting_outputs.proofs.Acts.Acted.{acted_lawful}
use Rattle.lighting_outputs.proofs.Acts.Answered.{NotOne, acted_not_one}
use Rattle.lighting_outputs.specs.Paper.Answers.{Request}

abbrev pub AllSound : Parameters → ℕ → List Output → Type 0
AllSound p t l = Every (Lawful p t) l

-- THE RULES
pub all_tested : (p : Parameters) (t : ℕ) (l : List Output) → AllSound p t l → every (sound p t) l ≡ true
all_tested p t l a = every_tested (Lawful p t) (sound p t) l (facts_sound p t) a

fresh_tested : (p : Parameters) → Startable p → sound p 0 (fresh_for p) ≡ true
unfolding when◌then◌else◌ all_from real of_bits amount_of in_range view slots_of is_live first_live winner level_at winning_level clamp_lit present_value within is_level is_amount is_slot meets levels_sound times_sound reals_sound settings_sound slot_sound slots_sound activity_by activity_sound timer_sound agrees binary_at relay_sound sound fresh_settings fresh_relay fresh_with fresh_for
fresh_tested p allowed =
    let short : leb 100 (fresh_fade p) ≡ true = leb_yes {a = 100} {b = fresh_fade p} (omega (arith, allowed.fade)) in
    let long : leb (fresh_fade p) p.fade ≡ true = leb_yes {a = fresh_fade p} {b = p.fade} (omega arith) in
    rw (short, long)

fresh_sound : (p : Parameters) → Startable p → Lawful p 0 (fresh_for p)
fresh_sound p allowed = sound_facts p 0 (fresh_for p) (unfold fresh_for fresh_with in refl) (fresh_tested p allowed)

pub all_fresh : (p : Parameters) → Startable p → (c : ℕ) → AllSound p 0 (replicate c (fresh_for p))
all_fresh p allowed c = every_replicate (Lawful p 0) (fresh_for p) c (fresh_sound p allowed)

-- TIME: the plain panel's milliseconds are the engine's way
map_none : (t : ℕ) (l : List Output) → l ≡ map (ticks zero t) l
unfolding ticks
map_none t [] = refl
map_none t (o ∷ l) = ap (λ (k : List Output). o ∷ k) (map_none t l)

map_more : (n t : ℕ) (l : List Output) → map (ticks n (suc t)) (map (tick t) l) ≡ map (ticks (suc n) t) l
unfolding ticks
map_more n t [] = refl
map_more n t (o ∷ l) = ap (λ (k : List Output). ticks n (suc t) (tick t o) ∷ k) (map_more n t l)

map_advance : (p : Parameters) (now to : ℕ) (l : List Output) → now ≤ to → to ≤ greatest_count → AllSound p now l → map (ticks (to - now) now) l ≡ map (advance now to) l
map_advance p now to [] h b a = refl
map_advance p now to (o ∷ l) h b a =
    ap₂
    (λ (x : Output) (k : List Output). x ∷ k)
    (sym (advance_ticks now to o h b (sound_calm p now o a.0)))
    (map_advance p now to l h b a.1)

run_plain_ticks : (n : ℕ) (z : Plain) → run_plain n z ≡ record { outputs = map (ticks n z.time) z.outputs; time = z.time + n }
unfolding run_plain
run_plain_ticks zero z =
    ap₂
    (λ (l : List Output) (t : ℕ). record { outputs = l; time = t })
    (map_none z.time z.outputs)
    (omega arith)
run_plain_ticks (suc n) z =
    run_plain_ticks n (record { outputs = map (tick z.time) z.outputs; time = suc z.time })
    ∙ ap₂
    (λ (l : List Output) (t : ℕ). record { outputs = l; time = t })
    (map_more n z.time z.outputs)
    (omega arith)

pub run_plain_advance : (p : Parameters) (t : ℕ) (z : Plain) → z.time ≤ t → t ≤ greatest_count → AllSound p z.time z.outputs
    → run_plain (t - z.time) z ≡ record { outputs = map (advance z.time t) z.outputs; time = t }
run_plain_advance p t z h b a =
    run_plain_ticks (t - z.time) z
    ∙ ap₂
    (λ (l : List Output) (t : ℕ). record { outputs = l; time = t })
    (map_advance p z.time t z.outputs h b a)
    (omega arith)

pub advance_here : (p : Parameters) (t : ℕ) (l : List Output) → t ≤ greatest_count → AllSound p t l → map (advance t t) l ≡ l
advance_here p t l b a =
    sym (map_advance p t t l (omega arith) b a) ∙ rw (sub_self t) (sym (map_none t l))

pub all_advance : (p : Parameters) (now to : ℕ) (l : List Output) → now ≤ to → to ≤ greatest_count → AllSound p now l → AllSound p to (map (advance now to) l)
all_advance p now to l h b a = every_map (Lawful p now) (Lawful p to) (advance now to) l (λ o k. advance_sound p now to o h b k) a

-- ACTING: the laws of `served`. A request to the table is a clause more of `served_leaves` and of
-- `served_not_one`. Nothing above looks into a request

-- what a request leaves of the outputs: all as they were, or the frame's own one acted on
data Leaves (tenant : Bool) (t : ℕ) (l : List Output) (i : ℕ) (r : Request) : List Output → Type 0 where
  all : Leaves tenant t l i r l
  own : (q : OutputRequest) → r ≡ Ok (ToOutput q)
      → Leaves tenant t l i r (set l i (acted tenant t (get_or l i fresh_output) q).output)

served_leaves : (tenant : Bool) (t : ℕ) (l : List Output) (i : ℕ) (r : Request)
    → Leaves tenant t l i r (served tenant t l i r).outputs
unfolding served
served_leaves tenant t l i (Err n) = all
served_leaves tenant t l i (Ok (ToOutput q)) = own q refl

-- as many outputs as before
leaves_length : {tenant : Bool} {t i : ℕ} {l l' : List Output} {r : Request} → Leaves tenant t l i r l'
    → length l' ≡ length l
leaves_length all = refl
leaves_length {i = i} {l = l} (own q e) = length-set l i _

pub served_length : (tenant : Bool) (t : ℕ) (l : List Output) (i : ℕ) (r : Request)
    → length (served tenant t l i r).outputs ≡ length l
served_length tenant t l i r = leaves_length (served_leaves tenant t l i r)

-- what every output keeps, whatever is asked of it, every output of the table keeps
leaves_every : {tenant : Bool} {t i : ℕ} {l l' : List Output} {r : Request} (P : Output → Type 0)
    → Leaves tenant t l i r l'
    → ((q : OutputRequest) → r ≡ Ok (ToOutput q) → (o : Output) → P o → P (acted tenant t o q).output)
    → Every P l → Every P l'
leaves_every P all k a = a
leaves_every {i = i} {l = l} P (own q e) k a = every_set P l i fresh_output _ (k q e (get_or l i fresh_output)) a

pub served_every : (P : Output → Type 0) (tenant : Bool) (t : ℕ) (l : List Output) (i : ℕ) (r : Request)
    → ((q : OutputRequest) → r ≡ Ok (ToOutput q) → (o : Output) → P o → P (acted tenant t o q).output)
    → Every P l → Every P (served tenant t l i r).outputs
served_every P tenant t l i r k a = leaves_every P (served_leaves tenant t l i r) k a

-- an output that the frame does not name stays as it is
leaves_other : {tenant : Bool} {t i : ℕ} {l l' : List Output} {r : Request} (j : ℕ) → Leaves tenant t l i r l'
    → j ≢ i → get_or l' j fresh_output ≡ get_or l j fresh_output
leaves_other j all h = refl
leaves_other {i = i} {l = l} j (own q e) h = get_or-set_other l i j _ fresh_output h

pub served_other : (tenant : Bool) (t : ℕ) (l : List Output) (i j : ℕ) (r : Request) → j ≢ i
    → get_or (served tenant t l i r).outputs j fresh_output ≡ get_or l j fresh_output
served_other tenant t l i j r h = leaves_other j (served_leaves tenant t l i r) h

pub served_not_one : (p : Parameters) (tenant : Bool) (t : ℕ) (l : List Output) (i : ℕ) (r : Request)
    → RequestInRange p r → NotOne (served tenant t l i r).answer
unfolding served
served_not_one p tenant t l i (Err n) g = record { other = omega arith }
served_not_one p tenant t l i (Ok (ToOutput q)) g = acted_not_one tenant t (get_or l i fresh_output) q

pub served_sound : (p : Parameters) (tenant : Bool) (t : ℕ) (l : List Output) (i : ℕ) (r : Request)
    → RequestInRange p r → AllSound p t l → AllSound p t (served tenant t l i r).outputs
served_sound p tenant t l i r g a =
    served_every (Lawful p t) tenant t l i r (λ q e o h. acted_lawful p tenant t o q (rw e at g) h) a
