-- FROM THE CALLS TO THE DEMAND: who calls `start` once and `frame` for each string of a list has demand 3.
use mathlib.Core.Path.{◌≡◌, refl, sym, ap, ap₂, ◌∙◌}
use mathlib.Core.List.{List, [], ◌∷◌}
use Prim.Native.Nat.{ℕ}
use Rattle.lighting_outputs.specs.declared.Parameters.{Parameters}
use Rattle.lighting_frames.specs.Paper.Frames.{Bytes, Strings}
use Rattle.lighting_panel.specs.Paper.Panel.{Panel, Step, panel_result, start_step}
use Rattle.lighting_panel.specs.Paper.Plain.{plain_start}
use Rattle.lighting_panel.specs.Paper.Demand.{found_in, found_plain, plain_after, after, answers, Again, end, own}
use Rattle.lighting_panel.specs.Paper.Calls.{Calls, none, call, Concluded, ConcludedAgain}
use Rattle.lighting_outputs.specs.declared.Answer.{Answer}
use Rattle.lighting_outputs.specs.declared.Answer.TheVariants.{Done}
use Rattle.lighting_panel.proofs.Demand.{demand_3, same_found}

-- the calls come to what the list comes to
pub calls_list : {e e' : Panel} {l : List Bytes} {given : List Answer} → Calls e l given e' → (e' ≡ after e l) × (given ≡ answers e l)
unfolding after answers
calls_list none = (refl, refl)
calls_list (call {l = l} {given = given} x z) =
    let i = calls_list z in
    let e₁ = ap (λ (k : Step). k.panel) x in
    let a = ap (λ (k : Step). k.answer) x in
    (i.0 ∙ ap (λ (e : Panel). after e l) e₁, ap₂ (λ (a : Answer) (m : List Answer). a ∷ m) a (i.1 ∙ ap (λ (e : Panel). answers e l) e₁))

-- a start that answered Done, by its contract
answered : (p : Parameters) (marks : ℕ) (e : Panel) {e₀ : Panel} → panel_result e₀ Done ≡ start_step p marks e
    → (start_step p marks e).answer ≡ Done
answered p marks e b = sym (ap (λ (k : Step). k.answer) b)

-- the same after a start
called : (p : Parameters) (marks : ℕ) (e : Panel) {e₀ e' : Panel} {l : List Bytes} {given : List Answer}
    → panel_result e₀ Done ≡ start_step p marks e → Calls e₀ l given e'
    → (e' ≡ after (start_step p marks e).panel l) × (given ≡ answers (start_step p marks e).panel l)
called p marks e b c = rw (← ap (λ (k : Step). k.panel) b) (calls_list c)

-- a list with no frame that comes again
pub once : (seen l : List Bytes) → Again seen l l
once seen [] = end
once seen (b ∷ l) = own (once (b ∷ seen) l)

pub conclude : (p : Parameters) (marks : ℕ) (e e₀ e' : Panel) (l : List Bytes) (given : List Answer) → Strings l
    → panel_result e₀ Done ≡ start_step p marks e → Calls e₀ l given e' → Concluded p marks l given e'
conclude p marks e e₀ e' l given s b c =
    let d = demand_3 p marks e l l (once [] l) s (answered p marks e b) in
    let k = called p marks e b c in
    rw (k.0, k.1)
    (record {
      outputs = d.outputs;
      time = d.time;
      parameters = d.parameters;
      tenants = d.tenants;
      answered = d.answered;
      sound = d.sound;
      never = d.never;
    })

-- so the tables show what the plain panel shows
pub shows : (p : Parameters) (marks : ℕ) (e' : Panel) (l : List Bytes) (given : List Answer)
    → Concluded p marks l given e'
    → found_in e' ≡ found_plain (plain_after p marks (plain_start p) l).panel
shows p marks e' l given c = same_found e' (plain_after p marks (plain_start p) l).panel c.outputs c.time

-- two callers after the same start: the one's list is l, and in the other's frames of it come again
pub conclude_again : (p : Parameters) (marks : ℕ) (e e₀ e' e'' : Panel) (l l' : List Bytes) (r : Again [] l l')
    (given given' : List Answer)
    → Strings l
    → panel_result e₀ Done ≡ start_step p marks e → Calls e₀ l given e' → Calls e₀ l' given' e''
    → ConcludedAgain l l' r given given' e' e''
conclude_again p marks e e₀ e' e'' l l' r given given' s b c c' =
    let d = demand_3 p marks e l l' r s (answered p marks e b) in
    let k = called p marks e b c in
    let k' = called p marks e b c' in
    rw (k.0, k.1, k'.0, k'.1) (record { again = d.again; answered_again = d.answered_again })
