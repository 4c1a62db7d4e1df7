-- AFTER EVERY LIST the last command of each output is one that a string of bytes asks for: so the writer's
-- form of it, read, gives it back (§1: 'A writer makes this form from every command the panel keeps').
use Rattle.std.specs.Prelude.{Result, Ok, Err}
use Rattle.lighting_levels.specs.Paper.Choice.{when◌then◌else◌, Every}
use mathlib.Core.Path.{◌≡◌, refl}
use mathlib.Core.Bool.{Bool}
use mathlib.Core.List.{List, ◌∷◌, ◌++◌, []}
use Prim.Native.Nat.{ℕ, zero, suc, ◌-◌}
use native.Mathlib.Omega.{arith}
use lib.Dec.{eqb, ltb}
use lib.ListN.{length, replicate}
use Rattle.lighting_outputs.specs.declared.Parameters.{Parameters}
use Rattle.lighting_outputs.specs.Paper.Parameters.{fresh_fade}
use Rattle.lighting_levels.specs.Paper.Field.{byte_at, big_endian}
use Rattle.lighting_outputs.specs.Paper.Operations.{fields_of}
use Rattle.lighting_outputs.specs.Paper.Record.{with_burning, with_effect, with_command, with_settings}
use Rattle.lighting_outputs.specs.Paper.Passing.{with_burned, after_events, fire, tick}
use Rattle.lighting_outputs.specs.Paper.Writing.{slot_relinquished}
use Rattle.lighting_outputs.specs.Paper.Commands.{commanded_from, commanded}
use Rattle.lighting_outputs.specs.Paper.Properties.{changed}
use Rattle.lighting_frames.specs.Paper.Kinds.{kind_row}
use Rattle.lighting_outputs.specs.Paper.Fresh.{fresh_with, fresh_for}
use Rattle.lighting_outputs.specs.Paper.Tenants.{is_tenant}
use Rattle.lighting_outputs.specs.Paper.Acting.{done, unchanged, acted}
use Rattle.lighting_frames.specs.Paper.Tags.{command_tags, body_bytes, read_body}
use Rattle.lighting_frames.specs.Paper.Frames.{Bytes, Octets, Strings, tagged_request, request_of, call_of, called, clock_of, parse_by, parse, Kept, asked}
use Rattle.lighting_outputs.specs.Paper.Requests.{level_field_refusal, amount_field_refusal, time_field_refusal, first_refusal, fields_refusal, command_with_duration, command_request_by, command_of, plain_duration, command_request}
use Rattle.lighting_frames.specs.Paper.Copies.{same_bytes, retransmission_or_conflict}
use Rattle.lighting_panel.specs.Paper.Panel.{Panel, start_step}
use Rattle.lighting_panel.specs.Paper.Plain.{Plain, run_plain, Event, above, in_time, latest, judged, PlainState, plain_execute, plain_frame_step, plain_start}
use Rattle.lighting_panel.specs.Paper.Demand.{after, plain_after}
use Rattle.lighting_frames.specs.declared.Action.{Action}
use Rattle.lighting_frames.specs.declared.Action.TheVariants.{Stops}
use Rattle.lighting_outputs.specs.declared.Answer.TheVariants.{Done}
use Rattle.lighting_outputs.specs.declared.Command.{Command}
use Rattle.lighting_frames.specs.declared.Frame.{Frame}
use Rattle.lighting_frames.specs.declared.Frame.TheVariants.{Clock, Calls}
use Rattle.lighting_frames.specs.declared.Kind.{Kind}
use Rattle.lighting_frames.specs.declared.Kind.TheVariants.{NoKind, ClockKind, CallKind}
use Rattle.lighting_outputs.specs.declared.Output.{Output}
use Rattle.lighting_outputs.specs.declared.Outcome.{Outcome}
use Rattle.lighting_outputs.specs.declared.PanelRequest.TheVariants.{ToOutput}
use Rattle.lighting_outputs.specs.declared.OutputRequest.{OutputRequest}
use Rattle.lighting_outputs.specs.declared.OutputRequest.TheVariants.{Write, Empty, Change, Read, Commands}
use Rattle.lighting_frames.specs.declared.Verdict.{Verdict}
use Rattle.lighting_frames.specs.declared.Verdict.TheVariants.{Copied, Clocked, Arrives}
use Rattle.lighting_levels.proofs.Split.{by_bool}
use Rattle.lighting_levels.proofs.Every.{every_then, every_map, every_replicate}
use Rattle.lighting_outputs.proofs.Acts.Acted.{by_change}
use Rattle.lighting_panel.proofs.Table.{served_every}
use Rattle.lighting_frames.proofs.Octets.{appended_octets, repeated_octets}
use Rattle.lighting_frames.proofs.Tagging.Kept.{gives_back}
use Rattle.lighting_panel.proofs.Demand.{demand_3}
use Rattle.lighting_panel.proofs.Calls.{once}
use Rattle.lighting_outputs.proofs.Consequences.Durations.{written_rest}
use Rattle.lighting_outputs.specs.declared.refusals.Refusal.{Refusal}
use Rattle.lighting_outputs.specs.Paper.Answers.{Request}

-- A FRESH OUTPUT'S: 'last operation STOP without duration', which kind 10 with FFFFFFFF asks for
stop : Bytes
stop = replicate 13 0 ++ replicate 4 255

fresh_kept : (p : Parameters) (fade : ℕ) → Kept p (fresh_with fade).last
unfolding stop fresh_with request_of fields_of level_field_refusal amount_field_refusal time_field_refusal first_refusal fields_refusal command_with_duration command_request_by command_of plain_duration command_request big_endian byte_at when◌then◌else◌
fresh_kept p fade = asked Stops stop (appended_octets (replicate 13 0) (replicate 4 255) (repeated_octets 13 0 (omega arith)) (repeated_octets 4 255 (omega arith))) refl

-- WHAT A FRAME ASKS
abbrev Asking : Parameters → Request → Type 0
Asking p r = (k : Command) → r ≡ Ok (ToOutput (Commands k)) → Kept p k

abbrev FrameKept : Parameters → Result Frame Refusal → Type 0
FrameKept p (Err r) = Unit {0}
FrameKept p (Ok (Clock t)) = Unit {0}
FrameKept p (Ok (Calls call)) = Asking p call.request

call_kept : (p : Parameters) (c : ℕ) (action : Action) (b : Bytes) → Octets b → FrameKept p (called p c (call_of p action b))
unfolding called call_of when◌then◌else◌
call_kept p c action b o =
    by_bool (ltb (byte_at b 1) p.stations)
    (λ e. rw e
    (by_bool (eqb (big_endian 4 b 2) 0) (λ e. rw e tt) (λ e. rw e (by_bool (ltb (byte_at b 12) c) (λ e. rw e (λ k r. asked action b o r)) (λ e. rw e tt)))))
    (λ e. rw e tt)

read_kept : (p : Parameters) (c l : ℕ) (kind : Kind) (b : Bytes) → Octets b → FrameKept p (parse_by p c l kind b)
unfolding parse_by clock_of when◌then◌else◌
read_kept p c l NoKind b o = tt
read_kept p c l ClockKind b o = by_bool (eqb (length b) l) (λ e. rw e tt) (λ e. rw e tt)
read_kept p c l (CallKind action) b o = by_bool (eqb (length b) l) (λ e. rw e (call_kept p c action b o)) (λ e. rw e tt)

parse_kept : (p : Parameters) (c : ℕ) (b : Bytes) → Octets b → FrameKept p (parse p c b)
unfolding parse
parse_kept p c b o = read_kept p c (kind_row (byte_at b 0)).length (kind_row (byte_at b 0)).kind b o

abbrev VerdictKept : Parameters → Result Verdict Refusal → Type 0
VerdictKept p (Err r) = Unit {0}
VerdictKept p (Ok (Copied a)) = Unit {0}
VerdictKept p (Ok (Clocked t)) = Unit {0}
VerdictKept p (Ok (Arrives call)) = Asking p call.request

judged_kept : (p : Parameters) (h : List Event) (b : Bytes) (f : Result Frame Refusal) → FrameKept p f → VerdictKept p (judged h b f)
unfolding judged retransmission_or_conflict when◌then◌else◌
judged_kept p h b (Err r) g = tt
judged_kept p h b (Ok (Clock t)) g = by_bool (in_time t h) (λ e. rw e tt) (λ e. rw e tt)
judged_kept p h b (Ok (Calls call)) g =
    let s = call.station in
    let n = call.number in
    by_bool (above s n h)
    (λ e. rw e (by_bool (in_time call.time h) (λ e. rw e g) (λ e. rw e tt)))
    (λ e. rw e
    (by_bool (eqb n (latest s h).number)
    (λ e. rw e (by_bool (same_bytes b (latest s h).frame) (λ e. rw e tt) (λ e. rw e tt)))
    (λ e. rw e tt)))

-- AN OUTPUT KEEPS its last command, but for a new one
tick_last : (t : ℕ) (o : Output) → (tick t o).last ≡ o.last
unfolding tick fire after_events with_burned with_burning
tick_last t o = refl

acted_last : (p : Parameters) (tenant : Bool) (t : ℕ) (o : Output) (q : OutputRequest)
    → Asking p (Ok (ToOutput q)) → Kept p o.last → Kept p (acted tenant t o q).output.last
unfolding acted done unchanged after_events slot_relinquished with_effect changed with_settings commanded commanded_from with_command
acted_last p tenant t o (Write i v) g h = rw (written_rest t o i v).last h
acted_last p tenant t o (Empty i) g h = h
acted_last p tenant t o (Change n v) g h =
    by_change (λ (z : Outcome). Kept p z.output.last) tenant t o n v (λ r l. h) (λ e e'. h)
acted_last p tenant t o (Read n) g h = h
acted_last p tenant t o (Commands k) g h = g k refl

abbrev pub LastKept : Parameters → Output → Type 0
LastKept p o = Kept p o.last

all_run : (p : Parameters) (n : ℕ) (y : Plain) → Every (LastKept p) y.outputs → Every (LastKept p) (run_plain n y).outputs
unfolding run_plain
all_run p zero y h = h
all_run p (suc n) y h = all_run p n _ (every_map (LastKept p) (LastKept p) (tick y.time) y.outputs (λ o k. rw (tick_last y.time o) k) h)

all_execute : (p : Parameters) (marks : ℕ) (b : Bytes) (w : PlainState) (v : Result Verdict Refusal) → VerdictKept p v
    → Every (LastKept p) w.panel.outputs → Every (LastKept p) (plain_execute marks b w v).state.panel.outputs
unfolding plain_execute
all_execute p marks b w (Err r) g h = h
all_execute p marks b w (Ok (Copied a)) g h = h
all_execute p marks b w (Ok (Clocked t)) g h = all_run p (t - w.panel.time) w.panel h
all_execute p marks b w (Ok (Arrives call)) g h =
    let come = run_plain (call.time - w.panel.time) w.panel in
    served_every (LastKept p) (is_tenant marks call.station) come.time come.outputs call.output
    call.request
    (λ q e o k. acted_last p (is_tenant marks call.station) come.time o q (rw e at g) k)
    (all_run p (call.time - w.panel.time) w.panel h)

all_after : (p : Parameters) (marks : ℕ) (w : PlainState) (l : List Bytes) → Strings l
    → Every (LastKept p) w.panel.outputs → Every (LastKept p) (plain_after p marks w l).panel.outputs
unfolding plain_after plain_frame_step
all_after p marks w [] s h = h
all_after p marks w (b ∷ l) s h =
    let f = parse p (length w.panel.outputs) b in
    all_after p marks (plain_frame_step p marks w b).state l s.1
    (all_execute p marks b w (judged w.past b f)
    (judged_kept p w.past b f (parse_kept p (length w.panel.outputs) b s.0))
    h)

-- every output's, after every list
pub last_kept : (p : Parameters) (marks : ℕ) (e : Panel) (l : List Bytes) → Strings l
    → (start_step p marks e).answer ≡ Done → Every (LastKept p) (after (start_step p marks e).panel l).outputs
last_kept p marks e l s h =
    rw (demand_3 p marks e l l (once [] l) s h).outputs
    (all_after p marks (plain_start p) l s
    (unfold plain_start in (every_replicate (LastKept p) (fresh_for p) p.outputs (unfold fresh_for in (fresh_kept p (fresh_fade p))))))

-- so the writer's form of each, read, gives it back
abbrev pub LastGivenBack : Parameters → Output → Type 0
LastGivenBack p o = tagged_request p (read_body (body_bytes (command_tags o.last))) ≡ Ok (Commands o.last)

pub last_given_back : (p : Parameters) (marks : ℕ) (e : Panel) (l : List Bytes) → Strings l
    → (start_step p marks e).answer ≡ Done
    → Every (LastGivenBack p) (after (start_step p marks e).panel l).outputs
last_given_back p marks e l s h =
    let outputs = (after (start_step p marks e).panel l).outputs in
    every_then (LastKept p) (LastGivenBack p) outputs (λ o k. gives_back p o.last k) (last_kept p marks e l s h)
