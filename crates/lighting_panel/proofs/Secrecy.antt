-- §8, THE CLAIM OF SECRECY: two panels that are alike in all that Secrecy.antt names give a tenant's kind 05
-- the same answer, EVERY string of bytes of that kind.
use Rattle.std.specs.Prelude.{Result, Ok, Err}
use mathlib.Core.Path.{◌≡◌, refl, sym, ap, ◌∙◌}
use mathlib.Core.Logic.{◌≢◌}
use mathlib.Core.Bool.{true, false, false≢true}
use mathlib.Core.List.{List}
use Prim.Native.Nat.{ℕ, ◌≤◌, ◌<◌}
use native.Mathlib.Omega.{arith}
use lib.Dec.{ltb, eqb}
use lib.ListN.{get_or, length}
use Rattle.lighting_levels.specs.Paper.Choice.{when◌then◌else◌}
use Rattle.lighting_levels.specs.Paper.Field.{byte_at, big_endian}
use Rattle.lighting_outputs.specs.declared.Parameters.{Parameters}
use Rattle.lighting_outputs.specs.Engine.Advance.{advance}
use Rattle.lighting_outputs.specs.Paper.Fresh.{fresh_output}
use Rattle.lighting_outputs.specs.Paper.Tenants.{is_tenant, for_tenant}
use Rattle.lighting_outputs.specs.Paper.Properties.{property_of, read_property}
use Rattle.lighting_outputs.specs.Paper.Acting.{unchanged, acted, served}
use Rattle.lighting_outputs.specs.Paper.Learnt.{Learnt, the_settings, the_relay_settings, the_slots, the_last_command, the_process, the_binary_value, the_burning_time, the_present_value, the_progress_value, AlikeIn}
use Rattle.lighting_outputs.specs.Paper.Answers.{answer_bytes}
use Rattle.lighting_outputs.specs.declared.Answer.{Answer}
use Rattle.lighting_frames.specs.Paper.Kinds.{kind_row}
use Rattle.lighting_frames.specs.Paper.Frames.{Bytes, Octets, request_of, call_of, called, parse_by, parse}
use Rattle.lighting_frames.specs.Paper.Stations.{fresh_station}
use Rattle.lighting_frames.specs.declared.Action.TheVariants.{ReadsProperty}
use Rattle.lighting_frames.specs.declared.Call.{Call}
use Rattle.lighting_frames.specs.declared.Frame.{Frame}
use Rattle.lighting_frames.specs.declared.Frame.TheVariants.{Calls}
use Rattle.lighting_frames.specs.declared.Station.{Station}
use Rattle.lighting_frames.specs.declared.Verdict.{Verdict}
use Rattle.lighting_frames.specs.declared.Verdict.TheVariants.{Copied, Arrives}
use Rattle.lighting_frames.specs.Paper.Copies.{same_bytes, retransmission_or_conflict}
use Rattle.lighting_panel.specs.Paper.Panel.{Panel, Step, panel_result, counts_sound, rules_kept, panel_sound}
use Rattle.lighting_panel.specs.Engine.Judging.{restored, judged_by_number, judged_by_record, station_of, judged_by_station, decide}
use Rattle.lighting_panel.specs.Engine.Executing.{execute, frame_step}
use Rattle.lighting_panel.specs.Paper.Secrecy.{Secret, OfKind05, sender, moment, addressed, brought, Premise, neither_meets_one, station_counts, output_counts, its_mark, panel_times, its_record, learnt, Alike, AlikeAsSaid, premises, premise_number}
use Rattle.lighting_levels.proofs.Split.{also_both, eq_of, by_bool, by_lt}
use Rattle.lighting_outputs.proofs.Time.Passing.{advance_ticks}
use Rattle.lighting_outputs.proofs.Rules.Tied.{tested_calm}
use Rattle.lighting_outputs.proofs.Consequences.Tenants.{alike_reads}
use Rattle.lighting_frames.proofs.Reading.{six_bytes}
use Rattle.lighting_frames.proofs.Tagging.InTags.{same_self}
use Rattle.lighting_panel.proofs.Carried.{frame_step_execute, sound_outputs}
use Rattle.lighting_panel.proofs.Consequences.Others.{at_map, every_at}
use Rattle.lighting_outputs.specs.declared.refusals.Refusal.{Refusal}
use Rattle.lighting_outputs.specs.declared.refusals.Refusal.TheVariants.{WrongLength, UnknownStation, UnknownOutput}

-- A STRING OF KIND 05, read: of the set it asks the numbers of stations and of outputs
reading : Bytes → Call
reading b = call_of (record { stations = 0; outputs = 0; fade = 0; duration = 0 }) ReadsProperty b

abbrev read_by : ℕ → ℕ → Bytes → Result Frame Refusal
read_by stations outputs b =
    when eqb (length b) 14
    then (
    when ltb (byte_at b 1) stations
    then (when eqb (big_endian 4 b 2) 0 then Err UnknownStation else when ltb (byte_at b 12) outputs then Ok (Calls (reading b)) else Err UnknownOutput)
    else Err UnknownStation
    )
    else Err WrongLength

parsed : (p : Parameters) (outputs : ℕ) (b : Bytes) → OfKind05 b
    → parse p outputs b ≡ read_by p.stations outputs b
unfolding parse parse_by kind_row called call_of request_of reading when◌then◌else◌
parsed p outputs b kind = rw kind

-- the tables have as many outputs as the set says
output_count : (e : Panel) → panel_sound e ≡ true → length e.outputs ≡ e.kept.parameters.outputs
unfolding panel_sound rules_kept counts_sound
output_count e h = eq_of (also_both (also_both (also_both h).1).0).0

-- WHAT A VERDICT on such a string may be: it is turned down, is a copy, or arrives, at an output of the table
data Judged05 (e : Panel) (b : Bytes) : Result Verdict Refusal → Type 0 where
  turned : {r : Refusal} → Judged05 e b (Err r)
  copied : {a : Answer} → Judged05 e b (Ok (Copied a))
  comes : e.kept.time ≤ moment b → addressed b < length e.outputs → Judged05 e b (Ok (Arrives (reading b)))

-- judged by the record of the station that it names; the record is asked only if there is such a station
abbrev judged_by : ℕ → ℕ → ℕ → Station → Bytes → Result Verdict Refusal
judged_by stations outputs now k b = judged_by_station now k b (read_by stations outputs b)

by_sender : (stations outputs now : ℕ) (table : List Station) (b : Bytes)
    → judged_by_station now (get_or table (station_of (read_by stations outputs b)) fresh_station) b (read_by stations outputs b)
    ≡ judged_by stations outputs now (get_or table (sender b) fresh_station) b
unfolding judged_by_station judged_by_record station_of reading call_of when◌then◌else◌
by_sender stations outputs now table b =
    by_bool (eqb (length b) 14)
    (λ l. rw l
    (by_bool (ltb (byte_at b 1) stations)
    (λ s. rw s
    (by_bool (eqb (big_endian 4 b 2) 0)
    (λ n. rw n)
    (λ n. rw n (by_bool (ltb (byte_at b 12) outputs) (λ o. rw o) (λ o. rw o)))))
    (λ s. rw s)))
    (λ l. rw l)

decided : (e : Panel) (b : Bytes) → OfKind05 b → panel_sound e ≡ true
    → decide e b
    ≡ judged_by e.kept.parameters.stations e.kept.parameters.outputs e.kept.time
    (get_or e.stations (sender b) fresh_station) b
unfolding decide
decided e b kind h =
    let p = e.kept.parameters in
    rw (parsed p (length e.outputs) b kind, output_count e h)
    (by_sender p.stations p.outputs e.kept.time e.stations b)

judged_05 : (e : Panel) (b : Bytes) (stations outputs : ℕ) (k : Station) → length e.outputs ≡ outputs
    → Judged05 e b (judged_by stations outputs e.kept.time k b)
unfolding judged_by_station judged_by_record judged_by_number retransmission_or_conflict when◌then◌else◌
judged_05 e b stations outputs k size =
    by_bool (eqb (length b) 14)
    (λ l. rw l
    (by_bool (ltb (byte_at b 1) stations)
    (λ s. rw s
    (by_bool (eqb (big_endian 4 b 2) 0)
    (λ n. rw n turned)
    (λ n. rw n
    (by_lt (byte_at b 12) outputs
    (λ inside o. rw o (arriving inside))
    (λ outside o. rw o turned)))))
    (λ s. rw s turned)))
    (λ l. rw l turned)
  where
    arriving : byte_at b 12 < outputs
        → Judged05 e b (judged_by_number e.kept.time k (same_bytes b (restored k.frame)) (reading b))
    arriving inside = unfold judged_by_number retransmission_or_conflict when◌then◌else◌ in
        (by_bool (eqb (reading b).number k.number)
        (λ again. rw again
        (by_bool (same_bytes b (restored k.frame)) (λ same. rw same copied) (λ differ. rw differ turned)))
        (λ other. rw other
        (by_bool (ltb (reading b).number k.number)
        (λ below. rw below turned)
        (λ new. rw new
        (by_lt (reading b).time e.kept.time
        (λ late q. rw q turned)
        (λ timely q. rw q (comes (unfold reading call_of in timely) (omega arith))))))))

-- the panel's way to the frame's time is the milliseconds'
brought_there : (e : Panel) (b : Bytes) → Octets b → panel_sound e ≡ true → e.kept.time ≤ moment b
    → addressed b < length e.outputs
    → advance e.kept.time (moment b) (get_or e.outputs (addressed b) fresh_output) ≡ brought e b
brought_there e b octets h timely inside =
    let p = e.kept.parameters in
    let t = e.kept.time in
    let o = get_or e.outputs (addressed b) fresh_output in
    let rules = every_at p t e.outputs (addressed b) inside (sound_outputs e h) in
    advance_ticks t (moment b) o timely (omega (arith, six_bytes b 6 octets)) (tested_calm p t o rules)

-- ANSWERED: a first arrival with what its property reads as to a tenant, of its output once it is brought to
-- the frame's time
answer_first : (e : Panel) (b : Bytes) → Octets b → panel_sound e ≡ true → e.kept.time ≤ moment b
    → is_tenant e.kept.tenants (sender b) ≡ true → addressed b < length e.outputs
    → (execute b e (Ok (Arrives (reading b)))).answer
    ≡ read_property for_tenant (moment b) (brought e b) (property_of (byte_at b 13))
unfolding execute served acted unchanged reading call_of request_of
answer_first e b octets h timely tenant inside =
    let way = at_map (advance e.kept.time (moment b)) e.outputs (addressed b) inside in
    rw (tenant, way ∙ brought_there e b octets h timely inside)

-- TWO PANELS. What is asked of the panels alone gives the same verdict: so a string that is late, a copy, of
-- a wrong number or length or to an output that is not there gets the same answer whatever the outputs are
module _ (e e' : Panel) (b : Bytes) (kind : OfKind05 b) (rules : Alike neither_meets_one e e' b)
    (stations : Alike station_counts e e' b) (outputs : Alike output_counts e e' b) (time : Alike panel_times e e' b)
    (station : Alike its_record e e' b) where
  pub judged_alike : decide e b ≡ decide e' b
  judged_alike =
      decided e b kind rules.0 ∙ rw (stations, outputs, time, station) refl ∙ sym (decided e' b kind rules.1)

  by_verdict : Octets b → (v : Result Verdict Refusal) → Judged05 e b v → is_tenant e.kept.tenants (sender b) ≡ true
      → is_tenant e'.kept.tenants (sender b) ≡ true
      → ((what : Learnt) → e.kept.time ≤ moment b → AlikeIn what (moment b) (brought e b) (brought e' b))
      → (execute b e v).answer ≡ (execute b e' v).answer
  by_verdict octets v turned mark mark' alike = unfold execute in refl
  by_verdict octets v copied mark mark' alike = unfold execute in refl
  by_verdict octets v (comes timely inside) mark mark' alike =
      let counted : length e'.outputs ≡ length e.outputs =
      output_count e' rules.1 ∙ sym outputs ∙ sym (output_count e rules.0) in
      answer_first e b octets rules.0 timely mark inside
      ∙ alike_reads (moment b) (brought e b) (brought e' b) (λ what. alike what timely) (property_of (byte_at b 13))
      ∙ sym (answer_first e' b octets rules.1 (omega arith) mark' (omega arith))

-- THE THEOREM
pub secret : (e e' : Panel) (b : Bytes) → Secret e e' b
secret e e' b octets kind alike =
    let rules = alike neither_meets_one in
    let p = e.kept.parameters in
    let stations = alike station_counts in
    let outputs = alike output_counts in
    let time = alike panel_times in
    let same = judged_alike e e' b kind rules stations outputs time (alike its_record) in
    let station = get_or e.stations (sender b) fresh_station in
    let found = judged_05 e b p.stations p.outputs station (output_count e rules.0) in
    let verdict : Judged05 e b (decide e b) = rw (decided e b kind rules.0) found in
    ap (λ (s : Step). s.answer) (frame_step_execute e b rules.0)
    ∙ by_verdict e e' b kind rules stations outputs time (alike its_record)
    octets (decide e b) verdict (alike its_mark).0 (alike its_mark).1 (λ what. alike (learnt what))
    ∙ ap (λ (v : Result Verdict Refusal). (execute b e' v).answer) same
    ∙ sym (ap (λ (s : Step). s.answer) (frame_step_execute e' b rules.1))

-- in the paper's words
pub as_said : (e e' : Panel) (b : Bytes) → Octets b → OfKind05 b → AlikeAsSaid e e' b
    → (frame_step e b).answer ≡ (frame_step e' b).answer
as_said e e' b octets kind alike = secret e e' b octets kind each
  where
    each : (k : Premise) → Alike k e e' b
    each neither_meets_one = alike.rules
    each station_counts = ap (λ (p : Parameters). p.stations) alike.parameters
    each output_counts = ap (λ (p : Parameters). p.outputs) alike.parameters
    each its_mark = (alike.tenant, rw (← alike.marks) alike.tenant)
    each panel_times = alike.time
    each its_record = alike.station
    each (learnt what) = λ timely. alike.output what

-- OF THE RUNNING PANEL: who calls `frame` with such a string on two lent panels gets the same answer from
-- both, by its contract
pub called_secret : (e e' left left' : Panel) (b : Bytes) (a a' : Answer) → Octets b → OfKind05 b
    → ((k : Premise) → Alike k e e' b)
    → panel_result left a ≡ frame_step e b → panel_result left' a' ≡ frame_step e' b → a ≡ a'
called_secret e e' left left' b a a' octets kind alike call call' =
    ap (λ (s : Step). s.answer) call ∙ secret e e' b octets kind alike ∙ sym (ap (λ (s : Step). s.answer) call')

-- THE PREMISES ARE ALL THOSE OF THE ROW that proofs/Needed.antt goes through
pub all_premises : (k : Premise) → get_or premises (premise_number k) neither_meets_one ≡ k
all_premises neither_meets_one = refl
all_premises station_counts = refl
all_premises output_counts = refl
all_premises its_mark = refl
all_premises panel_times = refl
all_premises its_record = refl
all_premises (learnt the_settings) = refl
all_premises (learnt the_relay_settings) = refl
all_premises (learnt the_slots) = refl
all_premises (learnt the_last_command) = refl
all_premises (learnt the_process) = refl
all_premises (learnt the_binary_value) = refl
all_premises (learnt the_burning_time) = refl
all_premises (learnt the_present_value) = refl
all_premises (learnt the_progress_value) = refl

-- answers whose bytes differ are different
pub apart_answers : (a a' : Answer) → same_bytes (answer_bytes a) (answer_bytes a') ≡ false → a ≢ a'
apart_answers a a' differ same =
    false≢true
    (sym differ ∙ ap (λ (x : Answer). same_bytes (answer_bytes a) (answer_bytes x)) (sym same) ∙ same_self (answer_bytes a))
