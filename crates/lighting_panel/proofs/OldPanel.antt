-- THE OLD PANEL AND TODAY'S AT THE SET 8, ITS OUTPUT COUNT, 14,400,000, 86,400,000 (§7), WITH NO TENANT (§8):
-- of one frame over every lent table that keeps the rules of four hours and the marks 0, and of the start.
-- Lists: FourHours.antt.
use Rattle.std.specs.Prelude.{Result, Ok, Err}
use mathlib.Core.Path.{◌≡◌, refl, sym, ap, ◌∙◌}
use mathlib.Core.Bool.{Bool, true, false, false≢true}
use mathlib.Core.List.{List, [], ◌∷◌, map}
use Prim.Native.Nat.{ℕ, ◌≤◌}
use native.Mathlib.Omega.{arith}
use lib.Dec.{leb, ltb, eqb}
use lib.ListN.{get_or, length, length-map, length-replicate}
use Rattle.lighting_levels.specs.Paper.Choice.{when◌then◌else◌, ◌also◌, every}
use Rattle.lighting_outputs.specs.declared.Parameters.{Parameters}
use Rattle.lighting_outputs.specs.Paper.Parameters.{document01, four_hours}
use Rattle.lighting_outputs.specs.Paper.Startable.{startable}
use Rattle.lighting_outputs.specs.Paper.Rows.{within}
use Rattle.lighting_outputs.specs.Paper.Rules.{sound}
use Rattle.lighting_outputs.specs.Paper.Fresh.{fresh_output}
use Rattle.lighting_outputs.specs.Engine.Advance.{advance}
use Rattle.lighting_frames.specs.Paper.Frames.{Bytes}
use Rattle.lighting_frames.specs.Paper.Copies.{same_bytes, retransmission_or_conflict}
use Rattle.lighting_frames.specs.Paper.Stations.{fresh_station}
use Rattle.lighting_panel.specs.Paper.Panel.{Panel, Station, Step, panel_result, counts_sound, rules_kept, panel_sound, start_step}
use Rattle.lighting_panel.specs.Paper.OldPanel.{OldPanel, OldStep, without_set, with_set, old_counts, old_sound, old_start, old_decide, old_execute, old_frame}
use Rattle.lighting_panel.specs.Paper.FourHours.{carries_longer}
use Rattle.lighting_panel.specs.Engine.Judging.{restored, judged_by_number, judged_by_record, station_of, judged_by_station, decide}
use Rattle.lighting_panel.specs.Engine.Executing.{execute, frame_step}
use Rattle.lighting_outputs.specs.declared.Output.{Output}
use Rattle.lighting_outputs.specs.declared.OutputRequest.{OutputRequest}
use Rattle.lighting_outputs.specs.declared.PanelRequest.TheVariants.{ToOutput}
use Rattle.lighting_outputs.specs.declared.Answer.{Answer}
use Rattle.lighting_outputs.specs.declared.Answer.TheVariants.{Done, Refused}
use Rattle.lighting_frames.specs.declared.Call.{Call}
use Rattle.lighting_frames.specs.declared.Frame.{Frame}
use Rattle.lighting_frames.specs.declared.Verdict.{Verdict}
use Rattle.lighting_frames.specs.declared.Verdict.TheVariants.{Copied, Clocked, Arrives}
use Rattle.lighting_levels.proofs.Split.{by_bool, also_both, also_yes, eqb_hit}
use Rattle.lighting_outputs.proofs.OutputCount as Count
use Rattle.lighting_outputs.proofs.ShorterFade.{with_fade, TakesFade, Shortened, alike, refused, cut}
use Rattle.lighting_outputs.proofs.ShorterFade as Shorter
use Rattle.lighting_outputs.proofs.Rules.Startable.{four_hours_startable}
use Rattle.lighting_frames.proofs.OutputCount.{parsed}
use Rattle.lighting_frames.proofs.ShorterFade.{asking, ShortenedFrame, bad, clocked, asks}
use Rattle.lighting_frames.proofs.ShorterFade as Frames
use Rattle.lighting_outputs.proofs.Consequences.Numbers.{fresh}
use Rattle.lighting_panel.proofs.Demand.{never_done}
use Rattle.lighting_panel.proofs.Carried.{start_step_refused, start_step_done}
use Rattle.lighting_panel.proofs.Table.{served_length}
use Rattle.lighting_outputs.specs.declared.refusals.Refusal.{Refusal}
use Rattle.lighting_outputs.specs.declared.refusals.Refusal.TheVariants.{WholeOutOfRange}
use Rattle.lighting_outputs.specs.Paper.Answers.{Request}

-- THE SET: the old panel's, with as many outputs as the table has
abbrev pub set_of : OldPanel → Parameters
set_of e = four_hours (length e.outputs)

abbrev pub today : OldPanel → Panel
today e = with_set (set_of e) e

-- REFUSAL 1. The counts: exactly so many outputs as there are is no restriction, and the range of the kept
-- number is document 01's '0 or over 64 outputs'
pub counts : (c k : ℕ) → (startable (four_hours c) also counts_sound (four_hours c) c k) ≡ old_counts c k
unfolding startable within counts_sound old_counts when◌then◌else◌
counts c k =
    rw (eqb_hit {a = c} {b = c} refl)
    (by_bool (leb 1 c) (λ h. rw h (by_bool (leb c 64) (λ g. rw g) (λ g. rw g))) (λ h. rw h))

-- the record rules: whoever keeps those of four hours keeps document 01's
rule : (outputs t : ℕ) (o : Output) → sound (four_hours outputs) t o ≡ true → sound (document01 64) t o ≡ true
rule outputs t o h =
    let counted = sym (Count.rules (with_fade (document01 64) 14400000) outputs t o) in
    Shorter.rules (document01 64) 14400000 (omega arith) t o (counted ∙ h)

every_rule : (outputs t : ℕ) (l : List Output) → every (sound (four_hours outputs) t) l ≡ true
    → every (sound (document01 64) t) l ≡ true
unfolding every
every_rule outputs t [] h = refl
every_rule outputs t (o ∷ l) h =
    let both = also_both h in
    also_yes (rule outputs t o both.0) (every_rule outputs t l both.1)

pub sound_then : (e : OldPanel) → panel_sound (today e) ≡ true → old_sound e ≡ true
unfolding panel_sound rules_kept old_sound
sound_then e h =
    let set = also_both h in
    let kept = also_both set.1 in
    let records = also_both kept.1 in
    also_yes
    (sym (counts (length e.outputs) (length e.stations)) ∙ also_yes set.0 kept.0)
    (also_yes (every_rule (length e.outputs) e.time e.outputs records.0) records.1)

-- THE VERDICT, by document 01's numbers and by four hours: at most what is asked differs
pub data ShortenedVerdict (between : Bool) : Result Verdict Refusal → Result Verdict Refusal → Type 0 where
  turned : {r : Refusal} → ShortenedVerdict between (Err r) (Err r)
  copied : {a : Answer} → ShortenedVerdict between (Ok (Copied a)) (Ok (Copied a))
  timed : {t : ℕ} → between ≡ false → ShortenedVerdict between (Ok (Clocked t)) (Ok (Clocked t))
  arrives : (call : Call) (request : Request) → Shortened between call.request request
      → ShortenedVerdict between (Ok (Arrives call)) (Ok (Arrives (asking call request)))

judged : {between : Bool} {long short : Result Frame Refusal} (now : ℕ) (stations : List Station) (b : Bytes)
    → ShortenedFrame between long short
    → ShortenedVerdict between
    (judged_by_station now (get_or stations (station_of long) fresh_station) b long)
    (judged_by_station now (get_or stations (station_of short) fresh_station) b short)
unfolding judged_by_station judged_by_record judged_by_number station_of retransmission_or_conflict when◌then◌else◌
judged now stations b bad = turned
judged now stations b (clocked {t = t} none) =
    by_bool (ltb t now) (λ late. rw late turned) (λ timely. rw timely (timed none))
judged now stations b (asks call request asked) =
    let last = get_or stations call.station fresh_station in
    by_bool (eqb call.number last.number)
    (λ again. rw again
    (by_bool (same_bytes b (restored last.frame)) (λ same. rw same copied) (λ other. rw other turned)))
    (λ other. rw other
    (by_bool (ltb call.number last.number)
    (λ below. rw below turned)
    (λ new. rw new
    (by_bool (ltb call.time now)
    (λ late. rw late turned)
    (λ timely. rw timely (arrives call request asked))))))

pub verdicts : (e : OldPanel) (b : Bytes) → ShortenedVerdict (carries_longer b) (old_decide e b) (decide (today e) b)
unfolding decide old_decide
verdicts e b =
    rw (parsed (with_fade (document01 64) 14400000) (length e.outputs) (length e.outputs) b)
    (judged e.time e.stations b (Frames.parsed (document01 64) 14400000 (omega arith) (length e.outputs) b))

-- CARRIED OUT: no set is read, and the one that is kept stays
abbrev pub step_with : Parameters → OldStep → Step
step_with p s = panel_result (with_set p s.panel) s.answer

same_execute : (p : Parameters) (b : Bytes) (e : OldPanel) (v : Result Verdict Refusal)
    → execute b (with_set p e) v ≡ step_with p (old_execute b e v)
unfolding execute old_execute
same_execute p b e (Err r) = refl
same_execute p b e (Ok (Copied a)) = refl
same_execute p b e (Ok (Clocked t)) = refl
same_execute p b e (Ok (Arrives call)) = refl

-- ONE FRAME. It is CUT where the old panel takes a longer fade time, which is 12 by four hours
pub record Cut (e : OldPanel) (b : Bytes) : Type 0 where
  pub call : Call
  pub request : OutputRequest
  pub before : old_decide e b ≡ Ok (Arrives call)
  pub now : decide (today e) b ≡ Ok (Arrives (asking call (Err WholeOutOfRange)))
  pub asked : call.request ≡ Ok (ToOutput request)
  pub takes : TakesFade request
  pub longer : carries_longer b ≡ true

-- THE TWO VERDICTS on every string of bytes: turned down alike, or copies; a frame without a longer fade
-- time; a first arrival that both refuse; or one that is cut
pub data Compared (e : OldPanel) (b : Bytes) : Type 0 where
  turned_down : {r : Refusal} → old_decide e b ≡ Err r → decide (today e) b ≡ Err r → Compared e b
  copied_both : {a : Answer} → old_decide e b ≡ Ok (Copied a) → decide (today e) b ≡ Ok (Copied a) → Compared e b
  short : carries_longer b ≡ false → decide (today e) b ≡ old_decide e b → Compared e b
  refused_both : {r : Refusal} (call : Call) → call.request ≡ Err r → old_decide e b ≡ Ok (Arrives call)
      → decide (today e) b ≡ Ok (Arrives call) → Compared e b
  cut_off : Cut e b → Compared e b

arriving : (call : Call) {request : Request} → call.request ≡ request → ◌≡◌ {A = Result Verdict Refusal} (Ok (Arrives (asking call request))) (Ok (Arrives call))
arriving call asked = ap (λ (r : Request). Ok (Arrives (asking call r))) (sym asked)

pub compared : (e : OldPanel) (b : Bytes) → Compared e b
compared e b = by (verdicts e b) refl refl
  where
    ask : (call : Call) {long request : Request} → Shortened (carries_longer b) long request → call.request ≡ long
        → old_decide e b ≡ Ok (Arrives call) → decide (today e) b ≡ Ok (Arrives (asking call request)) → Compared e b
    ask call (alike none) asked before now = short none (now ∙ arriving call asked ∙ sym before)
    ask call refused asked before now = refused_both call asked before (now ∙ arriving call asked)
    ask call (cut {request = request} longer takes) asked before now =
        cut_off
        (record {
          call = call;
          request = request;
          before = before;
          now = now;
          asked = asked;
          takes = takes;
          longer = longer;
        })

    by : {long shorter : Result Verdict Refusal} → ShortenedVerdict (carries_longer b) long shorter
        → old_decide e b ≡ long → decide (today e) b ≡ shorter → Compared e b
    by turned before now = turned_down before now
    by copied before now = copied_both before now
    by (timed none) before now = short none (now ∙ sym before)
    by (arrives call request asked) before now = ask call asked refl before now

-- so every verdict is the same, but of a frame that is cut
same_verdict : (e : OldPanel) (b : Bytes) → (Cut e b → ⊥) → decide (today e) b ≡ old_decide e b
same_verdict e b never = by (compared e b)
  where
    by : Compared e b → decide (today e) b ≡ old_decide e b
    by (turned_down before now) = now ∙ sym before
    by (copied_both before now) = now ∙ sym before
    by (short none both) = both
    by (refused_both call asked before now) = now ∙ sym before
    by (cut_off z) = absurd (never z)

pub frame_by : (e : OldPanel) (b : Bytes) → panel_sound (today e) ≡ true → (Cut e b → ⊥)
    → frame_step (today e) b ≡ step_with (set_of e) (old_frame e b)
unfolding frame_step old_frame when◌then◌else◌
frame_by e b h never =
    rw (h, sound_then e h, same_verdict e b never) (same_execute (set_of e) b e (old_decide e b))

-- any string of bytes that carries no longer fade time, over every lent table that keeps the rules of four
-- hours
pub old_frame_lem : (e : OldPanel) (b : Bytes) → panel_sound (today e) ≡ true → carries_longer b ≡ false
    → frame_step (today e) b ≡ step_with (set_of e) (old_frame e b)
old_frame_lem e b h none = frame_by e b h (λ z. false≢true (sym none ∙ z.longer))

-- A frame leaves as many outputs as there are, so the set stays the table's
execute_length : (b : Bytes) (e : OldPanel) (v : Result Verdict Refusal) → length (old_execute b e v).panel.outputs ≡ length e.outputs
unfolding old_execute execute
execute_length b e (Err r) = refl
execute_length b e (Ok (Copied a)) = refl
execute_length b e (Ok (Clocked t)) = length-map e.outputs (advance e.time t)
execute_length b e (Ok (Arrives call)) =
    served_length _ call.time (map (advance e.time call.time) e.outputs) call.output call.request
    ∙ length-map e.outputs (advance e.time call.time)

frame_length : (e : OldPanel) (b : Bytes) → length (old_frame e b).panel.outputs ≡ length e.outputs
unfolding old_frame when◌then◌else◌
frame_length e b = by_bool (old_sound e) (λ h. rw h (execute_length b e (old_decide e b))) (λ h. rw h)

pub next : (e : OldPanel) (b : Bytes) → with_set (set_of e) (old_frame e b).panel ≡ today (old_frame e b).panel
next e b = ap (λ (c : ℕ). with_set (four_hours c) (old_frame e b).panel) (sym (frame_length e b))

-- THE START with that set, over every lent table of 1 to 64 outputs, whatever its record keeps: the same
-- answer, and the same outputs, station records and time. Where it answers Done, the set is kept
pub record StartsAlike (e : Panel) : Type 0 where
  pub answered : (start_step (set_of (without_set e)) 0 e).answer ≡ (old_start (without_set e)).answer
  pub panel : without_set (start_step (set_of (without_set e)) 0 e).panel ≡ (old_start (without_set e)).panel
  pub kept : (old_start (without_set e)).answer ≡ Done
      → (start_step (set_of (without_set e)) 0 e).panel ≡ today (old_start (without_set e)).panel

module _ (e : Panel) (least : 1 ≤ length e.outputs) (most : length e.outputs ≤ 64) where
  abbrev c : ℕ
  c = length e.outputs

  abbrev k : ℕ
  k = length e.stations

  allowed : startable (four_hours c) ≡ true
  allowed = four_hours_startable c least most

  counted : counts_sound (four_hours c) c k ≡ old_counts c k
  unfolding when◌then◌else◌
  counted = rw allowed at (counts c k)

  -- both are done, or both meet 1
  done : old_counts c k ≡ true → start_step (four_hours c) 0 e ≡ step_with (four_hours c) (old_start (without_set e))
  unfolding old_start when◌then◌else◌
  done h = rw (start_step_done (four_hours c) 0 e allowed (counted ∙ h), h, fresh (four_hours c) (omega arith))

  meets_one : old_counts c k ≡ false → start_step (four_hours c) 0 e ≡ panel_result e (Refused 1)
  meets_one h = start_step_refused (four_hours c) 0 e allowed (counted ∙ h)

  old_refused : old_counts c k ≡ false → old_start (without_set e) ≡ record { panel = without_set e; answer = Refused 1 }
  unfolding old_start when◌then◌else◌
  old_refused h = rw h

  old_length : old_counts c k ≡ true → length (old_start (without_set e)).panel.outputs ≡ c
  unfolding old_start when◌then◌else◌
  old_length h = rw h (length-replicate c fresh_output)

  pub starts_alike : StartsAlike e
  starts_alike =
      by_bool (old_counts c k)
      (λ h. record {
        answered = ap (λ (s : Step). s.answer) (done h);
        panel = ap (λ (s : Step). without_set s.panel) (done h);
        kept = λ d.
            ap (λ (s : Step). s.panel) (done h)
            ∙ ap (λ (n : ℕ). with_set (four_hours n) (old_start (without_set e)).panel) (sym (old_length h));
      })
      (λ h. record {
        answered = ap (λ (s : Step). s.answer) (meets_one h) ∙ sym (ap (λ (s : OldStep). s.answer) (old_refused h));
        panel =
            ap (λ (s : Step). without_set s.panel) (meets_one h) ∙ sym (ap (λ (s : OldStep). s.panel) (old_refused h));
        kept = λ d. absurd (never_done 1 (sym (ap (λ (s : OldStep). s.answer) (old_refused h)) ∙ d));
      })
