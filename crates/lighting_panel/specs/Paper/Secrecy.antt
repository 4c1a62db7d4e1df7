-- §8, THE CLAIM OF SECRECY, about two panels: 'Two panels that do not meet 1, alike in start parameters,
-- marks, time and that station's record, and, once brought to the frame's time, in settings, slots 7 to 16,
-- last command, In_Process, Binary_Present_Value, burning time and the two levels in whole percent, give a
-- tenant's kind 05 the same answer'. proofs/Secrecy.antt proves it of every string of bytes, and
-- proofs/Needed.antt that each premise is needed.
use Rattle.std.specs.Prelude.{◌≡◌, ◌≢◌, Bool, true, false, List, ◌∷◌, map, ℕ, ◌+◌, ◌-◌, ◌≤◌, eqb, ltb, get_or}
use Rattle.lighting_levels.specs.Paper.Choice.{Every, every}
use Rattle.lighting_levels.specs.Paper.Field.{byte_at, big_endian}
use Rattle.lighting_outputs.specs.Paper.Passing.{ticks}
use Rattle.lighting_outputs.specs.Paper.Fresh.{fresh_output}
use Rattle.lighting_outputs.specs.Paper.Tenants.{is_tenant}
use Rattle.lighting_outputs.specs.Paper.Learnt.{Learnt, the_settings, the_relay_settings, the_slots, the_last_command, the_process, the_binary_value, the_burning_time, the_present_value, the_progress_value, AlikeIn, every_learnt}
use Rattle.lighting_outputs.specs.declared.Output.{Output}
use Rattle.lighting_frames.specs.Paper.Frames.{Bytes, Octets}
use Rattle.lighting_frames.specs.Paper.Stations.{fresh_station}
use Rattle.lighting_panel.specs.Paper.Panel.{Panel, panel_sound}
use Rattle.lighting_panel.specs.Engine.Executing.{frame_step}

-- a string of kind 05; and its fields, 'station (1), number (4), time (6), output (1)', a missing byte being
-- 0
abbrev pub OfKind05 : Bytes → Type 0
OfKind05 b = byte_at b 0 ≡ 0x05

abbrev pub sender : Bytes → ℕ
sender b = byte_at b 1

abbrev pub moment : Bytes → ℕ
moment b = big_endian 6 b 6

abbrev pub addressed : Bytes → ℕ
addressed b = byte_at b 12

-- the frame's output, 'once brought to the frame's time': it lives the milliseconds up to it, one after
-- another
abbrev pub brought : Panel → Bytes → Output
brought e b =
    ticks (moment b - e.kept.time) e.kept.time (get_or e.outputs (addressed b) fresh_output)

-- THE PREMISES: the paper's, less what is not needed. Of the set the longest fade and the longest duration
-- may differ, and of the marks all others
pub data Premise : Type 0 where
  neither_meets_one : Premise
  station_counts : Premise
  output_counts : Premise
  its_mark : Premise
  panel_times : Premise
  its_record : Premise
  learnt : Learnt → Premise

-- what each asks of the panels e and e' and of the string b. A late frame brings no output to its time: of it
-- nothing is asked of the outputs
abbrev pub Alike : Premise → Panel → Panel → Bytes → Type 0
Alike neither_meets_one e e' b = (panel_sound e ≡ true) × (panel_sound e' ≡ true)
Alike station_counts e e' b = e.kept.parameters.stations ≡ e'.kept.parameters.stations
Alike output_counts e e' b = e.kept.parameters.outputs ≡ e'.kept.parameters.outputs
Alike its_mark e e' b =
    (is_tenant e.kept.tenants (sender b) ≡ true) × (is_tenant e'.kept.tenants (sender b) ≡ true)
Alike panel_times e e' b = e.kept.time ≡ e'.kept.time
Alike its_record e e' b = get_or e.stations (sender b) fresh_station ≡ get_or e'.stations (sender b) fresh_station
Alike (learnt what) e e' b = e.kept.time ≤ moment b → AlikeIn what (moment b) (brought e b) (brought e' b)

-- THE CLAIM: where all of them hold, a string of bytes of kind 05 gets the same answer from both
abbrev pub Secret : Panel → Panel → Bytes → Type 0
Secret e e' b =
    Octets b → OfKind05 b → ((k : Premise) → Alike k e e' b) → (frame_step e b).answer ≡ (frame_step e' b).answer

-- IN THE PAPER'S WORDS: what it asks alike, whole
pub record AlikeAsSaid (e e' : Panel) (b : Bytes) : Type 0 where
  pub rules : (panel_sound e ≡ true) × (panel_sound e' ≡ true)
  pub parameters : e.kept.parameters ≡ e'.kept.parameters
  pub marks : e.kept.tenants ≡ e'.kept.tenants
  pub tenant : is_tenant e.kept.tenants (sender b) ≡ true
  pub time : e.kept.time ≡ e'.kept.time
  pub station : get_or e.stations (sender b) fresh_station ≡ get_or e'.stations (sender b) fresh_station
  pub output : (what : Learnt) → AlikeIn what (moment b) (brought e b) (brought e' b)

-- THAT NO PREMISE IS TOO MANY. The premises in a row, numbered; all of them but one
abbrev pub premises : List Premise
premises =
    neither_meets_one ∷ station_counts ∷ output_counts ∷ its_mark ∷ panel_times ∷ its_record ∷ map learnt every_learnt

abbrev pub learnt_number : Learnt → ℕ
learnt_number the_settings = 0
learnt_number the_relay_settings = 1
learnt_number the_slots = 2
learnt_number the_last_command = 3
learnt_number the_process = 4
learnt_number the_binary_value = 5
learnt_number the_burning_time = 6
learnt_number the_present_value = 7
learnt_number the_progress_value = 8

abbrev pub premise_number : Premise → ℕ
premise_number neither_meets_one = 0
premise_number station_counts = 1
premise_number output_counts = 2
premise_number its_mark = 3
premise_number panel_times = 4
premise_number its_record = 5
premise_number (learnt what) = 6 + learnt_number what

abbrev pub Unless : Bool → Type 0 → Type 0
Unless true A = Unit {0}
Unless false A = A

abbrev pub AlikeBut : Premise → Panel → Panel → Bytes → Type 0
AlikeBut spared e e' b =
    Every (λ (k : Premise). Unless (eqb (premise_number k) (premise_number spared)) (Alike k e e' b)) premises

-- two panels that are alike in all but that, and a string of bytes of kind 05 to which they answer
-- differently
pub record Needed (spared : Premise) : Type 0 where
  pub one : Panel
  pub other : Panel
  pub string : Bytes
  pub octets : every (λ (x : ℕ). ltb x 256) string ≡ true
  pub kind : OfKind05 string
  pub alike : AlikeBut spared one other string
  pub differ : (frame_step one string).answer ≢ (frame_step other string).answer
