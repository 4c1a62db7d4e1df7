-- Every text that is put on a page with room fits it, and so it stands there whole.
use Rattle.std.specs.Prelude.{Option, Some, None}
use mathlib.Core.Path.{◌≡◌, refl, ◌∙◌}
use mathlib.Core.Bool.{Bool, true, false}
use mathlib.Core.List.{List, [], ◌∷◌, ◌++◌}
use Prim.Native.Nat.{ℕ, zero, suc, ◌+◌, ◌-◌, ◌*◌, ◌/◌, ◌≤◌, ◌<◌}
use native.Mathlib.Omega.{arith}
use lib.Dec.{ltb}
use lib.ListN.{length, take, length-append}
use Rattle.lighting_levels.specs.Paper.Choice.{when◌then◌else◌}
use Rattle.lighting_frames.specs.Paper.Frames.{Bytes}
use Rattle.lighting_outputs.specs.Paper.Slots.{is_live, level_at}
use Rattle.lighting_outputs.specs.Paper.Value.{present_value, progress_value, in_process, lit}
use Rattle.lighting_outputs.specs.Paper.Relay.{relay_state}
use Rattle.lighting_outputs.specs.Paper.Tenants.{for_service}
use Rattle.lighting_outputs.specs.Paper.Properties.{property_of, read_property}
use Rattle.lighting_outputs.specs.declared.Activity.{Activity}
use Rattle.lighting_outputs.specs.declared.Activity.TheVariants.{Still, Moving, Warned}
use Rattle.lighting_outputs.specs.declared.Answer.{Answer}
use Rattle.lighting_outputs.specs.declared.Answer.TheVariants.{Done, Value, Absent, Refused}
use Rattle.lighting_outputs.specs.declared.Operation.{Operation}
use Rattle.lighting_outputs.specs.declared.Operation.TheVariants.{Stop, FadeTo, FadeToOver, RampTo, RampToAtRate, StepUp, StepDown, StepUpBy, StepDownBy, Goto, Relinquish}
use Rattle.lighting_outputs.specs.declared.Output.{Output}
use Rattle.lighting_outputs.specs.declared.Slots.{Slots}
use Rattle.lighting_outputs.specs.declared.Timer.{Timer}
use Rattle.lighting_levels.proofs.Split.{by_bool, by_lt}
use Rattle.text_printing.specs.Text.{text}
use Rattle.text_printing.specs.Writing.{answer_line}
use Rattle.text_printing.specs.declared.Page.{Page}
use Rattle.text_printing.specs.Page.{with_text}
use Rattle.text_printing.proofs.Lengths.{decimal_length, hex_length, answer_length}
use Rattle.text_printing.proofs.Pages.{with_text_then, length_with_text, written}
use Rattle.text_block.specs.Block.{level_field, slot_level, slot_field, slot_fields, hex_field, answer_field, property_field, property_fields, number_line, slots_line, present_line, progress_line, process_line, properties_line, lines, joined, block}
use Rattle.text_block.proofs.Tagged.{tagged_length}
use Rattle.text_report.specs.Report.{two_digits, three_digits, lead, aligned, percent, minutes, moment, lasting, either, operation_name, until, activity_text, timer_text, light_fields, level_fields, time_fields, relay_field, way_fields, report_line, report_head}
use Rattle.text_found.specs.Found.{found_head, found_output, roomy, marked, with_room, with_output, with_outputs}
use Rattle.text_found.proofs.Partly.{last_output}

-- A BLOCK: ten lines, 735 bytes at most
number_line_lem : (word : Bytes) (n : ℕ) → length (number_line word n) ≤ length word + 21
unfolding number_line
number_line_lem word n = simp length-append (omega (arith, decimal_length n))

slot_field_lem : (s : Slots) (i : ℕ) → length (slot_field s i) ≤ 21
unfolding slot_field slot_level level_field when◌then◌else◌
slot_field_lem s i = by_bool (is_live s i) (λ e. rw e (omega (arith, decimal_length (level_at 0 s i)))) (λ e. rw e (omega arith))

slot_fields_lem : (s : Slots) (n : ℕ) → length (slot_fields s n) ≤ n * 21
unfolding slot_fields
slot_fields_lem s zero = omega arith
slot_fields_lem s (suc n) = simp length-append (omega (arith, slot_fields_lem s n, slot_field_lem s n))

answer_field_lem : (a : Answer) → length (answer_field a) ≤ 9
unfolding answer_field hex_field
answer_field_lem Done = omega arith
answer_field_lem (Value v) = omega (arith, hex_length v)
answer_field_lem Absent = omega arith
answer_field_lem (Refused n) = omega arith

property_fields_lem : (t : ℕ) (o : Output) (k n : ℕ) → length (property_fields t o k n) ≤ n * 9
unfolding property_fields property_field
property_fields_lem t o k zero = omega arith
property_fields_lem t o k (suc n) =
    simp length-append
    (omega (arith, property_fields_lem t o k n, answer_field_lem (read_property for_service t o (property_of (k + n)))))

pub block_length : (i t : ℕ) (o : Output) → length (block i t o) ≤ 735
unfolding block lines joined slots_line present_line progress_line process_line properties_line
block_length i t o =
    simp length-append (omega (
      arith,
      number_line_lem (text "output ") i,
      slot_fields_lem o.slots 16,
      number_line_lem (text "pv ") (present_value o.settings o.slots),
      number_line_lem (text "progress ") (progress_value t o),
      number_line_lem (text "inprocess ") (in_process o.activity),
      property_fields_lem t o 1 10,
      property_fields_lem t o 15 6,
      property_fields_lem t o 0x17 5,
      number_line_lem (text "burning ") o.burning,
      tagged_length o.last,
    ))

-- A LINE OF THE REPORT: 243 bytes at most, and its head 121
lead_length : (n : ℕ) → length (lead n) ≤ 2
unfolding lead when◌then◌else◌
lead_length n =
    by_bool (ltb n 10)
    (λ e. rw e (omega arith))
    (λ e. rw e (by_bool (ltb n 100) (λ f. rw f (omega arith)) (λ f. rw f (omega arith))))

aligned_length : (n : ℕ) → length (aligned n) ≤ 22
unfolding aligned
aligned_length n = simp length-append (omega (arith, lead_length n, decimal_length n))

percent_length : (u : ℕ) → length (percent u) ≤ 25
unfolding percent two_digits
percent_length u = simp length-append (omega (arith, aligned_length (u / 65536)))

minutes_length : (n : ℕ) → length (minutes n) ≡ 6
unfolding minutes two_digits
minutes_length n = refl

moment_length : (t : ℕ) → length (moment t) ≤ 30
unfolding moment three_digits two_digits
moment_length t = simp (length-append, minutes_length) (omega (arith, decimal_length (t / 3600000)))

lasting_length : (n : ℕ) → length (lasting n) ≤ 28
unfolding lasting
lasting_length n = simp (length-append, minutes_length) (omega (arith, aligned_length (n / 3600000)))

-- of two words of the same length
either_length : (n : ℕ) (this that : Bytes) (b : Bool) → length this ≡ n → length that ≡ n → length (either this that b) ≡ n
unfolding either when◌then◌else◌
either_length n this that true e f = e
either_length n this that false e f = f

operation_length : (x : Operation) → length (operation_name x) ≡ 17
unfolding operation_name
operation_length Stop = refl
operation_length (FadeTo x) = refl
operation_length (FadeToOver x l) = refl
operation_length (RampTo x) = refl
operation_length (RampToAtRate x r) = refl
operation_length StepUp = refl
operation_length StepDown = refl
operation_length (StepUpBy x) = refl
operation_length (StepDownBy x) = refl
operation_length (Goto x) = refl
operation_length Relinquish = refl

until_length : (word : Bytes) (t : ℕ) → length (until word t) ≤ length word + 30
unfolding until
until_length word t = simp length-append (omega (arith, moment_length t))

activity_length : (a : Activity) → length (activity_text a) ≤ 52
unfolding activity_text
activity_length Still = omega arith
activity_length (Moving m) = omega (arith, until_length (text "  moving until ") m.over)
activity_length (Warned w) = omega (arith, until_length (text "  blink warning until ") w.over)

timer_length : (x : Option Timer) → length (timer_text x) ≤ 47
unfolding timer_text
timer_length None = omega arith
timer_length (Some timer) = omega (arith, until_length (text "  duration until ") timer.due)

pub report_length : (i t : ℕ) (o : Output) → length (report_line i t o) ≤ 243
unfolding report_line light_fields level_fields time_fields relay_field way_fields
report_length i t o =
    simp length-append (omega (
      arith,
      aligned_length i,
      either_length 7 (text "  lit  ") (text "  dark ") (lit t o) refl refl,
      percent_length (present_value o.settings o.slots),
      percent_length (progress_value t o),
      lasting_length o.burning,
      operation_length o.last.operation,
      either_length 7 (text "  on   ") (text "  off  ") (relay_state o.relay) refl refl,
      activity_length o.activity,
      timer_length o.timer,
    ))

pub head_length : (t : ℕ) → length (report_head t) ≤ 121
unfolding report_head
head_length t = simp length-append (omega (arith, moment_length t))

-- WHAT FITS 1,024 BYTES: an output, and an answer's line with the head that follows the last of them
pub output_fits : (report : Bool) (i t : ℕ) (o : Output) → length (found_output report i t o) ≤ 1024
unfolding found_output when◌then◌else◌
output_fits true i t o = omega (arith, report_length i t o)
output_fits false i t o = omega (arith, block_length i t o)

pub head_fits : (a : Answer) (report : Bool) (t : ℕ) → length (answer_line a ++ found_head report t) ≤ 1024
unfolding found_head when◌then◌else◌
head_fits a true t = simp length-append (omega (arith, answer_length a, head_length t))
head_fits a false t = simp length-append (omega (arith, answer_length a))

-- a page of more than 1,024 bytes has more than 1,024 free past the mark
marked_free : (size at : ℕ) → 1024 < size → marked size at + 1024 < size
unfolding marked roomy when◌then◌else◌
marked_free size at h =
    by_lt at size
    (λ l e. rw e (by_lt 1024 (size - at) (λ m f. rw f (omega arith)) (λ m f. rw f (omega arith))))
    (λ l e. rw e (omega arith))

module _ (s : Page) (h : 1024 < length s.bytes.now) where
  -- what was written on the page with room, and fits 1,024 bytes, stands whole after what stood before the
  -- mark
  whole : (x : Bytes) → length x ≤ 1024 → take (with_text (with_room s) x).mark (with_text (with_room s) x).bytes.now ≡ take (with_room s).mark s.bytes.now ++ x
  unfolding with_room
  whole x l = (written (with_room s) x (omega (arith, marked_free (length s.bytes.now) s.mark h))).1

  -- WHAT IS FOUND OF AN OUTPUT stands whole
  pub stands_whole : (report : Bool) (t i : ℕ) (o : Output)
      → take (with_output s report t i o).mark (with_output s report t i o).bytes.now ≡ take (with_room s).mark s.bytes.now ++ found_output report i t o
  unfolding with_output
  stands_whole report t i o = whole (found_output report i t o) (output_fits report i t o)

  -- and so does the head after the line of the last answer
  pub head_stands_whole : (a : Answer) (report : Bool) (t : ℕ) (r : Page) → r ≡ with_text (with_text (with_room s) (answer_line a)) (found_head report t)
      → take r.mark r.bytes.now ≡ take (with_room s).mark s.bytes.now ++ (answer_line a ++ found_head report t)
  head_stands_whole a report t r e = rw (e, with_text_then) (whole (answer_line a ++ found_head report t) (head_fits a report t))

-- EACH OF THE OUTPUTS: a page keeps its size, and the last of a list is put on what the others leave
same_size : (report : Bool) (t i : ℕ) (s : Page) (l : List Output) → length (with_outputs s report t i l).bytes.now ≡ length s.bytes.now
unfolding with_outputs with_output with_room
same_size report t i s [] = refl
same_size report t i s (o ∷ l) =
    same_size report t (suc i) (with_output s report t i o) l
    ∙ length_with_text (with_room s) (found_output report i t o)

pub each_stands_whole : (report : Bool) (t i : ℕ) (s q r : Page) (l : List Output) (o : Output) → 1024 < length s.bytes.now
    → q ≡ with_outputs s report t i l → r ≡ with_outputs s report t i (l ++ (o ∷ []))
    → take r.mark r.bytes.now ≡ take (with_room q).mark q.bytes.now ++ found_output report (i + length l) t o
each_stands_whole report t i s q r l o h d e =
    let long : 1024 < length q.bytes.now = rw d (omega (arith, same_size report t i s l)) in
    rw (e, last_output report t i s l o, ← d) (stands_whole q long report t (i + length l) o)
