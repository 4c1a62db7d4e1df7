-- From a line's text to the panel: a line that gives a string of bytes sends that string, however long it is,
-- and writes its answer. The reader keeps `bytes_kept` bytes, and the panel does with a longer string what it
-- does with its first ones (lighting/proofs/Long.antt).
use mathlib.Core.Path.{◌≡◌, refl, sym, ap}
use mathlib.Core.Bool.{true}
use native.Mathlib.Omega.{arith}
use lib.ListN.{length, take}
use lib.Seq.{take_all}
use Rattle.lighting_frames.specs.Paper.Frames.{Bytes}
use Rattle.lighting_panel.specs.Paper.Panel.{Panel}
use Rattle.lighting_panel.specs.Engine.Executing.{frame_step}
use Rattle.lighting_levels.proofs.Split.{by_le}
use Rattle.lighting_panel.proofs.Long.{frame_step_first}
use Rattle.lent_parts.specs.Lending.{sent}
use Rattle.text_reading.specs.declared.Reader.{Reader}
use Rattle.text_reading.specs.Reading.{bytes_kept, fed}
use Rattle.text_reading.proofs.Marked.{Given}
use Rattle.text_printing.specs.Writing.{answer_line}
use Rattle.replay_line.specs.Taking.{in_use, sent_on, taken_by, taken}

-- what a string and its first bytes have in common: all that the panel does with them
frame_step_kept : (e : Panel) (b : Bytes) → frame_step e (take bytes_kept b) ≡ frame_step e b
frame_step_kept e b =
    by_le bytes_kept (length b)
    (λ h z. sym (frame_step_first e b h))
    (λ h z. ap (frame_step e) (take_all bytes_kept b (omega (arith, h))))

sent_kept : (b : Bytes) (p : Panel) → sent_on (take bytes_kept b) p ≡ sent_on b p
unfolding sent
sent_kept b p = rw (frame_step_kept (in_use p) b)

-- w is a reader at the start of a line, once the list has named its outputs
pub spelled :
    {w : Reader} {b x : Bytes} (p : Panel) →
    Given true w x b →
    ((taken p (fed w x)).panel ≡ (sent_on b p).panel) × ((taken p (fed w x)).text ≡ answer_line (sent_on b p).answer)
unfolding taken taken_by
spelled {w} {b} {x} p g = rw (g.reads.line, g.holds, sent_kept b p) (refl, refl)
