-- Marks have 32 bits: they are at most eight hexadecimal digits (§8).
use mathlib.Core.Path.{◌≡◌}
use mathlib.Core.Bool.{true}
use Prim.Native.Nat.{ℕ, ◌+◌, ◌*◌, ◌^◌, ◌≤◌, ◌<◌}
use native.Mathlib.Nat.{pow-succ', pow-le-pow_right}
use native.Mathlib.Numerals.{add-one}
use native.Mathlib.Omega.{arith}
use Rattle.lighting_levels.specs.Paper.Choice.{when◌then◌else◌}
use Rattle.lighting_frames.specs.Paper.Frames.{Bytes}
use Rattle.lighting_levels.proofs.Split.{le_of}
use Rattle.text_heading.specs.Words.{base, may_follow, marks_with, with_number}
use Rattle.text_heading.specs.Spelling.{Writes, no_digit, one_digit, Says, says, Further, no_more, one_more, Names, names}
use Rattle.text_heading.specs.declared.Word.{Word}
use Rattle.text_heading.specs.declared.Word.TheVariants.{Outputs, Stations, Fade, Duration, Tenants}
use Rattle.text_heading.specs.declared.Named.{Named}
use Rattle.text_heading.specs.declared.Came.{Came}
use Rattle.text_heading.proofs.Leads.{small}

follows : (k : ℕ) → may_follow Tenants k ≡ true → k < 8
unfolding may_follow base when◌then◌else◌
follows k h = le_of h

-- k digits make a number below the k-th power of 16
writes_marks : {k m n : ℕ} {x : Bytes} → Writes Tenants k m n x → k ≤ 8 → m < 16 ^ k → n < 4294967296
unfolding base
writes_marks {k} no_digit e l = omega (arith, l, pow-le-pow_right {n = 16} (omega arith) {i = k} {j = 8} e)
writes_marks {k} {m} (one_digit {d = d} f g l s) e h =
    let p : 16 ^ (k + 1) ≡ 16 * 16 ^ k = rw add-one (pow-succ' 16 k) in
    let q : k < 8 = follows k f in
    writes_marks s (omega arith) (omega (arith, p, h, small g))

says_marks :
    (p : Named) (w : Word) {n : ℕ} {x : Bytes} → Says w n x → p.tenants < 4294967296 →
    (with_number w n p).tenants < 4294967296
unfolding with_number marks_with
says_marks p Outputs s h = h
says_marks p Stations s h = h
says_marks p Fade s h = h
says_marks p Duration s h = h
says_marks p Tenants (says g s) h = writes_marks s (omega arith) (omega arith)

further_marks :
    {m : Came} {p q : Named} {x : Bytes} → Further m p q x → p.tenants < 4294967296 → q.tenants < 4294967296
further_marks (no_more b) h = h
further_marks {p = p} (one_more w e b s f) h = further_marks f (says_marks p w s h)

pub named_marks : {q : Named} {x : Bytes} → Names q x → q.tenants < 4294967296
named_marks (names s f) = further_marks f (says_marks _ Outputs s (omega arith))
