-- WHEN UNITS ARE GONE, with fewer operations of 64 bits than the definition has (§4 of the change requests).
-- `gone_at` goes by `last_short`, a product and its quotient; of the first unit and of a whole way it takes
-- less. Each law has the form in which code cites it: r is what the function gives, x and k are what it has
-- from others.
use Rattle.std.specs.Prelude.{Option}
use mathlib.Core.Path.{◌≡◌, sym, ap, ◌∙◌}
use Prim.Native.Nat.{ℕ, zero, suc, ◌-◌, ◌*◌, ◌/◌, ◌≤◌, ◌<◌, min}
use native.Mathlib.Nat.{one-mul, mul-zero, mul_comm, zero-div, le-div_iff_mul-le, div-lt_iff_lt-mul}
use native.Mathlib.Omega.{arith}
use borrow.Author.Tests.{ne_eqb}
use Rattle.lighting_levels.specs.Paper.Choice.{when◌then◌else◌}
use Rattle.lighting_outputs.specs.Engine.Light.{last_short, moment_after, gone_at}
use Rattle.lighting_outputs.specs.declared.Movement.{Movement}
use Rattle.lighting_levels.proofs.Split.{by_lt, leb_no}

-- something goes: the moment after the last millisecond short
gone_by : (u s w : ℕ) (m : Movement) → (s ≡ 0 → ⊥) → gone_at u s w m ≡ moment_after (last_short u s w) m
unfolding gone_at when◌then◌else◌
gone_by u s w m h = rw (ne_eqb s 0 h)

-- THE FIRST UNIT: no product
of_first : (s w : ℕ) → last_short 1 s w ≡ (w - 1) / s
unfolding last_short
of_first s w = rw (one-mul w)

pub gone_first : (s w x : ℕ) (m : Movement) (r : Option ℕ) → (s ≡ 0 → ⊥) → x ≡ w - 1 → r ≡ moment_after (x / s) m → r ≡ gone_at 1 s w m
gone_first s w x m r h e q = q ∙ rw e (ap (λ (k : ℕ). moment_after k m) (sym (of_first s w)) ∙ sym (gone_by 1 s w m h))

-- ALL s UNITS that go in w milliseconds: neither product nor division
of_all : (s w : ℕ) → 0 < s → last_short s s w ≡ w - 1
unfolding last_short
of_all s zero h = rw (mul-zero s) (zero-div s)
of_all s (suc w) h =
    let least : w ≤ (s * suc w - 1) / s = (le-div_iff_mul-le {k = s} h).1 (omega (arith, mul_comm w s)) in
    let most : (s * suc w - 1) / s < suc w = (div-lt_iff_lt-mul {k = s} h).1 (omega (arith, mul_comm (suc w) s)) in
    omega arith

pub short_all : (u s w r : ℕ) → 0 < s → u ≡ s → r ≡ w - 1 → r ≡ last_short u s w
short_all u s w r h i e = e ∙ rw i (sym (of_all s w h))

-- A QUOTIENT past the length counts as the length: the movement is over by then. So 32 bits hold what is kept
-- of it
at_most_length : (k : ℕ) (m : Movement) → moment_after (min m.length k) m ≡ moment_after k m
unfolding moment_after when◌then◌else◌
at_most_length k m =
    by_lt k m.length
    (λ l e. let z : min m.length k ≡ k = omega arith in rw z)
    (λ l e. let z : min m.length k ≡ m.length = omega arith in rw (z, e, leb_no {a = suc m.length} {b = m.length} (omega arith)))

pub gone_short : (u s w k x : ℕ) (m : Movement) (r : Option ℕ) → (s ≡ 0 → ⊥) → k ≡ last_short u s w → x ≡ min m.length k → r ≡ moment_after x m
    → r ≡ gone_at u s w m
gone_short u s w k x m r h e i q = q ∙ rw (i, e) (at_most_length (last_short u s w) m ∙ sym (gone_by u s w m h))
