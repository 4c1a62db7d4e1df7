-- The product of x and 2^26 is a whole number n (proofs/Scaled.antt), and 1,024 of it are a unit.
use Rattle.std.specs.Prelude.{Some}
use mathlib.Core.Path.{◌≡◌, sym, ap, subst, ◌∙◌}
use Prim.Native.Nat.{ℕ}
use native.Mathlib.Omega.{arith}
use lib.Dec.{T}
use lib.Ieee.{Float, of_bits, le, fits, binary32, binary64, mul, to_unsigned}
use Rattle.std.proofs.Common.{true, rules}
use Rattle.lighting_levels.specs.Paper.Level.{nearest_to}
use Rattle.number_level.proofs.Scaled.{eighth, hundred, scale, Scaled, scaled, few_units, cast}
use Rattle.number_level.proofs.Tested.{too_low_lem, too_high_lem}
use Rattle.number_level.proofs.amount_of_real.Goals as goal
use Rattle.number_level.proofs.amount_of_real.Goals.{else-x-via-then-x+else-x-2, else-x-via-else-x}

found : (x : Float) → T (fits binary32 x) → le eighth x ≡ true → le x hundred ≡ true → Scaled x
found x f low high = scaled x f (subst T (sym low) tt) (subst T (sym high) tt)

pub float_to_int-n : goal.float_to_int-n
unfolding of_bits
float_to_int-n c =
    let f : T (fits binary32 c.args.x) = search rules in
    rw c.from.ensures (cast (found c.args.x f c.if-x.true c.if-x-2.true)).0

pub rounded-requires : goal.rounded-requires
unfolding of_bits
rounded-requires c =
    let f : T (fits binary32 c.args.x) = search rules in
    let s = found c.args.x f c.if-x.true c.if-x-2.true in
    rw c.from.ensures (omega (arith, (cast s).1, s.small))

result_is : (x : Float) (s : Scaled x) (y : Float) (r : ℕ) → y ≡ x → r ≡ nearest_to (to_unsigned 64 (mul binary64 y scale)) 1024
    → r ≡ nearest_to s.n 1024
result_is x s y r p e =
    e ∙ ap (λ (z : Float). nearest_to (to_unsigned 64 (mul binary64 z scale)) 1024) p ∙ ap (λ (n : ℕ). nearest_to n 1024) (cast s).1

pub overflow_cast-result : goal.overflow_cast-result
unfolding of_bits
overflow_cast-result c =
    let f : T (fits binary32 c.args.x) = search rules in
    let s = found c.args.x f c.if-x.true c.if-x-2.true in
    let e = result_is c.args.x s c.from.result c.rounded.result c.from.ensures c.rounded.ensures in
    record { fits = omega (arith, e, few_units s.n s.small) }

pub returns-then-x-2 : goal.returns-then-x-2
unfolding of_bits
returns-then-x-2 c =
    let f : T (fits binary32 c.args.x) = search rules in
    let s = found c.args.x f c.if-x.true c.if-x-2.true in
    ap Some (result_is c.args.x s c.from.result c.rounded.result c.from.ensures c.rounded.ensures) ∙ sym s.amount

pub returns-else-x : goal.returns-else-x
unfolding of_bits
returns-else-x c =
    elim c.else-x.branch [
      | else-x-via-then-x+else-x-2 w ↦ sym (too_high_lem c.args.x w.if-x-2.false)
      | else-x-via-else-x w ↦ sym (too_low_lem c.args.x w.if-x.false)
    ]
