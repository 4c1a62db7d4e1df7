-- `number_level::real_of` meets its contract: the level as an f32 is the level, and what the division rounds
-- is level / 65,536.
use mathlib.Core.Path.{◌≡◌}
use mathlib.Core.Bool.{false}
use Prim.Native.Nat.{ℕ, ◌*◌, ◌≤◌}
use native.Mathlib.Nat.{le_trans}
use native.Mathlib.Omega.{arith}
use lib.IntN.{pos}
use lib.Dec.{lit<, lit≤}
use lib.Ieee.{Float, nan, inf, fin, binary32, up, down, div, of_int, of_bits}
use lib.Ieee.Exact.{HasValue}
use lib.Ieee.Fits.{down_pos}
use lib.Ieee.Back.{round_whole}
use lib.Ieee.Scale.{round_same}
use Rattle.lighting_levels.specs.Paper.Level.{real_of}
use Rattle.number_level.proofs.real_of.Goals as goal

divided : (x : Float) (n : ℕ) → HasValue x false n 1 → div binary32 x (fin false 1 (pos 16)) ≡ real_of n
unfolding div real_of
divided nan n v = absurd v
divided (inf s) n v = absurd v
divided (fin s m e) n v =
    rw v.0 (round_same binary32 false (m * up e * 1) (65536 * down e) n 65536 (omega (arith, down_pos e)) (lit< tt) (omega (arith, v.1)))

whole : (n : ℕ) → n ≤ 6553600 → HasValue (of_int binary32 (pos n)) false n 1
unfolding of_int
whole n h = round_whole binary32 false n (le_trans h (lit≤ tt))

pub returns : goal.returns
unfolding of_bits
returns c = divided (of_int binary32 (pos c.args.level)) c.args.level (whole c.args.level c.requires)
