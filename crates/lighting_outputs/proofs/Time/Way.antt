-- A movement goes no further than its way.
use Prim.Native.Nat.{ℕ, ◌*◌, ◌/◌, ◌≤◌}
use native.Mathlib.Nat.{mul-le-mul_left, mul_comm, div-le_of_le-mul}
use native.Mathlib.Omega.{arith}
use Rattle.lighting_outputs.specs.Paper.Value.{distance_moved}
use Rattle.lighting_outputs.specs.declared.Pace.{Pace}
use Rattle.lighting_outputs.specs.declared.Pace.TheVariants.{Fade, Ramp}

-- k of l, where a length of 0 gives no share
pub share_most : (d l k : ℕ) → k ≤ l → d * k / l ≤ d
share_most d l k h = div-le_of_le-mul l (omega (arith, mul-le-mul_left d h, mul_comm d l))

pub distance_moved_most : (p : Pace) (d l k : ℕ) → k ≤ l → distance_moved p d l k ≤ d
unfolding distance_moved
distance_moved_most Fade d l k h = share_most d l k h
distance_moved_most (Ramp r) d l k h = omega arith
