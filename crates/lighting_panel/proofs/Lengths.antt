-- A frame as a station keeps it, and read back.
use mathlib.Core.Path.{◌≡◌, refl}
use mathlib.Core.List.{[], ◌∷◌}
use Prim.Native.Nat.{ℕ, ◌-◌, ◌≤◌}
use native.Mathlib.Omega.{arith}
use lib.ListN.{length, replicate, length-append, length-replicate}
use lib.Seq.{take-append_seam}
use Rattle.lighting_levels.specs.Paper.Field.{byte_at}
use Rattle.lighting_frames.specs.Paper.Kinds.{longest_frame, kind_length}
use Rattle.lighting_frames.specs.Paper.Frames.{Bytes}
use Rattle.lighting_panel.specs.Engine.Judging.{padded, restored}

pub padded_kind : (b : Bytes) → byte_at (padded b) 0 ≡ byte_at b 0
unfolding padded byte_at
padded_kind [] = refl
padded_kind (x ∷ b) = refl

pub padded_length : (b : Bytes) → length b ≤ longest_frame → length (padded b) ≡ longest_frame
unfolding padded
padded_length b h =
    omega (arith, length-append b (replicate (longest_frame - length b) 0), length-replicate {A = ℕ} (longest_frame - length b) 0)

pub restored_padded : (b : Bytes) → length b ≡ kind_length (byte_at b 0) → restored (padded b) ≡ b
unfolding restored
restored_padded b h = rw (padded_kind b, ← h) (unfold padded in (take-append_seam b (replicate (longest_frame - length b) 0)))
