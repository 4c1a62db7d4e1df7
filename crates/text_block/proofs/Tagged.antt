-- The bytes of a command in tags, which its writer leaves before the zeros, and the line that spells them.
use mathlib.Core.Path.{◌≡◌}
use Prim.Native.Nat.{ℕ, ◌-◌, ◌≤◌}
use native.Mathlib.Omega.{arith}
use lib.ListN.{length, take, replicate, length-append, length-replicate}
use lib.Seq.{take-append_seam}
use Rattle.lighting_frames.specs.Paper.Tags.{tag_bytes, command_tags, most_tagged, zero_filled, tagged_body}
use Rattle.lighting_outputs.specs.declared.Command.{Command}
use Rattle.lighting_frames.specs.declared.TaggedBody.{TaggedBody}
use Rattle.tag_writing.proofs.Room.{command_most}
use Rattle.text_printing.proofs.Lengths.{hex_bytes_length}
use Rattle.text_block.specs.Block.{tagged_line}

module _ (k : Command) (r : TaggedBody) (e : r ≡ tagged_body k) where
  pub own_end : (r.length ≤ 17) × (length r.bytes ≡ 17)
  unfolding tagged_body zero_filled
  own_end = rw e (command_most k, simp (length-append, length-replicate) (omega (arith, command_most k)))

  pub own_bytes : (n : ℕ) → n ≡ r.length → take n r.bytes ≡ tag_bytes (command_tags k)
  unfolding tagged_body zero_filled
  own_bytes n f =
      rw (f, e) (take-append_seam (tag_bytes (command_tags k)) (replicate (most_tagged - length (tag_bytes (command_tags k))) 0))

-- two digits for each of 17 bytes at most
pub tagged_length : (k : Command) → length (tagged_line k) ≤ 42
unfolding tagged_line
tagged_length k = simp length-append (omega (arith, hex_bytes_length (tag_bytes (command_tags k)), command_most k))
