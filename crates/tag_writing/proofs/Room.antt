-- That 17 bytes hold every command, and what they are then.
use mathlib.Core.Path.{◌≡◌, refl, ap, ◌∙◌}
use mathlib.Core.List.{List, ◌++◌}
use Prim.Native.Nat.{ℕ, zero, suc, ◌+◌, ◌-◌, ◌≤◌}
use native.Mathlib.Omega.{arith}
use lib.ListN.{length, drop, replicate}
use lib.Seq.{sets-eq}
use Rattle.lighting_frames.specs.Paper.Tags.{field_size, tag_bytes, tags_of, command_tags, zero_filled, tagged_body}
use Rattle.lighting_outputs.specs.Paper.Operations.{duration_field}
use Rattle.lighting_outputs.specs.declared.Command.{Command}
use Rattle.lighting_frames.specs.declared.TagFields.{TagFields}
use Rattle.lighting_frames.specs.declared.TaggedBody.{TaggedBody}
use Rattle.lighting_frames.proofs.Tagging.Bodies.{sizes_written}
use Rattle.lighting_frames.proofs.Tagging.Commands.{real_size, whole_size, sizes_most}
use Rattle.text_printing.specs.declared.Page.{Page}
use Rattle.text_printing.specs.Page.{with_text, Wrote}
use base.Fml.{GName}

-- NO FIELD is of more than four octets
module _ (k : Command) {f : TagFields} (e : f ≡ command_tags k) where
  pub operation_most : field_size f.operation ≤ 5
  unfolding command_tags tags_of field_size
  operation_most = rw e (omega arith)

  pub level_most : field_size f.level ≤ 5
  unfolding command_tags tags_of
  level_most = rw e (real_size _)

  pub rate_most : field_size f.rate ≤ 5
  unfolding command_tags tags_of
  rate_most = rw e (real_size _)

  pub step_most : field_size f.step ≤ 5
  unfolding command_tags tags_of
  step_most = rw e (real_size _)

  pub fade_most : field_size f.fade ≤ 5
  unfolding command_tags tags_of
  fade_most = rw e (whole_size _)

  pub duration_most : field_size f.duration ≤ 5
  unfolding command_tags tags_of
  duration_most = rw e (whole_size _)

-- A COMMAND is of at most 17 bytes
pub command_most : (k : Command) → length (tag_bytes (command_tags k)) ≤ 17
unfolding command_tags
command_most k = omega (arith, sizes_written (command_tags k), (sizes_most k.operation (duration_field k.duration)).1)

-- ON AN EMPTY PAGE of 17 bytes: what was written, with zeros after it
drop_replicate : (n m : ℕ) → drop n (replicate {A = ℕ} m 0) ≡ replicate (m - n) 0
drop_replicate zero m = let all : m - 0 ≡ m = omega arith in rw all
drop_replicate (suc n) zero = let none : 0 - suc n ≡ 0 = omega arith in rw none
drop_replicate (suc n) (suc m) = let fewer : suc m - suc n ≡ m - n = omega arith in rw fewer (drop_replicate n m)

module _ (k : Command) {p q : Page} {ref : ℕ × ℕ} {name : GName}
    (blank : p ≡ record { bytes = record { ref_ptr = ref; ghost_name = name; now = replicate 17 0 }; mark = 0 })
    (wrote : Wrote p (tag_bytes (command_tags k)) q) where
  filled : q.bytes.now ≡ zero_filled (tag_bytes (command_tags k))
  unfolding with_text zero_filled
  filled =
      let x : List ℕ = tag_bytes (command_tags k) in
      let start : 0 + length x ≡ length x = omega arith in
      let room : length x ≤ 17 = command_most k in
      rw (wrote, blank)
      (sets-eq x (replicate 17 0) 0 (omega arith) ∙ ap (λ (rest : List ℕ). x ++ rest) (rw start (drop_replicate (length x) 17)))

  moved : q.mark ≡ length (tag_bytes (command_tags k))
  unfolding with_text
  moved = rw (wrote, blank) (omega (arith, command_most k))

  lent : name ≡ q.bytes.ghost_name
  unfolding with_text
  lent = rw (wrote, blank) refl

  pub body_most : q.mark ≤ 17
  body_most = omega (arith, moved, command_most k)

  -- what the one who lent the bytes finds in them
  pub body_written : {bytes : List ℕ} → (name ≡ q.bytes.ghost_name → bytes ≡ q.bytes.now) → ◌≡◌ {A = TaggedBody} (record { length = q.mark; bytes = bytes }) (tagged_body k)
  unfolding tagged_body
  body_written back = rw (back lent, filled, moved) refl
