-- NO OTHER BYTES: whatever 18 bytes ask for a command in tags are the ones that the writer makes of it (§1).
-- And what is asked is given back: so each command that the panel keeps has one form in tags.
use Rattle.std.specs.Prelude.{Option, Some, None, Ok}
use Rattle.lighting_levels.specs.Paper.Choice.{when◌then◌else◌}
use mathlib.Core.Path.{◌≡◌, refl, sym, ap, ap₂, ◌∙◌}
use mathlib.Core.Bool.{true, false≢true}
use mathlib.Core.List.{List, ◌∷◌, []}
use Prim.Native.Nat.{ℕ, zero, suc, ◌+◌, ◌^◌, ◌≤◌, ◌<◌}
use native.Mathlib.Nat.{pow-le-pow_right}
use native.Mathlib.Omega.{arith}
use lib.Ieee.{Float}
use lib.ListN.{length, get_or}
use Rattle.lighting_outputs.specs.declared.Parameters.{Parameters}
use Rattle.lighting_levels.specs.Paper.Level.{real, bits}
use Rattle.lighting_outputs.specs.Paper.Operations.{operation_number, fields_of}
use Rattle.lighting_frames.specs.Paper.Tags.{OctetRange, one_octet, real_octets, tag_octets, listed, real_tag, whole_tag, tags_of, command_tags, body_bytes, most_tagged, holds_at_most, well_tagged, held_by, operations, operation_of, time_of, both_or_neither, fewest, own_tags, body_fields, read_fields, read_body, holds}
use Rattle.lighting_frames.specs.Paper.Frames.{Bytes, Octets, tagged_request}
use Rattle.lighting_outputs.specs.Paper.Requests.{level_field_refusal, amount_field_refusal, fields_refusal}
use Rattle.lighting_outputs.specs.declared.Command.{Command}
use Rattle.lighting_outputs.specs.declared.Operation.{Operation}
use Rattle.lighting_outputs.specs.declared.Operation.TheVariants.{Stop}
use Rattle.lighting_frames.specs.declared.TagContent.{TagContent}
use Rattle.lighting_frames.specs.declared.TagFields.{TagFields}
use Rattle.lighting_outputs.specs.declared.OutputRequest.TheVariants.{Commands}
use Rattle.lighting_levels.proofs.Split.{also_both, by_bool, eq_of, le_of}
use Rattle.lighting_outputs.proofs.Patterns.{level_field_kept, amount_field_kept}
use Rattle.lighting_outputs.proofs.Rules.CommandRanges.{none_met, refused_never, command_taken}
use Rattle.lighting_frames.proofs.Tagging.Fields.{Fits, AllFit}
use Rattle.lighting_frames.proofs.Tagging.Bodies.{well_tagged_lem, fields_fit, only_body}

-- THE OPERATION of fields: its number is the one that tag 0 holds, and each of its own fields is the one of
-- its tag
abbrev pub IsReal : Float → Option Float → Type 0
IsReal x (Some y) = y ≡ x
IsReal x None = Unit {0}

abbrev pub IsTime : ℕ → Option ℕ → Type 0
IsTime v (Some w) = w ≡ v
IsTime v None = Unit {0}

pub record Carries (x y z : Float) (v n : ℕ) (o : Operation) : Type 0 where
  pub number : operation_number o ≡ n
  pub level : IsReal x (fields_of o).level
  pub rate : IsReal y (fields_of o).rate
  pub step : IsReal z (fields_of o).step
  pub fade : IsTime v (fields_of o).fade

abbrev EachFrom : (ℕ → Operation → Type 0) → ℕ → List Operation → Type 0
EachFrom P n [] = Unit {0}
EachFrom P n (o ∷ l) = P n o × EachFrom P (suc n) l

each_at : (P : ℕ → Operation → Type 0) (d : Operation) (n i : ℕ) (l : List Operation) → EachFrom P n l → i < length l → P (n + i) (get_or l i d)
each_at P d n i [] e h = absurd (omega arith)
each_at P d n zero (o ∷ l) e h = let z : n + 0 ≡ n = omega arith in rw z e.0
each_at P d n (suc i) (o ∷ l) e h = let z : n + suc i ≡ suc n + i = omega arith in rw z (each_at P d (suc n) i l e.1 (omega arith))

module _ (level rate step : Float) (fade : ℕ) where
  carried : EachFrom (Carries level rate step fade) 0 (operations level rate step fade)
  unfolding operation_number fields_of
  carried = (
    record { number = refl; level = tt; rate = tt; step = tt; fade = tt },
    (
      record { number = refl; level = refl; rate = tt; step = tt; fade = tt },
      (
        record { number = refl; level = refl; rate = tt; step = tt; fade = refl },
        (
          record { number = refl; level = refl; rate = tt; step = tt; fade = tt },
          (
            record { number = refl; level = refl; rate = refl; step = tt; fade = tt },
            (
              record { number = refl; level = tt; rate = tt; step = tt; fade = tt },
              (
                record { number = refl; level = tt; rate = tt; step = tt; fade = tt },
                (
                  record { number = refl; level = tt; rate = tt; step = refl; fade = tt },
                  (
                    record { number = refl; level = tt; rate = tt; step = refl; fade = tt },
                    (
                      record { number = refl; level = refl; rate = tt; step = tt; fade = tt },
                      (
                        record { number = refl; level = tt; rate = tt; step = tt; fade = tt },
                        tt,
                      ),
                    ),
                  ),
                ),
              ),
            ),
          ),
        ),
      ),
    ),
  )

abbrev pub FieldsOf : TagFields → Operation → Type 0
FieldsOf f o = Carries (real (held_by f.level)) (real (held_by f.rate)) (real (held_by f.step)) (held_by f.fade) (held_by f.operation) o

pub operation_of_lem : (f : TagFields) → held_by f.operation ≤ 10 → FieldsOf f (operation_of f)
unfolding operation_of
operation_of_lem f h =
    let level = real (held_by f.level) in
    let rate = real (held_by f.rate) in
    let step = real (held_by f.step) in
    let fade = held_by f.fade in
    let number : 0 + held_by f.operation ≡ held_by f.operation = omega arith in
    rw number at
    (each_at (Carries level rate step fade) Stop 0 (held_by f.operation) (operations level rate step fade) (carried level rate step fade) (omega arith))

-- A REAL that was read and is in range is spelled as it was
abbrev Spelled : Option Float → ℕ → Type 0
Spelled (Some x) v = bits x ≡ v
Spelled None v = Unit {0}

level_spelled : (x : Option Float) (v : ℕ) → v < 2 ^ 32 → IsReal (real v) x → level_field_refusal x ≡ None → Spelled x v
level_spelled (Some x) v h e r = rw e (level_field_kept v h (rw e at r)).written
level_spelled None v h e r = tt

amount_spelled : (x : Option Float) (v : ℕ) → v < 2 ^ 32 → IsReal (real v) x → amount_field_refusal x ≡ None → Spelled x v
amount_spelled (Some x) v h e r = rw e (amount_field_kept v h (rw e at r)).written
amount_spelled None v h e r = tt

pub held_word : (allowed : OctetRange) (f : Option TagContent) → allowed.most ≤ 4 → Fits allowed f → held_by f < 2 ^ 32
unfolding held_by
held_word allowed (Some content) m h =
    omega (arith, h.2, pow-le-pow_right {n = 256} (omega arith) {i = content.count} {j = 4} (omega (arith, h.1)))
held_word allowed None m h = omega arith

real_same : (x : Option Float) (f : Option TagContent) → Fits real_octets f → Spelled x (held_by f) → both_or_neither (real_tag x) f ≡ true → real_tag x ≡ f
unfolding real_tag both_or_neither held_by
real_same (Some x) (Some content) h s b = ap₂ holds (omega (arith, h.0, h.1)) s
real_same (Some x) None h s b = absurd (false≢true b)
real_same None (Some content) h s b = absurd (false≢true b)
real_same None None h s b = refl

pub time_same : (t : Option ℕ) (f : Option TagContent) → IsTime (held_by f) t → fewest f ≡ true → both_or_neither (whole_tag t) f ≡ true → whole_tag t ≡ f
unfolding whole_tag both_or_neither held_by fewest
time_same (Some v) (Some content) e q b = rw e (ap (λ (n : ℕ). holds n content.value) (sym (eq_of q)))
time_same (Some v) None e q b = absurd (false≢true b)
time_same None (Some content) e q b = absurd (false≢true b)
time_same None None e q b = refl

duration_same : (f : Option TagContent) → fewest f ≡ true → whole_tag (time_of f) ≡ f
unfolding whole_tag time_of fewest
duration_same (Some content) q = ap (λ (n : ℕ). holds n content.value) (sym (eq_of q))
duration_same None q = refl

number_same : (n : ℕ) (f : Option TagContent) → n ≡ held_by f → Fits one_octet f → both_or_neither (holds 1 n) f ≡ true → holds 1 n ≡ f
unfolding both_or_neither held_by
number_same n (Some content) e h b = ap₂ holds (omega (arith, h.0, h.1)) e
number_same n None e h b = absurd (false≢true b)

-- so the fields are those that the writer would write for what was read
pub at_most : (f : Option TagContent) → holds_at_most 10 f ≡ true → held_by f ≤ 10
unfolding holds_at_most held_by
at_most (Some content) h = le_of h
at_most None h = omega arith

pub tags_same : (p : Parameters) (f : TagFields) → AllFit tag_octets (listed f) → holds_at_most 10 f.operation ≡ true → own_tags (tags_of (operation_of f) (time_of f.duration)) f ≡ true
    → fields_refusal p (fields_of (operation_of f)) ≡ None → tags_of (operation_of f) (time_of f.duration) ≡ f
unfolding own_tags tags_of
tags_same p f fit known own ranges =
    let o = operation_of_lem f (at_most f.operation known) in
    let n = none_met p (fields_of (operation_of f)) ranges in
    let a = also_both own in
    let b = also_both a.1 in
    let c = also_both b.1 in
    let d = also_both c.1 in
    let e = also_both d.1 in
    let g = also_both e.1 in
    let level = fit.1.0 in
    let rate = fit.1.1.0 in
    let step = fit.1.1.1.0 in
    same
    (number_same (operation_number (operation_of f)) f.operation o.number fit.0 a.0)
    (real_same (fields_of (operation_of f)).level f.level level (level_spelled _ (held_by f.level) (held_word real_octets f.level (omega arith) level) o.level n.level) b.0)
    (real_same (fields_of (operation_of f)).rate f.rate rate (amount_spelled _ (held_by f.rate) (held_word real_octets f.rate (omega arith) rate) o.rate n.rate) c.0)
    (real_same (fields_of (operation_of f)).step f.step step (amount_spelled _ (held_by f.step) (held_word real_octets f.step (omega arith) step) o.step n.step) d.0)
    (time_same (fields_of (operation_of f)).fade f.fade o.fade g.0 e.0)
    (duration_same f.duration g.1)
  where
    same : {a b c d e g : Option TagContent} → a ≡ f.operation → b ≡ f.level → c ≡ f.rate → d ≡ f.step → e ≡ f.fade → g ≡ f.duration
        → record { operation = a; level = b; rate = c; step = d; fade = e; duration = g } ≡ f
    same z' q r s t u = rw (z', q, r, s, t, u)

-- WHATEVER 18 BYTES ask for a command are the writer's
module _ (p : Parameters) (body : Bytes) (o : Octets body) (eighteen : length body ≡ suc most_tagged) (k : Command) where
  own_body : well_tagged body ≡ true → tagged_request p (read_fields (body_fields body)) ≡ Ok (Commands k) → command_tags k ≡ body_fields body
  unfolding read_fields tagged_request command_tags when◌then◌else◌
  own_body w =
      let f = body_fields body in
      by_bool (own_tags (tags_of (operation_of f) (time_of f.duration)) f)
      (λ e. rw e (λ h.
      let t = command_taken p (operation_of f) (time_of f.duration) k h in
      rw (t.operation, t.lasting) (tags_same p f (fields_fit body o) (well_tagged_lem body w).known e t.ranges)))
      (λ e. rw e (λ h. absurd (refused_never k h)))

  pub only_written : tagged_request p (read_body body) ≡ Ok (Commands k) → body ≡ body_bytes (command_tags k)
  unfolding read_body tagged_request when◌then◌else◌
  only_written =
      by_bool (well_tagged body)
      (λ e. rw e (λ h. sym (only_body body o eighteen e) ∙ ap body_bytes (sym (own_body e h))))
      (λ e. rw e (λ h. absurd (refused_never k h)))
