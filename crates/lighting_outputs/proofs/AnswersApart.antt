-- The bytes of an answer tell all four cases, and their values, apart.
use Rattle.std.specs.Prelude.{Some}
use mathlib.Core.Path.{◌≡◌, refl, sym, ap}
use mathlib.Core.Logic.{◌≢◌}
use mathlib.Core.List.{List, ◌∷◌}
use Prim.Native.Nat.{ℕ, ◌+◌, ◌*◌, ◌/◌, ◌%◌, ◌^◌, ◌<◌}
use native.Mathlib.Nat.{div-one, div-div-eq-div-mul}
use native.Mathlib.Omega.{arith}
use lib.ListN.{get_or}
use Rattle.lighting_levels.specs.Paper.Field.{byte_at, big_endian, octets}
use Rattle.lighting_outputs.specs.Paper.Answers.{answer_bytes, value_of}
use Rattle.lighting_outputs.specs.declared.Answer.{Answer}
use Rattle.lighting_outputs.specs.declared.Answer.TheVariants.{Done, Value, Absent, Refused}

-- four bytes and the number that they are
digits : (v a b c : ℕ) → a ≡ v / 256 → b ≡ a / 256 → c ≡ b / 256 → c < 256
    → (((0 * 256 + c % 256) * 256 + b % 256) * 256 + a % 256) * 256 + v % 256 ≡ v
digits v a b c p q r h = omega arith

pub four_bytes : (v : ℕ) → v < 2 ^ 32 → big_endian 4 (octets 4 v) 0 ≡ v
unfolding big_endian byte_at octets
four_bytes v h =
    rw
    (div-one v)
    (digits v (v / 256) (v / 65536) (v / 16777216) refl (sym (div-div-eq-div-mul v 256 256)) (sym (div-div-eq-div-mul v 65536 256)) (omega arith))

-- the number of a refusal, 0 where there is none
abbrev pub refusal_of : Answer → ℕ
refusal_of Done = 0
refusal_of (Value v) = 0
refusal_of Absent = 0
refusal_of (Refused n) = n

refused_bytes : (a : Answer) (n : ℕ) → answer_bytes a ≡ answer_bytes (Refused n) → refusal_of a ≡ n
unfolding answer_bytes octets
refused_bytes Done n h = let z : ◌≡◌ {A = ℕ} 0x80 0x83 = ap (λ (l : List ℕ). get_or l 0 0) h in absurd (omega arith)
refused_bytes (Value v) n h = let z : ◌≡◌ {A = ℕ} 0x81 0x83 = ap (λ (l : List ℕ). get_or l 0 0) h in absurd (omega arith)
refused_bytes Absent n h = let z : ◌≡◌ {A = ℕ} 0x82 0x83 = ap (λ (l : List ℕ). get_or l 0 0) h in absurd (omega arith)
refused_bytes (Refused m) n h = ap (λ (l : List ℕ). get_or l 1 0) h

pub never_bytes : (a : Answer) (n : ℕ) → refusal_of a ≢ n → answer_bytes a ≢ answer_bytes (Refused n)
never_bytes a n h e = h (refused_bytes a n e)

-- 'a Value of 32 bits'
abbrev pub Fits : Answer → Type 0
Fits Done = Unit {0}
Fits (Value v) = v < 2 ^ 32
Fits Absent = Unit {0}
Fits (Refused n) = Unit {0}

first_byte : {a b : ℕ} {k l : List ℕ} → a ∷ k ≡ b ∷ l → a ≡ b
first_byte h = ap (λ (l : List ℕ). get_or l 0 0) h

other_bytes : {a b : ℕ} {k l : List ℕ} → a ∷ k ≡ b ∷ l → k ≡ l
other_bytes {k = k} {l = l} h = cc

other : {A : Type 0} {a b : ℕ} {k l : List ℕ} → a ≢ b → a ∷ k ≡ b ∷ l → A
other n h = absurd (n (first_byte h))

-- NO TWO ANSWERS have the same bytes
pub told_apart : (a b : Answer) → Fits a → Fits b → answer_bytes a ≡ answer_bytes b → a ≡ b
unfolding answer_bytes
told_apart Done Done f g h = refl
told_apart Done (Value v) f g h = other (omega arith) h
told_apart Done Absent f g h = other (omega arith) h
told_apart Done (Refused n) f g h = other (omega arith) h
told_apart (Value v) Done f g h = other (omega arith) h
told_apart (Value v) (Value w) f g h =
    let e : octets 4 v ≡ octets 4 w = other_bytes h in
    let z : v ≡ w = omega (arith, four_bytes v f, four_bytes w g, ap (λ (l : List ℕ). big_endian 4 l 0) e) in
    ap Value z
told_apart (Value v) Absent f g h = other (omega arith) h
told_apart (Value v) (Refused n) f g h = other (omega arith) h
told_apart Absent Done f g h = other (omega arith) h
told_apart Absent (Value v) f g h = other (omega arith) h
told_apart Absent Absent f g h = refl
told_apart Absent (Refused n) f g h = other (omega arith) h
told_apart (Refused m) Done f g h = other (omega arith) h
told_apart (Refused m) (Value v) f g h = other (omega arith) h
told_apart (Refused m) Absent f g h = other (omega arith) h
told_apart (Refused m) (Refused n) f g h = let e : m ≡ n = first_byte (other_bytes h) in ap Refused e

-- the value that is printed is the one of the bytes
pub value_bytes : (a : Answer) (v : ℕ) → value_of a ≡ Some v → answer_bytes a ≡ answer_bytes (Value v)
value_bytes Done v h = let z : ◌≡◌ {A = ℕ} 0 1 = cc in absurd (omega arith)
value_bytes (Value w) v h = let e : w ≡ v = cc in ap (λ (x : ℕ). answer_bytes (Value x)) e
value_bytes Absent v h = let z : ◌≡◌ {A = ℕ} 0 1 = cc in absurd (omega arith)
value_bytes (Refused n) v h = let z : ◌≡◌ {A = ℕ} 0 1 = cc in absurd (omega arith)
