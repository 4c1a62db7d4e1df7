-- A number that none of a match's keys is. The keys stand the last first, as a match's last arm has them: an
-- `omega` over all of them would meet a split for each.
use mathlib.Core.Path.{◌≡◌}
use mathlib.Core.List.{List, [], ◌∷◌}
use Prim.Native.Nat.{ℕ, zero, suc, ◌+◌, ◌≤◌}
use native.Mathlib.Omega.{arith}
use Rattle.lighting_levels.proofs.Split.{by_eq}

abbrev pub Missed : List ℕ → ℕ → Type 0
Missed [] n = Unit {0}
Missed (k ∷ ks) n = Missed ks n × (n ≡ k → ⊥)

-- m keys from b on
abbrev pub keys_from : ℕ → ℕ → List ℕ
keys_from b zero = []
keys_from b (suc m) = (b + m) ∷ keys_from b m

pub past_keys : (b m n : ℕ) → b ≤ n → Missed (keys_from b m) n → b + m ≤ n
past_keys b zero n h o = omega arith
past_keys b (suc m) n h o =
    let i : b + m ≤ n = past_keys b m n h o.0 in
    by_eq n (b + m) (λ e f. absurd (o.1 e)) (λ e f. omega arith)
