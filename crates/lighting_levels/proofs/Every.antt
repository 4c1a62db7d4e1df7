-- EVERY RECORD OF A TABLE, or every one of any list: what holds of each still holds where each is changed,
-- and where one is.
use mathlib.Core.Path.{◌≡◌, refl}
use mathlib.Core.Bool.{Bool, true}
use mathlib.Core.List.{List, [], ◌∷◌, map}
use Prim.Native.Nat.{ℕ, zero, suc}
use lib.ListN.{set, get_or, replicate}
use Rattle.lighting_levels.specs.Paper.Choice.{Every, every}
use Rattle.lighting_levels.proofs.Split.{also_yes}

pub every_then : {A : Type 0} (P Q : A → Type 0) (l : List A) → ((x : A) → P x → Q x) → Every P l → Every Q l
every_then P Q [] k a = tt
every_then P Q (x ∷ l) k a = (k x a.0, every_then P Q l k a.1)

pub every_map : {A B : Type 0} (P : A → Type 0) (Q : B → Type 0) (f : A → B) (l : List A) → ((x : A) → P x → Q (f x)) → Every P l → Every Q (map f l)
every_map P Q f [] k a = tt
every_map P Q f (x ∷ l) k a = (k x a.0, every_map P Q f l k a.1)

-- one changed; past the end none is
pub every_set : {A : Type 0} (P : A → Type 0) (l : List A) (i : ℕ) (d x : A) → (P (get_or l i d) → P x) → Every P l → Every P (set l i x)
every_set P [] i d x k a = tt
every_set P (y ∷ l) zero d x k a = (k a.0, a.1)
every_set P (y ∷ l) (suc i) d x k a = (a.0, every_set P l i d x k a.1)

pub every_replicate : {A : Type 0} (P : A → Type 0) (x : A) (n : ℕ) → P x → Every P (replicate n x)
every_replicate P x zero h = tt
every_replicate P x (suc n) h = (h, every_replicate P x n h)

-- what the facts say of each, a test of each says
pub every_tested : {A : Type 0} (P : A → Type 0) (f : A → Bool) (l : List A) → ((x : A) → P x → f x ≡ true) → Every P l → every f l ≡ true
unfolding every
every_tested P f [] k a = refl
every_tested P f (x ∷ l) k a = also_yes (k x a.0) (every_tested P f l k a.1)
