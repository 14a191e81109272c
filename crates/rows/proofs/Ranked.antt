-- A list of tiers by rank: what a list that is made of it has at each rank, and that each is a tier.
use mathlib.Core.Path.{◌≡◌, refl}
use mathlib.Core.List.{List, [], ◌∷◌, map}
use Prim.Native.Nat.{ℕ, zero, suc, ◌<◌}
use native.Mathlib.Omega.{arith}
use lib.ListN.{length, get_or}
use Rattle.cascade.specs.Cascade.{tiers}
use Rattle.cascade.specs.Promise.{Once}
use Rattle.cascade.proofs.Lists.{all-at}

pub map_at : (f : ℕ → ℕ) (xs : List ℕ) (i : ℕ) → i < length xs → get_or (map f xs) i 0 ≡ f (get_or xs i 0)
map_at f [] i l = absurd (omega arith)
map_at f (x ∷ xs) zero l = refl
map_at f (x ∷ xs) (suc i) l = map_at f xs i (omega arith)

pub rank-few : (ranking : List ℕ) → Once tiers ranking → length ranking ≡ tiers → (i : ℕ) → i < tiers → get_or ranking i 0 < tiers
rank-few ranking o n i l = all-at (λ t. t < tiers) ranking o.inside i (omega arith)
