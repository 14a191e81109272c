-- An array that is filled from the front.
use mathlib.Core.Path.{◌≡◌, ◌∙◌}
use mathlib.Core.List.{List}
use Prim.Native.Nat.{ℕ, ◌+◌, ◌<◌}
use native.Mathlib.Omega.{arith}
use borrow.Author.Count.{below_more}
use lib.ListN.{length, get_or, set}
use lib.Seq.{get_or-set_same, get_or-set_other}

-- one more entry of an array that is filled from the front with the values of f
pub fill_more :
    (f : ℕ → ℕ) (xs : List ℕ) (t v : ℕ) → t < length xs → ((u : ℕ) → u < t → get_or xs u 0 ≡ f u) → v ≡ f t → (u : ℕ) → u < t + 1 → get_or (set xs t v) u 0 ≡ f u
fill_more f xs t v l h e =
    below_more (λ u. get_or (set xs t v) u 0 ≡ f u) t (λ u k. get_or-set_other xs t u v 0 (λ q. omega arith) ∙ h u k) (get_or-set_same xs t v 0 l ∙ e)
