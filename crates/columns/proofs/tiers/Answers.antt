-- `columns::tiers` meets its contract, by computation.
use mathlib.Core.Bool.{true}
use mathlib.Core.List.{List, [], ◌∷◌}
use mathlib.Core.Path.{◌≡◌, refl}
use Prim.Native.Nat.{ℕ}
use lib.ListN.{get_or}
use borrow.Author.Tests.{eqb-true}
use Rattle.words.specs.Words.{◌=?◌}
use Rattle.words.specs.Below.{all_below, below}
use Rattle.rows.specs.Rows.{columns}
use Rattle.columns.specs.Column.{tier_in}
use Rattle.columns.proofs.tiers.Goals as goal

abbrev table : List ℕ
table = 0 ∷ 1 ∷ 2 ∷ 3 ∷ 4 ∷ 5 ∷ 6 ∷ 7 ∷ 8 ∷ 9 ∷ 10 ∷ 11 ∷ 12 ∷ 13 ∷ 14 ∷ 15 ∷ 16 ∷ 11 ∷ 1 ∷ 3 ∷ 4 ∷ 5 ∷ 6 ∷ []

computed : all_below columns (λ c. get_or table c 0 =? tier_in c) ≡ true
unfolding all_below tier_in
computed = refl

pub returns : goal.returns
returns c = record { size = refl; each = λ k l. eqb-true (get_or table k 0) (tier_in k) (below columns (λ c. get_or table c 0 =? tier_in c) computed k l) }
