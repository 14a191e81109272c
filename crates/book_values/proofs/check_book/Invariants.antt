-- `check_book`. The loop's invariant: both sums are taken below the place.
use mathlib.Core.List.{List}
use Prim.Native.Nat.{ℕ, ◌+◌, ◌-◌, ◌<◌}
use Rattle.book.specs.Records.{N}
use Rattle.exposure.specs.Values.{of_reinsurance}
use Rattle.assets.specs.Entered.{less_netted}
use Rattle.assets.proofs.Sums.{Below}
use Rattle.book_values.proofs.check_book.Given as goal

pub record Summing (b : List ℕ) (values above place : ℕ) : Type 0 where
  pub started : 0 < place
  pub of_values : Below (of_reinsurance (λ a. a.value)) b place values
  pub of-stressed : Below (of_reinsurance less_netted) b place above

abbrev pub invariant-loop-place : goal.invariant-loop-place
invariant-loop-place l = Summing l.b l.values l.stressed l.place
