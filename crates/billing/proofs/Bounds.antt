-- How large the charge of an accepted book is at most: group excess and A3 sum are each at most all exposures, 900 × M (charge-few).
use mathlib.Core.Bool.{Bool, true, false, not, ◌&&◌}
use mathlib.Core.List.{List}
use mathlib.Core.Path.{◌≡◌}
use Prim.Native.Nat.{ℕ, ◌+◌, ◌*◌, ◌≤◌}
use native.Mathlib.Omega.{arith}
use Rattle.std.specs.Prelude.{if◌then◌else◌}
use Rattle.words.specs.Words.{◌=?◌, sum_of, sum}
use Rattle.words.specs.Sums.{sum-le, sum-count, sum-most}
use Rattle.wire.specs.Bytes.{M}
use Rattle.cascade.specs.Cascade.{tiers, excess_sum}
use Rattle.cascade.proofs.Fund.{excess-within}
use Rattle.figures.specs.Report.{ranking, excess_of, excess_sum_of, group_excess, charge}
use Rattle.bills.specs.Tables.{most_excess}
use Rattle.schedule.specs.Schedule.{schedule_of}
use Rattle.book.specs.declared.Kind.TheVariants.{LifeCompany}
use Rattle.book.specs.Fields.{◌is◌}
use Rattle.book.specs.Records.{C}
use Rattle.book.specs.Book.{Book, book_of, top_of}
use Rattle.book.specs.Accepted.{Accepted}
use Rattle.exposure.specs.declared.Exposure.{Exposure}
use Rattle.exposure.specs.Parts.{exposures}
use Rattle.exposure.specs.Tier.{tier_of}
use Rattle.exposure.specs.Sums.{amount_of, exposure_of, a3_exposure_of}
use Rattle.cells.specs.GroupSums.{whole_le}
use Rattle.a3.specs.A3.{a3_part, a3_sum_of}
use Rattle.fund.specs.Figures.{limit, a3_sum, fund_of}
use Rattle.report.specs.Answer.{fund_in}

-- what counts for A3 is part of the tier's exposure
a3-part : (B : Book) (g t : ℕ) → a3_exposure_of B g t ≤ exposure_of B g t
unfolding a3_exposure_of exposure_of amount_of
a3-part B g t = sum-most _ _ (exposures B) (λ x. by x (top_of B.counterparty x.counterparty =? g && tier_of B.counterparty x =? t) (not (B.counterparty x.counterparty is LifeCompany)))
  where
    by : (x : Exposure) (p q : Bool) → (if p && q then x.amount else 0) ≤ (if p then x.amount else 0)
    by x true true = omega arith
    by x true false = omega arith
    by x false q = omega arith

-- five tiers of sixteen
part-few : (e f L : ℕ → ℕ) → ((t : ℕ) → e t ≤ f t) → a3_part e L ≤ sum f tiers
unfolding a3_part sum_of sum
part-few e f L h = omega (arith, h 1, h 3, h 4, h 5, h 6)

module _ (b : List ℕ) (acc : Accepted b) (L : ℕ → ℕ) where
  a3-few : a3_sum_of (C b) (a3_exposure_of (book_of b)) L ≤ 900 * M
  unfolding a3_sum_of
  a3-few =
      let B = book_of b in
      let each = sum-le (λ k. a3_part (a3_exposure_of B (1 + k)) L) (λ k. sum (exposure_of B (k + 1)) tiers) (C b)
      (λ k _. let d : 1 + k ≡ k + 1 = omega arith in rw d (part-few (a3_exposure_of B (k + 1)) (exposure_of B (k + 1)) L (a3-part B (k + 1)))) in
      omega (arith, sum-count (λ g. a3_part (a3_exposure_of B g) L) 1 (C b), each, whole_le b acc tiers (C b))

module _ (schedule b : List ℕ) (acc : Accepted b) where
  group-few : group_excess (fund_in schedule b) ≤ 900 * M
  unfolding group_excess excess_sum fund_in fund_of book_of
  group-few =
      let F = fund_in schedule b in
      let each = sum-le (λ k. excess_sum_of F (k + 1)) (λ k. sum (exposure_of (book_of b) (k + 1)) tiers) (C b)
      (λ k _. sum-le (excess_of F (k + 1)) (exposure_of (book_of b) (k + 1)) tiers (λ t _. excess-within F.limit (F.exposure (k + 1)) (ranking F) t)) in
      omega (arith, each, whole_le b acc tiers (C b))

  pub charge-few : charge (fund_in schedule b) ≤ most_excess
  unfolding charge fund_in fund_of a3_sum book_of
  charge-few = omega (arith, group-few, a3-few b acc (limit (schedule_of schedule) (book_of b)))
