-- What C-17 changed: the ranking held against the one by limits in cents, which it replaced.
--   cents_fund                  the fund with that ranking, `cents_order`
--   charge-stays head-stays    under both, the header is the same, and the charge with it
--   report-stays               where no group is in two tiers of one limit in cents that stand the other way unrounded, every byte is
use mathlib.Core.Path.{◌≡◌, sym}
use Prim.Native.Nat.{ℕ, ◌≤◌, ◌<◌}
use Rattle.cascade.specs.Cascade.{tiers, by_tier}
use Rattle.cascade.proofs.Ranking.{by_limit-ordered, by_limit-same}
use Rattle.figures.specs.Fund.{Fund, in_order}
use Rattle.figures.specs.Report.{charge, head_of, report}
use Rattle.figures.proofs.Orders.{charge-either, head-either, report-either}
use Rattle.schedule.specs.declared.Schedule.{Schedule}
use Rattle.book.specs.Book.{Book}
use Rattle.exposure.specs.Sums.{exposure_of}
use Rattle.fund.specs.Figures.{unrounded_of, limit, cents_order, fund_of}
use Rattle.fund.proofs.OrderLaws.{limits-rise, ordered}

module _ (S : Schedule) (B : Book) where
  abbrev pub cents_fund : Fund
  cents_fund = in_order (cents_order S B) (fund_of S B)

  pub charge-stays : charge cents_fund ≡ charge (fund_of S B)
  unfolding fund_of
  charge-stays = charge-either (fund_of S B) (cents_order S B) (ordered S B) (by_limit-ordered (limit S B))

  pub head-stays : head_of cents_fund ≡ head_of (fund_of S B)
  unfolding fund_of
  head-stays = head-either (fund_of S B) (cents_order S B) (ordered S B) (by_limit-ordered (limit S B))

  pub report-stays :
      ((g a b : ℕ) → a < b → b < tiers → 0 < exposure_of B g a → 0 < exposure_of B g b → limit S B a ≡ limit S B b → by_tier (unrounded_of S B) a ≤ by_tier (unrounded_of S B) b)
      → report cents_fund ≡ report (fund_of S B)
  unfolding fund_of
  report-stays h =
      report-either (fund_of S B) (cents_order S B) (ordered S B) (by_limit-ordered (limit S B))
      (λ g _ _ a b la lb pa pb. sym (by_limit-same (by_tier (unrounded_of S B)) (limit S B) (limits-rise S B) a b (λ l. h g a b l lb pa pb) (λ l. h g b a l la pb pa)))
