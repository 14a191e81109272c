-- What the report of a schedule and a book is made of.
--   unrounded_of       the fund's limits before they are rounded, by tier
--   limits_of, limit   those in cents
--   order             how its tiers rank
--   cents_order        how they ranked before C-17
--   a3_sum, a3_limit    what counts for A3, and its limit
--   fund_of            all of it, as the fund that the report's definitions speak of
use Rattle.std.specs.Prelude.{Bool, List, ℕ}
use Rattle.cascade.specs.Cascade.{tiers, by_tier, by_limit}
use Rattle.schedule.specs.declared.Schedule.{Schedule}
use Rattle.schedule.specs.Tiers.{unrounded_limits, limits, a3_limit_of}
use Rattle.book.specs.Book.{Book}
use Rattle.exposure.specs.Values.{VAF, VAF'}
use Rattle.exposure.specs.Sums.{exposure_of, a3_exposure_of, W, all_net, unlimited}
use Rattle.a3.specs.A3.{a3_sum_of}
use Rattle.figures.specs.Fund.{Fund}

-- the limits of the fund before they are rounded, one to a tier
unfoldable pub unrounded_of : Schedule → Book → List ℕ
unrounded_of S B = unrounded_limits S (VAF B) (VAF' B) B.base (W B)

-- the same in cents
unfoldable pub limits_of : Schedule → Book → List ℕ
limits_of S B = limits S (VAF B) (VAF' B) B.base (W B)

-- the limit of a tier
abbrev pub limit : Schedule → Book → ℕ → ℕ
limit S B = by_tier (limits_of S B)

-- C-17: "Tiers shall rank by the unrounded limit, and only truly equal ones by number": whether a tier ranks at or below another
abbrev pub order : Schedule → Book → ℕ → ℕ → Bool
order S B = by_limit (by_tier (unrounded_of S B))

-- "tiers rank by limit in cents, then number", which C-17 replaced: no fund has it, and the laws and cases of C-17 hold `order` against it
abbrev pub cents_order : Schedule → Book → ℕ → ℕ → Bool
cents_order S B = by_limit (limit S B)

-- "per group, in tiers 1 and 3 to 6, exposures to counterparties not of kind 4 count together, tier by tier, up to the tier's unreduced limit.
-- Their sum over the fund is the A3 sum"
unfoldable pub a3_sum : Schedule → Book → ℕ
a3_sum S B = a3_sum_of B.counterparties (a3_exposure_of B) (limit S B)

-- "row z's limit (on VAF', no percent) the A3 limit"
unfoldable pub a3_limit : Schedule → Book → ℕ
a3_limit S B = a3_limit_of S (VAF' B) B.base

-- the fund: every counterparty's place may be a group's; tiers rank by what their limits are before rounding, "limits and cuts in cents as before"
unfoldable pub fund_of : Schedule → Book → Fund
fund_of S B =
    record {
      groups = B.counterparties;
      tiers = tiers;
      order = order S B;
      limit = limit S B;
      exposure = exposure_of B;
      vaf = VAF B;
      stressed_vaf = VAF' B;
      all_net = all_net B;
      unlimited = unlimited B;
      a3_sum = a3_sum S B;
      a3_limit = a3_limit S B;
    }
