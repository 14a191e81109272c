-- A table of cells as a fund. Its groups are numbered from 0 by top place.
--   set_of       the set of a group's tiers, of its exposures
--   Heads       the groups' top places
--   table_fund   the fund of a table
use Rattle.std.specs.Prelude.{Bool, List, ℕ, ◌≤◌, ◌<◌, get_or, if◌then◌else◌}
use Rattle.words.specs.Words.{◌<?◌, ◌=?◌, sum}
use Rattle.cascade.specs.Cascade.{tiers, by_tier}
use Rattle.figures.specs.declared.Figures.{Figures}
use Rattle.figures.specs.Fund.{Fund}
use Rattle.figures.specs.Report.{bits_of}
use Rattle.rows.specs.Rows.{row}

-- "set of the group's tiers", of a group's exposures
unfoldable pub set_of : List ℕ → ℕ
set_of exposures = bits_of (λ t. 0 <? by_tier exposures t) tiers

-- the top places of the groups, by number: places of counterparties, each above the one before
pub record Heads (heads : List ℕ) (places groups : ℕ) : Type 0 where
  pub first : (k : ℕ) → k < groups → 1 ≤ get_or heads k 0
  pub last : (k : ℕ) → k < groups → get_or heads k 0 ≤ places
  pub rise : (j k : ℕ) → j < k → k < groups → get_or heads j 0 < get_or heads k 0

-- the fund of an order of the tiers, limits by tier, a table of cells, the groups' top places and the header's other figures.
-- The exposures of a top place are its group's row; any other place has none.
unfoldable pub table_fund : (ℕ → ℕ → Bool) → (limits cells heads : List ℕ) → (places groups : ℕ) → Figures → Fund
table_fund order limits cells heads places groups figures =
    record {
      groups = places;
      tiers = tiers;
      order = order;
      limit = by_tier limits;
      exposure = λ g t. sum (λ k. if get_or heads k 0 =? g then by_tier (row cells k) t else 0) groups;
      vaf = figures.vaf;
      stressed_vaf = figures.stressed_vaf;
      all_net = figures.all_net;
      unlimited = figures.unlimited;
      a3_sum = figures.a3_sum;
      a3_limit = figures.a3_limit;
    }
