-- A3: what of a fund's reinsurance counts together. e is a group's exposure to counterparties not of kind 4 and L the limit, by tier.
--   a3_part    what of a group counts
--   a3_sum_of   the sum over the groups, whose top places are 1 .. places
--   a3_at      a group's exposure that counts, out of the cells: by the group's number and the tier
use Rattle.std.specs.Prelude.{false, List, ℕ, ◌*◌, min}
use Rattle.words.specs.Words.{sum_of, count_from}
use Rattle.rows.specs.Rows.{columns}
use Rattle.columns.specs.Column.{a3_tiers, a3_column}
use Rattle.cells.specs.Cells.{cells_from}

-- "exposures to counterparties not of kind 4 count together, tier by tier, up to the tier's unreduced limit", "in tiers 1 and 3 to 6"
unfoldable pub a3_part : (ℕ → ℕ) → (ℕ → ℕ) → ℕ
a3_part e L = sum_of (λ t. min (e t) (L t)) a3_tiers

-- "Their sum over the fund is the A3 sum"
unfoldable pub a3_sum_of : ℕ → (ℕ → ℕ → ℕ) → (ℕ → ℕ) → ℕ
a3_sum_of places e L = sum_of (λ g. a3_part (e g) L) (count_from 1 places)

unfoldable pub a3_at : List ℕ → ℕ → ℕ → ℕ
a3_at cells k t = cells_from cells (columns * k) (a3_column false t)
