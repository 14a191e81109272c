-- A table of cells: a row of columns to each group. The groups are numbered from 0 by top place.
--   most_groups columns                   how many groups there are at most, and how many columns a row has
--   no_limit_column bill_column a3_columns   the columns behind the tiers
--   row                                  the exposures of a group by tier
--   row_at row-long                      an entry of a row, and how many there are
use Rattle.std.specs.Prelude.{◌≡◌, List, ℕ, ◌+◌, ◌*◌, ◌≤◌, ◌<◌, length, take, drop, get_or}
use Rattle.std.proofs.Common.{◌∙◌, arith, length-take, length-drop, get_or-take, get_or-drop}
use Rattle.cascade.specs.Cascade.{tiers, by_tier}

-- "C ≤ 500": a group has a counterparty of its own
abbrev pub most_groups : ℕ
most_groups = 500

-- the tiers; what has no limit; tier c of kind 3, which makes up W; tiers 1 and 3 to 6 of counterparties not of kind 4, which count for A3
abbrev pub columns : ℕ
columns = tiers + 7

abbrev pub no_limit_column : ℕ
no_limit_column = tiers

abbrev pub bill_column : ℕ
bill_column = tiers + 1

-- the first of the five columns that count for A3
abbrev pub a3_columns : ℕ
a3_columns = tiers + 2

-- "A group's exposure in a tier": the exposures of group number k, by tier
unfoldable pub row : List ℕ → ℕ → List ℕ
row cells k = take tiers (drop (columns * k) cells)

pub row_at : (cells : List ℕ) (k t : ℕ) → t < tiers → by_tier (row cells k) t ≡ get_or cells (columns * k + t) 0
unfolding row
row_at cells k t l = get_or-take tiers (drop (columns * k) cells) t 0 l ∙ get_or-drop (columns * k) cells t 0

pub row-long : (cells : List ℕ) (k : ℕ) → columns * (k + 1) ≤ length cells → length (row cells k) ≡ tiers
unfolding row
row-long cells k l = rw (length-take, length-drop) (omega arith)
