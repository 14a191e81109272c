-- What stands in each tier of each group, out of a table of cells: "what stands" is exposure less excess (C-14). Groups are numbered from 0.
--   stood_at             what stands in a tier of a group of such exposures
--   Standable Groups    what one group's row and all rows are to be like
--   GroupStood Stood    what is left in the table
use Rattle.std.specs.Prelude.{List, ◌≡◌, ℕ, ◌+◌, ◌*◌, ◌-◌, ◌≤◌, ◌<◌, length, get_or}
use Rattle.words.specs.Words.{sum}
use Rattle.wire.specs.Bytes.{M}
use Rattle.cascade.specs.Cascade.{tiers, by_tier, excess}
use Rattle.cascade.specs.Promise.{Once}
use Rattle.rows.specs.Rows.{most_groups, columns, row}

-- limits and exposures by tier
abbrev pub stood_at : List ℕ → List ℕ → List ℕ → ℕ → ℕ
stood_at limits exposures ranking t = by_tier exposures t - excess (by_tier limits) (by_tier exposures) ranking t

-- a row of the table, exposures that can be added up, and each tier once along the ranking
pub record Standable (cells : List ℕ) (k : ℕ) (exposures ranking : List ℕ) : Type 0 where
  pub few : k < most_groups
  pub row : columns * (k + 1) ≤ length cells
  pub amounts : sum (by_tier exposures) tiers ≤ 900 * M
  pub ranks : Once tiers ranking

-- group number k: its tiers' entries are what stands there, every other entry is as it was
pub record GroupStood (k : ℕ) (exposures limits ranking cells₀ cells : List ℕ) : Type 0 where
  pub size : length cells ≡ length cells₀
  pub tier : (t : ℕ) → t < tiers → get_or cells (columns * k + t) 0 ≡ stood_at limits exposures ranking t
  pub before : (q : ℕ) → q < columns * k → get_or cells q 0 ≡ get_or cells₀ q 0
  pub behind : (q : ℕ) → columns * k + tiers ≤ q → get_or cells q 0 ≡ get_or cells₀ q 0

-- a row to each group
pub record Groups (cells : List ℕ) (groups : ℕ) (ranking : List ℕ) : Type 0 where
  pub few : groups ≤ most_groups
  pub rows : columns * groups ≤ length cells
  pub amounts : (k : ℕ) → k < groups → sum (by_tier (row cells k)) tiers ≤ 900 * M
  pub ranks : Once tiers ranking

-- the rows of so many groups; no other column of a row changes, and nothing behind the rows
pub record Stood (groups : ℕ) (limits ranking cells₀ cells : List ℕ) : Type 0 where
  pub size : length cells ≡ length cells₀
  pub tier : (k t : ℕ) → k < groups → t < tiers → get_or cells (columns * k + t) 0 ≡ stood_at limits (row cells₀ k) ranking t
  pub other : (k c : ℕ) → k < groups → tiers ≤ c → c < columns → get_or cells (columns * k + c) 0 ≡ get_or cells₀ (columns * k + c) 0
  pub behind : (q : ℕ) → columns * groups ≤ q → get_or cells q 0 ≡ get_or cells₀ q 0
