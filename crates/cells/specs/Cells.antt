-- A table of cells: row k belongs to group number k, the column of an exposure is `column_of`.
--   column_at cell_of              the column and the cell of an exposure
--   part_at                       what a mitigant covers, as an exposure
--   apart folded                 the column beside a tier's own that is part of it; a row with such columns folded onto their tiers' own
--   Rowed Placed Tabled Zeros    the tables that the posting reads, and the cells before it
--   cells_from column_sum              an entry of a row, and the sum over the rows of a column
--   FoldedRow FoldedRows         a row behind the fold, and the rows of some groups
--   FoldFits Folded              what the fold asks for and promises
--   Posted                       the cells behind the posting
use Rattle.std.specs.Prelude.{true, false, ◌&&◌, List, ◌≡◌, ℕ, ◌+◌, ◌*◌, ◌≤◌, ◌<◌, ◌^◌, length, get_or, if◌then◌else◌}
use Rattle.words.specs.Words.{◌=?◌, sum_of, sum}
use Rattle.cascade.specs.Cascade.{tiers}
use Rattle.book.specs.Records.{C, N, K, counterparty_at, mitigant_at}
use Rattle.book.specs.Book.{book_of, parent_of, top_of}
use Rattle.exposure.specs.declared.Exposure.{Exposure}
use Rattle.exposure.specs.Parts.{covered_part, exposures}
use Rattle.exposure.specs.Tier.{tier_of, no_limit}
use Rattle.exposure.specs.Sums.{amount_of, exposure_of, a3_exposure_of, W}
use Rattle.rows.specs.Rows.{most_groups, columns, no_limit_column, bill_column, a3_columns}
use Rattle.columns.specs.Column.{a3_tiers, column_by, column_of}
use Rattle.parties.specs.Rows.{row_of, words_of}
use Rattle.assets.specs.Assets.{rest_cell}
use Rattle.covering.specs.ByPlace.{parts_at, rests_at}
use Rattle.cells.specs.declared.Sums.{Sums}

-- ---- where an exposure belongs

abbrev pub column_at : List ℕ → Exposure → ℕ
column_at b x = column_of x (counterparty_at b x.counterparty)

unfoldable pub cell_of : List ℕ → Exposure → ℕ
cell_of b x = row_of b x.counterparty + column_at b x

abbrev pub part_at : List ℕ → ℕ → ℕ → Exposure
part_at b place amount = let m = mitigant_at b place in covered_part m (counterparty_at b m.counterparty) amount

-- that of tier c of kind 3, or of exposures to a counterparty not of kind 4; the tier's own where there is none
unfoldable pub apart : ℕ → ℕ
apart t = column_by true false t

unfoldable pub folded : (ℕ → ℕ) → ℕ → ℕ
folded row t = row t + (if apart t =? t then 0 else row (apart t))

-- ---- tables

-- by counterparty: its word and the row of its group
pub record Rowed (b words rows : List ℕ) : Type 0 where
  pub words_size : C b < length words
  pub rows-size : C b < length rows
  pub word : (p : ℕ) → 0 < p → p ≤ C b → get_or words p 0 ≡ words_of b p
  pub row : (p : ℕ) → 0 < p → p ≤ C b → get_or rows p 0 ≡ row_of b p

-- by asset: the cell of what is left of it
pub record Placed (b places : List ℕ) : Type 0 where
  pub size : N b < length places
  pub each : (p : ℕ) → 0 < p → p ≤ N b → get_or places p 0 ≡ rest_cell b p

-- by mitigant what it covers, and by asset what is left of it: every sum of exposures goes by them
pub record Tabled (b covered rests : List ℕ) : Type 0 where
  pub covered-size : K b < length covered
  pub rests-size : N b < length rests
  pub sums : (f : Exposure → ℕ) → ((x : Exposure) → x.amount ≡ 0 → f x ≡ 0) → sum_of f (exposures (book_of b)) ≡ sum_of f (parts_at b covered 1 (K b)) + sum_of f (rests_at b rests 1 (N b))

-- the cells before the posting
pub record Zeros (groups : ℕ) (cells : List ℕ) : Type 0 where
  pub size : columns * groups ≤ length cells
  pub each : (q : ℕ) → ◌≡◌ {A = ℕ} (get_or cells q 0) 0

-- ---- the fold

abbrev pub cells_from : List ℕ → ℕ → ℕ → ℕ
cells_from cells at column = get_or cells (at + column) 0

-- a row that starts at `at`, folded
pub record FoldedRow (at : ℕ) (cells₀ cells : List ℕ) : Type 0 where
  pub size : length cells ≡ length cells₀
  pub tier : (t : ℕ) → t < tiers → cells_from cells at t ≡ folded (cells_from cells₀ at) t
  pub before : (q : ℕ) → q < at → get_or cells q 0 ≡ get_or cells₀ q 0
  pub behind : (q : ℕ) → at + tiers ≤ q → get_or cells q 0 ≡ get_or cells₀ q 0

-- the sum over the rows of a column
abbrev pub column_sum : List ℕ → ℕ → ℕ → ℕ
column_sum cells column groups = sum (λ k. cells_from cells (columns * k) column) groups

-- no sum of the fold passes the greatest number
pub record FoldFits (groups : ℕ) (cells : List ℕ) : Type 0 where
  pub few : groups ≤ most_groups
  pub size : columns * groups ≤ length cells
  pub tier : (k t : ℕ) → k < groups → t < tiers → folded (cells_from cells (columns * k)) t < 2 ^ 64
  pub bills : column_sum cells bill_column groups < 2 ^ 64
  pub free : column_sum cells no_limit_column groups < 2 ^ 64

-- the rows of so many groups, folded
pub record FoldedRows (groups : ℕ) (cells₀ cells : List ℕ) : Type 0 where
  pub size : length cells ≡ length cells₀
  pub tier : (k t : ℕ) → k < groups → t < tiers → cells_from cells (columns * k) t ≡ folded (cells_from cells₀ (columns * k)) t
  pub other : (k c : ℕ) → k < groups → tiers ≤ c → c < columns → cells_from cells (columns * k) c ≡ cells_from cells₀ (columns * k) c
  pub behind : (q : ℕ) → columns * groups ≤ q → get_or cells q 0 ≡ get_or cells₀ q 0

-- and W and what has no limit
pub record Folded (groups : ℕ) (cells₀ cells : List ℕ) (r : Sums) : Type 0 where
  pub rows : FoldedRows groups cells₀ cells
  pub w : r.w ≡ column_sum cells₀ bill_column groups
  pub free : r.free ≡ column_sum cells₀ no_limit_column groups

-- ---- the posting

-- the exposures of the group whose topmost parent is g: by tier; those that count for A3; those of a column behind the tiers
pub record Posted (b : List ℕ) (groups : ℕ) (cells₀ cells : List ℕ) (r : Sums) : Type 0 where
  pub size : length cells ≡ length cells₀
  pub tier : (g t : ℕ) → 0 < g → g ≤ C b → parent_of (counterparty_at b) g ≡ 0 → t < tiers → get_or cells (row_of b g + t) 0 ≡ exposure_of (book_of b) g t
  pub a3 : (g i : ℕ) → 0 < g → g ≤ C b → parent_of (counterparty_at b) g ≡ 0 → i < 5 → get_or cells (row_of b g + a3_columns + i) 0 ≡ a3_exposure_of (book_of b) g (get_or a3_tiers i 0)
  pub other : (g c : ℕ) → 0 < g → g ≤ C b → parent_of (counterparty_at b) g ≡ 0 → tiers ≤ c → c < columns
      → get_or cells (row_of b g + c) 0 ≡ amount_of (λ x. top_of (counterparty_at b) x.counterparty =? g && column_at b x =? c) (exposures (book_of b))
  pub behind : (q : ℕ) → columns * groups ≤ q → ◌≡◌ {A = ℕ} (get_or cells q 0) 0
  pub w : r.w ≡ W (book_of b)
  pub free : r.free ≡ amount_of (λ x. tier_of (counterparty_at b) x =? no_limit) (exposures (book_of b))
