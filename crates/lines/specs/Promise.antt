-- What `list_lines` and `writing::put_report` start from and promise.
--   ListRoom       what the entries of groups are listed from
--   Addable Added  entries whose bits can be added to the sets of their groups, and are
--   Listable       what a listing starts from
--   Listed         the number of lines, the sets of the groups' tiers, and the list of entries
--   all_exposures   all exposures of the groups in the tiers
--   EntryInside    an entry that a list may have
--   Entries        a list of entries whose lines can be put
--   Table          a table that is listed
--   Writable       what a report is put from
--   ReportPut      the report of a table is put
use Rattle.std.specs.Prelude.{Bool, ◌≡◌, List, ◌++◌, map, ℕ, ◌+◌, ◌*◌, ◌≤◌, ◌<◌, length, get_or, take, drop}
use Rattle.words.specs.Words.{sum, sum_of, count_from, All}
use Rattle.wire.specs.Bytes.{M, placed}
use Rattle.cascade.specs.Cascade.{tiers, by_tier, ranked}
use Rattle.cascade.specs.Promise.{Once}
use Rattle.cascade.specs.Cut.{Ordered}
use Rattle.figures.specs.declared.Figures.{Figures}
use Rattle.figures.specs.Report.{head_size, line_size, lines_of, report}
use Rattle.rows.specs.Rows.{most_groups, columns, row}
use Rattle.lines.specs.Table.{set_of, Heads, table_fund}
use Rattle.lines.specs.Listing.{group_in, index_in, exposure_in, all_entries, entries_of, all_ranks, shown_by, bit_for, tried, Source, entries_in}

-- a row to each group, and room for an entry to each tier
pub record ListRoom (cells : List ℕ) (groups : ℕ) (ranking list : List ℕ) : Type 0 where
  pub few : groups ≤ most_groups
  pub rows : columns * groups ≤ length cells
  pub room : tiers * groups ≤ length list
  pub ranks : Once tiers ranking

-- the first n entries of a list by rank, each of a group that has a set, and sets of 16 bits with all their bits added
pub record Addable (list : List ℕ) (n : ℕ) (ranking sets : List ℕ) : Type 0 where
  pub ranks : Once tiers ranking
  pub long : n ≤ length list
  pub inside : (i : ℕ) → i < n → group_in (get_or list i 0) < length sets
  pub fit : (k : ℕ) → get_or sets k 0 + sum_of (bit_for ranking k) (take n list) < 65536

pub record Added (list : List ℕ) (n : ℕ) (ranking before after : List ℕ) : Type 0 where
  pub size : length after ≡ length before
  pub each : (k : ℕ) → get_or after k 0 ≡ get_or before k 0 + sum_of (bit_for ranking k) (take n list)

-- a row to each group, an empty set to each, and room for an entry to each tier
pub record Listable (cells : List ℕ) (groups : ℕ) (ranking sets list : List ℕ) : Type 0 where
  pub few : groups ≤ most_groups
  pub rows : columns * groups ≤ length cells
  pub places : groups ≤ length sets
  pub empty : (k : ℕ) → get_or sets k 0 ≡ 0
  pub room : tiers * groups ≤ length list
  pub ranks : Once tiers ranking

-- n is the number of lines, whatever the order, limits, top places and figures are: an entry for each, which the list has first.
-- Behind them stands at the most an entry that was tried last. The set of each group's tiers is at its number; all else is as before.
pub record Listed (cells : List ℕ) (groups : ℕ) (ranking sets₀ sets list₀ list : List ℕ) (n : ℕ) : Type 0 where
  pub lines : (order : ℕ → ℕ → Bool) (limits heads : List ℕ) (places : ℕ) (figures : Figures) → Heads heads places groups → n ≡ length (lines_of (table_fund order limits cells heads places groups figures))
  pub count : n ≡ length (entries_of cells groups ranking)
  pub few : n ≤ tiers * groups
  pub tier_sets : sets ≡ placed sets₀ 0 (map (λ k. set_of (row cells k)) (count_from 0 groups))
  pub entries : list ≡ tried (shown_by cells ranking) 0 (all_entries groups all_ranks) list₀

-- all exposures of the groups in the tiers
abbrev pub all_exposures : List ℕ → ℕ → ℕ
all_exposures cells groups = sum (λ k. sum (by_tier (row cells k)) tiers) groups

-- an entry of a group and a tier of the table
pub record EntryInside (S : Source) (e : ℕ) : Type 0 where
  pub tier : index_in e < tiers
  pub cell : columns * (group_in e + 1) ≤ length S.cells
  pub set : group_in e < length S.sets
  pub head : group_in e < length S.heads

-- the first n entries of a list, of amounts that can be added up, and room for their lines
pub record Entries (S : Source) (list : List ℕ) (n room : ℕ) : Type 0 where
  pub ranked : Once tiers S.ranking
  pub long : n ≤ length list
  pub inside : All (EntryInside S) (entries_in S list n)
  pub amounts : sum_of (exposure_in S.cells) (entries_in S list n) ≤ 900 * M
  pub fits : head_size + line_size * n ≤ room

-- the groups' sets of tiers, and the entries of the lines by rank, in an order along which the limits do not fall.
-- All exposures are parts of the nets of "N ≤ 900" assets, "each one read at most M".
pub record Table (order : ℕ → ℕ → Bool) (S : Source) (list : List ℕ) (groups n : ℕ) : Type 0 where
  pub ordered : Ordered order (by_tier S.limits)
  pub by_rank : S.ranking ≡ ranked order tiers
  pub few : groups ≤ most_groups
  pub rows : columns * groups ≤ length S.cells
  pub places : groups ≤ length S.sets
  pub tops : groups ≤ length S.heads
  pub long : n ≤ length list
  pub each : (k : ℕ) → k < groups → get_or S.sets k 0 ≡ set_of (row S.cells k)
  pub entries : entries_in S list n ≡ entries_of S.cells groups (ranked order tiers)
  pub amounts : all_exposures S.cells groups ≤ 900 * M

-- a table, the number of its lines, figures whose charge fits, and bytes enough
pub record Writable (S : Source) (list : List ℕ) (n : ℕ) (figures : Figures) (room : ℕ) : Type 0 where
  pub order : ℕ → ℕ → Bool
  pub groups : ℕ
  pub places : ℕ
  pub table : Table order S list groups n
  pub heads : Heads S.heads places groups
  pub a3 : figures.a3_sum ≤ 3750 * M
  pub fits : head_size + line_size * n ≤ room

-- the report of the table, whatever the order is and the places that the top places are among; no byte behind it changes
abbrev pub ReportPut : Source → (list : List ℕ) → (n : ℕ) → Figures → (before after : List ℕ) → Type 0
ReportPut S list n figures before after =
    (order : ℕ → ℕ → Bool) (places groups : ℕ) → Heads S.heads places groups → Table order S list groups n
    → after ≡ report (table_fund order S.limits S.cells S.heads places groups figures) ++ drop (length (report (table_fund order S.limits S.cells S.heads places groups figures))) before
