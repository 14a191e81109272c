-- T2 of document 01 as a table of two groups, the first without exposures: its lines, the list of their entries, the lines along the list, and
-- its second line put between other bytes.
use mathlib.Core.Path.{◌≡◌, refl}
use mathlib.Core.Bool.{Bool}
use mathlib.Core.List.{List, [], ◌∷◌, ◌++◌}
use Prim.Native.Nat.{ℕ}
use lib.ListN.{replicate}
use Rattle.words.specs.Words.{sum, each_of, those, count_from}
use Rattle.cascade.specs.Cascade.{tiers, by_tier, by_limit, ranks, insert, ranked, next, standing, left, excess, excess_sum}
use Rattle.figures.specs.declared.Line.{Line}
use Rattle.figures.specs.declared.Figures.{Figures}
use Rattle.figures.specs.Report.{line_bytes, tier_set, line_of, cell_lines, lines_of, group_excess, charge}
use Rattle.rows.specs.Rows.{row}
use Rattle.lines.specs.Table.{set_of, table_fund}
use Rattle.lines.specs.Listing.{all_entries, entries_of, all_ranks, shown_by, tried, Source, entry_line, lines_along, listed_lines}
use Rattle.layout.specs.Put.{LinePut}

abbrev limits : List ℕ
limits = 250000000 ∷ 250000000 ∷ 500000000 ∷ 500000000 ∷ 425000000 ∷ 825000000 ∷ 1250000000 ∷ 850000000 ∷ 1650000000 ∷ 2500000000 ∷ 2500000000 ∷ 2500000000 ∷ 5000000000 ∷ 5000000000 ∷ 3300000000 ∷ 1700000000 ∷ []

abbrev order : ℕ → ℕ → Bool
order = by_limit (by_tier limits)

abbrev by_rank : List ℕ
by_rank = ranked order tiers

abbrev table : Source
table =
    record {
      limits = limits;
      ranking = by_rank;
      cells =
          0 ∷ 0 ∷ 0 ∷ 0 ∷ 0 ∷ 0 ∷ 0 ∷ 0 ∷ 0 ∷ 0 ∷ 0 ∷ 0 ∷ 0 ∷ 0 ∷ 0 ∷ 0 ∷ 7 ∷ 9 ∷ 9 ∷ 9 ∷ 9 ∷ 9 ∷ 9
          ∷ 300000000 ∷ 0 ∷ 300000000 ∷ 0 ∷ 0 ∷ 0 ∷ 0 ∷ 0 ∷ 0 ∷ 0 ∷ 0 ∷ 0 ∷ 0 ∷ 0 ∷ 0 ∷ 0 ∷ 0 ∷ 9 ∷ 9 ∷ 9 ∷ 9 ∷ 9 ∷ 9 ∷ [];
      sets = 0 ∷ 5 ∷ [];
      heads = 1 ∷ 3 ∷ [];
    }

abbrev figures : Figures
figures = record { vaf = 10000000000; stressed_vaf = 10000000000; all_net = 600000007; unlimited = 7; a3_sum = 3; a3_limit = 1 }

abbrev first : Line
first = record { top = 3; tier = 0; tiers = 5; exposure = 300000000; limit = 250000000; left = 250000000; excess = 50000000 }

abbrev second : Line
second = record { top = 3; tier = 2; tiers = 5; exposure = 300000000; limit = 500000000; left = 250000000; excess = 50000000 }

abbrev lines : List Line
lines = first ∷ second ∷ []

t2-lines : lines_of (table_fund order table.limits table.cells table.heads 4 2 figures) ≡ lines
unfolding ranks insert ranked next standing left excess sum each_of count_from tier_set line_of cell_lines row table_fund
t2-lines = refl

-- tier 2 is of rank 3
t2-listed : (entries_of table.cells 2 by_rank ≡ 16 ∷ 18 ∷ []) × (tried (shown_by table.cells by_rank) 0 (all_entries 2 all_ranks) (1 ∷ 2 ∷ 3 ∷ 4 ∷ []) ≡ 16 ∷ 19 ∷ 31 ∷ 4 ∷ []) × (listed_lines table (16 ∷ 19 ∷ 31 ∷ 4 ∷ []) 2 ≡ lines)
unfolding ranks insert ranked next each_of those count_from tried entry_line lines_along
t2-listed = (refl, refl, refl)

t2-charge :
    (set_of (row table.cells 1) ≡ 5) × (group_excess (table_fund order table.limits table.cells table.heads 4 2 figures) ≡ 100000000)
    × (charge (table_fund order table.limits table.cells table.heads 4 2 figures) ≡ 100000002)
unfolding ranks insert ranked next standing left excess excess_sum sum group_excess charge row set_of table_fund
t2-charge = (refl, refl, refl)

-- among bytes of 7: those before the line and the one behind it stay, its own are put over the others, the zeros too
t2-put :
    LinePut second 2
    (7 ∷ 7 ∷ replicate 40 7 ++ (7 ∷ []))
    (7 ∷ 7
    ∷ 3 ∷ 0 ∷ 2 ∷ 0 ∷ 5 ∷ 0 ∷ 0 ∷ 0
    ∷ 0 ∷ 163 ∷ 225 ∷ 17 ∷ 0 ∷ 0 ∷ 0 ∷ 0
    ∷ 0 ∷ 101 ∷ 205 ∷ 29 ∷ 0 ∷ 0 ∷ 0 ∷ 0
    ∷ 128 ∷ 178 ∷ 230 ∷ 14 ∷ 0 ∷ 0 ∷ 0 ∷ 0
    ∷ 128 ∷ 240 ∷ 250 ∷ 2 ∷ 0 ∷ 0 ∷ 0 ∷ 0
    ∷ 7 ∷ [])
    42
unfolding line_bytes
t2-put = record { there = refl; earlier = refl; later = refl; place = refl }
