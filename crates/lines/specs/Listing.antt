-- The lines of a table by one list of entries, one to each line, groups by number and tiers by rank.
--   entry group_in index_in  the entry of a group and a tier, and these of an entry; by rank, the rank in the place of the tier
--   exposure_in shown       the exposure of an entry, and whether it has a line
--   all_entries entries_of   the entries of all tiers of the groups, and those that have a line
--   all_ranks of_rank shown_by   entries by rank; the entry of the tier of that rank, and whether that has a line
--   bit_for                 what an entry by rank adds to the set of a group
--   tried                  a list, where entries are put at the place reached
--   Source                 what the figures of a line are taken from
--   entry_line              the line of an entry, by what stands before it
--   before lines_along      what stands before an entry, and the lines along a list of entries
--   no_group entries_in listed_lines   the entries of a list's first entries by rank, and their lines, before which nothing stands
use Rattle.std.specs.Prelude.{Bool, List, [], ◌∷◌, map, ℕ, ◌+◌, ◌*◌, ◌/◌, ◌%◌, ◌^◌, get_or, set, take, if◌then◌else◌}
use Rattle.words.specs.Words.{◌<?◌, ◌=?◌, each_of, those, count_from}
use Rattle.cascade.specs.Cascade.{tiers, by_tier, left_at, excess_at, next}
use Rattle.figures.specs.declared.Line.{Line}
use Rattle.rows.specs.Rows.{columns}

-- tier t of group number k
abbrev pub entry : ℕ → ℕ → ℕ
entry k t = tiers * k + t

abbrev pub group_in : ℕ → ℕ
group_in e = e / tiers

abbrev pub index_in : ℕ → ℕ
index_in e = e % tiers

abbrev pub exposure_in : List ℕ → ℕ → ℕ
exposure_in cells e = get_or cells (columns * group_in e + index_in e) 0

-- "so exposure above 0 only"
abbrev pub shown : List ℕ → ℕ → Bool
shown cells e = 0 <? exposure_in cells e

-- every tier of the groups 0 to groups − 1
abbrev pub all_entries : ℕ → List ℕ → List ℕ
all_entries groups ranking = each_of (λ k. map (entry k) ranking) (count_from 0 groups)

-- those that have a line
abbrev pub entries_of : List ℕ → ℕ → List ℕ → List ℕ
entries_of cells groups ranking = those (shown cells) (all_entries groups ranking)

-- every rank; a list of entries by rank has `entry k i` for the tier of rank i of group number k
abbrev pub all_ranks : List ℕ
all_ranks = count_from 0 tiers

abbrev pub of_rank : List ℕ → ℕ → ℕ
of_rank ranking e = entry (group_in e) (get_or ranking (index_in e) 0)

abbrev pub shown_by : List ℕ → List ℕ → ℕ → Bool
shown_by cells ranking e = shown cells (of_rank ranking e)

-- its tier's bit, where it is of group number k: "bit n is tier n"
abbrev pub bit_for : List ℕ → ℕ → ℕ → ℕ
bit_for ranking k e = if group_in e =? k then 2 ^ get_or ranking (index_in e) 0 else 0

-- each entry is put at the place reached, which moves on behind those that pass the test; the others are overwritten
unfoldable pub tried : (ℕ → Bool) → ℕ → List ℕ → List ℕ → List ℕ
tried test at [] list = list
tried test at (e ∷ es) list = tried test (if test e then at + 1 else at) es (set list at e)

-- a table: limits by tier, the tiers by rank, the cells, the sets of the groups' tiers and their top places
pub record Source : Type 0 where
  pub limits : List ℕ
  pub ranking : List ℕ
  pub cells : List ℕ
  pub sets : List ℕ
  pub heads : List ℕ

abbrev pub source : (limits ranking cells sets heads : List ℕ) → Source
source limits ranking cells sets heads = record { limits = limits; ranking = ranking; cells = cells; sets = sets; heads = heads }

-- the line of an entry, where s stands before it
unfoldable pub entry_line : Source → ℕ → ℕ → Line
entry_line S s e =
    record {
      top = get_or S.heads (group_in e) 0;
      tier = index_in e;
      tiers = get_or S.sets (group_in e) 0;
      exposure = exposure_in S.cells e;
      limit = by_tier S.limits (index_in e);
      left = left_at (by_tier S.limits) s (index_in e);
      excess = excess_at (by_tier S.limits) (λ _. exposure_in S.cells e) s (index_in e);
    }

-- what stands before an entry, where s stands after one of group `last`: "Per group", "Standing starts at 0"
abbrev pub before : ℕ → ℕ → ℕ → ℕ
before last s e = if group_in e =? last then s else 0

-- the lines of a list of entries, where s stands after one of group `last`
unfoldable pub lines_along : Source → ℕ → ℕ → List ℕ → List Line
lines_along S last s [] = []
lines_along S last s (e ∷ es) =
    entry_line S (before last s e) e
    ∷ lines_along S (group_in e) (next (by_tier S.limits) (λ _. exposure_in S.cells e) (before last s e) (index_in e)) es

-- no group has this number
abbrev pub no_group : ℕ
no_group = 65535

-- the first n entries of a list by rank, by tier
abbrev pub entries_in : Source → List ℕ → ℕ → List ℕ
entries_in S list n = map (of_rank S.ranking) (take n list)

-- and their lines
abbrev pub listed_lines : Source → List ℕ → ℕ → List Line
listed_lines S list n = lines_along S no_group 0 (entries_in S list n)
