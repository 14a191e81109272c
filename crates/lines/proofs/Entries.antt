-- The entries of a table's groups: their groups and tiers, how many have a line, and their exposures summed.
use mathlib.Core.Path.{◌≡◌, ap, sym, ◌∙◌}
use mathlib.Core.List.{List, map}
use Prim.Native.Nat.{ℕ, ◌+◌, ◌*◌, ◌^◌, ◌≤◌, ◌<◌}
use native.Mathlib.Omega.{arith}
use lib.Count.{ones}
use lib.ListN.{length, length-map}
use Rattle.std.specs.Prelude.{if◌then◌else◌}
use Rattle.words.specs.Words.{◌<?◌, sum, sum_of, each_of, those, count_from, All}
use Rattle.words.specs.Sums.{sum-each, sum-map, sum-agree, sum_same, sum-count, sum-length, length-each, length-count, all_map, all-mapped, all-count}
use Rattle.cascade.specs.Cascade.{tiers, by_tier}
use Rattle.figures.proofs.Size.{bits-ones}
use Rattle.rows.specs.Rows.{columns, row, row_at}
use Rattle.lines.specs.Table.{set_of}
use Rattle.lines.specs.Listing.{entry, group_in, index_in, exposure_in, shown, all_entries, entries_of, Source}
use Rattle.cascade.specs.Promise.{Once}
use Rattle.lines.specs.Promise.{EntryInside, all_exposures}
use Rattle.lines.proofs.Tries.{those-each, those-all, those-same, those-count, those-sum, each_all}

-- the entry of tier t of group number k
module _ (k t : ℕ) (l : t < tiers) where
  pub group-in : group_in (entry k t) ≡ k
  group-in = omega arith

  pub tier-in : index_in (entry k t) ≡ t
  tier-in = omega arith

  pub exposure-in : (cells : List ℕ) → exposure_in cells (entry k t) ≡ by_tier (row cells k) t
  exposure-in cells = rw (group-in, tier-in) (sym (row_at cells k t l))

-- the entries of group number k that have a line
abbrev pub group_entries : List ℕ → List ℕ → ℕ → List ℕ
group_entries cells ranking k = those (shown cells) (map (entry k) ranking)

pub entries-each : (cells : List ℕ) (groups : ℕ) (ranking : List ℕ) → entries_of cells groups ranking ≡ each_of (group_entries cells ranking) (count_from 0 groups)
entries-each cells groups ranking = those-each (shown cells) (λ k. map (entry k) ranking) (count_from 0 groups)

module _ (ranking : List ℕ) (h : All (λ t. t < tiers) ranking) where
  -- what holds of each tier of group k holds of its entries
  pub entries-all : (P : ℕ → Type 0) (k : ℕ) → ((t : ℕ) → t < tiers → P (entry k t)) → All P (map (entry k) ranking)
  entries-all P k f = all-mapped P (entry k) ranking (all_map f ranking h)

  -- the test of a row is that of the table
  pub shown-row : (cells : List ℕ) (k : ℕ) → All (λ e. (0 <? by_tier (row cells k) (index_in e)) ≡ shown cells e) (map (entry k) ranking)
  shown-row cells k = entries-all (λ e. (0 <? by_tier (row cells k) (index_in e)) ≡ shown cells e) k (λ t l. rw (exposure-in k t l cells, tier-in k t l))

  -- the groups of the entries of m groups from k on
  pub groups-in : (cells : List ℕ) (k m : ℕ) → All (λ e. (k ≤ group_in e) × (group_in e < k + m)) (each_of (group_entries cells ranking) (count_from k m))
  groups-in cells k m =
      each_all (λ e. (k ≤ group_in e) × (group_in e < k + m)) (λ j. (k ≤ j) × (j < k + m)) (group_entries cells ranking)
      (λ j q. those-all (shown cells) _ (map (entry j) ranking) (entries-all _ j (λ t l. rw (group-in j t l) q))) (count_from k m) (all-count k m)

  pub all-inside :
      (S : Source) (groups : ℕ) → columns * groups ≤ length S.cells → groups ≤ length S.sets → groups ≤ length S.heads
      → All (EntryInside S) (entries_of S.cells groups ranking)
  all-inside S groups p q r =
      those-all (shown S.cells) (EntryInside S) (all_entries groups ranking)
      (each_all (EntryInside S) (λ j. (0 ≤ j) × (j < 0 + groups)) (λ k. map (entry k) ranking)
      (λ j i. entries-all (EntryInside S) j (λ t l. record { tier = omega arith; cell = omega (arith, i.1); set = omega (arith, i.1); head = omega (arith, i.1) }))
      (count_from 0 groups) (all-count 0 groups))

pub all-long : (ranking : List ℕ) → length ranking ≡ tiers → (groups : ℕ) → length (all_entries groups ranking) ≡ tiers * groups
all-long ranking l groups =
    length-each tiers (λ k. map (entry k) ranking) (λ k. length-map ranking (entry k) ∙ l) (count_from 0 groups) ∙ ap (λ (n : ℕ). tiers * n) (length-count 0 groups)

module _ (ranking : List ℕ) (o : Once tiers ranking) where
  pub set-along : (exposures : List ℕ) → set_of exposures ≡ sum_of (λ t. if 0 <? by_tier exposures t then 2 ^ t else 0) ranking
  unfolding set_of
  set-along exposures = sym (o.once (λ t. if 0 <? by_tier exposures t then 2 ^ t else 0))

  -- the ones of a group's set of tiers are its lines
  pub group-ones : (exposures : List ℕ) (k : ℕ) → length (those (λ e. 0 <? by_tier exposures (index_in e)) (map (entry k) ranking)) ≡ ones (set_of exposures)
  unfolding set_of
  group-ones exposures k =
      let f : ℕ → ℕ = λ e. if 0 <? by_tier exposures (index_in e) then 1 else 0 in
      let g : ℕ → ℕ = λ t. if 0 <? by_tier exposures t then 1 else 0 in
      those-count (λ e. 0 <? by_tier exposures (index_in e)) (map (entry k) ranking)
      ∙ sum-map f (entry k) ranking
      ∙ sum-agree (λ t. f (entry k t)) g ranking (all_map (λ t l. ap g (tier-in k t l)) ranking o.inside)
      ∙ o.once g ∙ sym (bits-ones (λ t. 0 <? by_tier exposures t) tiers)

  pub row-ones : (cells : List ℕ) (k : ℕ) → length (group_entries cells ranking k) ≡ ones (set_of (row cells k))
  row-ones cells k =
      ap length (sym (those-same (λ e. 0 <? by_tier (row cells k) (index_in e)) (shown cells) (map (entry k) ranking) (shown-row ranking o.inside cells k)))
      ∙ group-ones (row cells k) k

  pub entries-ones : (cells : List ℕ) (groups : ℕ) → length (entries_of cells groups ranking) ≡ sum (λ k. ones (set_of (row cells k))) groups
  entries-ones cells groups =
      ap length (entries-each cells groups ranking)
      ∙ sym (sum-length (each_of (group_entries cells ranking) (count_from 0 groups)))
      ∙ sum-each (λ _. 1) (group_entries cells ranking) (count_from 0 groups)
      ∙ sum-count (λ k. sum_of (λ _. 1) (group_entries cells ranking k)) 0 groups
      ∙ sum_same (λ k. sum_of (λ _. 1) (group_entries cells ranking (0 + k))) (λ k. ones (set_of (row cells k))) groups
      (λ k _. sum-length (group_entries cells ranking (0 + k)) ∙ row-ones cells (0 + k) ∙ ap (λ (j : ℕ). ones (set_of (row cells j))) (omega arith))

  pub entries-few : (cells : List ℕ) (groups : ℕ) → length ranking ≡ tiers → length (entries_of cells groups ranking) ≤ tiers * groups
  entries-few cells groups l =
      omega (arith, sum-length (entries_of cells groups ranking), those-sum (shown cells) (λ _. 1) (all_entries groups ranking), sum-length (all_entries groups ranking), all-long ranking l groups)

  -- the exposures of all entries are those of the table
  all-sum : (cells : List ℕ) (groups : ℕ) → sum_of (exposure_in cells) (all_entries groups ranking) ≡ all_exposures cells groups
  all-sum cells groups =
      sum-each (exposure_in cells) (λ k. map (entry k) ranking) (count_from 0 groups)
      ∙ sum-count (λ k. sum_of (exposure_in cells) (map (entry k) ranking)) 0 groups
      ∙ sum_same (λ k. sum_of (exposure_in cells) (map (entry (0 + k)) ranking)) (λ k. sum (by_tier (row cells k)) tiers) groups
      (λ k _. one (0 + k) ∙ ap (λ (j : ℕ). sum (by_tier (row cells j)) tiers) (omega arith))
    where
      one : (k : ℕ) → sum_of (exposure_in cells) (map (entry k) ranking) ≡ sum (by_tier (row cells k)) tiers
      one k =
          sum-map (exposure_in cells) (entry k) ranking
          ∙ sum-agree (λ t. exposure_in cells (entry k t)) (by_tier (row cells k)) ranking (all_map (λ t l. exposure-in k t l cells) ranking o.inside)
          ∙ o.once (by_tier (row cells k))

  pub entries-sum : (cells : List ℕ) (groups : ℕ) → sum_of (exposure_in cells) (entries_of cells groups ranking) ≤ all_exposures cells groups
  entries-sum cells groups = omega (arith, all-sum cells groups, those-sum (shown cells) (exposure_in cells) (all_entries groups ranking))
