-- Entries by rank: the entries of their tiers are those of the table.
use mathlib.Core.Path.{◌≡◌, refl, ap, ap₂, sym, ◌∙◌}
use mathlib.Core.Bool.{Bool, true, false}
use mathlib.Core.List.{List, [], ◌∷◌, ◌++◌, map}
use Prim.Native.Nat.{ℕ, ◌<◌}
use native.Mathlib.Omega.{arith}
use lib.ListN.{length, get_or, length-map}
use lib.Seq.{ext_get_or}
use Rattle.std.specs.Prelude.{if◌then◌else◌}
use Rattle.words.specs.Words.{◌<?◌, each_of, those, count_from, All}
use Rattle.words.specs.Sums.{each_same, all_map, all-count, length-count, count_at}
use Rattle.cascade.specs.Cascade.{tiers, by_tier}
use Rattle.cascade.specs.Promise.{Once}
use Rattle.rows.specs.Rows.{row}
use Rattle.rows.proofs.Ranked.{rank-few}
use Rattle.lines.specs.Listing.{entry, group_in, index_in, shown, all_entries, entries_of, all_ranks, of_rank, shown_by}
use Rattle.lines.proofs.Entries.{group-in, tier-in, exposure-in}

-- ---- lists

map_both : (f g h : ℕ → ℕ) (xs : List ℕ) → All (λ x. f (g x) ≡ h x) xs → map f (map g xs) ≡ map h xs
map_both f g h [] q = refl
map_both f g h (x ∷ xs) q = ap₂ (λ (y : ℕ) (ys : List ℕ). y ∷ ys) q.0 (map_both f g h xs q.1)

map-append : (f : ℕ → ℕ) (xs ys : List ℕ) → map f (xs ++ ys) ≡ map f xs ++ map f ys
map-append f [] ys = refl
map-append f (x ∷ xs) ys = ap (λ (zs : List ℕ). f x ∷ zs) (map-append f xs ys)

map_each : (f : ℕ → ℕ) (g : ℕ → List ℕ) (ks : List ℕ) → map f (each_of g ks) ≡ each_of (λ k. map f (g k)) ks
unfolding each_of
map_each f g [] = refl
map_each f g (k ∷ ks) = map-append f (g k) (each_of g ks) ∙ ap (λ (zs : List ℕ). map f (g k) ++ zs) (map_each f g ks)

those-mapped : (test : ℕ → Bool) (f : ℕ → ℕ) (es : List ℕ) → map f (those (λ e. test (f e)) es) ≡ those test (map f es)
unfolding those
those-mapped test f [] = refl
those-mapped test f (e ∷ es) = by (test (f e)) (those-mapped test f es)
  where
    by : (b : Bool) → map f (those (λ e. test (f e)) es) ≡ those test (map f es)
        → map f (if b then e ∷ those (λ e. test (f e)) es else those (λ e. test (f e)) es) ≡ (if b then f e ∷ those test (map f es) else those test (map f es))
    by true q = ap (λ (zs : List ℕ). f e ∷ zs) q
    by false q = q

-- ---- entries

module _ (ranking : List ℕ) (o : Once tiers ranking) (n : length ranking ≡ tiers) where
  pub rank-group : (e : ℕ) → group_in (of_rank ranking e) ≡ group_in e
  rank-group e = group-in (group_in e) _ (rank-few ranking o n (index_in e) (omega arith))

  pub rank-tier : (e : ℕ) → index_in (of_rank ranking e) ≡ get_or ranking (index_in e) 0
  rank-tier e = tier-in (group_in e) _ (rank-few ranking o n (index_in e) (omega arith))

  of_entry : (k i : ℕ) → i < tiers → of_rank ranking (entry k i) ≡ entry k (get_or ranking i 0)
  of_entry k i l = ap₂ (λ (j r : ℕ). entry j (get_or ranking r 0)) (group-in k i l) (tier-in k i l)

  -- the test of a rank is that of its tier's exposure
  pub shown-at : (cells : List ℕ) (k i : ℕ) → i < tiers → shown_by cells ranking (entry k i) ≡ (0 <? by_tier (row cells k) (get_or ranking i 0))
  shown-at cells k i l = ap (shown cells) (of_entry k i l) ∙ ap (λ (x : ℕ). 0 <? x) (exposure-in k (get_or ranking i 0) (rank-few ranking o n i l) cells)

  pub ranks-are : map (λ i. get_or ranking i 0) all_ranks ≡ ranking
  ranks-are =
      let long : length (map (λ i. get_or ranking i 0) all_ranks) ≡ tiers = length-map all_ranks (λ i. get_or ranking i 0) ∙ length-count 0 tiers in
      ext_get_or 0 (map (λ i. get_or ranking i 0) all_ranks) ranking (long ∙ sym n) (λ i l. count_at (λ i. get_or ranking i 0) 0 tiers i (omega (arith, long)) ∙ ap (λ (j : ℕ). get_or ranking j 0) (omega arith))

  group-ranks : (k : ℕ) → map (of_rank ranking) (map (entry k) all_ranks) ≡ map (entry k) ranking
  group-ranks k =
      let f : ℕ → ℕ = λ i. entry k (get_or ranking i 0) in
      map_both (of_rank ranking) (entry k) f all_ranks (all_map (λ i q. of_entry k i (omega (arith, q.1))) all_ranks (all-count 0 tiers))
      ∙ sym (map_both (entry k) (λ i. get_or ranking i 0) f all_ranks (all_map (λ i q. refl) all_ranks (all-count 0 tiers)))
      ∙ ap (map (entry k)) ranks-are

  all-ranks : (groups : ℕ) → map (of_rank ranking) (all_entries groups all_ranks) ≡ all_entries groups ranking
  all-ranks groups =
      map_each (of_rank ranking) (λ k. map (entry k) all_ranks) (count_from 0 groups)
      ∙ each_same (λ k. map (of_rank ranking) (map (entry k) all_ranks)) (λ k. map (entry k) ranking) (count_from 0 groups) (all_map (λ k _. group-ranks k) (count_from 0 groups) (all-count 0 groups))

  -- those that have a line
  pub entries-are : (cells : List ℕ) (groups : ℕ) → map (of_rank ranking) (those (shown_by cells ranking) (all_entries groups all_ranks)) ≡ entries_of cells groups ranking
  entries-are cells groups = those-mapped (shown cells) (of_rank ranking) (all_entries groups all_ranks) ∙ ap (those (shown cells)) (all-ranks groups)

  pub entries-many : (cells : List ℕ) (groups : ℕ) → length (those (shown_by cells ranking) (all_entries groups all_ranks)) ≡ length (entries_of cells groups ranking)
  entries-many cells groups = sym (length-map (those (shown_by cells ranking) (all_entries groups all_ranks)) (of_rank ranking)) ∙ ap length (entries-are cells groups)
