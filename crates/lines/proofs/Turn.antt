-- One turn of the listing of a group: a rank is tried, and counted where it has a line.
use mathlib.Core.Path.{◌≡◌, ap, ◌∙◌}
use mathlib.Core.Bool.{Bool, true, false}
use mathlib.Core.List.{List, ◌∷◌, map}
use Prim.Native.Nat.{ℕ, zero, suc, ◌+◌, ◌*◌, ◌≤◌, ◌<◌}
use native.Mathlib.Omega.{arith}
use native.Mathlib.Numerals.{add-one}
use lib.ListN.{length, drop, get_or, set, drop_of_length-le}
use lib.Seq.{drop-cons}
use Rattle.std.specs.Prelude.{if◌then◌else◌}
use Rattle.words.specs.Words.{◌<?◌, those, count_from}
use Rattle.words.specs.Sums.{length-count}
use Rattle.cascade.specs.Cascade.{tiers, by_tier}
use Rattle.cascade.specs.Promise.{Once}
use Rattle.rows.specs.Rows.{columns, row, row_at}
use Rattle.lines.specs.Listing.{entry, all_ranks, shown_by, tried}
use Rattle.rows.proofs.Ranked.{rank-few}
use Rattle.lines.proofs.Ranks.{shown-at}

-- none is left behind the last rank
pub counted-end : (cells ranking : List ℕ) (k i : ℕ) → tiers ≤ i → length (those (shown_by cells ranking) (map (entry k) (drop i all_ranks))) ≡ 0
unfolding those
counted-end cells ranking k i l = rw (drop_of_length-le all_ranks {i = i} (omega (arith, length-count 0 tiers)))

pub tried-end : (cells ranking : List ℕ) (k i place : ℕ) (list : List ℕ) → tiers ≤ i → tried (shown_by cells ranking) place (map (entry k) (drop i all_ranks)) list ≡ list
unfolding tried
tried-end cells ranking k i place list l = rw (drop_of_length-le all_ranks {i = i} (omega (arith, length-count 0 tiers)))

-- the ranks in order
rank-at : (a n i : ℕ) → i < n → get_or (count_from a n) i 0 ≡ a + i
unfolding count_from
rank-at a zero i l = absurd (omega arith)
rank-at a (suc n) zero l = omega arith
rank-at a (suc n) (suc i) l = omega (arith, rank-at (a + 1) n i (omega arith))

module _ (cells ranking : List ℕ) (k : ℕ) (o : Once tiers ranking) (n : length ranking ≡ tiers) (i : ℕ) (l : i < tiers) where
  abbrev t : ℕ
  t = get_or ranking i 0

  pub tier-few : t < tiers
  tier-few = rank-few ranking o n i l

  -- what is read of the cells is the group's exposure
  pub read_is : {some : ℕ} → some ≡ (if 0 <? get_or cells (columns * k + t) 0 then 1 else 0) → some ≡ (if 0 <? by_tier (row cells k) t then 1 else 0)
  read_is e = rw (row_at cells k t tier-few) e

  first : drop i all_ranks ≡ i ∷ drop (i + 1) all_ranks
  first = rw (drop-cons all_ranks i 0 (omega (arith, length-count 0 tiers)), add-one) (ap (λ (r : ℕ). r ∷ drop (suc i) all_ranks) (rank-at 0 tiers i l ∙ omega arith))

  pub tried-step :
      (place some : ℕ) (list : List ℕ) → some ≡ (if 0 <? by_tier (row cells k) t then 1 else 0)
      → tried (shown_by cells ranking) place (map (entry k) (drop i all_ranks)) list ≡ tried (shown_by cells ranking) (place + some) (map (entry k) (drop (i + 1) all_ranks)) (set list place (entry k i))
  unfolding tried
  tried-step place some list e =
      rw first
      (ap (λ (p : ℕ). tried (shown_by cells ranking) p (map (entry k) (drop (i + 1) all_ranks)) (set list place (entry k i))) (moved (0 <? by_tier (row cells k) t) e (shown-at ranking o n cells k i l)))
    where
      moved : (b : Bool) → some ≡ (if b then 1 else 0) → shown_by cells ranking (entry k i) ≡ b → (if shown_by cells ranking (entry k i) then place + 1 else place) ≡ place + some
      moved true q r = rw (r, q)
      moved false q r = rw (r, q) (omega arith)

  pub counted_step :
      (some : ℕ) → some ≡ (if 0 <? by_tier (row cells k) t then 1 else 0)
      → length (those (shown_by cells ranking) (map (entry k) (drop i all_ranks))) ≡ some + length (those (shown_by cells ranking) (map (entry k) (drop (i + 1) all_ranks)))
  unfolding those
  counted_step some e = rw first (by (0 <? by_tier (row cells k) t) e (shown-at ranking o n cells k i l))
    where
      by : (b : Bool) → some ≡ (if b then 1 else 0) → shown_by cells ranking (entry k i) ≡ b
          → length (if shown_by cells ranking (entry k i) then entry k i ∷ those (shown_by cells ranking) (map (entry k) (drop (i + 1) all_ranks)) else those (shown_by cells ranking) (map (entry k) (drop (i + 1) all_ranks)))
          ≡ some + length (those (shown_by cells ranking) (map (entry k) (drop (i + 1) all_ranks)))
      by true q r = rw (r, q) (omega arith)
      by false q r = rw (r, q) (omega arith)
