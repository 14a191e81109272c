-- The sets of the groups' tiers, added up bit by bit along the list of entries by rank.
--   bits-next bits-within    one entry more, and within the sum of them all
--   bits_are                 all entries that have a line add up to the set of each group
use mathlib.Core.Path.{◌≡◌, refl, ap, sym, ◌∙◌}
use mathlib.Core.Bool.{Bool, true, false}
use mathlib.Core.List.{List, [], ◌∷◌, map}
use Prim.Native.Nat.{ℕ, zero, suc, ◌+◌, ◌*◌, ◌%◌, ◌^◌, ◌≤◌, ◌<◌}
use native.Mathlib.Omega.{arith}
use native.Mathlib.Numerals.{add-one}
use lib.ListN.{length, take, get_or, set}
use lib.Pow.{pow_mono}
use lib.Seq.{take-suc, get_or-set_same, get_or-set_other}
use lib.Dec.{eqb}
use borrow.Author.Tests.{eqb-true, eqb-false, eq-eqb, ne_eqb}
use Rattle.std.specs.Prelude.{if◌then◌else◌}
use Rattle.words.specs.Words.{◌<?◌, ◌=?◌, sum, sum_of, those, count_from}
use Rattle.words.specs.Sums.{sum-append, sum-map, sum-each, sum-agree, sum_same, sum-count, all_map, all-count}
use Rattle.words.specs.Ranges.{sum-zero, sum-here}
use Rattle.cascade.specs.Cascade.{tiers, by_tier}
use Rattle.cascade.specs.Promise.{Once}
use Rattle.rows.specs.Rows.{row}
use Rattle.figures.proofs.Size.{bits-lt}
use Rattle.lines.specs.Table.{set_of}
use Rattle.lines.specs.Listing.{entry, group_in, index_in, all_entries, all_ranks, shown_by, bit_for}
use Rattle.lines.proofs.Tries.{those-if}
use Rattle.lines.proofs.Entries.{group-in, tier-in, set-along}
use Rattle.lines.proofs.Ranks.{shown-at, ranks-are}

pub set-small : (exposures : List ℕ) → set_of exposures < 65536
unfolding set_of
set-small exposures = bits-lt (λ t. 0 <? by_tier exposures t) tiers

-- a tier's bit, as the code shifts it
pub shifted : (t : ℕ) → t < tiers → 1 * 2 ^ t % 2 ^ 16 ≡ 2 ^ t
shifted t l = let h : 2 ^ t ≤ 2 ^ 15 = pow_mono {j = 15} (omega arith) in omega (arith, h)

-- ---- along a list

module _ (f : ℕ → ℕ) where
  pub bits-next : (xs : List ℕ) (i : ℕ) → i < length xs → sum_of f (take (i + 1) xs) ≡ sum_of f (take i xs) + f (get_or xs i 0)
  unfolding sum_of
  bits-next xs i l = rw (add-one, take-suc xs i 0 l) (sum-append f (take i xs) (get_or xs i 0 ∷ []) ∙ omega arith)

  pub bits-within : (xs : List ℕ) (i n : ℕ) → i ≤ n → sum_of f (take i xs) ≤ sum_of f (take n xs)
  unfolding sum_of
  bits-within [] zero n l = omega arith
  bits-within [] (suc i) zero l = absurd (omega arith)
  bits-within [] (suc i) (suc n) l = omega arith
  bits-within (x ∷ xs) zero n l = omega arith
  bits-within (x ∷ xs) (suc i) zero l = absurd (omega arith)
  bits-within (x ∷ xs) (suc i) (suc n) l = omega (arith, bits-within xs i n (omega arith))

pub own-bit : (ranking : List ℕ) (e : ℕ) → bit_for ranking (group_in e) e ≡ 2 ^ get_or ranking (index_in e) 0
own-bit ranking e = rw (eq-eqb (group_in e) (group_in e) refl)

-- an entry's bit added to its group's set, seen from any group
pub added-bit : (ranking sets : List ℕ) (e bit : ℕ) → group_in e < length sets → bit ≡ 2 ^ get_or ranking (index_in e) 0
    → (k : ℕ) → get_or (set sets (group_in e) (get_or sets (group_in e) 0 + bit)) k 0 ≡ get_or sets k 0 + bit_for ranking k e
added-bit ranking sets e bit l q k = by (eqb (group_in e) k) refl
  where
    by : (s : Bool) → eqb (group_in e) k ≡ s → get_or (set sets (group_in e) (get_or sets (group_in e) 0 + bit)) k 0 ≡ get_or sets k 0 + (if s then 2 ^ get_or ranking (index_in e) 0 else 0)
    by true z = rw (← eqb-true (group_in e) k z) (get_or-set_same sets (group_in e) (get_or sets (group_in e) 0 + bit) 0 l ∙ ap (λ (b : ℕ). get_or sets (group_in e) 0 + b) q)
    by false z = get_or-set_other sets (group_in e) k (get_or sets (group_in e) 0 + bit) 0 (λ w. eqb-false (group_in e) k z (sym w)) ∙ omega arith

-- ---- of all entries that have a line

module _ (ranking : List ℕ) (o : Once tiers ranking) (n : length ranking ≡ tiers) (cells : List ℕ) where
  -- what one of them adds to group number k, where it has a line
  bit_at : (k j i : ℕ) → i < tiers
      → (if shown_by cells ranking (entry j i) then bit_for ranking k (entry j i) else 0)
      ≡ (if j =? k then (if 0 <? by_tier (row cells j) (get_or ranking i 0) then 2 ^ get_or ranking i 0 else 0) else 0)
  bit_at k j i l =
      rw (shown-at ranking o n cells j i l, group-in j i l, tier-in j i l) (by (0 <? by_tier (row cells j) (get_or ranking i 0)) (j =? k))
    where
      by : (a b : Bool) → (if a then (if b then 2 ^ get_or ranking i 0 else 0) else 0) ≡ (if b then (if a then 2 ^ get_or ranking i 0 else 0) else 0)
      by true true = refl
      by true false = refl
      by false true = refl
      by false false = refl

  abbrev bit_in : ℕ → ℕ → ℕ
  bit_in j t = if 0 <? by_tier (row cells j) t then 2 ^ t else 0

  -- what those of one group add
  group-bits : (k j : ℕ) → sum_of (bit_for ranking k) (those (shown_by cells ranking) (map (entry j) all_ranks)) ≡ (if j =? k then set_of (row cells j) else 0)
  group-bits k j =
      those-if (shown_by cells ranking) (bit_for ranking k) (map (entry j) all_ranks)
      ∙ sum-map (λ e. if shown_by cells ranking e then bit_for ranking k e else 0) (entry j) all_ranks
      ∙ sum-agree (λ i. if shown_by cells ranking (entry j i) then bit_for ranking k (entry j i) else 0) (λ i. if j =? k then bit_in j (get_or ranking i 0) else 0) all_ranks
      (all_map (λ i q. bit_at k j i (omega (arith, q.1))) all_ranks (all-count 0 tiers))
      ∙ by (j =? k)
    where
      along : sum_of (λ i. bit_in j (get_or ranking i 0)) all_ranks ≡ set_of (row cells j)
      along =
          sym (sum-map (bit_in j) (λ i. get_or ranking i 0) all_ranks) ∙ ap (sum_of (bit_in j)) (ranks-are ranking o n) ∙ sym (set-along ranking o (row cells j))

      by : (s : Bool) → sum_of (λ i. if s then bit_in j (get_or ranking i 0) else 0) all_ranks ≡ (if s then set_of (row cells j) else 0)
      by true = along
      by false = sum-count (λ _. 0) 0 tiers ∙ sum-zero (λ _. 0) tiers (λ _ _. refl)

  module _ (groups : ℕ) where
    all-bits : (k : ℕ) → sum_of (bit_for ranking k) (those (shown_by cells ranking) (all_entries groups all_ranks)) ≡ sum (λ j. if j =? k then set_of (row cells k) else 0) groups
    all-bits k =
        those-if (shown_by cells ranking) (bit_for ranking k) (all_entries groups all_ranks)
        ∙ sum-each (λ e. if shown_by cells ranking e then bit_for ranking k e else 0) (λ j. map (entry j) all_ranks) (count_from 0 groups)
        ∙ sum-count (λ j. sum_of (λ e. if shown_by cells ranking e then bit_for ranking k e else 0) (map (entry j) all_ranks)) 0 groups
        ∙ sum_same (λ j. sum_of (λ e. if shown_by cells ranking e then bit_for ranking k e else 0) (map (entry (0 + j)) all_ranks)) (λ j. if j =? k then set_of (row cells k) else 0) groups
        (λ j _. one (0 + j) ∙ ap (λ (g : ℕ). if g =? k then set_of (row cells k) else 0) (omega arith))
      where
        here : (j : ℕ) (s : Bool) → eqb j k ≡ s → (if s then set_of (row cells j) else 0) ≡ (if s then set_of (row cells k) else 0)
        here j true z = ap (λ (g : ℕ). set_of (row cells g)) (eqb-true j k z)
        here j false z = refl

        one : (j : ℕ) → sum_of (λ e. if shown_by cells ranking e then bit_for ranking k e else 0) (map (entry j) all_ranks) ≡ (if j =? k then set_of (row cells k) else 0)
        one j = sym (those-if (shown_by cells ranking) (bit_for ranking k) (map (entry j) all_ranks)) ∙ group-bits k j ∙ here j (eqb j k) refl

    pub bits_are : (k : ℕ) → k < groups → sum_of (bit_for ranking k) (those (shown_by cells ranking) (all_entries groups all_ranks)) ≡ set_of (row cells k)
    bits_are k l = all-bits k ∙ sum_same (λ j. if j =? k then set_of (row cells k) else 0) (λ j. if k =? j then set_of (row cells k) else 0) groups (λ j _. turn j (eqb j k) refl) ∙ sum-here (set_of (row cells k)) k groups l
      where
        turn : (j : ℕ) (s : Bool) → eqb j k ≡ s → (if s then set_of (row cells k) else 0) ≡ (if k =? j then set_of (row cells k) else 0)
        turn j true z = rw (eq-eqb k j (sym (eqb-true j k z)))
        turn j false z = rw (ne_eqb k j (λ w. eqb-false j k z (sym w)))

    pub bits_none : (k : ℕ) → groups ≤ k → sum_of (bit_for ranking k) (those (shown_by cells ranking) (all_entries groups all_ranks)) ≡ 0
    bits_none k l = all-bits k ∙ sum-zero (λ j. if j =? k then set_of (row cells k) else 0) groups (λ j h. rw (ne_eqb j k (λ w. omega arith)))
