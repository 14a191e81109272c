-- What is left in the tables once the entries of all groups are listed and their bits added.
use mathlib.Core.Path.{◌≡◌, refl, ap, sym, ◌∙◌}
use mathlib.Core.Bool.{Bool, true, false}
use mathlib.Core.List.{List, ◌++◌, map}
use Prim.Native.Nat.{ℕ, ◌+◌, ◌*◌, ◌-◌, ◌≤◌, ◌<◌}
use native.Mathlib.Omega.{arith}
use lib.Dec.{leb}
use lib.Count.{ones}
use lib.ListN.{length, take, drop, get_or, length-append, length-drop}
use lib.Seq.{get_or-take, get_or-drop, get_or-append-add, ext_get_or}
use borrow.Author.Tests.{leb-true, leb-false}
use Rattle.words.specs.Words.{sum, sum_of, those, count_from, All}
use Rattle.words.specs.Sums.{sum_same, all_map, all-count, length-count}
use Rattle.wire.specs.Bytes.{placed}
use Rattle.cascade.specs.Cascade.{tiers}
use Rattle.cascade.proofs.Lists.{all-at}
use Rattle.rows.specs.Rows.{row}
use Rattle.lines.specs.Table.{set_of}
use Rattle.lines.specs.Listing.{entry, group_in, all_entries, entries_of, all_ranks, shown_by, bit_for, tried}
use Rattle.lines.specs.Promise.{Listable, Addable, Added, Listed}
use Rattle.lines.proofs.Tries.{those-all, each_all, tried-long, tried-first}
use Rattle.lines.proofs.Entries.{group-in, entries-all, all-long, entries-ones, entries-few}
use Rattle.lines.proofs.Ranks.{entries-many}
use Rattle.lines.proofs.Heads.{lines-ones}
use Rattle.lines.proofs.Groups.{set_at, all_sets, sets-long, set-each}
use Rattle.lines.proofs.Bits.{set-small, bits_are, bits_none}

-- a test of k below n
either : {P : Type 0} (k n : ℕ) → (k < n → P) → (n ≤ k → P) → P
either {P} k n below past = by (leb n k) refl
  where
    by : (s : Bool) → leb n k ≡ s → P
    by true z = past (leb-true n k z)
    by false z = below (leb-false n k z)

-- the entries of a number of groups are of these
all-groups : (groups : ℕ) → All (λ e. group_in e < groups) (all_entries groups all_ranks)
all-groups groups =
    each_all (λ e. group_in e < groups) (λ j. (0 ≤ j) × (j < 0 + groups)) (λ k. map (entry k) all_ranks)
    (λ j i. entries-all all_ranks (all_map (λ t q. omega (arith, q.1)) all_ranks (all-count 0 tiers)) (λ e. group_in e < groups) j (λ t l. omega (arith, i.1, group-in j t l))) (count_from 0 groups) (all-count 0 groups)

module _ {cells : List ℕ} {groups : ℕ} {ranking sets list : List ℕ} (a : Listable cells groups ranking sets list) (long : length ranking ≡ tiers) where
  abbrev shows : ℕ → Bool
  shows = shown_by cells ranking

  abbrev shown_entries : List ℕ
  shown_entries = those shows (all_entries groups all_ranks)

  all : length (all_entries groups all_ranks) ≡ tiers * groups
  all = all-long all_ranks (length-count 0 tiers) groups

  few : length shown_entries ≤ tiers * groups
  few = omega (arith, entries-many ranking a.ranks long cells groups, entries-few ranking a.ranks cells groups long)

  module _ {end : ℕ} {listed : List ℕ} (n : end ≡ length shown_entries) (q : listed ≡ tried shows 0 (all_entries groups all_ranks) list) where
    pub listed-size : length listed ≡ length list
    listed-size = ap length q ∙ tried-long shows (all_entries groups all_ranks) 0 list

    pub entries-first : take end listed ≡ shown_entries
    entries-first =
        let z : 0 + length shown_entries ≡ end = omega (arith, n) in
        ap (take end) q ∙ ap (λ (k : ℕ). take k (tried shows 0 (all_entries groups all_ranks) list)) (sym z) ∙ tried-first shows (all_entries groups all_ranks) 0 list (omega (arith, all, a.room))

    bits : (k : ℕ) → k < groups → sum_of (bit_for ranking k) (take end listed) ≡ set_of (row cells k)
    bits k l = rw entries-first (bits_are ranking a.ranks long cells groups k l)

    no_bits : (k : ℕ) → groups ≤ k → sum_of (bit_for ranking k) (take end listed) ≡ 0
    no_bits k l = rw entries-first (bits_none ranking a.ranks long cells groups k l)

    pub adds : Addable listed end ranking sets
    adds = record {
      ranks = a.ranks;
      long = omega (arith, listed-size, n, few, a.room);
      inside = λ i l. let at = all-at (λ e. group_in e < groups) shown_entries (those-all shows (λ e. group_in e < groups) (all_entries groups all_ranks) (all-groups groups)) i (omega (arith, n)) in
          omega (arith, a.places, rw (← entries-first, get_or-take end listed i 0 l) at at);
      fit = λ k. either k groups (λ l. omega (arith, bits k l, a.empty k, set-small (row cells k))) (λ l. omega (arith, no_bits k l, a.empty k));
    }

    module _ {done : List ℕ} (b : Added listed end ranking sets done) where
      own : (k : ℕ) → k < groups → get_or done k 0 ≡ set_at cells k
      own k l = omega (arith, b.each k, a.empty k, bits k l)

      placed-are : done ≡ placed sets 0 (all_sets cells groups)
      placed-are =
          let l = sets-long cells groups in
          let m = length-drop (0 + length (all_sets cells groups)) sets in
          let h : length (placed sets 0 (all_sets cells groups)) ≡ length sets = length-append (all_sets cells groups) (drop (0 + length (all_sets cells groups)) sets) ∙ omega (arith, a.places) in
          ext_get_or 0 done (placed sets 0 (all_sets cells groups)) (b.size ∙ sym h) (λ k g. either k groups (λ i. own k i ∙ sym (set-each cells groups sets refl k i)) (λ i. behind k i))
        where
          behind : (k : ℕ) → groups ≤ k → get_or done k 0 ≡ get_or (placed sets 0 (all_sets cells groups)) k 0
          behind k i =
              let s = all_sets cells groups in
              let l = sets-long cells groups in
              let r = drop (0 + length s) sets in
              let e : length s + (k - length s) ≡ k = omega arith in
              let f : 0 + length s + (k - length s) ≡ k = omega arith in
              omega (arith, b.each k, no_bits k i) ∙ ap (λ (j : ℕ). get_or sets j 0) (sym f) ∙ sym (get_or-drop (0 + length s) sets (k - length s) 0) ∙ sym (get_or-append-add s r (k - length s) 0)
              ∙ ap (λ (j : ℕ). get_or (s ++ r) j 0) e

      counted : {count : ℕ} → count ≡ sum (λ k. ones (get_or done k 0)) groups → count ≡ length (entries_of cells groups ranking)
      counted e =
          e ∙ sum_same (λ k. ones (get_or done k 0)) (λ k. ones (set_of (row cells k))) groups (λ k l. ap ones (own k l)) ∙ sym (entries-ones ranking a.ranks cells groups)

      pub all_listed : {count : ℕ} → count ≡ sum (λ k. ones (get_or done k 0)) groups → Listed cells groups ranking sets done list listed count
      all_listed e = record {
        lines = λ order limits heads places figures h. counted e ∙ entries-ones ranking a.ranks cells groups ∙ sym (lines-ones h order limits cells figures);
        count = counted e;
        few = omega (arith, counted e, entries-few ranking a.ranks cells groups long);
        tier_sets = placed-are;
        entries = q;
      }
