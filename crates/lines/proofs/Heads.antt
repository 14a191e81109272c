-- The fund of a table: a top place has its group's row and any other place nothing. So the fund's lines are those along the list of entries.
use mathlib.Core.Path.{◌≡◌, refl, ap, sym, ◌∙◌}
use mathlib.Core.Bool.{Bool}
use mathlib.Core.List.{List, [], ◌∷◌}
use Prim.Native.Nat.{ℕ, ◌+◌, ◌^◌, ◌≤◌, ◌<◌}
use native.Mathlib.Omega.{arith}
use native.Mathlib.Decide.{dec_lt}
use borrow.Author.Tests.{eq-eqb, ne_eqb}
use lib.Count.{ones}
use lib.ListN.{length, get_or}
use Rattle.std.specs.Prelude.{if◌then◌else◌}
use Rattle.words.specs.Words.{◌<?◌, ◌=?◌, sum, sum_of, each_of, count_from}
use Rattle.words.specs.Sums.{sum-each, sum_same, sum-count, sum-length, each_same, all_map, all-count}
use Rattle.cascade.specs.Cascade.{tiers, by_tier, ranked, left, excess, standing}
use Rattle.cascade.specs.Cut.{Ordered}
use Rattle.cascade.proofs.Ranking.{ranked-only, ranked-sorted}
use Rattle.figures.specs.declared.Figures.{Figures}
use Rattle.figures.specs.Fund.{Fund}
use Rattle.figures.specs.Report.{ranking, tier_set, line_of, cell_lines, group_lines, lines_of}
use Rattle.figures.proofs.AgreeLaws.{same_line, left-same, excess-same}
use Rattle.figures.proofs.Sums.{sum-none, sum_one}
use Rattle.figures.proofs.Size.{group-count}
use Rattle.rows.specs.Rows.{row}
use Rattle.lines.specs.Table.{set_of, Heads, table_fund}
use Rattle.lines.specs.Listing.{entries_of, Source, lines_along, no_group}
use Rattle.lines.proofs.Among.{NoHead, each-heads}
use Rattle.lines.proofs.Entries.{entries-each}
use Rattle.lines.proofs.Along.{tier_line, tier_lines, along-groups}

module _ {heads : List ℕ} {places groups : ℕ} (H : Heads heads places groups) where
  abbrev h : ℕ → ℕ
  h k = get_or heads k 0

  alone : (j k : ℕ) → j < groups → k < groups → (j ≡ k → ⊥) → h j ≡ h k → ⊥
  alone j k p q d e = elim (dec_lt j k) [ yes l ↦ omega (arith, H.rise j k l q) | no l ↦ omega (arith, H.rise k j (omega arith) p) ]

  module _ (order : ℕ → ℕ → Bool) (limits cells : List ℕ) (figures : Figures) where
    abbrev F : Fund
    F = table_fund order limits cells heads places groups figures

    pub head-exposure : (k : ℕ) → k < groups → (t : ℕ) → F.exposure (h k) t ≡ by_tier (row cells k) t
    unfolding table_fund
    head-exposure k l t =
        sum_one (λ j. if h j =? h k then by_tier (row cells j) t else 0) groups k l (λ u m d. rw (ne_eqb (h u) (h k) (alone u k m l d)))
        ∙ rw (eq-eqb (h k) (h k) refl)

    pub no-exposure : (g : ℕ) → ((k : ℕ) → k < groups → h k ≡ g → ⊥) → (t : ℕ) → F.exposure g t ≡ 0
    unfolding table_fund
    no-exposure g d t = sum-none (λ j. if h j =? g then by_tier (row cells j) t else 0) groups (λ u m. rw (ne_eqb (h u) g (d u m)))

    no_line : (g : ℕ) → NoHead H g → group_lines F g (ranking F) ≡ []
    unfolding each_of cell_lines
    no_line g d = none (ranking F)
      where
        none : (ts : List ℕ) → each_of (cell_lines F g) ts ≡ []
        none [] = refl
        none (t ∷ ts) = rw (no-exposure g d t) (none ts)

    -- the lines, group by group
    pub lines-heads : lines_of F ≡ each_of (λ k. group_lines F (h k) (ranking F)) (count_from 0 groups)
    unfolding table_fund
    lines-heads = each-heads H (λ g. group_lines F g (ranking F)) no_line

    pub set-head : (k : ℕ) → k < groups → tier_set F (h k) ≡ set_of (row cells k)
    unfolding tier_set set_of table_fund
    set-head k l =
        sum_same (λ t. if 0 <? F.exposure (h k) t then 2 ^ t else 0) (λ t. if 0 <? by_tier (row cells k) t then 2 ^ t else 0) tiers (λ t _. rw (head-exposure k l t))

    -- how many there are: the ones of the groups' sets of tiers
    pub lines-ones : length (lines_of F) ≡ sum (λ k. ones (set_of (row cells k))) groups
    lines-ones =
        ap length lines-heads ∙ sym (sum-length (each_of (λ k. group_lines F (h k) (ranking F)) (count_from 0 groups)))
        ∙ sum-each (λ _. 1) (λ k. group_lines F (h k) (ranking F)) (count_from 0 groups)
        ∙ sum-count (λ k. sum_of (λ _. 1) (group_lines F (h k) (ranking F))) 0 groups
        ∙ sum_same (λ k. sum_of (λ _. 1) (group_lines F (h (0 + k)) (ranking F))) (λ k. ones (set_of (row cells k))) groups
        (λ k l. let z : 0 + k ≡ k = omega arith in rw z (sum-length (group_lines F (h k) (ranking F)) ∙ group-count F (h k) ∙ ap ones (set-head k l)))

-- the lines along the list of entries, where the sets are those of the groups' tiers
module _ (order : ℕ → ℕ → Bool) (S : Source) (o : Ordered order (by_tier S.limits)) {places groups : ℕ} (H : Heads S.heads places groups) (few : groups ≤ 500)
    (sets : (k : ℕ) → k < groups → get_or S.sets k 0 ≡ set_of (row S.cells k)) (figures : Figures) where
  abbrev G : Fund
  G = table_fund order S.limits S.cells S.heads places groups figures

  abbrev M : ℕ → ℕ
  M = by_tier S.limits

  abbrev by_rank : List ℕ
  by_rank = ranked order tiers

  module _ (k : ℕ) (l : k < groups) where
    abbrev top : ℕ
    top = get_or S.heads k 0

    abbrev x : ℕ → ℕ
    x = by_tier (row S.cells k)

    line-is : (t : ℕ) → t < tiers → line_of G top t ≡ tier_line S k (standing M x 0 by_rank t) t
    unfolding line_of left excess table_fund
    line-is t m =
        let e : (u : ℕ) → u < tiers → G.exposure top u ≡ x u = λ u _. head-exposure H order S.limits S.cells figures k l u in
        let b = ranked-only order tiers in
        same_line (tier_line S k (standing M x 0 by_rank t) t) _ _ _ _ _ _ _ refl refl
        (set-head H order S.limits S.cells figures k l ∙ sym (sets k l)) (e t m) refl
        (left-same tiers M M (G.exposure top) x (λ _ _. refl) e by_rank t m b) (excess-same tiers M M (G.exposure top) x (λ _ _. refl) e by_rank t m b)

    tier-is : (t : ℕ) → t < tiers → cell_lines G top t ≡ tier_lines S k 0 by_rank t
    unfolding cell_lines
    tier-is t m = rw (head-exposure H order S.limits S.cells figures k l t, line-is t m)

    group-is : group_lines G top (ranking G) ≡ each_of (tier_lines S k 0 by_rank) by_rank
    unfolding table_fund
    group-is = each_same (cell_lines G top) (tier_lines S k 0 by_rank) by_rank (all_map tier-is by_rank (ranked-only order tiers))

  pub lines-along : lines_of G ≡ lines_along S no_group 0 (entries_of S.cells groups by_rank)
  lines-along =
      lines-heads H order S.limits S.cells figures
      ∙ each_same (λ k. group_lines G (get_or S.heads k 0) (ranking G)) (λ k. each_of (tier_lines S k 0 by_rank) by_rank) (count_from 0 groups)
      (all_map (λ k q. group-is k (omega (arith, q.1))) (count_from 0 groups) (all-count 0 groups))
      ∙ sym (along-groups S order o by_rank (ranked-sorted order M o tiers) (ranked-only order tiers) groups 0 no_group 0 (λ j _ q r. omega arith))
      ∙ ap (lines_along S no_group 0) (sym (entries-each S.cells groups by_rank))
