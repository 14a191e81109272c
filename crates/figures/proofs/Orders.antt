-- A fund with its tiers in another order (`in_order`), along which the limits do not fall either.
--   group-excess-either charge-either     its group excess and its charge are the same
--   head-either                           and so is the whole header: the two reports differ in their lines at most
--   report-either                         where the orders agree on the tiers that each group has, the two reports are the same
use mathlib.Core.Bool.{Bool, true, false}
use mathlib.Core.List.{List, [], ◌∷◌}
use mathlib.Core.Path.{◌≡◌, refl, ap, sym, ◌∙◌}
use Prim.Native.Nat.{ℕ, ◌+◌, ◌≤◌, ◌<◌}
use native.Mathlib.Omega.{arith}
use lib.Dec.{ltb}
use lib.ListN.{length}
use borrow.Author.Tests.{ltb-true}
use Rattle.std.specs.Prelude.{if◌then◌else◌}
use Rattle.words.specs.Words.{◌<?◌, each_of, those, count_from}
use Rattle.words.specs.Sums.{sum_same, sum-length, each_same, all_map, all-count}
use Rattle.cascade.specs.Cascade.{ranked, standing, left, excess}
use Rattle.cascade.specs.Cut.{Ordered}
use Rattle.cascade.proofs.Ranking.{ranked-only}
use Rattle.cascade.proofs.Orders.{excess-sum-either}
use Rattle.figures.specs.declared.Line.{Line}
use Rattle.figures.specs.Fund.{Fund, in_order}
use Rattle.figures.specs.Report.{ranking, tier_set, line_of, cell_lines, group_lines, excess_sum_of, lines_of, group_excess, charge, head_of, report}
use Rattle.figures.proofs.Written.{lines-sum}
use Rattle.figures.proofs.Shown.{those-agree, standing-those}

module _ (F : Fund) (le : ℕ → ℕ → Bool) (o : Ordered F.order F.limit) (o' : Ordered le F.limit) where
  pub group-excess-either : group_excess (in_order le F) ≡ group_excess F
  unfolding group_excess
  group-excess-either =
      sum_same (λ k. excess_sum_of (in_order le F) (k + 1)) (λ k. excess_sum_of F (k + 1)) F.groups
      (λ k _. excess-sum-either F.tiers le F.order F.limit (F.exposure (k + 1)) o' o)

  pub charge-either : charge (in_order le F) ≡ charge F
  unfolding charge
  charge-either = rw group-excess-either refl

  -- a line to each tier of each group, in either order
  count-either : length (lines_of (in_order le F)) ≡ length (lines_of F)
  count-either = sym (sum-length (lines_of (in_order le F))) ∙ lines-sum (in_order le F) (λ _. 1) ∙ sym (lines-sum F (λ _. 1)) ∙ sum-length (lines_of F)

  pub head-either : head_of (in_order le F) ≡ head_of F
  unfolding head_of
  head-either = rw (count-either, group-excess-either, charge-either) refl

  -- of a group on whose tiers the two orders agree
  module _ (g : ℕ) (q : (a b : ℕ) → a < F.tiers → b < F.tiers → 0 < F.exposure g a → 0 < F.exposure g b → le a b ≡ F.order a b) where
    abbrev e : ℕ → ℕ
    e = F.exposure g

    abbrev shown : ℕ → Bool
    shown t = 0 <? e t

    abbrev tiers_by : (ℕ → ℕ → Bool) → List ℕ
    tiers_by by = those shown (ranked by F.tiers)

    tiers-either : tiers_by le ≡ tiers_by F.order
    tiers-either =
        those-agree F.tiers shown le F.order (λ a b la lb pa pb. q a b la lb (ltb-true 0 (e a) pa) (ltb-true 0 (e b) pb)) F.limit o' o F.tiers (omega arith)

    standing-either : (t : ℕ) → 0 < e t → standing F.limit e 0 (ranked le F.tiers) t ≡ standing F.limit e 0 (ranking F) t
    standing-either t l =
        standing-those F.limit e (ranked le F.tiers) 0 t l
        ∙ ap (λ (ks : List ℕ). standing F.limit e 0 ks t) tiers-either
        ∙ sym (standing-those F.limit e (ranking F) 0 t l)

    line-either : (t : ℕ) → 0 < e t → line_of (in_order le F) g t ≡ line_of F g t
    unfolding line_of tier_set left excess
    line-either t l = rw (standing-either t l) refl

    cell-either : (t : ℕ) → cell_lines (in_order le F) g t ≡ cell_lines F g t
    unfolding cell_lines
    cell-either t = by (ltb 0 (e t)) refl
      where
        by : (s : Bool) → ltb 0 (e t) ≡ s → (if s then line_of (in_order le F) g t ∷ [] else []) ≡ (if s then line_of F g t ∷ [] else [])
        by true p = ap (λ (x : Line). x ∷ []) (line-either t (ltb-true 0 (e t) p))
        by false p = refl

    -- tiers without exposure have no line
    each-those : (ks : List ℕ) → each_of (cell_lines F g) ks ≡ each_of (cell_lines F g) (those shown ks)
    unfolding each_of those cell_lines
    each-those [] = refl
    each-those (k ∷ ks) = by (ltb 0 (e k)) refl (each-those ks)
      where
        by : (s : Bool) → ltb 0 (e k) ≡ s → each_of (cell_lines F g) ks ≡ each_of (cell_lines F g) (those shown ks)
            → each_of (cell_lines F g) (k ∷ ks) ≡ each_of (cell_lines F g) (those shown (k ∷ ks))
        by true p ih = rw (p, ih, p) refl
        by false p ih = rw p ih

    group-either : group_lines (in_order le F) g (ranking (in_order le F)) ≡ group_lines F g (ranking F)
    group-either =
        each_same (cell_lines (in_order le F) g) (cell_lines F g) (ranked le F.tiers) (all_map (λ t _. cell-either t) (ranked le F.tiers) (ranked-only le F.tiers))
        ∙ each-those (ranked le F.tiers) ∙ ap (each_of (cell_lines F g)) tiers-either ∙ sym (each-those (ranking F))

  pub report-either :
      ((g : ℕ) → 1 ≤ g → g ≤ F.groups → (a b : ℕ) → a < F.tiers → b < F.tiers → 0 < F.exposure g a → 0 < F.exposure g b → le a b ≡ F.order a b)
      → report (in_order le F) ≡ report F
  unfolding report
  report-either q =
      let lines : lines_of (in_order le F) ≡ lines_of F =
      each_same (λ g. group_lines (in_order le F) g (ranking (in_order le F))) (λ g. group_lines F g (ranking F)) (count_from 1 F.groups)
      (all_map (λ g h. group-either g (q g h.0 (omega (arith, h.1)))) (count_from 1 F.groups) (all-count 1 F.groups)) in
      rw (head-either, lines) refl
