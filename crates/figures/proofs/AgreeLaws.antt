-- Limits and exposures that agree give the same cascade; funds that agree on their groups and tiers have the same report.
--   same_line                                   a line by its fields
--   Below                                       a list of tiers below n
--   ranked-same                                 the tiers by rank, of two orders
--   standing-same left-same excess-same         of one group, along a list of tiers
--   Same                                        two funds that agree
--   lines_same group-excess-same report-same    of two such funds
use mathlib.Core.Path.{◌≡◌, refl, ap, ◌∙◌}
use mathlib.Core.Bool.{Bool}
use mathlib.Core.List.{List, [], ◌∷◌}
use Prim.Native.Nat.{ℕ, zero, suc, ◌+◌, ◌-◌, ◌^◌, ◌≤◌, ◌<◌}
use native.Mathlib.Omega.{arith}
use Rattle.std.specs.Prelude.{if◌then◌else◌}
use Rattle.words.specs.Words.{◌<?◌, sum, each_of, count_from, All}
use Rattle.words.specs.Sums.{sum_same, each_same, all_map, all-count}
use Rattle.cascade.specs.Cascade.{insert, ranked, next, standing, left, excess, excess_sum}
use Rattle.cascade.proofs.Ranking.{ranked-only}
use Rattle.figures.specs.Fund.{Fund}
use Rattle.figures.specs.Report.{ranking, excess_of, excess_sum_of, tier_set, line_of, cell_lines, group_lines, lines_of, group_excess, charge, head_of, report}
use Rattle.figures.specs.declared.Line.{Line}

-- a line by its fields
pub same_line :
    (x : Line) (g t s e l f c : ℕ) → g ≡ x.top → t ≡ x.tier → s ≡ x.tiers → e ≡ x.exposure → l ≡ x.limit → f ≡ x.left → c ≡ x.excess
    → ◌≡◌ {A = Line} (record { top = g; tier = t; tiers = s; exposure = e; limit = l; left = f; excess = c }) x
same_line x g t s e l f c h0 h1 h2 h3 h4 h5 h6 = rw (h0, h1, h2, h3, h4, h5, h6)

abbrev pub Below : ℕ → List ℕ → Type 0
Below n = All (λ t. t < n)

module _ (n : ℕ) (le le' : ℕ → ℕ → Bool) (q : (a b : ℕ) → a < n → b < n → le a b ≡ le' a b) where
  insert-same : (x : ℕ) (ks : List ℕ) → x < n → Below n ks → insert le x ks ≡ insert le' x ks
  unfolding insert
  insert-same x [] l h = refl
  insert-same x (m ∷ ms) l h = rw (q x m l h.0, insert-same m ms h.0 h.1, insert-same x ms l h.1)

  pub ranked-same : (m : ℕ) → m ≤ n → ranked le m ≡ ranked le' m
  unfolding ranked
  ranked-same zero l = refl
  ranked-same (suc m) l =
      insert-same m (ranked le m) (omega arith) (all_map (λ t k. omega arith) (ranked le m) (ranked-only le m)) ∙ ap (insert le' m) (ranked-same m (omega arith))

module _ (n : ℕ) (L L' e e' : ℕ → ℕ) (ql : (t : ℕ) → t < n → L t ≡ L' t) (qe : (t : ℕ) → t < n → e t ≡ e' t) where
  pub standing-same : (ks : List ℕ) (s t : ℕ) → Below n ks → standing L e s ks t ≡ standing L' e' s ks t
  unfolding standing next
  standing-same [] s t h = refl
  standing-same (k ∷ ks) s t h = rw (ql k h.0, qe k h.0, standing-same ks (s + (e' k - (e' k - (L' k - s)))) t h.1)

  pub left-same : (ks : List ℕ) (t : ℕ) → t < n → Below n ks → left L e ks t ≡ left L' e' ks t
  unfolding left
  left-same ks t l h = rw (ql t l, standing-same ks 0 t h)

  pub excess-same : (ks : List ℕ) (t : ℕ) → t < n → Below n ks → excess L e ks t ≡ excess L' e' ks t
  unfolding excess
  excess-same ks t l h = rw (qe t l, ql t l, standing-same ks 0 t h)

-- F and G have the same groups, tiers and figures, and agree on the order and limits of these tiers and on the exposures of these groups in them
pub record Same (F G : Fund) : Type 0 where
  pub groups : F.groups ≡ G.groups
  pub tiers : F.tiers ≡ G.tiers
  pub order : (a b : ℕ) → a < F.tiers → b < F.tiers → F.order a b ≡ G.order a b
  pub limit : (t : ℕ) → t < F.tiers → F.limit t ≡ G.limit t
  pub exposure : (g t : ℕ) → 1 ≤ g → g ≤ F.groups → t < F.tiers → F.exposure g t ≡ G.exposure g t
  pub vaf : F.vaf ≡ G.vaf
  pub stressed_vaf : F.stressed_vaf ≡ G.stressed_vaf
  pub all_net : F.all_net ≡ G.all_net
  pub unlimited : F.unlimited ≡ G.unlimited
  pub a3_sum : F.a3_sum ≡ G.a3_sum
  pub a3_limit : F.a3_limit ≡ G.a3_limit

module _ (F G : Fund) (s : Same F G) where
  ranking-same : ranking F ≡ ranking G
  ranking-same = ranked-same F.tiers F.order G.order s.order F.tiers (omega arith) ∙ ap (ranked G.order) s.tiers

  ranking-below : Below F.tiers (ranking F)
  ranking-below = ranked-only F.order F.tiers

  module _ (g : ℕ) (h : 1 ≤ g) (k : g ≤ F.groups) where
    set_same : tier_set F g ≡ tier_set G g
    unfolding tier_set
    set_same =
        sum_same (λ t. if 0 <? F.exposure g t then 2 ^ t else 0) (λ t. if 0 <? G.exposure g t then 2 ^ t else 0) F.tiers (λ t l. rw (s.exposure g t h k l))
        ∙ ap (sum (λ t. if 0 <? G.exposure g t then 2 ^ t else 0)) s.tiers

    excess-of-same : (t : ℕ) → t < F.tiers → excess_of F g t ≡ excess_of G g t
    excess-of-same t l =
        excess-same F.tiers F.limit G.limit (F.exposure g) (G.exposure g) s.limit (λ t l. s.exposure g t h k l) (ranking F) t l ranking-below
        ∙ ap (λ (ks : List ℕ). excess G.limit (G.exposure g) ks t) ranking-same

    left-of-same : (t : ℕ) → t < F.tiers → left F.limit (F.exposure g) (ranking F) t ≡ left G.limit (G.exposure g) (ranking G) t
    left-of-same t l =
        left-same F.tiers F.limit G.limit (F.exposure g) (G.exposure g) s.limit (λ t l. s.exposure g t h k l) (ranking F) t l ranking-below
        ∙ ap (λ (ks : List ℕ). left G.limit (G.exposure g) ks t) ranking-same

    line_same : (t : ℕ) → t < F.tiers → line_of F g t ≡ line_of G g t
    unfolding line_of
    line_same t l = same_line (line_of G g t) _ _ _ _ _ _ _ refl refl set_same (s.exposure g t h k l) (s.limit t l) (left-of-same t l) (excess-of-same t l)

    cell_same : (t : ℕ) → t < F.tiers → cell_lines F g t ≡ cell_lines G g t
    unfolding cell_lines
    cell_same t l = rw (s.exposure g t h k l, line_same t l)

    group-same : group_lines F g (ranking F) ≡ group_lines G g (ranking G)
    group-same = each_same (cell_lines F g) (cell_lines G g) (ranking F) (all_map cell_same (ranking F) ranking-below) ∙ ap (each_of (cell_lines G g)) ranking-same

  pub lines_same : lines_of F ≡ lines_of G
  lines_same =
      each_same (λ g. group_lines F g (ranking F)) (λ g. group_lines G g (ranking G)) (count_from 1 F.groups)
      (all_map (λ g h. group-same g h.0 (omega (arith, h.1))) (count_from 1 F.groups) (all-count 1 F.groups))
      ∙ ap (λ (n : ℕ). each_of (λ g. group_lines G g (ranking G)) (count_from 1 n)) s.groups

  pub group-excess-same : group_excess F ≡ group_excess G
  unfolding group_excess excess_sum
  group-excess-same =
      sum_same (λ k. excess_sum_of F (k + 1)) (λ k. excess_sum_of G (k + 1)) F.groups
      (λ k l. sum_same (excess_of F (k + 1)) (excess_of G (k + 1)) F.tiers (excess-of-same (k + 1) (omega arith) (omega arith)) ∙ ap (sum (excess_of G (k + 1))) s.tiers)
      ∙ ap (sum (λ k. excess_sum_of G (k + 1))) s.groups

  head-same : head_of F ≡ head_of G
  unfolding head_of charge
  head-same = rw (lines_same, group-excess-same, s.vaf, s.stressed_vaf, s.all_net, s.unlimited, s.a3_sum, s.a3_limit)

  pub report-same : report F ≡ report G
  unfolding report
  report-same = rw (head-same, lines_same)
