-- Demand 3 holds of the report of any fund, whatever bytes follow it.
use mathlib.Core.Path.{◌≡◌, refl, ap, sym, ◌∙◌}
use mathlib.Core.Bool.{Bool, true, false, ◌&&◌}
use mathlib.Core.List.{List, ◌++◌}
use Prim.Native.Nat.{ℕ, ◌+◌, ◌*◌, ◌-◌, ◌≤◌, ◌<◌}
use native.Mathlib.Omega.{arith}
use native.Mathlib.Decide.{dec_lt}
use borrow.Author.Tests.{eq-eqb, eqb-true, lt-ltb, le-ltb, ltb-true, le-leb, leb-true}
use lib.ListN.{length, length-append}
use Rattle.std.specs.Prelude.{if◌then◌else◌}
use Rattle.words.specs.Words.{◌≤?◌, ◌<?◌, ◌=?◌, sum, sum_of}
use Rattle.words.specs.Choice.{both}
use Rattle.words.specs.Sums.{sum-le, sum_same}
use Rattle.cascade.specs.Cut.{taken, Optimal, Ordered}
use Rattle.cascade.proofs.Fund.{ranked-optimal, optimal-same, excess-sum-taken}
use Rattle.figures.specs.declared.Line.{Line}
use Rattle.figures.specs.Fund.{Fund, over_groups}
use Rattle.figures.specs.Report.{head_size, line_size, ranking, excess_of, excess_sum_of, line_of, lines_of, group_excess, charge, report}
use Rattle.figures.specs.Read.{line_at, lines_in, is_of, group_excess_in, charge_in, read_excess}
use Rattle.figures.specs.LeastCuts.{TierOf, OneLine, FeasibleAt, taken_of, LeastCuts}
use Rattle.figures.proofs.Sums.{sum-none, sum_one, sum-zero-at, none_of, if-zero, one_of}
use Rattle.figures.proofs.Written.{cell, lines-sum, lines-in, group-excess-in, charge-in, read-sum}
use Rattle.figures.proofs.Size.{report-long}

-- a sum over groups and tiers of which one term is not 0
module _ (F : Fund) (f : Line → ℕ) (g t : ℕ) (h : TierOf F g t) (away : (u w : ℕ) → (u ≡ g → w ≡ t → ⊥) → f (line_of F u w) ≡ 0) where
  cell-none : (u w : ℕ) → (u ≡ g → w ≡ t → ⊥) → cell F f u w ≡ 0
  cell-none u w q = rw (away u w q) (if-zero (0 <? F.exposure u w))

  one_cell : over_groups F (λ u. sum (cell F f u) F.tiers) ≡ f (line_of F g t)
  one_cell =
      sum_one (λ k. sum (cell F f (k + 1)) F.tiers) F.groups (g - 1) (omega arith)
      (λ u _ q. sum-none (cell F f (u + 1)) F.tiers (λ w _. cell-none (u + 1) w (λ r _. q (omega arith))))
      ∙ ap (λ (k : ℕ). sum (cell F f k) F.tiers) (omega arith)
      ∙ sum_one (cell F f g) F.tiers t h.tier (λ w _ q. cell-none g w (λ _ r. q r))
      ∙ rw (lt-ltb 0 (F.exposure g t) h.above)

module _ (F : Fund) where
  -- a group's excesses are what they take
  group-taken : (g : ℕ) → excess_sum_of F g ≡ taken F.tiers (F.exposure g) (excess_of F g)
  group-taken g = excess-sum-taken F.tiers F.limit (F.exposure g) (ranking F)

  excess-cells : group_excess F ≡ over_groups F (λ g. sum (cell F (λ x. x.excess) g) F.tiers)
  unfolding group_excess line_of taken
  excess-cells = sum_same (λ k. excess_sum_of F (k + 1)) (λ k. sum (cell F (λ x. x.excess) (k + 1)) F.tiers) F.groups (λ k _. group-taken (k + 1))

  -- the group excess is that of the lines
  pub excess-lines : group_excess F ≡ sum_of (λ x. x.excess) (lines_of F)
  excess-lines = excess-cells ∙ sym (lines-sum F (λ x. x.excess))

module _ (F : Fund) (more : List ℕ) where
  abbrev R : List ℕ
  R = report F ++ more

  whole_of : head_size + line_size * lines_in R ≤ length R
  whole_of = omega (arith, lines-in F more, report-long F, length-append (report F) more)

  -- a sum over the lines of group g and tier t is its one line's
  line-of : (v : Line → ℕ) (g t : ℕ) → TierOf F g t → sum (λ i. if is_of g t (line_at R i) then v (line_at R i) else 0) (lines_in R) ≡ v (line_of F g t)
  unfolding line_of
  line-of v g t h =
      read-sum F more (λ x. if is_of g t x then v x else 0)
      ∙ one_cell F (λ x. if is_of g t x then v x else 0) g t h (λ u w q. none_of (u =? g) (w =? t) (v (line_of F u w)) (λ a b. q (eqb-true u g a) (eqb-true w t b)))
      ∙ rw (eq-eqb g g refl, eq-eqb t t refl)

  pub excess-read : (g t : ℕ) → TierOf F g t → excess_of F g t ≡ read_excess (report F ++ more) g t
  unfolding read_excess line_of
  excess-read g t h = sym (line-of (λ x. x.excess) g t h)

  one_line : (g t : ℕ) → TierOf F g t → OneLine R g t
  one_line g t h =
      let o = one_of (λ i. is_of g t (line_at R i)) (lines_in R) (line-of (λ _. 1) g t h) in
      let b = both ((line_at R o.place).top =? g) ((line_at R o.place).tier =? t) o.holds in
      record {
        place = o.place;
        inside = o.inside;
        top = eqb-true (line_at R o.place).top g b.0;
        tier = eqb-true (line_at R o.place).tier t b.1;
        alone = λ j l p q. o.alone j l (rw (eq-eqb (line_at R j).top g p, eq-eqb (line_at R j).tier t q));
      }

  -- whether the line is of a group and a tier of it
  abbrev good : Line → Bool
  good x = 1 ≤? x.top && x.top ≤? F.groups && x.tier <? F.tiers && 0 <? F.exposure x.top x.tier

  -- 1 for every other line
  abbrev other : Line → ℕ
  other x = if good x then 0 else 1

  no_other : sum (λ i. other (line_at R i)) (lines_in R) ≡ 0
  unfolding line_of
  no_other =
      read-sum F more other
      ∙ sum-none (λ k. sum (cell F other (k + 1)) F.tiers) F.groups (λ k l. sum-none (cell F other (k + 1)) F.tiers (λ t m. fine k t l m))
    where
      fine : (k t : ℕ) → k < F.groups → t < F.tiers → cell F other (k + 1) t ≡ 0
      fine k t l m =
          elim (dec_lt 0 (F.exposure (k + 1) t)) [
            | yes p ↦ rw (lt-ltb 0 (F.exposure (k + 1) t) p, le-leb 1 (k + 1) (omega arith), le-leb (k + 1) F.groups (omega arith), lt-ltb t F.tiers m)
            | no p ↦ rw (le-ltb 0 (F.exposure (k + 1) t) (omega arith))
          ]

  only-these : (i : ℕ) → i < lines_in R → TierOf F (line_at R i).top (line_at R i).tier
  only-these i l = of (line_at R i) (sum-zero-at (λ i. other (line_at R i)) (lines_in R) i l no_other)
    where
      true_of : (b : Bool) → ◌≡◌ {A = ℕ} (if b then 0 else 1) 0 → b ≡ true
      true_of true q = refl
      true_of false q = absurd (omega arith)

      of : (x : Line) → other x ≡ 0 → TierOf F x.top x.tier
      of x q =
          let d = both _ _ (true_of (good x) q) in
          let c = both _ _ d.0 in
          let b = both _ _ c.0 in
          record { first = leb-true _ _ b.0; last = leb-true _ _ b.1; tier = ltb-true _ _ c.1; above = ltb-true _ _ d.1 }

  total_of : group_excess_in R ≡ sum (λ i. (line_at R i).excess) (lines_in R)
  total_of = group-excess-in F more ∙ excess-cells F ∙ sym (read-sum F more (λ x. x.excess))

  charge-of : charge_in R ≡ group_excess_in R + (F.a3_sum - F.a3_limit)
  unfolding charge
  charge-of = charge-in F more ∙ rw (group-excess-in F more)

  module _ (o : Ordered F.order F.limit) where
    best_of : (g : ℕ) → Optimal F.tiers F.order F.limit (F.exposure g) (excess_of F g)
    best_of g = ranked-optimal F.tiers F.order F.limit (F.exposure g) o

    best-read : (g : ℕ) → 1 ≤ g → g ≤ F.groups → Optimal F.tiers F.order F.limit (F.exposure g) (read_excess R g)
    best-read g h k =
        optimal-same F.tiers F.order F.limit (F.exposure g) (excess_of F g) (read_excess R g)
        (λ t l p. excess-read g t (record { first = h; last = k; tier = l; above = p })) (best_of g)

    least-of : (cut : ℕ → ℕ → ℕ) → ((g : ℕ) → 1 ≤ g → g ≤ F.groups → FeasibleAt F g (cut g)) → group_excess_in R ≤ taken_of F cut
    unfolding group_excess
    least-of cut h =
        rw (group-excess-in F more)
        (sum-le (λ k. excess_sum_of F (k + 1)) (λ k. taken F.tiers (F.exposure (k + 1)) (cut (k + 1))) F.groups
        (λ k l. rw (group-taken F (k + 1)) ((best_of (k + 1)).least (cut (k + 1)) (h (k + 1) (omega arith) (omega arith)))))

    pub least-cuts : LeastCuts F (report F ++ more)
    least-cuts =
        record {
          whole = whole_of;
          lines = one_line;
          only = only-these;
          feasible = λ g h k. (best-read g h k).feasible;
          most = λ g t h cut c. (best-read g h.first h.last).most cut c t h.tier h.above;
          least = least-of;
          total = total_of;
          charge = charge-of;
        }
