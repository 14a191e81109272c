-- The cells hold what stands in the fund: what the pass over the groups starts from (standable), and what it leaves for a line of the book (stands_at).
use mathlib.Core.Bool.{Bool, true, false}
use mathlib.Core.List.{List}
use mathlib.Core.Path.{◌≡◌, refl, sym, ◌∙◌}
use Prim.Native.Nat.{ℕ, ◌+◌, ◌*◌, ◌-◌, ◌≤◌, ◌<◌}
use native.Mathlib.Omega.{arith}
use lib.Dec.{ltb}
use lib.ListN.{get_or}
use borrow.Author.Tests.{lt-ltb, ltb-true, ltb-false}
use Rattle.words.specs.Words.{sum}
use Rattle.words.specs.Sums.{sum_same, sum-each-same}
use Rattle.words.specs.Ranges.{sum-within}
use Rattle.wire.specs.Bytes.{M}
use Rattle.cascade.specs.Cascade.{tiers, by_tier, ranked, excess}
use Rattle.cascade.proofs.Ranking.{ranked-only, ranked-once}
use Rattle.rows.specs.Rows.{columns, row, row_at}
use Rattle.figures.specs.Fund.{Fund}
use Rattle.figures.proofs.AgreeLaws.{excess-same}
use Rattle.bills.specs.Lines.{ExposureLine, tier_excess, stands_in}
use Rattle.standing.specs.Standing.{Groups, Stood}
use Rattle.schedule.specs.Schedule.{schedule_of}
use Rattle.book.specs.Records.{C, counterparty_at}
use Rattle.book.specs.Book.{book_of, parent_of}
use Rattle.book.specs.Accepted.{Accepted}
use Rattle.exposure.specs.declared.Exposure.{Exposure}
use Rattle.exposure.specs.Parts.{exposures}
use Rattle.exposure.specs.Tier.{tier_of}
use Rattle.exposure.specs.Sums.{amount_of, exposure_of}
use Rattle.columns.proofs.ColumnLaws.{free-column}
use Rattle.parties.specs.Rows.{tops_to, row_of}
use Rattle.parties.specs.RowLaws.{tops-le, lower}
use Rattle.cells.specs.Cells.{cells_from}
use Rattle.cells.specs.GroupSums.{rows-le}
use Rattle.fund.specs.declared.Fund as made
use Rattle.fund.specs.Figures.{limits_of, order, fund_of}
use Rattle.fund.specs.Fund.{Exposed, RatedAs}
use Rattle.report.specs.Answer.{fund_in}
use Rattle.desks.specs.Pass.{line_cell}
use Rattle.desks.proofs.LineLaws.{InBook, row_number}

module _ {schedule b : List ℕ} {groups : ℕ} {f : made.Fund} {cells : List ℕ} (acc : Accepted b) (eg : groups ≡ tops_to b (C b)) (r : RatedAs schedule b f) (x : Exposed b groups cells) where
  -- a row is at most all of them
  row-few : (k : ℕ) → k < groups → sum (by_tier (row cells k)) tiers ≤ 900 * M
  row-few k l =
      let own = sum_same (by_tier (row cells k)) (cells_from cells (columns * k)) tiers (row_at cells k) in
      omega (arith, own, sum-within (λ k. sum (cells_from cells (columns * k)) tiers) k groups l, rows-le acc x.posted eg)

  pub standable : Groups cells groups f.ranking
  standable = record {
    few = omega (arith, eg, tops-le b (C b), acc.counterparties);
    rows = x.size;
    amounts = row-few;
    ranks = rw r.ranking (ranked-once (order (schedule_of schedule) (book_of b)) tiers);
  }

  module _ {stood : List ℕ} (s : Stood groups f.limits f.ranking cells stood) where
    abbrev F : Fund
    F = fund_in schedule b

    module _ (g : ℕ) (l : 0 < g) (h : g ≤ C b) (alone : parent_of (counterparty_at b) g ≡ 0) where
      -- its number
      abbrev k : ℕ
      k = tops_to b (g - 1)

      number : row_of b g ≡ columns * k
      number = row_number b g alone

      inside : k < groups
      inside = omega (arith, eg, lower b g (C b) l h alone)

      -- a tier's entry is the group's exposure
      tier-is : (t : ℕ) → t < tiers → by_tier (row cells k) t ≡ exposure_of (book_of b) g t
      tier-is t u = row_at cells k t u ∙ rw number at (x.posted.tier g t l h alone u)

      stands-tier : (t : ℕ) → t < tiers → stands_in F g t ≡ get_or stood (row_of b g + t) 0
      unfolding stands_in tier_excess fund_in fund_of
      stands-tier t u =
          let L = by_tier (limits_of (schedule_of schedule) (book_of b)) in
          let ranks = order (schedule_of schedule) (book_of b) in
          let same : excess (by_tier f.limits) (by_tier (row cells k)) f.ranking t ≡ excess L (exposure_of (book_of b) g) (ranked ranks tiers) t =
          rw (r.ranking, r.limits) (excess-same tiers L L (by_tier (row cells k)) (exposure_of (book_of b) g) (λ _ _. refl) tier-is (ranked ranks tiers) t u (ranked-only ranks tiers)) in
          rw (lt-ltb t tiers u, number) (sym (s.tier k t inside u ∙ rw (tier-is t u, same)))

      -- what has no limit stands whole
      free-is : get_or cells (columns * k + tiers) 0 ≡ exposure_of (book_of b) g tiers
      unfolding exposure_of amount_of tier_of book_of
      free-is =
          rw number at (x.posted.other g tiers l h alone (omega arith) (omega arith))
          ∙ sum-each-same _ _ (exposures (book_of b)) (λ (y : Exposure). rw (free-column y (counterparty_at b y.counterparty)))

      stands-free : stands_in F g tiers ≡ get_or stood (row_of b g + tiers) 0
      unfolding stands_in tier_excess fund_in fund_of
      stands-free = rw number (omega (arith, s.other k tiers inside (omega arith) (omega arith), free-is))

      stands : (t : ℕ) → t ≤ tiers → stands_in F g t ≡ get_or stood (row_of b g + t) 0
      stands t u = by (ltb t tiers) refl
        where
          by : (p : Bool) → ltb t tiers ≡ p → stands_in F g t ≡ get_or stood (row_of b g + t) 0
          by true e = stands-tier t (ltb-true t tiers e)
          by false e = let d : t ≡ tiers = omega (arith, ltb-false t tiers e) in rw d stands-free

    pub stands_at : (y : ExposureLine) → InBook b y → stands_in (fund_in schedule b) y.group y.tier ≡ get_or stood (line_cell b y) 0
    unfolding line_cell
    stands_at y i = stands y.group i.low i.high i.alone y.tier i.tier
