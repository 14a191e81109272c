-- No sum of the posting passes 900 × M, and what the passes leave is what `Posted` says.
use mathlib.Core.Bool.{Bool, false}
use mathlib.Core.List.{List, []}
use mathlib.Core.Path.{◌≡◌, refl, ap, ◌∙◌}
use Prim.Native.Nat.{ℕ, ◌+◌, ◌*◌, ◌-◌, ◌≤◌, ◌<◌, ◌^◌}
use native.Mathlib.Omega.{arith}
use lib.ListN.{get_or}
use borrow.Author.Tests.{ne_eqb}
use Rattle.words.specs.Words.{◌=?◌}
use Rattle.words.specs.Choice.{if-le}
use Rattle.wire.specs.Bytes.{M}
use Rattle.cascade.specs.Cascade.{tiers}
use Rattle.book.specs.Records.{C, N, K, counterparty_at}
use Rattle.book.specs.Book.{book_of, parent_of}
use Rattle.book.specs.Accepted.{Accepted}
use Rattle.exposure.specs.declared.Exposure.{Exposure}
use Rattle.exposure.specs.Parts.{exposures}
use Rattle.exposure.specs.Sums.{amount_of}
use Rattle.rows.specs.Rows.{columns, no_limit_column, bill_column, a3_columns}
use Rattle.parties.specs.Rows.{tops_to, row_of}
use Rattle.parties.specs.RowLaws.{top-self, lower, tops-le}
use Rattle.covering.specs.ByPlace.{parts_at, rests_at}
use Rattle.covering.specs.Bounds.{all-le}
use Rattle.cells.specs.declared.Sums.{Sums}
use Rattle.cells.specs.Cells.{column_at, cell_of, apart, folded, cells_from, column_sum, Tabled, Zeros, FoldFits, Folded, Posted}
use Rattle.cells.specs.Adding.{in_cell, Adding, adding-end, amount-le, amount-none}
use Rattle.cells.specs.CellLaws.{cell-small}
use Rattle.cells.specs.CellSums.{AllPosted, entered, amount-inside, entry-le, column-sum, bills-sum, free-sum, group-column, tier-sum, a3-sum}
use Rattle.posting.proofs.Posting.{Room}

module _ {b covered rests : List ℕ} (acc : Accepted b) (t : Tabled b covered rests) where
  abbrev parts : List Exposure
  parts = parts_at b covered 1 (K b)

  abbrev left : List Exposure
  left = rests_at b rests 1 (N b)

  -- what mitigants cover and what is left together
  both-le : (test : Exposure → Bool) → amount_of test parts + amount_of test left ≤ 900 * M
  both-le test =
      omega (arith, amount-le test parts, amount-le test left, t.sums (λ (x : Exposure). x.amount) (λ x z. z), all-le b acc)

  pub parts-room : {groups : ℕ} {cells : List ℕ} → Zeros groups cells → Room (cell_of b) parts cells
  parts-room z q = omega (arith, z.each q, both-le (in_cell (cell_of b) q))

  module _ {cells₀ cells₁ : List ℕ} {groups : ℕ} (z : Zeros groups cells₀) (p : Adding (cell_of b) cells₀ parts cells₁ []) where
    pub rests-room : Room (cell_of b) left cells₁
    rests-room q = omega (arith, z.each q, adding-end p q, both-le (in_cell (cell_of b) q))

    module _ {cells₂ : List ℕ} (r : Adding (cell_of b) cells₁ left cells₂ []) (eg : groups ≡ tops_to b (C b)) where
      all : AllPosted b cells₂
      all = entered acc t z p r

      sum-le : (c : ℕ) → c < columns → column_sum cells₂ c groups < 2 ^ 64
      sum-le c h = rw eg (omega (arith, column-sum acc all t c h, amount-le (λ x. column_at b x =? c) (exposures (book_of b)), all-le b acc))

      fold-le : (at s : ℕ) → folded (cells_from cells₂ at) s < 2 ^ 64
      unfolding folded
      fold-le at s =
          let one = entry-le acc all (at + s) in
          let other = if-le (apart s =? s) {a = 0} (omega arith) (entry-le acc all (at + apart s)) in
          omega arith

      pub fold-fits : FoldFits groups cells₂
      fold-fits = record {
        few = omega (arith, eg, tops-le b (C b), acc.counterparties);
        size = omega (arith, z.size, p.size, r.size);
        tier = λ k s l h. fold-le (columns * k) s;
        bills = sum-le bill_column (omega arith);
        free = sum-le no_limit_column (omega arith);
      }

      behind : (q : ℕ) → columns * groups ≤ q → ◌≡◌ {A = ℕ} (get_or cells₂ q 0) 0
      behind q h =
          all.each q
          ∙ amount-inside acc t _ (λ x. false) (λ x i. ne_eqb (cell_of b x) q (λ e. omega (arith, cell-small b x i, eg)))
          ∙ amount-none _ (λ x. refl) (exposures (book_of b))

      module _ (g : ℕ) (l : 0 < g) (h : g ≤ C b) (alone : parent_of (counterparty_at b) g ≡ 0) where
        abbrev number : ℕ
        number = tops_to b (g - 1)

        row_is : row_of b g ≡ columns * number
        unfolding row_of
        row_is = rw (top-self (counterparty_at b) g alone)

        number_small : number < groups
        number_small = rw eg (lower b g (C b) l h alone)

      pub posted : {cells₃ : List ℕ} {s : Sums} → Folded groups cells₂ cells₃ s → Posted b groups cells₀ cells₃ s
      posted {cells₃} f = record {
        size = f.rows.size ∙ r.size ∙ p.size;
        tier = λ g s l h alone k. rw (row_is g l h alone) (f.rows.tier (number g l h alone) s (number_small g l h alone) k ∙ rw (row_is g l h alone) at (tier-sum acc all t g l alone s k));
        a3 = λ g i l h alone k. ap (λ (q : ℕ). get_or cells₃ q 0) (omega arith) ∙ other g (a3_columns + i) l h alone (omega arith) (omega arith) ∙ a3-sum acc all t g l alone i k;
        other = λ g c l h alone k m. other g c l h alone k m ∙ group-column acc all t g l alone c m;
        behind = λ q k. f.rows.behind q k ∙ behind q k;
        w = f.w ∙ rw eg (bills-sum acc all t);
        free = f.free ∙ rw eg (free-sum acc all t);
      }
        where
          other : (g c : ℕ) → 0 < g → g ≤ C b → parent_of (counterparty_at b) g ≡ 0 → tiers ≤ c → c < columns → get_or cells₃ (row_of b g + c) 0 ≡ get_or cells₂ (row_of b g + c) 0
          other g c l h alone k m = rw (row_is g l h alone) (f.rows.other (number g l h alone) c (number_small g l h alone) k m)
