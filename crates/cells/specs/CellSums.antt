-- Sums of a book's exposures by cell, by column and by tier.
--   AllPosted entered             cells with every exposure added, and that the two passes leave such
--   sum_inside amount-inside    sums that agree on the exposures to counterparties of the book
--   apart-le                    a column apart is one of the row's
--   entry-le                    no cell passes 900 × M
--   column-sum                  the sum over the rows of a column
--   bills-sum free-sum          W, and what has no limit
--   group-column                a group's cell of a column
--   tier-sum a3-sum             folded onto the tier: the group's exposure there; what counts for A3
use Rattle.std.specs.Prelude.{Bool, true, false, not, ◌&&◌, List, [], ◌≡◌, refl, ℕ, ◌+◌, ◌*◌, ◌-◌, ◌≤◌, ◌<◌, get_or, if◌then◌else◌}
use Rattle.std.proofs.Common.{sym, ap₂, ◌∙◌, arith}
use borrow.Author.Tests.{eqb-true, ltb-true}
use Rattle.words.specs.Words.{◌=?◌, ◌<?◌, sum_of, sum, All}
use Rattle.words.specs.Choice.{both, by-test}
use Rattle.words.specs.Below.{all_below, below}
use Rattle.words.specs.Sums.{sum_same, sum-swap, sum-once, sum-agree, sum-each-same, all_map}
use Rattle.wire.specs.Bytes.{M}
use Rattle.cascade.specs.Cascade.{tiers}
use Rattle.book.specs.Records.{C, N, K, counterparty_at}
use Rattle.book.specs.Book.{book_of, parent_of, top_of}
use Rattle.book.specs.Accepted.{Accepted}
use Rattle.exposure.specs.declared.Exposure.{Exposure}
use Rattle.exposure.specs.Parts.{exposures}
use Rattle.exposure.specs.Tier.{tier_of, no_limit}
use Rattle.exposure.specs.Sums.{amount_of, exposure_of, a3_exposure_of, W}
use Rattle.rows.specs.Rows.{columns, no_limit_column, bill_column, a3_columns}
use Rattle.columns.specs.Column.{a3_tiers, a3_column, column_by, tier_in}
use Rattle.columns.proofs.ColumnLaws.{column-le, tier-in, bill-column, free-column, a3-column}
use Rattle.parties.specs.Rows.{tops_to, row_of}
use Rattle.parties.specs.RowLaws.{row_small}
use Rattle.covering.specs.ByPlace.{parts_at, rests_at}
use Rattle.covering.specs.Bounds.{all-le}
use Rattle.cells.specs.Cells.{column_at, cell_of, apart, folded, cells_from, column_sum, Tabled, Zeros}
use Rattle.words.specs.Ranges.{sum-here}
use Rattle.cells.specs.Adding.{in_cell, Adding, adding-end, gate-le, amount-le, sum-join}
use Rattle.cells.specs.CellLaws.{ExposureInside, part-inside, rest-inside, cell_parts, cell-group}

-- every exposure of the book has been added to its cell
pub record AllPosted (b cells : List ℕ) : Type 0 where
  pub each : (q : ℕ) → get_or cells q 0 ≡ amount_of (in_cell (cell_of b) q) (exposures (book_of b))

-- ---- tests

gate : (s t : Bool) (a : ℕ) → (if s && t then a else 0) ≡ (if s then (if t then a else 0) else 0)
gate true t a = refl
gate false t a = refl

and_assoc : (s t u : Bool) → (s && (t && u)) ≡ (s && t && u)
and_assoc true t u = refl
and_assoc false t u = refl

-- ---- sums over the exposures of a book

module _ {b covered rests : List ℕ} (acc : Accepted b) (t : Tabled b covered rests) where
  pub sum_inside : (f g : Exposure → ℕ) → ((x : Exposure) → f x ≤ x.amount) → ((x : Exposure) → g x ≤ x.amount) → ((x : Exposure) → ExposureInside b x → f x ≡ g x) → sum_of f (exposures (book_of b)) ≡ sum_of g (exposures (book_of b))
  sum_inside f g lf lg h =
      let parts = parts_at b covered 1 (K b) in
      let rests' = rests_at b rests 1 (N b) in
      let agree : (xs : List Exposure) → All (ExposureInside b) xs → sum_of f xs ≡ sum_of g xs = λ xs i. sum-agree f g xs (all_map h xs i) in
      t.sums f (λ x z. omega (arith, lf x))
      ∙ ap₂ ◌+◌ (agree parts (part-inside b acc covered (K b) 1 (omega arith) (omega arith))) (agree rests' (rest-inside b acc rests (N b) 1 (omega arith) (omega arith)))
      ∙ sym (t.sums g (λ x z. omega (arith, lg x)))

  pub amount-inside : (p q : Exposure → Bool) → ((x : Exposure) → ExposureInside b x → p x ≡ q x) → amount_of p (exposures (book_of b)) ≡ amount_of q (exposures (book_of b))
  unfolding amount_of
  amount-inside p q h = sum_inside _ _ (gate-le p) (gate-le q) (λ x i. rw (h x i))

  -- the two passes
  pub entered : {cells₀ cells₁ cells₂ : List ℕ} {groups : ℕ} → Zeros groups cells₀ → Adding (cell_of b) cells₀ (parts_at b covered 1 (K b)) cells₁ [] → Adding (cell_of b) cells₁ (rests_at b rests 1 (N b)) cells₂ [] → AllPosted b cells₂
  unfolding amount_of
  entered z p r = record {
    each = λ q. omega (arith, z.each q, adding-end p q, adding-end r q, t.sums (λ x. if in_cell (cell_of b) q x then x.amount else 0) (λ x e. omega (arith, gate-le (in_cell (cell_of b) q) x)));
  }

-- ---- columns and tiers

beside-right : ℕ → ℕ → Bool
beside-right t c = (if c =? t then 1 else 0) + (if not (apart t =? t) && c =? apart t then 1 else 0) =? (if tier_in c =? t then 1 else 0)

beside-computed : all_below tiers (λ t. apart t <? columns && all_below columns (beside-right t)) ≡ true
unfolding all_below beside-right apart column_by a3_column tier_in
beside-computed = refl

tests : (t : ℕ) → t < tiers → ((apart t <? columns) ≡ true) × (all_below columns (beside-right t) ≡ true)
tests t h = both (apart t <? columns) (all_below columns (beside-right t)) (below tiers (λ t. apart t <? columns && all_below columns (beside-right t)) beside-computed t h)

pub apart-le : (t : ℕ) → t < tiers → apart t < columns
apart-le t h = ltb-true (apart t) columns (tests t h).0

beside : (t c : ℕ) → t < tiers → c < columns
    → (if c =? t then 1 else 0) + (if not (apart t =? t) && c =? apart t then 1 else 0) ≡ (if tier_in c =? t then 1 else 0)
unfolding beside-right
beside t c h i =
    eqb-true ((if c =? t then 1 else 0) + (if not (apart t =? t) && c =? apart t then 1 else 0)) (if tier_in c =? t then 1 else 0) (below columns (beside-right t) (tests t h).1 c i)

one_of : (x y z : Bool) (a : ℕ) → (if x then 1 else 0) + (if y then 1 else 0) ≡ (if z then 1 else 0) → (if x then a else 0) + (if y then a else 0) ≡ (if z then a else 0)
one_of true true true a e = absurd (omega arith)
one_of true true false a e = absurd (omega arith)
one_of true false true a e = omega arith
one_of true false false a e = absurd (omega arith)
one_of false true true a e = omega arith
one_of false true false a e = absurd (omega arith)
one_of false false true a e = absurd (omega arith)
one_of false false false a e = omega arith

-- a group's exposure of a column counts in the column's tier, whether the column is the tier's own or apart
in-tier : (group : Bool) (a t c : ℕ) → t < tiers → c < columns
    → (if group && c =? t then a else 0) + (if apart t =? t then 0 else if group && c =? apart t then a else 0) ≡ (if group && tier_in c =? t then a else 0)
in-tier false a t c h i = by-test (λ (n : ℕ). 0 + n ≡ 0) (apart t =? t) 0 0 (λ _. refl) (λ _. refl)
in-tier true a t c h i = by (apart t =? t) (beside t c h i)
  where
    by : (s : Bool) → (if c =? t then 1 else 0) + (if not s && c =? apart t then 1 else 0) ≡ (if tier_in c =? t then 1 else 0)
        → (if c =? t then a else 0) + (if s then 0 else if c =? apart t then a else 0) ≡ (if tier_in c =? t then a else 0)
    by true e = one_of (c =? t) false (tier_in c =? t) a e
    by false e = one_of (c =? t) (c =? apart t) (tier_in c =? t) a e

-- ---- cells with every exposure

module _ {b cells : List ℕ} (acc : Accepted b) (e : AllPosted b cells) where
  pub entry-le : (q : ℕ) → get_or cells q 0 ≤ 900 * M
  entry-le q = omega (arith, e.each q, amount-le (in_cell (cell_of b) q) (exposures (book_of b)), all-le b acc)

  module _ {covered rests : List ℕ} (t : Tabled b covered rests) where
    -- the cell of an exposure is in one row
    one-row : (c : ℕ) → c < columns → (x : Exposure) → ExposureInside b x
        → sum (λ k. if cell_of b x =? columns * k + c then x.amount else 0) (tops_to b (C b)) ≡ (if column_at b x =? c then x.amount else 0)
    unfolding cell_of row_of
    one-row c h x i =
        let j = tops_to b (top_of (counterparty_at b) x.counterparty - 1) in
        let col = column-le x (counterparty_at b x.counterparty) in
        let lt : j < tops_to b (C b) = omega (arith, row_small b (C b) x.counterparty i.low i.high) in
        let v = if column_at b x =? c then x.amount else 0 in
        sum_same _ (λ k. if j =? k then v else 0) (tops_to b (C b)) (λ k _. rw (cell_parts j (column_at b x) k c col h) (gate (j =? k) (column_at b x =? c) x.amount))
        ∙ sum-here v j (tops_to b (C b)) lt

    pub column-sum : (c : ℕ) → c < columns → column_sum cells c (tops_to b (C b)) ≡ amount_of (λ x. column_at b x =? c) (exposures (book_of b))
    unfolding amount_of
    column-sum c h =
        sum_same _ _ (tops_to b (C b)) (λ k _. e.each (columns * k + c))
        ∙ sum-swap (λ k x. if cell_of b x =? columns * k + c then x.amount else 0) (tops_to b (C b)) (exposures (book_of b))
        ∙ sum_inside acc t _ _ (λ x. sum-once (λ k. cell_of b x =? columns * k + c) x.amount (tops_to b (C b)) (λ j k p q. omega (arith, eqb-true (cell_of b x) (columns * j + c) p, eqb-true (cell_of b x) (columns * k + c) q))) (gate-le (λ x. column_at b x =? c)) (one-row c h)

    pub bills-sum : column_sum cells bill_column (tops_to b (C b)) ≡ W (book_of b)
    unfolding W book_of tier_of amount_of
    bills-sum = column-sum bill_column (omega arith) ∙ sum-each-same _ _ (exposures (book_of b)) (λ x. rw (bill-column x (counterparty_at b x.counterparty)))

    pub free-sum : column_sum cells no_limit_column (tops_to b (C b)) ≡ amount_of (λ x. tier_of (counterparty_at b) x =? no_limit) (exposures (book_of b))
    unfolding tier_of amount_of
    free-sum = column-sum no_limit_column (omega arith) ∙ sum-each-same _ _ (exposures (book_of b)) (λ x. rw (free-column x (counterparty_at b x.counterparty)))

    module _ (g : ℕ) (l : 0 < g) (alone : parent_of (counterparty_at b) g ≡ 0) where
      pub group-column : (c : ℕ) → c < columns → get_or cells (row_of b g + c) 0 ≡ amount_of (λ x. top_of (counterparty_at b) x.counterparty =? g && column_at b x =? c) (exposures (book_of b))
      group-column c h = e.each (row_of b g + c) ∙ amount-inside acc t _ _ (λ x i. cell-group b x i g l alone c h)

      pub tier-sum : (s : ℕ) → s < tiers → folded (cells_from cells (row_of b g)) s ≡ exposure_of (book_of b) g s
      unfolding folded exposure_of amount_of book_of tier_of
      tier-sum s h =
          rw (group-column s (omega arith), group-column (apart s) (apart-le s h))
          (sum-join (apart s =? s) _ _ (exposures (book_of b))
          ∙ sum-each-same _ _ (exposures (book_of b)) (λ x. let who = counterparty_at b x.counterparty in in-tier (top_of (counterparty_at b) x.counterparty =? g) x.amount s (column_at b x) h (column-le x who) ∙ rw (tier-in x who)))

      pub a3-sum : (i : ℕ) → i < 5 → get_or cells (row_of b g + (a3_columns + i)) 0 ≡ a3_exposure_of (book_of b) g (get_or a3_tiers i 0)
      unfolding a3_exposure_of amount_of book_of tier_of
      a3-sum i h =
          group-column (a3_columns + i) (omega arith)
          ∙ sum-each-same _ _ (exposures (book_of b)) (λ x. let who = counterparty_at b x.counterparty in rw (a3-column x who i h, and_assoc))
