-- What the fold holds: of a row, what has been added onto what; of the table, the rows that are folded.
use mathlib.Core.Bool.{Bool, true, false}
use mathlib.Core.List.{List}
use mathlib.Core.Path.{◌≡◌, refl, ap₂, ◌∙◌}
use Prim.Native.Nat.{ℕ, zero, suc, ◌+◌, ◌*◌, ◌≤◌, ◌<◌, ◌^◌}
use native.Mathlib.Omega.{arith}
use lib.Dec.{eqb}
use lib.ListN.{length, get_or, set, length-set}
use lib.Seq.{get_or-set_same, get_or-set_other}
use borrow.Author.Tests.{eqb-true, eqb-false}
use Rattle.std.specs.Prelude.{if◌then◌else◌}
use Rattle.words.specs.Words.{◌=?◌, sum}
use Rattle.cascade.specs.Cascade.{tiers}
use Rattle.rows.specs.Rows.{columns, no_limit_column, bill_column, a3_columns}
use Rattle.columns.specs.Column.{a3_column, column_by}
use Rattle.words.specs.Ranges.{sum-next, sum-within}
use Rattle.cells.specs.Cells.{apart, folded, cells_from, column_sum, FoldedRow, FoldFits, FoldedRows, Folded}

-- ---- one row

-- a row with one column added onto another
abbrev pub onto : ℕ → ℕ → (ℕ → ℕ) → ℕ → ℕ
onto to from row c = if c =? to then row to + row from else row c

-- the row at `at` of a table that was t₀ is `row`, and nothing else has changed
pub record Row (at : ℕ) (t₀ t : List ℕ) (row : ℕ → ℕ) : Type 0 where
  pub size : length t ≡ length t₀
  pub each : (c : ℕ) → cells_from t at c ≡ row c
  pub before : (q : ℕ) → q < at → get_or t q 0 ≡ get_or t₀ q 0
  pub behind : (q : ℕ) → at + tiers ≤ q → get_or t q 0 ≡ get_or t₀ q 0

pub row-start : (at : ℕ) (t : List ℕ) → Row at t t (cells_from t at)
row-start at t = record { size = refl; each = λ c. refl; before = λ q _. refl; behind = λ q _. refl }

module _ {at : ℕ} {t₀ t : List ℕ} {row : ℕ → ℕ} (w : Row at t₀ t row) (room : at + columns ≤ length t₀) (to from : ℕ) {i j : ℕ} (h : to < tiers) (g : from < columns) (ei : i ≡ at + to) (ej : j ≡ at + from) where
  pub row_fits : row to + row from < 2 ^ 64 → (i < length t) × (j < length t) × (get_or t i 0 + get_or t j 0 < 2 ^ 64)
  row_fits fit = (omega (arith, w.size), omega (arith, w.size), rw (ei, ej) (omega (arith, w.each to, w.each from)))

  stored : (c : ℕ) → cells_from (set t (at + to) (cells_from t at to + cells_from t at from)) at c ≡ onto to from row c
  stored c = by (eqb c to) refl
    where
      v : ℕ
      v = cells_from t at to + cells_from t at from

      by : (s : Bool) → eqb c to ≡ s → cells_from (set t (at + to) v) at c ≡ (if s then row to + row from else row c)
      by true e = rw (eqb-true c to e) (get_or-set_same t (at + to) v 0 (omega (arith, w.size)) ∙ ap₂ ◌+◌ (w.each to) (w.each from))
      by false e = get_or-set_other t (at + to) (at + c) v 0 (λ z. eqb-false c to e (omega arith)) ∙ w.each c

  pub row_step : {u : List ℕ} → u ≡ set t i (get_or t i 0 + get_or t j 0) → Row at t₀ u (onto to from row)
  row_step e = rw (e, ei, ej) (record {
    size = rw length-set w.size;
    each = stored;
    before = λ q l. get_or-set_other t (at + to) q _ 0 (λ z. omega arith) ∙ w.before q l;
    behind = λ q l. get_or-set_other t (at + to) q _ 0 (λ z. omega arith) ∙ w.behind q l;
  })

-- what holds at each number below n
abbrev Each : ℕ → (ℕ → Type 0) → Type 0
Each zero P = Unit {0}
Each (suc n) P = Each n P × P n

each_below : (n : ℕ) (P : ℕ → Type 0) → Each n P → (k : ℕ) → k < n → P k
each_below zero P e k h = absurd (omega arith)
each_below (suc n) P e k h = by (eqb k n) refl (λ l. each_below n P e.0 k l)
  where
    by : (s : Bool) → eqb k n ≡ s → (k < n → P k) → P k
    by true z ih = rw (eqb-true k n z) e.1
    by false z ih = ih (omega (arith, eqb-false k n z))

-- the six columns apart, one after the other
abbrev pub all-onto : (ℕ → ℕ) → ℕ → ℕ
all-onto row = onto 6 (a3_columns + 4) (onto 5 (a3_columns + 3) (onto 4 (a3_columns + 2) (onto 3 (a3_columns + 1) (onto 1 a3_columns (onto 11 bill_column row)))))

all-folded : (row : ℕ → ℕ) (t : ℕ) → t < tiers → all-onto row t ≡ folded row t
unfolding folded apart column_by a3_column
all-folded row = each_below tiers (λ t. all-onto row t ≡ folded row t) ((((((((((((((((tt, omega arith), omega arith), omega arith), omega arith), omega arith), omega arith), omega arith), omega arith), omega arith), omega arith), omega arith), omega arith), omega arith), omega arith), omega arith), omega arith)

pub folded-row : {at : ℕ} {t₀ t : List ℕ} → Row at t₀ t (all-onto (cells_from t₀ at)) → FoldedRow at t₀ t
folded-row {at} {t₀} w = record {
  size = w.size;
  tier = λ t h. w.each t ∙ all-folded (cells_from t₀ at) t h;
  before = w.before;
  behind = w.behind;
}

-- ---- all rows

-- before row k: the rows before it are folded
pub record Folding (groups : ℕ) (cells₀ cells : List ℕ) (w free k : ℕ) : Type 0 where
  pub within : k ≤ groups
  pub rows : FoldedRows k cells₀ cells
  pub bills : w ≡ column_sum cells₀ bill_column k
  pub frees : free ≡ column_sum cells₀ no_limit_column k

pub folding-start : (groups : ℕ) (cells : List ℕ) → Folding groups cells cells 0 0 0
unfolding sum
folding-start groups cells = record {
  within = omega arith;
  rows = record {
    size = refl;
    tier = λ k t l h. absurd (omega arith);
    other = λ k c l h g. absurd (omega arith);
    behind = λ q l. refl;
  };
  bills = refl;
  frees = refl;
}

module _ {groups : ℕ} {cells₀ cells : List ℕ} {w free k : ℕ} (f : Folding groups cells₀ cells w free k) where
  pub folding-end : groups ≤ k → Folded groups cells₀ cells (record { w = w; free = free })
  folding-end h =
      let d : k ≡ groups = omega (arith, f.within) in
      rw (← d) (record { rows = f.rows; w = f.bills; free = f.frees })

  module _ (fits : FoldFits groups cells₀) (h : k < groups) where
    -- the row is still as it was
    same : (c : ℕ) → cells_from cells (columns * k) c ≡ cells_from cells₀ (columns * k) c
    same c = f.rows.behind (columns * k + c) (omega arith)

    pub fold-room : columns * k + columns ≤ length cells
    fold-room = omega (arith, fits.size, f.rows.size)

    pub fold-fits : (t : ℕ) → t < tiers → folded (cells_from cells (columns * k)) t < 2 ^ 64
    unfolding folded
    fold-fits t l = rw (same t, same (apart t)) (fits.tier k t h l)

    pub bills-fit : w + cells_from cells (columns * k) bill_column < 2 ^ 64
    bills-fit = omega (arith, f.bills, same bill_column, fits.bills, sum-within (λ k. cells_from cells₀ (columns * k) bill_column) k groups h)

    pub free-fits : free + cells_from cells (columns * k) no_limit_column < 2 ^ 64
    free-fits = omega (arith, f.frees, same no_limit_column, fits.free, sum-within (λ k. cells_from cells₀ (columns * k) no_limit_column) k groups h)

    module _ {cells₁ : List ℕ} (e : FoldedRow (columns * k) cells cells₁) where
      next-tier : (j t : ℕ) → j < k + 1 → t < tiers → cells_from cells₁ (columns * j) t ≡ folded (cells_from cells₀ (columns * j)) t
      unfolding folded
      next-tier j t l g = by (eqb j k) refl
        where
          by : (s : Bool) → eqb j k ≡ s → cells_from cells₁ (columns * j) t ≡ folded (cells_from cells₀ (columns * j)) t
          by true z = rw (eqb-true j k z) (e.tier t g ∙ rw (same t, same (apart t)))
          by false z = let n = eqb-false j k z in e.before (columns * j + t) (omega arith) ∙ f.rows.tier j t (omega arith) g

      next-other : (j c : ℕ) → j < k + 1 → tiers ≤ c → c < columns → cells_from cells₁ (columns * j) c ≡ cells_from cells₀ (columns * j) c
      next-other j c l g i = by (eqb j k) refl
        where
          by : (s : Bool) → eqb j k ≡ s → cells_from cells₁ (columns * j) c ≡ cells_from cells₀ (columns * j) c
          by true z = rw (eqb-true j k z) (e.behind (columns * k + c) (omega arith) ∙ same c)
          by false z = let n = eqb-false j k z in e.before (columns * j + c) (omega arith) ∙ f.rows.other j c (omega arith) g i

      pub folding-step : Folding groups cells₀ cells₁ (w + cells_from cells (columns * k) bill_column) (free + cells_from cells (columns * k) no_limit_column) (k + 1)
      folding-step = record {
        within = omega arith;
        rows = record {
          size = e.size ∙ f.rows.size;
          tier = next-tier;
          other = next-other;
          behind = λ q l. e.behind q (omega arith) ∙ f.rows.behind q (omega arith);
        };
        bills = ap₂ ◌+◌ f.bills (same bill_column) ∙ sum-next (λ k. cells_from cells₀ (columns * k) bill_column) k;
        frees = ap₂ ◌+◌ f.frees (same no_limit_column) ∙ sum-next (λ k. cells_from cells₀ (columns * k) no_limit_column) k;
      }
