-- Laws of cells.
--   ExposureInside                        an exposure to a counterparty of the book
--   part-inside rest-inside       the exposures that the tables give are such
--   rowed placed tabled           the tables that the passes before leave
--   rest-cell                     what is left of an asset, whatever the amount, has the asset's cell
--   cell-small                    a cell is in a row of one of the groups
--   cell_parts cell-group         a cell tells row and column, and so group and column
use Rattle.std.specs.Prelude.{Bool, true, false, ◌&&◌, List, ◌≡◌, refl, eqb, length, get_or}
use Rattle.std.proofs.Math.Path.{ap}
use Rattle.std.proofs.Common.{◌∙◌, arith, eq-eqb, ne_eqb, eqb-true}
use Prim.Native.Nat.{ℕ, zero, suc, ◌+◌, ◌*◌, ◌-◌, ◌≤◌, ◌<◌}
use Rattle.std.proofs.Math.Seq.{length-sets}
use Rattle.std.proofs.lemmas.Bool.{eqb-false}
use Rattle.words.specs.Words.{◌=?◌, All}
use Rattle.words.specs.Tables.{filled, filled-length, filled_at}
use Rattle.book.specs.Records.{C, N, K, counterparty_at, asset_at}
use Rattle.book.specs.Book.{parent_of, top_of}
use Rattle.book.specs.Accepted.{Accepted}
use Rattle.exposure.specs.declared.Exposure.{Exposure}
use Rattle.exposure.specs.Parts.{covered_part, remainder}
use Rattle.exposure.specs.Tier.{tier_by, lower_tier, reinsurance_tier, ungraded_tier}
use Rattle.rows.specs.Rows.{columns}
use Rattle.columns.specs.Column.{column_of}
use Rattle.columns.proofs.ColumnLaws.{column-le}
use Rattle.parties.specs.Rows.{tops_to, row_of, Parties}
use Rattle.parties.specs.RowLaws.{top-self, same_row, row_small}
use Rattle.assets.specs.Shares.{rest_of}
use Rattle.covering.specs.Pass.{Covers}
use Rattle.covering.specs.ByPlace.{parts_at, rests_at, parted, by_place}
use Rattle.cells.specs.Cells.{column_at, cell_of, Rowed, Placed, Tabled}
use Rattle.assets.specs.Assets.{rest_cell}

pub record ExposureInside (b : List ℕ) (x : Exposure) : Type 0 where
  pub low : 0 < x.counterparty
  pub high : x.counterparty ≤ C b

module _ (b : List ℕ) (acc : Accepted b) where
  pub part-inside : (t : List ℕ) (more place : ℕ) → 0 < place → place + more ≤ K b + 1 → All (ExposureInside b) (parts_at b t place more)
  unfolding parts_at covered_part
  part-inside t zero place l h = tt
  part-inside t (suc more) place l h =
      let m = acc.mitigant place l (omega arith) in
      (record { low = m.low; high = m.high }, part-inside t more (place + 1) (omega arith) (omega arith))

  pub rest-inside : (t : List ℕ) (more place : ℕ) → 0 < place → place + more ≤ N b + 1 → All (ExposureInside b) (rests_at b t place more)
  unfolding rests_at remainder
  rest-inside t zero place l h = tt
  rest-inside t (suc more) place l h =
      let a = acc.asset place l (omega arith) in
      (record { low = a.low; high = a.high }, rest-inside t more (place + 1) (omega arith) (omega arith))

-- ---- tables

pub rowed : {b words terms rows : List ℕ} → Parties b words terms rows → Rowed b words rows
rowed p = record { words_size = p.words_size; rows-size = p.rows-size; word = p.word; row = p.row }

pub placed : (b places₀ : List ℕ) {places : List ℕ} → N b < length places₀ → places ≡ filled (rest_cell b) (N b) places₀ → Placed b places
placed b places₀ h e = record {
  size = rw (e, filled-length (rest_cell b) (N b) places₀) h;
  each = λ p l g. rw e (filled_at (rest_cell b) (N b) places₀ h p l g);
}

pub tabled : {b covered₀ halves₀ rests₀ covered halves rests : List ℕ} → Accepted b → K b < length covered₀ → N b < length rests₀
    → ((p : ℕ) → 0 < p → p ≤ N b → get_or rests₀ p 0 ≡ rest_of (asset_at b p)) → Covers b covered₀ halves₀ rests₀ covered halves rests → Tabled b covered rests
tabled acc lc lr nets c = record {
  covered-size = rw (c.parts, length-sets) lc;
  rests-size = rw (c.remainders, length-sets) lr;
  sums = by_place _ _ _ acc (parted acc lc lr nets c);
}

-- ---- a cell

pub rest-cell : (b : List ℕ) (place amount : ℕ) → rest_cell b place ≡ cell_of b (remainder (asset_at b place) amount)
unfolding rest_cell cell_of remainder column_of tier_by lower_tier reinsurance_tier ungraded_tier
rest-cell b place amount = refl

pub cell-small : (b : List ℕ) (x : Exposure) → ExposureInside b x → cell_of b x < columns * tops_to b (C b)
unfolding cell_of
cell-small b x i =
    omega (arith, row_small b (C b) x.counterparty i.low i.high, column-le x (counterparty_at b x.counterparty))

pub cell_parts : (j c k d : ℕ) → c < columns → d < columns → (columns * j + c =? columns * k + d) ≡ (j =? k && c =? d)
cell_parts j c k d h i = by (eqb j k) (eqb c d) refl refl
  where
    by : (p q : Bool) → eqb j k ≡ p → eqb c d ≡ q → (columns * j + c =? columns * k + d) ≡ (p && q)
    by true true e f = eq-eqb (columns * j + c) (columns * k + d) (omega (arith, eqb-true j k e, eqb-true c d f))
    by true false e f = ne_eqb (columns * j + c) (columns * k + d) (λ z. eqb-false c d f (omega (arith, eqb-true j k e)))
    by false q e f = ne_eqb (columns * j + c) (columns * k + d) (λ z. eqb-false j k e (omega arith))

module _ (b : List ℕ) (x : Exposure) (i : ExposureInside b x) (g : ℕ) (l : 0 < g) (alone : parent_of (counterparty_at b) g ≡ 0) where
  abbrev top : ℕ
  top = top_of (counterparty_at b) x.counterparty

  same_number : tops_to b (top - 1) ≡ tops_to b (g - 1) → top ≡ g
  unfolding row_of
  same_number e =
      let own = top-self (counterparty_at b) g alone in
      same_row b x.counterparty g i.low l (rw own (ap (λ (k : ℕ). columns * k) e)) ∙ own

  number-group : (tops_to b (top - 1) =? tops_to b (g - 1)) ≡ (top =? g)
  number-group = by (eqb top g) refl
    where
      by : (t : Bool) → eqb top g ≡ t → (tops_to b (top - 1) =? tops_to b (g - 1)) ≡ t
      by true e = eq-eqb _ _ (ap (λ (p : ℕ). tops_to b (p - 1)) (eqb-true top g e))
      by false e = ne_eqb _ _ (λ z. eqb-false top g e (same_number z))

  pub cell-group : (c : ℕ) → c < columns → (cell_of b x =? row_of b g + c) ≡ (top_of (counterparty_at b) x.counterparty =? g && column_at b x =? c)
  unfolding cell_of row_of
  cell-group c h =
      rw (top-self (counterparty_at b) g alone)
      (cell_parts (tops_to b (top - 1)) (column_at b x) (tops_to b (g - 1)) c (column-le x (counterparty_at b x.counterparty)) h
      ∙ ap (λ (t : Bool). t && column_at b x =? c) number-group)
