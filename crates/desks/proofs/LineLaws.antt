-- Lines and their cells.
--   InBook                  a line of a group and a tier or no limit
--   line-in                 the line of an exposure to a counterparty of the book
--   line-cell line_small    its cell, out of the exposure's row and column; that is in a row of one of the groups
--   row_number cells-apart  the row of a top place; cells tell groups and tiers apart
--   rest_in                 what is left of an asset is an exposure to a counterparty of the book
--   all_from all_lines      what holds of every exposure's line holds of the lines at the places
use Rattle.std.specs.Prelude.{Bool, true, false, ◌&&◌, List, [], ◌∷◌, ◌++◌, ◌≡◌, refl, eqb, get_or}
use Rattle.std.proofs.Common.{sym, ap, ◌∙◌, arith, eq-eqb, ne_eqb, eqb-true}
use Prim.Native.Nat.{ℕ, zero, suc, ◌+◌, ◌*◌, ◌-◌, ◌≤◌, ◌<◌}
use Rattle.std.proofs.lemmas.Bool.{eqb-false}
use Rattle.words.specs.Words.{◌=?◌, sum_of, All}
use Rattle.words.specs.Sums.{all_append, all-mapped, all_map}
use Rattle.cascade.specs.Cascade.{tiers}
use Rattle.rows.specs.Rows.{columns}
use Rattle.bills.specs.Lines.{ExposureLine, is_in}
use Rattle.book.specs.Records.{C, N, K, counterparty_at, asset_at}
use Rattle.book.specs.Book.{parent_of, holdings_from}
use Rattle.book.proofs.TopLaws.{top-le, top_pos}
use Rattle.book.specs.Check.{counts_add}
use Rattle.book.specs.Accepted.{Accepted}
use Rattle.exposure.specs.declared.Exposure.{Exposure}
use Rattle.exposure.specs.Parts.{remainder}
use Rattle.exposure.specs.Tier.{tier_of}
use Rattle.columns.specs.Column.{tier_in}
use Rattle.columns.proofs.ColumnLaws.{tier-le, tier-in}
use Rattle.parties.specs.Rows.{tops_to, row_of}
use Rattle.parties.specs.RowLaws.{top-alone, top-self, top-top, same_row, row_small}
use Rattle.covering.specs.Covered.{held_by}
use Rattle.covering.specs.ByPlace.{parts_at}
use Rattle.cells.specs.Cells.{column_at}
use Rattle.cells.specs.CellLaws.{ExposureInside, part-inside, cell_parts}
use Rattle.desks.specs.BookLines.{exposure_line}
use Rattle.desks.specs.Pass.{line_cell, part_lines, rest_line, asset_lines, lines_at}

module _ (b : List ℕ) where
  pub record InBook (x : ExposureLine) : Type 0 where
    pub low : 0 < x.group
    pub high : x.group ≤ C b
    pub alone : parent_of (counterparty_at b) x.group ≡ 0
    pub tier : x.tier ≤ tiers

  pub line-in : (desk : ℕ) (x : Exposure) → ExposureInside b x → InBook (exposure_line (counterparty_at b) desk x)
  unfolding exposure_line tier_of
  line-in desk x i = record {
    low = top_pos (counterparty_at b) x.counterparty i.low;
    high = omega (arith, top-le (counterparty_at b) x.counterparty, i.high);
    alone = top-alone (counterparty_at b) x.counterparty;
    tier = tier-le x (counterparty_at b x.counterparty);
  }

  pub line-cell : (desk : ℕ) (x : Exposure) → row_of b x.counterparty + tier_in (column_at b x) ≡ line_cell b (exposure_line (counterparty_at b) desk x)
  unfolding line_cell exposure_line row_of tier_of
  line-cell desk x = let cs = counterparty_at b in rw (top-top cs x.counterparty, tier-in x (cs x.counterparty))

  pub line_small : (x : ExposureLine) → InBook x → line_cell b x < columns * tops_to b (C b)
  unfolding line_cell
  line_small x i = omega (arith, row_small b (C b) x.group i.low i.high, i.tier)

  pub row_number : (g : ℕ) → parent_of (counterparty_at b) g ≡ 0 → row_of b g ≡ columns * tops_to b (g - 1)
  unfolding row_of
  row_number g alone = rw (top-self (counterparty_at b) g alone)

  module _ (g h : ℕ) (l : 0 < g) (k : 0 < h) (p : parent_of (counterparty_at b) g ≡ 0) (q : parent_of (counterparty_at b) h ≡ 0) where
    same_number : tops_to b (g - 1) ≡ tops_to b (h - 1) → g ≡ h
    same_number e =
        let cs = counterparty_at b in
        sym (top-self cs g p) ∙ same_row b g h l k (row_number g p ∙ ap (λ (n : ℕ). columns * n) e ∙ sym (row_number h q)) ∙ top-self cs h q

    groups-apart : (tops_to b (g - 1) =? tops_to b (h - 1)) ≡ (g =? h)
    groups-apart = by (eqb g h) refl
      where
        by : (t : Bool) → eqb g h ≡ t → (tops_to b (g - 1) =? tops_to b (h - 1)) ≡ t
        by true e = eq-eqb _ _ (ap (λ (n : ℕ). tops_to b (n - 1)) (eqb-true g h e))
        by false e = ne_eqb _ _ (λ z. eqb-false g h e (same_number z))

    rows_apart : (t u : ℕ) → t < columns → u < columns → (row_of b g + t =? row_of b h + u) ≡ (g =? h && t =? u)
    rows_apart t u c d =
        rw (row_number g p, row_number h q) (cell_parts (tops_to b (g - 1)) t (tops_to b (h - 1)) u c d ∙ ap (λ (s : Bool). s && t =? u) groups-apart)

  pub cells-apart : (x y : ExposureLine) → InBook x → InBook y → (line_cell b x =? line_cell b y) ≡ is_in y.group y.tier x
  unfolding line_cell
  cells-apart x y i j =
      rows_apart x.group y.group i.low j.low i.alone j.alone x.tier y.tier (omega (arith, i.tier)) (omega (arith, j.tier))

  -- ---- the lines at the places

  pub rest_in : Accepted b → (place amount : ℕ) → 0 < place → place ≤ N b → ExposureInside b (remainder (asset_at b place) amount)
  unfolding remainder
  rest_in acc place amount l h = let a = acc.asset place l h in record { low = a.low; high = a.high }

  module _ (acc : Accepted b) (covered rests : List ℕ) (P : ExposureLine → Type 0) where
    abbrev OfLine : Type 0
    OfLine = (place : ℕ) (x : Exposure) → ExposureInside b x → P (exposure_line (counterparty_at b) (asset_at b place).desk x)

    pub all-parts : (place first more : ℕ) → OfLine → 0 < first → first + more ≤ K b + 1 → All P (part_lines b covered (asset_at b place).desk first more)
    unfolding part_lines
    all-parts place first more f l h =
        let xs = parts_at b covered first more in
        all-mapped P (exposure_line (counterparty_at b) (asset_at b place).desk) xs (all_map (f place) xs (part-inside b acc covered more first l h))

    pub all_from : (more place first : ℕ) → OfLine → 0 < place → place + more ≤ N b + 1 → 0 < first → first + held_by (holdings_from b place first more) ≤ K b + 1 → All P (lines_at b covered rests place first more)
    unfolding lines_at asset_lines holdings_from sum_of
    all_from zero place first f l h k c = tt
    all_from (suc more) place first f l h k c =
        let count = (asset_at b place).count in
        let parts = part_lines b covered (asset_at b place).desk first count in
        all_append P (parts ++ (rest_line b rests place ∷ [])) (lines_at b covered rests (place + 1) (first + count) more)
        (all_append P parts (rest_line b rests place ∷ []) (all-parts place first count f k (omega arith)) (f place _ (rest_in acc place (get_or rests place 0) l (omega arith)), tt))
        (all_from more (place + 1) (first + count) f (omega arith) (omega arith) (omega arith) (omega arith))

    pub all_lines : OfLine → All P (lines_at b covered rests 1 1 (N b))
    unfolding counts_add
    all_lines f = all_from (N b) 1 1 f (omega arith) (omega arith) (omega arith) (omega (arith, acc.counted))
