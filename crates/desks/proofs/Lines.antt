-- What the loops over the lines hold: the tables, served along the lines still to come, are those of all lines.
use mathlib.Core.List.{List, [], ◌∷◌, ◌++◌, append_assoc}
use mathlib.Core.Path.{◌≡◌, refl, ap, ap₂, ◌∙◌}
use Prim.Native.Nat.{ℕ, suc, ◌+◌, ◌-◌, ◌≤◌, ◌<◌, ◌^◌}
use native.Mathlib.Omega.{arith}
use lib.ListN.{length, get_or}
use Rattle.words.specs.Words.{sum_of, All}
use Rattle.words.specs.Sums.{all-mapped}
use Rattle.rows.specs.Rows.{columns}
use Rattle.bills.specs.Lines.{ExposureLine}
use Rattle.bills.specs.Bills.{desk_count}
use Rattle.bills.specs.Tables.{by_desk, LineServed, desks_after}
use Rattle.bills.proofs.Serving.{Serving, serving-start, serving-end, serving-room, serving-step, serving-rise, serving-lines, all-behind}
use Rattle.book.specs.declared.Mitigant.{Mitigant}
use Rattle.book.specs.Records.{C, N, K, counterparty_at, asset_at, mitigant_at}
use Rattle.book.specs.Book.{holdings_from}
use Rattle.book.specs.Check.{counts_add}
use Rattle.book.specs.Accepted.{Accepted, MitigantFits}
use Rattle.exposure.specs.declared.Exposure.{Exposure}
use Rattle.exposure.specs.Parts.{covered_part, remainder}
use Rattle.columns.specs.Column.{column_of, tier_in, digit, digit_of, Tiered}
use Rattle.columns.proofs.ColumnLaws.{column-le, word-form}
use Rattle.parties.specs.Rows.{row_of}
use Rattle.assets.specs.Assets.{rest_cell}
use Rattle.covering.specs.Covered.{held_by}
use Rattle.covering.specs.ByPlace.{parts_at}
use Rattle.cells.specs.Cells.{column_at, cell_of, part_at, Rowed}
use Rattle.cells.specs.CellLaws.{ExposureInside, rest-cell}
use Rattle.desks.specs.BookLines.{exposure_line}
use Rattle.desks.specs.Pass.{line_cell, part_lines, rest_line, asset_lines, lines_at, Lined, PartsServed, Served}
use Rattle.desks.proofs.LineLaws.{line-in, line-cell, line_small, rest_in, all_from}
use Rattle.desks.proofs.BookLaws.{desk-few}

module _ {b : List ℕ} (acc : Accepted b) where
  part_in : (place amount : ℕ) → 0 < place → place ≤ K b → ExposureInside b (part_at b place amount)
  unfolding covered_part
  part_in place amount l h = let m = acc.mitigant place l h in record { low = m.low; high = m.high }

  -- ---- one line

  -- the line of an exposure is served
  module _ {all : List ExposureLine} {still₀ desks₀ : List ℕ} {more : List ExposureLine} {still desks : List ℕ} (s : Serving (line_cell b) all still₀ desks₀ more still desks)
      (desk : ℕ) (x : Exposure) (i : ExposureInside b x) {cell : ℕ} (e : cell ≡ line_cell b (exposure_line (counterparty_at b) desk x)) {rest : List ExposureLine} (f : more ≡ exposure_line (counterparty_at b) desk x ∷ rest) where
    abbrev line : ExposureLine
    line = exposure_line (counterparty_at b) desk x

    pub at-cell : Lined b still₀ desks₀ → cell < length still
    at-cell l = omega (arith, e, line_small b line (line-in b desk x i), l.cells, s.cells)

    pub room : All (λ y. y.desk < length desks₀) more → ((d : ℕ) → by_desk (desks_after (line_cell b) all still₀ desks₀) d < 2 ^ 64) → get_or desks desk 0 + (x.amount - get_or still cell 0) < 2 ^ 64
    unfolding exposure_line
    room h fits = rw e (omega (arith, serving-room (line_cell b) s line f h, fits desk))

    pub step : {still' desks' : List ℕ} → LineServed cell x.amount desk still still' desks desks' → Serving (line_cell b) all still₀ desks₀ rest still' desks'
    unfolding exposure_line
    step l = serving-step (line_cell b) s line f (rw e at l)

-- ---- cells

module _ {b : List ℕ} {place : ℕ} {m : Mitigant} (acc : Accepted b) (l : 0 < place) (h : place ≤ K b) (e : m ≡ mitigant_at b place) where
  pub part-fits : MitigantFits (C b) m
  part-fits = rw e (acc.mitigant place l h)

  -- its counterparty's row and the column of what it covers
  module _ {words rows : List ℕ} (r : Rowed b words rows) {column : ℕ} (ec : column ≡ digit (digit_of m.form) (get_or words m.counterparty 0)) where
    part-column : (amount : ℕ) → column ≡ column_of (covered_part m (counterparty_at b m.counterparty) amount) (counterparty_at b m.counterparty)
    part-column amount =
        let f = part-fits in
        ec
        ∙ ap (λ (w : ℕ). digit (digit_of m.form) w) (r.word m.counterparty f.low f.high)
        ∙ word-form (counterparty_at b m.counterparty) (acc.flags m.counterparty f.low f.high) m amount f.form-low f.form

    pub column-few : column < columns
    column-few = omega (arith, part-column 0, column-le (covered_part m (counterparty_at b m.counterparty) 0) (counterparty_at b m.counterparty))

    pub part-cell : {table : List ℕ} → Tiered table → {row tier : ℕ} → row ≡ get_or rows m.counterparty 0 → tier ≡ get_or table column 0
        → (desk amount : ℕ) → row + tier ≡ line_cell b (exposure_line (counterparty_at b) desk (part_at b place amount))
    unfolding covered_part
    part-cell t er et desk amount =
        let f = part-fits in
        ap₂ ◌+◌ (er ∙ r.row m.counterparty f.low f.high) (et ∙ t.each column column-few ∙ ap tier_in (part-column amount))
        ∙ rw e (line-cell b desk (part_at b place amount))

-- a remainder's row and the cell of its column
pub rest-row : (b : List ℕ) (place : ℕ) {row cell : ℕ} → row ≡ row_of b (asset_at b place).counterparty → cell ≡ rest_cell b place → (row ≤ cell) × (cell < row + columns)
unfolding rest_cell
rest-row b place er ec =
    let a = asset_at b place in
    let few = column-le (remainder a 0) (counterparty_at b a.counterparty) in
    (omega (arith, er, ec), omega (arith, er, ec, few))

-- ---- the covered parts of an asset

module _ (b covered : List ℕ) (desk : ℕ) where
  parts_next : (place end : ℕ) → place < end
      → part_lines b covered desk place (end - place) ≡ exposure_line (counterparty_at b) desk (part_at b place (get_or covered place 0)) ∷ part_lines b covered desk (place + 1) (end - (place + 1))
  unfolding part_lines parts_at
  parts_next place end l = let d : end - place ≡ suc (end - (place + 1)) = omega arith in rw d

  parts-end : (place end : ℕ) → end ≤ place → part_lines b covered desk place (end - place) ≡ []
  unfolding part_lines parts_at
  parts-end place end l = let d : end - place ≡ 0 = omega arith in rw d

  all_same : (P : ℕ → Type 0) → P desk → (xs : List Exposure) → All (λ x. P (exposure_line (counterparty_at b) desk x).desk) xs
  unfolding exposure_line
  all_same P p [] = tt
  all_same P p (x ∷ xs) = (p, all_same P p xs)

  parts-desk : (P : ℕ → Type 0) → P desk → (place more : ℕ) → All (λ y. P y.desk) (part_lines b covered desk place more)
  unfolding part_lines
  parts-desk P p place more = all-mapped (λ y. P y.desk) (exposure_line (counterparty_at b) desk) (parts_at b covered place more) (all_same P p (parts_at b covered place more))

-- the loop over an asset's mitigants, before the one at a place
pub record OnParts (b covered : List ℕ) (desk first end : ℕ) (still₀ desks₀ still desks : List ℕ) (place : ℕ) : Type 0 where
  pub low : first ≤ place
  pub within : place ≤ end
  pub serving : Serving (line_cell b) (part_lines b covered desk first (end - first)) still₀ desks₀ (part_lines b covered desk place (end - place)) still desks

pub parts-start : (b covered : List ℕ) (desk first end : ℕ) (still desks : List ℕ) → first ≤ end → OnParts b covered desk first end still desks still desks first
parts-start b covered desk first end still desks l =
    record { low = omega arith; within = l; serving = serving-start (line_cell b) (part_lines b covered desk first (end - first)) still desks }

module _ {b covered : List ℕ} {desk first end : ℕ} {still₀ desks₀ still desks : List ℕ} {place : ℕ} (o : OnParts b covered desk first end still₀ desks₀ still desks place) where
  pub parts-served : end ≤ place → PartsServed b covered desk first (end - first) still₀ desks₀ still desks
  parts-served l = let r = serving-end (line_cell b) o.serving (parts-end b covered desk place end l) in record { given = r.0; excess = r.1 }

  module _ (acc : Accepted b) (z : 0 < first) (k : end ≤ K b + 1) (l : place < end) {cell : ℕ} (e : (desk amount : ℕ) → cell ≡ line_cell b (exposure_line (counterparty_at b) desk (part_at b place amount))) where
    abbrev part : Exposure
    part = part_at b place (get_or covered place 0)

    inside : ExposureInside b part
    inside = part_in acc place (get_or covered place 0) (omega (arith, o.low)) (omega arith)

    pub part-at : Lined b still₀ desks₀ → cell < length still
    part-at t = at-cell acc o.serving desk part inside (e desk (get_or covered place 0)) (parts_next b covered desk place end l) t

    pub part_room : desk < length desks₀ → ((d : ℕ) → by_desk (desks_after (line_cell b) (part_lines b covered desk first (end - first)) still₀ desks₀) d < 2 ^ 64)
        → get_or desks desk 0 + (get_or covered place 0 - get_or still cell 0) < 2 ^ 64
    unfolding covered_part
    part_room h fits =
        room acc o.serving desk part inside (e desk (get_or covered place 0)) (parts_next b covered desk place end l) (parts-desk b covered desk (λ d. d < length desks₀) h place (end - place)) fits

    pub part_step : {still' desks' : List ℕ} → LineServed cell (get_or covered place 0) desk still still' desks desks' → OnParts b covered desk first end still₀ desks₀ still' desks' (place + 1)
    unfolding covered_part
    part_step s = record {
      low = omega (arith, o.low);
      within = omega arith;
      serving = step acc o.serving desk part inside (e desk (get_or covered place 0)) (parts_next b covered desk place end l) s;
    }

-- ---- all lines

module _ (b covered rests : List ℕ) where
  -- the asset at a place: its parts, its remainder, and then the others
  lines_next : (place first end : ℕ) → place ≤ N b → end ≡ first + (asset_at b place).count
      → lines_at b covered rests place first (N b + 1 - place)
      ≡ part_lines b covered (asset_at b place).desk first (end - first) ++ (rest_line b rests place ∷ lines_at b covered rests (place + 1) end (N b + 1 - (place + 1)))
  unfolding lines_at asset_lines
  lines_next place first end l e =
      let d : N b + 1 - place ≡ suc (N b + 1 - (place + 1)) = omega arith in
      let n : end - first ≡ (asset_at b place).count = omega arith in
      rw (d, n, e) (append_assoc (part_lines b covered (asset_at b place).desk first (asset_at b place).count) (rest_line b rests place ∷ []) _)

  lines_end : (place first : ℕ) → N b < place → lines_at b covered rests place first (N b + 1 - place) ≡ []
  unfolding lines_at
  lines_end place first l = let d : N b + 1 - place ≡ 0 = omega arith in rw d

-- the loop over the assets, before the one at a place, whose first mitigant is the one at `first`
pub record OnLines (b covered rests still₀ desks₀ still desks : List ℕ) (place first : ℕ) : Type 0 where
  pub low : 0 < place
  pub within : place ≤ N b + 1
  pub start : 0 < first
  pub held : first + held_by (holdings_from b place first (N b + 1 - place)) ≤ K b + 1
  pub serving : Serving (line_cell b) (lines_at b covered rests 1 1 (N b)) still₀ desks₀ (lines_at b covered rests place first (N b + 1 - place)) still desks

pub lines_start : (b covered rests still desks : List ℕ) → Accepted b → OnLines b covered rests still desks still desks 1 1
unfolding counts_add
lines_start b covered rests still desks acc =
    let d : N b + 1 - 1 ≡ N b = omega arith in
    record {
      low = omega arith;
      within = omega arith;
      start = omega arith;
      held = rw d (omega (arith, acc.counted));
      serving = rw d (serving-start (line_cell b) (lines_at b covered rests 1 1 (N b)) still desks);
    }

module _ {b covered rests still₀ desks₀ still desks : List ℕ} {place first : ℕ} (o : OnLines b covered rests still₀ desks₀ still desks place first) where
  pub lines-served : N b < place → Served b covered rests still₀ desks₀ still desks
  lines-served l = let r = serving-end (line_cell b) o.serving (lines_end b covered rests place first l) in record { given = r.0; excess = r.1 }

  -- the tables have their lengths
  pub lined-still : Lined b still₀ desks₀ → Lined b still desks
  lined-still t = record { cells = omega (arith, t.cells, o.serving.cells); places = o.serving.places ∙ t.places }

  module _ (l : place ≤ N b) {end : ℕ} (e : end ≡ first + (asset_at b place).count) where
    held_next : end + held_by (holdings_from b (place + 1) end (N b + 1 - (place + 1))) ≤ K b + 1
    unfolding holdings_from sum_of
    held_next =
        let d : N b + 1 - place ≡ suc (N b + 1 - (place + 1)) = omega arith in
        rw e (omega (arith, rw d at o.held))

    pub end-few : end ≤ K b + 1
    end-few = omega (arith, held_next)

    module _ (acc : Accepted b) (byte : (k : ℕ) → get_or b k 0 < 256) (t : Lined b still₀ desks₀) where
      abbrev desk : ℕ
      desk = (asset_at b place).desk

      pub own-desk : desk < desk_count
      own-desk = desk-few b acc byte place

      known-desk : (p : ℕ) (x : Exposure) → ExposureInside b x → (exposure_line (counterparty_at b) (asset_at b p).desk x).desk < length desks₀
      unfolding exposure_line
      known-desk p x i = omega (arith, desk-few b acc byte p, t.places)

      all-desks : All (λ y. y.desk < length desks₀) (lines_at b covered rests place first (N b + 1 - place))
      all-desks = all_from b acc covered rests (λ y. y.desk < length desks₀) (N b + 1 - place) place first known-desk o.low (omega arith) o.start o.held

      abbrev others : List ExposureLine
      others = lines_at b covered rests (place + 1) end (N b + 1 - (place + 1))

      abbrev parts : List ExposureLine
      parts = part_lines b covered desk first (end - first)

      next : lines_at b covered rests place first (N b + 1 - place) ≡ parts ++ (rest_line b rests place ∷ others)
      next = lines_next b covered rests place first end l e

      -- the covered parts
      pub parts-room : ((d : ℕ) → by_desk (desks_after (line_cell b) (lines_at b covered rests 1 1 (N b)) still₀ desks₀) d < 2 ^ 64)
          → (d : ℕ) → by_desk (desks_after (line_cell b) (part_lines b covered (asset_at b place).desk first (end - first)) still desks) d < 2 ^ 64
      parts-room fits d = omega (arith, serving-rise (line_cell b) o.serving parts (rest_line b rests place ∷ others) next all-desks d, fits d)

      module _ {still' desks' : List ℕ} (p : PartsServed b covered (asset_at b place).desk first (end - first) still desks still' desks') where
        pub behind-parts : Serving (line_cell b) (lines_at b covered rests 1 1 (N b)) still₀ desks₀ (rest_line b rests place ∷ others) still' desks'
        behind-parts = serving-lines (line_cell b) o.serving parts (rest_line b rests place ∷ others) next p.given p.excess

        -- the remainder
        abbrev rest : Exposure
        rest = remainder (asset_at b place) (get_or rests place 0)

        inside-rest : ExposureInside b rest
        inside-rest = rest_in b acc place (get_or rests place 0) o.low l

        -- its cell, out of its row and its place
        module _ {row q cell : ℕ} (er : row ≡ row_of b (asset_at b place).counterparty) (eq : q ≡ rest_cell b place) (c : cell ≡ row + tier_in (q - row)) where
          cell-rest : cell ≡ line_cell b (exposure_line (counterparty_at b) (asset_at b place).desk rest)
          unfolding cell_of remainder
          cell-rest =
              let column = column_at b rest in
              let d : q - row ≡ column = omega (arith, er, eq ∙ rest-cell b place (get_or rests place 0)) in
              c ∙ rw (d, er) (line-cell b (asset_at b place).desk rest)

          pub rest_at : cell < length still'
          rest_at = at-cell acc behind-parts desk rest inside-rest cell-rest refl t

          pub rest-room : ((d : ℕ) → by_desk (desks_after (line_cell b) (lines_at b covered rests 1 1 (N b)) still₀ desks₀) d < 2 ^ 64)
              → get_or desks' (asset_at b place).desk 0 + (get_or rests place 0 - get_or still' cell 0) < 2 ^ 64
          unfolding remainder
          rest-room fits =
              room acc behind-parts desk rest inside-rest cell-rest refl (all-behind (λ y. y.desk < length desks₀) parts (rest_line b rests place ∷ others) (rw next at all-desks)) fits

          pub rest-step : {still'' desks'' : List ℕ} → LineServed cell (get_or rests place 0) (asset_at b place).desk still' still'' desks' desks'' → OnLines b covered rests still₀ desks₀ still'' desks'' (place + 1) end
          unfolding remainder
          rest-step s = record {
            low = omega arith;
            within = omega arith;
            start = omega (arith, o.start);
            held = held_next;
            serving = step acc behind-parts desk rest inside-rest cell-rest refl s;
          }
