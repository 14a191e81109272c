-- What the loops over the mitigants and the assets hold: the cells, with what is still to come, have the sums of all.
use mathlib.Core.List.{List, [], ◌∷◌}
use mathlib.Core.Path.{◌≡◌, refl, ap, ap₂, ◌∙◌}
use Prim.Native.Nat.{ℕ, suc, ◌+◌, ◌*◌, ◌-◌, ◌≤◌, ◌<◌, ◌^◌}
use native.Mathlib.Omega.{arith}
use lib.ListN.{length, get_or, set}
use Rattle.book.specs.declared.Mitigant.{Mitigant}
use Rattle.book.specs.Records.{C, N, K, counterparty_at, asset_at, mitigant_at}
use Rattle.book.specs.Accepted.{Accepted, MitigantFits}
use Rattle.exposure.specs.declared.Exposure.{Exposure}
use Rattle.exposure.specs.Parts.{covered_part, remainder}
use Rattle.exposure.specs.Sums.{amount_of}
use Rattle.rows.specs.Rows.{most_groups, columns}
use Rattle.columns.specs.Column.{digit, digit_of}
use Rattle.columns.proofs.ColumnLaws.{word-form}
use Rattle.parties.specs.Rows.{tops_to}
use Rattle.parties.specs.RowLaws.{tops-le}
use Rattle.covering.specs.ByPlace.{parts_at, rests_at}
use Rattle.cells.specs.Cells.{cell_of, part_at, Rowed}
use Rattle.assets.specs.Assets.{rest_cell}
use Rattle.cells.specs.Adding.{in_cell, Adding, adding-start, adding-step, adding-room}
use Rattle.cells.specs.CellLaws.{ExposureInside, cell-small, rest-cell}

-- ---- the cell of a covered part

module _ {b : List ℕ} {place : ℕ} {m : Mitigant} (acc : Accepted b) (l : 0 < place) (h : place ≤ K b) (e : m ≡ mitigant_at b place) where
  pub fits : MitigantFits (C b) m
  fits = rw e (acc.mitigant place l h)

  pub cell-is : {words rows : List ℕ} {row column : ℕ} → Rowed b words rows → row ≡ get_or rows m.counterparty 0 → column ≡ digit (digit_of m.form) (get_or words m.counterparty 0)
      → (amount : ℕ) → row + column ≡ cell_of b (part_at b place amount)
  unfolding cell_of covered_part
  cell-is r er ec amount =
      let f = fits in
      let who = counterparty_at b m.counterparty in
      ap₂ ◌+◌ (er ∙ r.row m.counterparty f.low f.high) (ec ∙ ap (λ (w : ℕ). digit (digit_of m.form) w) (r.word m.counterparty f.low f.high) ∙ word-form who (acc.flags m.counterparty f.low f.high) m amount f.form-low f.form)
      ∙ rw e refl

-- ---- room

cell-few : {b : List ℕ} → Accepted b → (x : Exposure) → ExposureInside b x → cell_of b x < columns * most_groups
cell-few {b} acc x i = omega (arith, cell-small b x i, tops-le b (C b), acc.counterparties)

-- room for a list of exposures
abbrev pub Room : (Exposure → ℕ) → List Exposure → List ℕ → Type 0
Room cell xs t = (q : ℕ) → get_or t q 0 + amount_of (in_cell cell q) xs < 2 ^ 64

-- the loop over the mitigants, before the one at a place
pub record OnParts (b covered cells₀ cells : List ℕ) (place : ℕ) : Type 0 where
  pub low : 0 < place
  pub within : place ≤ K b + 1
  pub adding : Adding (cell_of b) cells₀ (parts_at b covered 1 (K b)) cells (parts_at b covered place (K b + 1 - place))

pub parts-start : (b covered cells : List ℕ) → OnParts b covered cells cells 1
parts-start b covered cells =
    let d : K b + 1 - 1 ≡ K b = omega arith in
    record { low = omega arith; within = omega arith; adding = rw d (adding-start (cell_of b) cells (parts_at b covered 1 (K b))) }

module _ {b covered cells₀ cells : List ℕ} {place : ℕ} (o : OnParts b covered cells₀ cells place) where
  pub parts-end : K b < place → Adding (cell_of b) cells₀ (parts_at b covered 1 (K b)) cells []
  unfolding parts_at
  parts-end h = let d : K b + 1 - place ≡ 0 = omega arith in rw d at o.adding

  module _ (acc : Accepted b) (h : place ≤ K b) (room : columns * tops_to b (C b) ≤ length cells₀) where
    abbrev part : Exposure
    part = part_at b place (get_or covered place 0)

    next-part : parts_at b covered place (K b + 1 - place) ≡ part ∷ parts_at b covered (place + 1) (K b + 1 - (place + 1))
    unfolding parts_at
    next-part =
        let d : K b + 1 - place ≡ suc (K b - place) = omega arith in
        let e : K b + 1 - (place + 1) ≡ K b - place = omega arith in
        rw (d, e)

    inside : ExposureInside b part
    unfolding covered_part
    inside = let f = acc.mitigant place o.low h in record { low = f.low; high = f.high }

    module _ {cell : ℕ} (e : cell ≡ cell_of b part) where
      pub part-few : cell < columns * most_groups
      part-few = omega (arith, e, cell-few acc part inside)

      pub part_small : cell < length cells
      part_small = omega (arith, e, o.adding.size, cell-small b part inside)

      pub part_room : Room (cell_of b) (parts_at b covered 1 (K b)) cells₀ → get_or cells cell 0 + get_or covered place 0 < 2 ^ 64
      unfolding covered_part
      part_room r = rw e (omega (arith, adding-room o.adding next-part, r (cell_of b part)))

      pub part_step : OnParts b covered cells₀ (set cells cell (get_or cells cell 0 + get_or covered place 0)) (place + 1)
      unfolding covered_part
      part_step = record {
        low = omega arith;
        within = omega arith;
        adding = adding-step o.adding next-part (omega (arith, cell-small b part inside)) (rw e);
      }

-- the loop over the assets, before the one at a place
pub record OnRests (b rests cells₀ cells : List ℕ) (place : ℕ) : Type 0 where
  pub low : 0 < place
  pub within : place ≤ N b + 1
  pub adding : Adding (cell_of b) cells₀ (rests_at b rests 1 (N b)) cells (rests_at b rests place (N b + 1 - place))

pub rests-start : (b rests cells : List ℕ) → OnRests b rests cells cells 1
rests-start b rests cells =
    let d : N b + 1 - 1 ≡ N b = omega arith in
    record { low = omega arith; within = omega arith; adding = rw d (adding-start (cell_of b) cells (rests_at b rests 1 (N b))) }

module _ {b rests cells₀ cells : List ℕ} {place : ℕ} (o : OnRests b rests cells₀ cells place) where
  pub rests-end : N b < place → Adding (cell_of b) cells₀ (rests_at b rests 1 (N b)) cells []
  unfolding rests_at
  rests-end h = let d : N b + 1 - place ≡ 0 = omega arith in rw d at o.adding

  module _ (acc : Accepted b) (h : place ≤ N b) (room : columns * tops_to b (C b) ≤ length cells₀) where
    abbrev left : Exposure
    left = remainder (asset_at b place) (get_or rests place 0)

    next-rest : rests_at b rests place (N b + 1 - place) ≡ left ∷ rests_at b rests (place + 1) (N b + 1 - (place + 1))
    unfolding rests_at
    next-rest =
        let d : N b + 1 - place ≡ suc (N b - place) = omega arith in
        let e : N b + 1 - (place + 1) ≡ N b - place = omega arith in
        rw (d, e)

    inside-rest : ExposureInside b left
    unfolding remainder
    inside-rest = let f = acc.asset place o.low h in record { low = f.low; high = f.high }

    module _ {cell : ℕ} (e : cell ≡ rest_cell b place) where
      cell-left : cell ≡ cell_of b left
      cell-left = e ∙ rest-cell b place (get_or rests place 0)

      pub left-few : cell < columns * most_groups
      left-few = omega (arith, cell-left, cell-few acc left inside-rest)

      pub left-small : cell < length cells
      left-small = omega (arith, cell-left, o.adding.size, cell-small b left inside-rest)

      pub left-room : Room (cell_of b) (rests_at b rests 1 (N b)) cells₀ → get_or cells cell 0 + get_or rests place 0 < 2 ^ 64
      unfolding remainder
      left-room r = rw cell-left (omega (arith, adding-room o.adding next-rest, r (cell_of b left)))

      pub left_step : OnRests b rests cells₀ (set cells cell (get_or cells cell 0 + get_or rests place 0)) (place + 1)
      unfolding remainder
      left_step = record {
        low = omega arith;
        within = omega arith;
        adding = adding-step o.adding next-rest (omega (arith, cell-small b left inside-rest)) (rw cell-left);
      }
