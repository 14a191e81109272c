-- What the posting starts from.
--   PartsPostable RestsPostable   the pass over what mitigants cover, and the one over what is left of assets
--   Postable                      both, and the fold behind them
use Rattle.std.specs.Prelude.{List, ◌≡◌, ℕ, ◌+◌, ◌*◌, ◌≤◌, ◌<◌, ◌^◌, length, get_or}
use Rattle.book.specs.Records.{C, N, K, mitigants_start}
use Rattle.book.specs.Accepted.{Accepted}
use Rattle.header.specs.declared.Sections.{Sections}
use Rattle.exposure.specs.Sums.{amount_of}
use Rattle.rows.specs.Rows.{columns}
use Rattle.parties.specs.Rows.{tops_to}
use Rattle.covering.specs.ByPlace.{parts_at, rests_at}
use Rattle.cells.specs.Adding.{in_cell}
use Rattle.cells.specs.Cells.{cell_of, Rowed, Placed, Tabled, Zeros}

-- accepted        refusals 5 to 13 and 17 let the book pass
-- section count   where its mitigants start, and how many it has
-- rowed           the counterparties' words and rows
-- covered-size    a place of `covered` for each mitigant
-- cells-size      a row for each group
-- room            no cell passes 64 bits behind what the mitigants cover
pub record PartsPostable (b : List ℕ) (sections : Sections) (words rows covered cells : List ℕ) : Type 0 where
  pub accepted : Accepted b
  pub section : sections.mitigants ≡ mitigants_start b
  pub count : sections.mitigant_count ≡ K b
  pub rowed : Rowed b words rows
  pub covered-size : K b < length covered
  pub cells-size : columns * tops_to b (C b) ≤ length cells
  pub room : (q : ℕ) → get_or cells q 0 + amount_of (in_cell (cell_of b) q) (parts_at b covered 1 (K b)) < 2 ^ 64

-- accepted     refusals 5 to 13 and 17 let the book pass
-- count        how many assets it has
-- placed       the cell of what is left of each
-- rests-size   a place of `rests` for each
-- cells-size   a row for each group
-- room         no cell passes 64 bits behind what is left of the assets
pub record RestsPostable (b : List ℕ) (sections : Sections) (places rests cells : List ℕ) : Type 0 where
  pub accepted : Accepted b
  pub count : sections.asset_count ≡ N b
  pub placed : Placed b places
  pub rests-size : N b < length rests
  pub cells-size : columns * tops_to b (C b) ≤ length cells
  pub room : (q : ℕ) → get_or cells q 0 + amount_of (in_cell (cell_of b) q) (rests_at b rests 1 (N b)) < 2 ^ 64

-- accepted                 refusals 5 to 13 and 17 let the book pass
-- section                  where its mitigants start
-- assets mitigants count   how many assets, mitigants and groups it has
-- rowed                    the counterparties' words and rows
-- tabled placed            what each mitigant covers and what is left of each asset, and the cell of that
-- zeros                    cells of zeros, with a row for each group
pub record Postable (b : List ℕ) (sections : Sections) (groups : ℕ) (words rows covered rests places cells : List ℕ) : Type 0 where
  pub accepted : Accepted b
  pub section : sections.mitigants ≡ mitigants_start b
  pub assets : sections.asset_count ≡ N b
  pub mitigants : sections.mitigant_count ≡ K b
  pub count : groups ≡ tops_to b (C b)
  pub rowed : Rowed b words rows
  pub tabled : Tabled b covered rests
  pub placed : Placed b places
  pub zeros : Zeros groups cells
