-- A fund that 14 and 15 let pass, and its tables, as every entry finds them once the fund is made.
use Rattle.std.specs.Prelude.{List, ℕ, ◌<◌, length}
use Rattle.book.specs.Records.{N, K}
use Rattle.covering.specs.ByPlace.{PartedBook}
use Rattle.cells.specs.Cells.{Rowed, Placed}
use Rattle.fund.specs.declared.Fund.{Fund}
use Rattle.fund.specs.Fund.{Rateable, RatedAs}

-- by counterparty its word and its group's row; by asset where its remainder is posted; what each mitigant covers and what is left of each asset, in book
-- order; and the exposures by group and column
pub record FundTables (schedule book : List ℕ) (groups : ℕ) (f : Fund) (words rows places covered rests cells : List ℕ) : Type 0 where
  pub rateable : Rateable schedule book groups cells
  pub rated : RatedAs schedule book f
  pub rowed : Rowed book words rows
  pub placed : Placed book places
  pub covered-size : K book < length covered
  pub rests-size : N book < length rests
  pub parts : PartedBook book covered rests
