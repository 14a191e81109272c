-- The tables that bills are made in.
--   CellsLeft CellsBy   the cells behind the pass over the lines
--   Excesses            the desks' excesses, and the cells
use Rattle.refusal.specs.Chain.{Answer}
use Rattle.std.specs.Prelude.{List, ◌≡◌, ℕ, ◌<◌, length, Ok, Err}
use Rattle.bills.specs.Bills.{desk_count}
use Rattle.bills.specs.Tables.{by_desk, still_after}
use Rattle.standing.specs.Standing.{Stood}
use Rattle.book.specs.Records.{N}
use Rattle.fund.specs.declared.Fund.{Fund}
use Rattle.desks.specs.Pass.{line_cell, lines_at}
use Rattle.billing.specs.Billed.{excess_in}

-- what stands, less what the lines were given
pub record CellsLeft (book : List ℕ) (groups : ℕ) (f : Fund) (covered rests cells₀ cells : List ℕ) : Type 0 where
  pub stood : List ℕ
  pub standing : Stood groups f.limits f.ranking cells₀ stood
  pub given : cells ≡ still_after (line_cell book) (lines_at book covered rests 1 1 (N book)) stood

-- as they were, where there are no bills
abbrev pub CellsBy : Answer → List ℕ → ℕ → Fund → List ℕ → List ℕ → List ℕ → List ℕ → Type 0
CellsBy (Ok length) book groups f covered rests cells₀ cells = CellsLeft book groups f covered rests cells₀ cells
CellsBy (Err why) book groups f covered rests cells₀ cells = cells ≡ cells₀

pub record Excesses (schedule book : List ℕ) (groups : ℕ) (f : Fund) (covered rests cells₀ cells desks : List ℕ) : Type 0 where
  pub size : length desks ≡ desk_count
  pub each : (d : ℕ) → d < desk_count → by_desk desks d ≡ excess_in schedule book d
  pub left : CellsLeft book groups f covered rests cells₀ cells
