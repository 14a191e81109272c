-- What the fund's functions start from and leave.
--   Passed           a schedule and a book that refusals 1 to 13 and 17 let pass
--   Lent Drew        the tables before and behind the passes over the book
--   Provided         what these passes start from: so many groups, and the tables
--   Cells Exposed Summed   the table of exposures by group, and the sums that no table holds
--   Rateable         a fund that 14 and 15 let pass too, with that table
--   LimitsOf RatedAs limits, ranking and figures of a fund that 14 and 15 let pass too
--   Made             what is made of a fund, or the refusal
use Rattle.refusal.specs.Chain.{Checked}
use Rattle.std.specs.Prelude.{List, ◌≡◌, ℕ, ◌+◌, ◌*◌, ◌≤◌, ◌<◌, length, get_or, Result, Ok, Err}
use Rattle.words.specs.Tables.{filled}
use Rattle.wire.specs.Bytes.{M}
use Rattle.refusal.specs.declared.Refusal.{Refusal}
use Rattle.schedule.specs.Schedule.{schedule_of}
use Rattle.schedule.specs.Check.{schedule_check}
use Rattle.book.specs.Records.{C, N, K, counterparty_at, asset_at}
use Rattle.book.specs.Book.{book_of}
use Rattle.book.specs.Check.{book_check}
use Rattle.exposure.specs.Values.{VAF, VAF', fund_check}
use Rattle.exposure.specs.Parts.{exposures}
use Rattle.exposure.specs.Tier.{tier_of, no_limit}
use Rattle.exposure.specs.Sums.{amount_of, W, all_net, unlimited}
use Rattle.words.specs.Words.{◌=?◌}
use Rattle.cascade.specs.Cascade.{tiers, ranked}
use Rattle.rows.specs.Rows.{columns}
use Rattle.parties.specs.Rows.{tops_to, Parties}
use Rattle.assets.specs.declared.Values.{Values}
use Rattle.assets.specs.Marks.{marked}
use Rattle.assets.specs.Shares.{rest_of, draws_on}
use Rattle.assets.specs.Halves.{added, Halved}
use Rattle.assets.specs.Assets.{rest_cell, FundSums}
use Rattle.covering.specs.Pass.{Covers}
use Rattle.cells.specs.declared.Sums.{Sums}
use Rattle.cells.specs.Cells.{Posted}
use Rattle.fund.specs.declared.Limited.{Limited}
use Rattle.fund.specs.declared.Fund.{Fund}
use Rattle.fund.specs.Figures.{unrounded_of, limits_of, order, a3_sum, a3_limit}

pub record Passed (schedule book : List ℕ) : Type 0 where
  pub of-schedule : schedule_check schedule ≡ Ok tt
  pub of-book : book_check book ≡ Ok tt

-- tables of zeros that are long enough; the others need only be long enough
pub record Lent (b starts draws halves rests places covered : List ℕ) : Type 0 where
  pub of-starts : K b + 1 < length starts
  pub of-draws : N b < length draws
  pub of-halves : C b < length halves
  pub of-rests : N b < length rests
  pub of_places : N b < length places
  pub of-covered : K b < length covered
  pub unmarked : (q : ℕ) → ◌≡◌ {A = ℕ} (get_or starts q 0) 0
  pub undrawn : (q : ℕ) → ◌≡◌ {A = ℕ} (get_or halves q 0) 0

-- count     the book has so many groups
-- parties   the tables by counterparty are made
-- lent      those that the passes fill are long enough, and zeros where they have to be
pub record Provided (b : List ℕ) (groups : ℕ) (words terms rows starts draws halves rests places covered : List ℕ) : Type 0 where
  pub count : groups ≡ tops_to b (C b)
  pub parties : Parties b words terms rows
  pub lent : Lent b starts draws halves rests places covered

-- what no limit is put on, and W
abbrev pub sums_of : List ℕ → Sums
sums_of b = record { w = W (book_of b); free = amount_of (λ x. tier_of (counterparty_at b) x =? no_limit) (exposures (book_of b)) }

-- the exposures by group and tier
abbrev pub Cells : List ℕ → ℕ → List ℕ → List ℕ → Type 0
Cells b groups cells₀ cells = Posted b groups cells₀ cells (sums_of b)

-- owners, whose half each asset draws on, what each mitigant covers, what is left of the halves and of each asset, and where that is posted; and the cells
pub record Drew (b : List ℕ) (groups : ℕ) (starts₀ draws₀ halves₀ rests₀ places₀ covered₀ cells₀ starts draws halves rests places covered cells : List ℕ) : Type 0 where
  pub marks : starts ≡ marked b starts₀ 1 1 (N b)
  pub on : draws ≡ filled (λ p. draws_on (counterparty_at b) (asset_at b p)) (N b) draws₀
  pub half : List ℕ
  pub halved : Halved (added b halves₀ 1 (N b)) half
  pub amounts : Covers b covered₀ half (filled (λ p. rest_of (asset_at b p)) (N b) rests₀) covered halves rests
  pub at_places : places ≡ filled (rest_cell b) (N b) places₀
  pub exposed : Cells b groups cells₀ cells

-- the same of a table that was `before`, and a row to each group
pub record Exposed (b : List ℕ) (groups : ℕ) (cells : List ℕ) : Type 0 where
  pub before : List ℕ
  pub posted : Cells b groups before cells
  pub size : columns * groups ≤ length cells

-- passed    refusals 1 to 13 and 17 let the schedule and the book pass
-- checked   so do 14 and 15
-- count     the book has so many groups
-- exposed   their exposures are in the cells
pub record Rateable (schedule b : List ℕ) (groups : ℕ) (cells : List ℕ) : Type 0 where
  pub passed : Passed schedule b
  pub checked : fund_check (book_of b) ≡ Ok tt
  pub count : groups ≡ tops_to b (C b)
  pub exposed : Exposed b groups cells

pub record Summed (b : List ℕ) (values : Values) (sums : Sums) : Type 0 where
  pub of-assets : FundSums b values
  pub of-exposures : sums ≡ sums_of b

pub record LimitsOf (schedule book : List ℕ) (r : Limited) : Type 0 where
  pub vaf : r.vaf ≡ VAF (book_of book)
  pub stressed : r.stressed_vaf ≡ VAF' (book_of book)
  pub unrounded : r.unrounded ≡ unrounded_of (schedule_of schedule) (book_of book)
  pub limits : r.limits ≡ limits_of (schedule_of schedule) (book_of book)
  pub a3 : r.a3_limit ≡ a3_limit (schedule_of schedule) (book_of book)

pub record RatedAs (schedule book : List ℕ) (r : Fund) : Type 0 where
  pub limits : r.limits ≡ limits_of (schedule_of schedule) (book_of book)
  pub ranking : r.ranking ≡ ranked (order (schedule_of schedule) (book_of book)) tiers
  pub vaf : r.figures.vaf ≡ VAF (book_of book)
  pub stressed : r.figures.stressed_vaf ≡ VAF' (book_of book)
  pub all-net : r.figures.all_net ≡ all_net (book_of book)
  pub unlimited : r.figures.unlimited ≡ unlimited (book_of book)
  pub a3-sum : r.figures.a3_sum ≡ a3_sum (schedule_of schedule) (book_of book)
  pub a3-within : r.figures.a3_sum ≤ 3750 * M
  pub a3-limit : r.figures.a3_limit ≡ a3_limit (schedule_of schedule) (book_of book)

-- what is made of a fund, by what 14 and 15 find
abbrev pub MadeBy : Checked → List ℕ → List ℕ → Result Fund Refusal → Type 0
MadeBy (Ok _) schedule book r = (f : Fund) × (r ≡ Ok f) × RatedAs schedule book f
MadeBy (Err why) schedule book r = r ≡ Err why

abbrev pub Made : List ℕ → List ℕ → Result Fund Refusal → Type 0
Made schedule book r = MadeBy (fund_check (book_of book)) schedule book r
