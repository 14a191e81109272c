-- C-14: the answer to a schedule, a book, a rate and a lent buffer, and what stands in the buffer afterwards.
--   exposure_lines_in excess_in   the exposure lines of a book, and the excess of a desk
--   bills_of                the bills' bytes
--   bill_check bill_answer   the checks 1 to 17, 19 and 16; the bills' length, or a refusal
--   bill_in AddUp           a bill as it is read; that bills, desks and lines add up
--   Billed                 all that the entry promises
use Rattle.std.specs.Prelude.{List, ◌≡◌, ℕ, ◌*◌, ◌/◌, length, Ok, Err}
use Rattle.words.specs.Words.{◌≤?◌, sum}
use Rattle.wire.specs.Bytes.{u64_at}
use Rattle.refusal.specs.declared.Refusal.TheVariants.{BufferShort, CostRate}
use Rattle.refusal.specs.Chain.{refuse◌unless◌, ◌and_then◌, answer_by, Answer, Checked}
use Rattle.figures.specs.Read.{charge_in, read_excess}
use Rattle.figures.specs.LeastCuts.{TierOf}
use Rattle.bills.specs.Lines.{ExposureLine, amount_in, stands_in, excess_lines}
use Rattle.bills.specs.Bills.{desk_count, most_cost_rate, bills_size, desk_excess, bill_bytes}
use Rattle.schedule.specs.Check.{schedule_check}
use Rattle.book.specs.Book.{book_of}
use Rattle.book.specs.Check.{book_check}
use Rattle.exposure.specs.Values.{fund_check}
use Rattle.report.specs.Answer.{fund_in, report_of, written_by}
use Rattle.desks.specs.BookLines.{book_lines}

-- the exposure lines of a book's bytes, in book order
abbrev pub exposure_lines_in : List ℕ → List ExposureLine
exposure_lines_in book = book_lines (book_of book)

-- the excess of desk d, the A3 excess with desk 0
unfoldable pub excess_in : List ℕ → List ℕ → ℕ → ℕ
excess_in schedule book d = desk_excess (fund_in schedule book) (exposure_lines_in book) d

-- "256 amounts of eight bytes", at a rate in ten-thousandths
unfoldable pub bills_of : List ℕ → List ℕ → ℕ → List ℕ
bills_of schedule book rate = bill_bytes (excess_in schedule book) rate

-- 1 to 13, 17, 14 and 15, then "19 when the rate exceeds 1,000, after 15", and "16 compares that length"
unfoldable pub bill_check : List ℕ → List ℕ → ℕ → ℕ → Checked
bill_check schedule book rate buffer =
    schedule_check schedule
    and_then book_check book
    and_then fund_check (book_of book)
    and_then (refuse CostRate unless rate ≤? most_cost_rate)
    and_then (refuse BufferShort unless bills_size ≤? buffer)

-- the answer to a buffer of so many bytes
unfoldable pub bill_answer : List ℕ → List ℕ → ℕ → ℕ → Answer
bill_answer schedule book rate buffer = answer_by (bill_check schedule book rate buffer) bills_size

-- the bill of desk d, read off bytes
abbrev pub bill_in : List ℕ → ℕ → ℕ
bill_in R d = u64_at R (8 * d)

-- of the bytes R, and of what the report says of the same schedule and book:
-- bills   "The bills must add up to the charge times the rate, rounded down, to the cent"
-- desks   the desks' excesses add up to the charge
-- tiers   in each group's tier the lines' excesses add up to the excess that the report states
pub record AddUp (schedule book : List ℕ) (rate : ℕ) (R : List ℕ) : Type 0 where
  pub bills : sum (bill_in R) desk_count ≡ charge_in (report_of schedule book) * rate / 10000
  pub desks : sum (excess_in schedule book) desk_count ≡ charge_in (report_of schedule book)
  pub tiers : (g t : ℕ) → TierOf (fund_in schedule book) g t → amount_in g t (excess_lines (stands_in (fund_in schedule book)) (exposure_lines_in book)) ≡ read_excess (report_of schedule book) g t

-- where there are bills
abbrev pub AddUpBy : Answer → List ℕ → List ℕ → ℕ → List ℕ → Type 0
AddUpBy (Ok length) schedule book rate R = AddUp schedule book rate R
AddUpBy (Err why) schedule book rate R = Unit {0}

-- what the entry promises of its answer r and of the lent buffer, `before` it and `after`
pub record Billed (schedule book : List ℕ) (rate : ℕ) (before after : List ℕ) (r : Answer) : Type 0 where
  pub answer : r ≡ bill_answer schedule book rate (length before)
  pub bytes : after ≡ written_by r (bills_of schedule book rate) before
  pub sums : AddUpBy r schedule book rate after
