-- The answer to a schedule, a book and a lent buffer, and what stands in the buffer afterwards.
--   report_of    the report's bytes
--   check_of     the checks 1 to 17
--   answer_of    a report with its length, or a refusal
--   Answered    all that the entry promises, demand 3 with it
use Rattle.std.specs.Prelude.{List, ◌++◌, ◌≡◌, ℕ, length, drop, Ok, Err}
use Rattle.words.specs.Words.{◌≤?◌}
use Rattle.refusal.specs.declared.Refusal.TheVariants.{BufferShort}
use Rattle.refusal.specs.Chain.{refuse◌unless◌, ◌and_then◌, answer_by, Answer, Checked}
use Rattle.schedule.specs.Schedule.{schedule_of}
use Rattle.schedule.specs.Check.{schedule_check}
use Rattle.book.specs.Book.{book_of}
use Rattle.book.specs.Check.{book_check}
use Rattle.exposure.specs.Values.{fund_check}
use Rattle.figures.specs.Fund.{Fund}
use Rattle.figures.specs.Report.{report}
use Rattle.figures.specs.LeastCuts.{LeastCuts}
use Rattle.fund.specs.Figures.{fund_of}

-- the fund of a schedule's and a book's bytes
unfoldable pub fund_in : List ℕ → List ℕ → Fund
fund_in schedule book = fund_of (schedule_of schedule) (book_of book)

-- its report
unfoldable pub report_of : List ℕ → List ℕ → List ℕ
report_of schedule book = report (fund_in schedule book)

-- "Checked by rising number", 17 "after 13": 1 to 4, 5 to 13 and 17, 14 and 15, 16 ("buffer shorter than report")
unfoldable pub check_of : List ℕ → List ℕ → ℕ → Checked
check_of schedule book buffer =
    schedule_check schedule
    and_then book_check book
    and_then fund_check (book_of book)
    and_then (refuse BufferShort unless length (report_of schedule book) ≤? buffer)

-- the answer to a schedule, a book and a buffer of so many bytes; "The answer carries the report's length"
unfoldable pub answer_of : List ℕ → List ℕ → ℕ → Answer
answer_of schedule book buffer = answer_by (check_of schedule book buffer) (length (report_of schedule book))

-- what an answer leaves in the lent buffer: what was to be written and then the buffer's own rest, or the buffer as it was
abbrev pub written_by : Answer → List ℕ → List ℕ → List ℕ
written_by (Ok length) bytes buffer = bytes ++ drop length buffer
written_by (Err why) bytes buffer = buffer

-- demand 3 of the bytes R, where there is a report
abbrev pub CutsOf : Answer → Fund → List ℕ → Type 0
CutsOf (Ok length) F R = LeastCuts F R
CutsOf (Err why) F R = Unit {0}

-- what the entry promises of its answer r and of the lent buffer, `before` it and `after`
pub record Answered (schedule book before after : List ℕ) (r : Answer) : Type 0 where
  pub answer : r ≡ answer_of schedule book (length before)
  pub bytes : after ≡ written_by r (report_of schedule book) before
  pub cuts : CutsOf r (fund_in schedule book) after
