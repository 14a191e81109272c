-- What the exported entries promise.
--   Apart          the number tells what was written from a refusal
--   Reported       of weightrose_report
--   Converted      of weightrose_convert
--   BillsWritten   of weightrose_bills
--   Answers        of weightrose_headroom
--   MovementMade   of weightrose_add and weightrose_remove
--   Published      of weightrose_published
--   Versioned      of weightrose_version
use Rattle.refusal.specs.Chain.{Answer}
use Rattle.std.specs.Prelude.{List, ◌++◌, ◌≡◌, ℕ, ◌≤◌, ◌<◌, length, drop, if◌then◌else◌, Ok, Err}
use Rattle.words.specs.Words.{◌≤?◌}
use Rattle.wire.specs.Bytes.{bit}
use Rattle.schedule.specs.Schedule.{schedule_size, version as schedule_version, published, schedule_bytes}
use Rattle.schedule.specs.Check.{known}
use Rattle.book.specs.Records.{version as book_version}
use Rattle.book.specs.Check.{version_known}
use Rattle.conversion.specs.Conversion.{converted}
use Rattle.convert.specs.Convert.{convert_answer, KeptBy}
use Rattle.report.specs.Answer.{fund_in, report_of, answer_of, written_by, CutsOf}
use Rattle.billing.specs.Billed.{bills_of, bill_answer, AddUpBy}
use Rattle.questions.specs.Headroom.{answers_of, headroom_answer, RightBy}
use Rattle.movement.specs.Movement.{book_in, Movement, resulting}
use Rattle.day.specs.Moving.{movement_answer, stood_by}
use Rattle.packing.specs.Packed.{packed}
use Rattle.packing.specs.Version.{version_number, library_version, number_in, schedules_in, books_in}

-- the number tells the two apart: below 2^32 it is a length, from there on a refusal
abbrev pub Apart : Answer → ℕ → Type 0
Apart (Ok length) r = r < 4294967296
Apart (Err why) r = 4294967296 ≤ r

-- the number r, and the lent bytes `before` and `after`: demands 1 and 2 by the first two parts, demand 3 by the last
pub record Reported (schedule book before after : List ℕ) (r : ℕ) : Type 0 where
  pub answer : r ≡ packed (answer_of schedule book (length before))
  pub apart : Apart (answer_of schedule book (length before)) r
  pub bytes : after ≡ written_by (answer_of schedule book (length before)) (report_of schedule book) before
  pub cuts : CutsOf (answer_of schedule book (length before)) (fund_in schedule book) after

-- C-13: the number r, and the lent bytes `before` and `after`; "nothing is lost" by the last part
pub record Converted (book before after : List ℕ) (r : ℕ) : Type 0 where
  pub answer : r ≡ packed (convert_answer book (length before))
  pub apart : Apart (convert_answer book (length before)) r
  pub bytes : after ≡ written_by (convert_answer book (length before)) (converted book) before
  pub kept : KeptBy (convert_answer book (length before)) book after

-- C-14: the number r, and the lent bytes `before` and `after`; "must add up" by the last part
pub record BillsWritten (schedule book : List ℕ) (rate : ℕ) (before after : List ℕ) (r : ℕ) : Type 0 where
  pub answer : r ≡ packed (bill_answer schedule book rate (length before))
  pub apart : Apart (bill_answer schedule book rate (length before)) r
  pub bytes : after ≡ written_by (bill_answer schedule book rate (length before)) (bills_of schedule book rate) before
  pub sums : AddUpBy (bill_answer schedule book rate (length before)) schedule book rate after

-- C-16: the number r, and the lent bytes `before` and `after`; each answer is the greatest amount, and the same when sent singly, by the last part
pub record Answers (schedule book questions before after : List ℕ) (r : ℕ) : Type 0 where
  pub answer : r ≡ packed (headroom_answer schedule book questions (length before))
  pub apart : Apart (headroom_answer schedule book questions (length before)) r
  pub bytes : after ≡ written_by (headroom_answer schedule book questions (length before)) (answers_of schedule book questions) before
  pub right : RightBy (headroom_answer schedule book questions (length before)) schedule book questions after

-- C-19: the number r, and both lent buffers before and after; what was written is the report of the book which then stands, demand 3 with it
pub record MovementMade (schedule : List ℕ) (m : Movement) (book book' report report' : List ℕ) (r : ℕ) : Type 0 where
  pub answer : r ≡ packed (movement_answer schedule m book (length report))
  pub apart : Apart (movement_answer schedule m book (length report)) r
  pub stands : book' ≡ stood_by (movement_answer schedule m book (length report)) (resulting (book_in book) m) book
  pub bytes : report' ≡ written_by (movement_answer schedule m book (length report)) (report_of schedule (book_in book')) report
  pub cuts : CutsOf (movement_answer schedule m book (length report)) (fund_in schedule (book_in book')) report'

-- "The published schedule (A1 to A3) is a constant of the product": its bytes where they fit
pub record Published (before after : List ℕ) (r : ℕ) : Type 0 where
  pub answer : r ≡ (if schedule_size ≤? length before then schedule_size else 0)
  pub bytes : after ≡ (if schedule_size ≤? length before then schedule_bytes published ++ drop schedule_size before else before)

-- the number r, and what a host reads in it: the version, and by a bit whether refusal 3 or 7 lets a schedule's or a book's version pass
pub record Versioned (r : ℕ) : Type 0 where
  pub answer : r ≡ library_version
  pub number : number_in r ≡ version_number
  pub schedules : (s : List ℕ) → known (schedule_version s) ≡ bit (schedule_version s) (schedules_in r)
  pub books : (b : List ℕ) → version_known b ≡ bit (book_version b) (books_in r)
