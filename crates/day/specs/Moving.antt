-- C-19: the answer to a movement, and what stands in both lent buffers afterwards.
--   movement_check        the checks of a movement, in their order
--   movement_answer       the report's length, or a refusal
--   stood_by              what an answer leaves in the book's buffer
--   Moved                all that an entry promises, demand 3 with it
--   refused_behind        a refusal behind the checks before it
--   new_answer Replaced   the same as Moved of the book that a movement makes
use Rattle.std.specs.Prelude.{◌&&◌, List, ◌++◌, ◌≡◌, ℕ, length, drop, Ok, Err}
use Rattle.words.specs.Words.{◌≤?◌}
use Rattle.refusal.specs.declared.Refusal.{Refusal}
use Rattle.refusal.specs.declared.Refusal.TheVariants.{BufferShort, Movement as absent}
use Rattle.refusal.specs.Chain.{refuse◌unless◌, ◌and_then◌, answer_by, Answer, Checked}
use Rattle.schedule.specs.Check.{schedule_check}
use Rattle.book_checks.specs.Checks.{book_checks}
use Rattle.report.specs.Answer.{fund_in, report_of, written_by, CutsOf}
use Rattle.movement.specs.Movement.{book_in, Movement, resulting, possible}

-- "After 1 to 15 on the book as it stands, a movement whose resulting book would be refused is refused by that book's number and place (16 where either
-- buffer is short)"; 22 "before any other check of that movement"
unfoldable pub movement_check : List ℕ → Movement → List ℕ → ℕ → Checked
movement_check schedule m buffer room =
    let b = book_in buffer in
    let new = resulting b m in
    schedule_check schedule
    and_then book_checks b
    and_then (refuse absent unless possible b m)
    and_then book_checks new
    and_then (refuse BufferShort unless length new ≤? length buffer && length (report_of schedule new) ≤? room)

-- the answer to a movement of the book in a buffer, with so many bytes lent for the report
unfoldable pub movement_answer : List ℕ → Movement → List ℕ → ℕ → Answer
movement_answer schedule m buffer room = answer_by (movement_check schedule m buffer room) (length (report_of schedule (resulting (book_in buffer) m)))

-- what an answer leaves in the book's buffer: the new book, "and bytes past the new end stay"; or, refused, "changes nothing"
abbrev pub stood_by : Answer → List ℕ → List ℕ → List ℕ
stood_by (Ok bytes) new buffer = new ++ drop (length new) buffer
stood_by (Err why) new buffer = buffer

-- what an entry promises of its answer r, of the book's buffer and of the report's, before it and after: the report is that of the book which then stands
pub record Moved (schedule : List ℕ) (m : Movement) (book book' report report' : List ℕ) (r : Answer) : Type 0 where
  pub answer : r ≡ movement_answer schedule m book (length report)
  pub stands : book' ≡ stood_by r (resulting (book_in book) m) book
  pub bytes : report' ≡ written_by r (report_of schedule (book_in book')) report
  pub cuts : CutsOf r (fund_in schedule (book_in book')) report'

-- a refusal behind what checks before it found: the first refusal is the answer
abbrev pub refused_behind : Checked → Refusal → Answer
refused_behind found why = answer_by (found and_then Err why) 0

-- what is promised of a book that is to take the place of the one in the buffer, whatever made it
unfoldable pub new_answer : List ℕ → List ℕ → ℕ → ℕ → Answer
new_answer schedule new buffer room =
    answer_by (schedule_check schedule and_then book_checks new and_then (refuse BufferShort unless length new ≤? buffer && length (report_of schedule new) ≤? room)) (length (report_of schedule new))

pub record Replaced (schedule new book book' report report' : List ℕ) (r : Answer) : Type 0 where
  pub answer : r ≡ new_answer schedule new (length book) (length report)
  pub stands : book' ≡ stood_by r new book
  pub bytes : report' ≡ written_by r (report_of schedule new) report
  pub cuts : CutsOf r (fund_in schedule new) report'
