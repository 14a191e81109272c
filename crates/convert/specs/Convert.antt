-- C-13's entry: the answer to a book of version 1 and a lent buffer, and what stands in the buffer afterwards.
--   book_converts    the checks of the book: 5, 6, its own 7, 8 to 13, 17, 14, 15, 18
--   convert_answer   the converted book's length, or a refusal, 16 among them
--   Kept            "nothing is lost"
--   Converts        all that the entry promises
use Rattle.std.specs.Prelude.{List, ◌≡◌, ℕ, length, take, Ok, Err}
use Rattle.words.specs.Words.{◌≤?◌}
use Rattle.refusal.specs.declared.Refusal.TheVariants.{BufferShort}
use Rattle.refusal.specs.Chain.{refuse◌unless◌, ◌and_then◌, answer_by, Answer, Checked}
use Rattle.book.specs.Book.{book_of}
use Rattle.book.specs.Check.{book_check}
use Rattle.conversion.specs.Conversion.{converted, rebuilt, first_check, narrow_check}
use Rattle.exposure.specs.Values.{fund_check}
use Rattle.report.specs.Answer.{report_of, answer_of, written_by}

-- "The converter takes only version 1, any other is its refusal 7; 5 to 15 keep their order"; 18 "between 15 and 16".
-- What `first_check` lets pass, 5 to 7 of `book_check` let pass too: 8 to 13 and 17 are left of it.
unfoldable pub book_converts : List ℕ → Checked
book_converts b = first_check b and_then book_check b and_then fund_check (book_of b) and_then narrow_check b

-- "16 compares the output with the book's length"
unfoldable pub convert_answer : List ℕ → ℕ → Answer
convert_answer b buffer = answer_by (book_converts b and_then (refuse BufferShort unless length b ≤? buffer)) (length b)

-- "nothing is lost: both books get the same report, and the old one can be rebuilt from the new", whatever the schedule and the buffer lent for the report
pub record Kept (old new : List ℕ) : Type 0 where
  pub accepted : book_check new ≡ Ok tt
  pub passes : fund_check (book_of new) ≡ Ok tt
  pub answers : (schedule lent : List ℕ) → answer_of schedule new (length lent) ≡ answer_of schedule old (length lent)
  pub reports : (schedule lent : List ℕ) → written_by (answer_of schedule new (length lent)) (report_of schedule new) lent ≡ written_by (answer_of schedule old (length lent)) (report_of schedule old) lent
  pub back : rebuilt new ≡ old

-- of the bytes written, where there are any
abbrev pub KeptBy : Answer → List ℕ → List ℕ → Type 0
KeptBy (Ok length) old after = Kept old (take length after)
KeptBy (Err why) old after = Unit {0}

-- what the entry promises of its answer r and of the lent buffer, `before` it and `after`
pub record Converts (book before after : List ℕ) (r : Answer) : Type 0 where
  pub answer : r ≡ convert_answer book (length before)
  pub bytes : after ≡ written_by r (converted book) before
  pub kept : KeptBy r book after
