-- C-13 with C-14 and C-16: a book of version 1 and the one that it converts to get the same bills and the same answers to any questions, whatever the
-- schedule, the rate and the buffer: same-bill-answer, same-bills, same-headroom, same-answers.
use mathlib.Core.List.{List}
use mathlib.Core.Path.{◌≡◌, refl, ap}
use Prim.Native.Nat.{ℕ}
use Rattle.book.specs.Records.{C, counterparty_at}
use Rattle.book.specs.Book.{Book, book_of}
use Rattle.conversion.specs.Conversion.{converted, Narrow}
use Rattle.conversion.proofs.Converted.{converted-book, converted-check}
use Rattle.fund.specs.Figures.{fund_of}
use Rattle.bills.specs.Bills.{desk_excess, bill_bytes}
use Rattle.schedule.specs.Schedule.{schedule_of}
use Rattle.report.specs.Answer.{fund_in}
use Rattle.desks.specs.BookLines.{book_lines}
use Rattle.billing.specs.Billed.{excess_in, bills_of, bill_check, bill_answer}
use Rattle.questions.specs.Headroom.{answer_to, answers_of, headroom_check, headroom_answer}

module _ (b : List ℕ) (n : Narrow b) (schedule : List ℕ) where
  same-counterparties : counterparty_at (converted b) ≡ counterparty_at b
  unfolding book_of
  same-counterparties = ap (λ (B : Book). B.counterparty) (converted-book b n)

  same_count : C (converted b) ≡ C b
  unfolding book_of
  same_count = ap (λ (B : Book). B.counterparties) (converted-book b n)

  -- an asset of version 1 is at desk 0, and so is the one that it converts to: the lines are the same, with their desks
  pub same-bills : (rate : ℕ) → bills_of schedule (converted b) rate ≡ bills_of schedule b rate
  unfolding bills_of excess_in fund_in
  same-bills rate = ap (λ (B : Book). bill_bytes (λ d. desk_excess (fund_of (schedule_of schedule) B) (book_lines B) d) rate) (converted-book b n)

  pub same-bill-answer : (rate buffer : ℕ) → bill_answer schedule (converted b) rate buffer ≡ bill_answer schedule b rate buffer
  unfolding bill_answer bill_check
  same-bill-answer rate buffer = rw (converted-check b n, converted-book b n) refl

  pub same-answers : (questions : List ℕ) → answers_of schedule (converted b) questions ≡ answers_of schedule b questions
  unfolding answers_of answer_to fund_in
  same-answers questions = rw (converted-book b n, same-counterparties) refl

  pub same-headroom : (questions : List ℕ) (buffer : ℕ) → headroom_answer schedule (converted b) questions buffer ≡ headroom_answer schedule b questions buffer
  unfolding headroom_answer headroom_check
  same-headroom questions buffer = rw (converted-check b n, converted-book b n, same_count) refl
