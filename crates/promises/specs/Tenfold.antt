-- C-15: a schedule of version 1, and the schedule of version 2 that has ten times its rates, get the same answers and the same bytes, whatever the book and
-- the buffer: same_answer, same-report, same-bill-answer, same-bills, same-headroom, same-answers, same-movement, same_left.
use Rattle.std.specs.Prelude.{List, ◌≡◌, ℕ, length}
use Rattle.std.proofs.Math.Path.{refl, ap}
use Rattle.figures.specs.Fund.{Fund}
use Rattle.bills.specs.Bills.{desk_excess, bill_bytes}
use Rattle.schedule.specs.CountLaws.{Tenfold, tenfold-counts, tenfold-check}
use Rattle.report.specs.Answer.{fund_in, report_of, check_of, answer_of}
use Rattle.billing.specs.Billed.{exposure_lines_in, excess_in, bills_of, bill_check, bill_answer}
use Rattle.questions.specs.Headroom.{answer_to, answers_of, headroom_check, headroom_answer}
use Rattle.movement.specs.Movement.{book_in, Movement, resulting}
use Rattle.day.specs.Moving.{movement_check, movement_answer}
use Rattle.day.specs.Day.{Buffers, after_one}

module _ {s s' : List ℕ} (t : Tenfold s s') (book : List ℕ) where
  same-fund : fund_in s' book ≡ fund_in s book
  unfolding fund_in
  same-fund = rw (tenfold-counts t) refl

  pub same-report : report_of s' book ≡ report_of s book
  unfolding report_of
  same-report = rw same-fund refl

  pub same_answer : (buffer : ℕ) → answer_of s' book buffer ≡ answer_of s book buffer
  unfolding answer_of check_of
  same_answer buffer = rw (tenfold-check t, same-report) refl

  pub same-bills : (rate : ℕ) → bills_of s' book rate ≡ bills_of s book rate
  unfolding bills_of excess_in
  same-bills rate = ap (λ (F : Fund). bill_bytes (λ d. desk_excess F (exposure_lines_in book) d) rate) same-fund

  pub same-bill-answer : (rate buffer : ℕ) → bill_answer s' book rate buffer ≡ bill_answer s book rate buffer
  unfolding bill_answer bill_check
  same-bill-answer rate buffer = rw (tenfold-check t) refl

  pub same-answers : (questions : List ℕ) → answers_of s' book questions ≡ answers_of s book questions
  unfolding answers_of answer_to
  same-answers questions = rw same-fund refl

  pub same-headroom : (questions : List ℕ) (buffer : ℕ) → headroom_answer s' book questions buffer ≡ headroom_answer s book questions buffer
  unfolding headroom_answer headroom_check
  same-headroom questions buffer = rw (tenfold-check t) refl

module _ {s s' : List ℕ} (t : Tenfold s s') where
  pub same-movement : (m : Movement) (book : List ℕ) (room : ℕ) → movement_answer s' m book room ≡ movement_answer s m book room
  unfolding movement_answer movement_check
  same-movement m book room = rw (tenfold-check t, same-report t (resulting (book_in book) m)) refl

  -- what a movement leaves in both buffers
  pub same_left : (d : Buffers) (m : Movement) → after_one s' d m ≡ after_one s d m
  same_left d m = rw (same-movement m d.book (length d.report), same-report t (book_in (after_one s d m).book)) refl
