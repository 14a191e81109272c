-- The answer: what is refused changes no byte; 16, and what passes all checks.
use Rattle.std.proofs.Common.{Ok, Err}
use mathlib.Core.List.{List}
use mathlib.Core.Path.{◌≡◌, refl}
use Prim.Native.Nat.{ℕ, ◌≤◌, ◌<◌}
use lib.ListN.{length}
use borrow.Author.Tests.{le-leb, lt-leb}
use Rattle.refusal.specs.declared.Refusal.{Refusal}
use Rattle.refusal.specs.declared.Refusal.TheVariants.{BufferShort}
use Rattle.book.specs.Book.{book_of}
use Rattle.exposure.specs.Values.{fund_check}
use Rattle.report.specs.Answer.{report_of, check_of, answer_of, Answered}
use Rattle.fund.specs.Fund.{Passed}

module _ (schedule book before : List ℕ) where
  pub refused : {why : Refusal} → check_of schedule book (length before) ≡ Err why → Answered schedule book before before (Err why)
  unfolding answer_of
  refused e = record { answer = rw e refl; bytes = refl; cuts = tt }

  module _ (p : Passed schedule book) (f : fund_check (book_of book) ≡ Ok tt) where
    pub short : length before < length (report_of schedule book) → Answered schedule book before before (Err BufferShort)
    unfolding check_of
    short l = refused (rw (p.of-schedule, p.of-book, f, lt-leb (length (report_of schedule book)) (length before) l) refl)

    pub fine : length (report_of schedule book) ≤ length before → Ok (length (report_of schedule book)) ≡ answer_of schedule book (length before)
    unfolding check_of answer_of
    fine l = rw (p.of-schedule, p.of-book, f, le-leb (length (report_of schedule book)) (length before) l) refl
