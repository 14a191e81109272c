-- The answer: what is refused changes no byte; 20, 21, and what passes all checks.
use Rattle.std.proofs.Common.{Ok, Err}
use mathlib.Core.Bool.{true, false}
use mathlib.Core.List.{List}
use mathlib.Core.Path.{◌≡◌, refl}
use Prim.Native.Nat.{ℕ, ◌*◌, ◌≤◌, ◌<◌}
use lib.ListN.{length}
use borrow.Author.Tests.{le-leb, lt-leb}
use Rattle.refusal.specs.declared.Refusal.{Refusal}
use Rattle.refusal.specs.declared.Refusal.TheVariants.{Questions, AnswersShort}
use Rattle.book.specs.Records.{C}
use Rattle.book.specs.Book.{book_of}
use Rattle.exposure.specs.Values.{fund_check}
use Rattle.fund.specs.Fund.{Passed}
use Rattle.asking.specs.Questions.{answer_size, count_of, good_list}
use Rattle.questions.specs.Headroom.{headroom_check, headroom_answer, Asked}

module _ (schedule book questions : List ℕ) where
  pub refused : (before : List ℕ) {why : Refusal} → headroom_check schedule book questions (length before) ≡ Err why → Asked schedule book questions before before (Err why)
  unfolding headroom_answer
  refused before e = record { answer = rw e refl; bytes = refl; right = tt }

  module _ (p : Passed schedule book) (f : fund_check (book_of book) ≡ Ok tt) where
    pub bad-list : (before : List ℕ) → good_list (C book) questions ≡ false → Asked schedule book questions before before (Err Questions)
    unfolding headroom_check
    bad-list before e = refused before (rw (p.of-schedule, p.of-book, f, e) refl)

    pub short : (before : List ℕ) → good_list (C book) questions ≡ true → length before < answer_size * count_of questions → Asked schedule book questions before before (Err AnswersShort)
    unfolding headroom_check
    short before e l = refused before (rw (p.of-schedule, p.of-book, f, e, lt-leb (answer_size * count_of questions) (length before) l) refl)

    pub fine : (buffer : ℕ) → good_list (C book) questions ≡ true → answer_size * count_of questions ≤ buffer → Ok (answer_size * count_of questions) ≡ headroom_answer schedule book questions buffer
    unfolding headroom_check headroom_answer
    fine buffer e l = rw (p.of-schedule, p.of-book, f, e, le-leb (answer_size * count_of questions) buffer l) refl
