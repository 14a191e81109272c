-- The exported promises from those of the functions behind them.
use Rattle.std.proofs.Common.{Ok, Err}
use mathlib.Core.List.{List, ◌++◌}
use mathlib.Core.Path.{◌≡◌, refl, ap, ◌∙◌}
use Prim.Native.Nat.{ℕ, ◌+◌, ◌*◌, ◌≤◌, ◌<◌}
use native.Mathlib.Omega.{arith}
use lib.ListN.{length, drop}
use borrow.Author.Tests.{le-leb, lt-leb}
use Rattle.wire.specs.Bytes.{placed}
use Rattle.words.specs.Words.{◌≤?◌}
use Rattle.refusal.specs.declared.Refusal.{Refusal}
use Rattle.refusal.specs.declared.Refusal.TheVariants.{ScheduleLength, ScheduleMark, ScheduleVersion, ScheduleRates, BookLength, BookMark, BookVersion, BookCounts, BookAmounts, Counterparty, Asset, Mitigant, MitigantCounts, ReinsuranceValues, StressedAssets, BufferShort, SpecialistEntry, ManyMitigants, CostRate, Questions, AnswersShort, Movement as NoMovement}
use Rattle.refusal.specs.Refusals.{number_of}
use Rattle.refusal.specs.Chain.{refuse◌unless◌, ◌and_then◌, answer_by, Answer, Checked}
use Rattle.refusal.specs.Laws.{then-first, then-rest, unless-fine}
use Rattle.book.specs.Records.{version as book_version, C}
use Rattle.book.specs.Book.{book_of}
use Rattle.book.specs.Check.{book_check}
use Rattle.book.specs.AcceptedLaws.{accepted}
use Rattle.conversion.specs.Conversion.{converted, first_check, narrow_check}
use Rattle.exposure.specs.Values.{fund_check}
use Rattle.schedule.specs.Check.{schedule_check}
use Rattle.schedule.specs.Schedule.{schedule_size, version as schedule_version, published, schedule_bytes}
use Rattle.schedule.specs.PublishedLaws.{published-length}
use Rattle.report.specs.Answer.{report_of, check_of, answer_of, written_by, Answered}
use Rattle.convert.specs.Convert.{book_converts, convert_answer, Converts}
use Rattle.bills.specs.Bills.{bills_size}
use Rattle.billing.specs.Billed.{bills_of, bill_check, bill_answer, Billed}
use Rattle.asking.specs.Questions.{answer_size, count_of, good_list}
use Rattle.questions.specs.Headroom.{answers_of, headroom_check, headroom_answer, Asked}
use Rattle.asking.proofs.Listed.{listed}
use Rattle.movement.specs.Movement.{book_in, Movement, resulting}
use Rattle.day.specs.Moving.{movement_answer, stood_by, Moved}
use Rattle.day.proofs.Shown.{checked-records, not-refused}
use Rattle.packing.specs.Packed.{packed}
use Rattle.packing.specs.Version.{library_version, number_read, schedule-read, book-read}
use Rattle.report.proofs.Most.{report-most}
use Rattle.promises.specs.Exported.{Apart, Reported, Converted, BillsWritten, Answers, MovementMade, Published, Versioned}

-- no refusal has the number 0
numbered : (why : Refusal) → 1 ≤ number_of why
numbered ScheduleLength = omega arith
numbered ScheduleMark = omega arith
numbered ScheduleVersion = omega arith
numbered ScheduleRates = omega arith
numbered BookLength = omega arith
numbered BookMark = omega arith
numbered BookVersion = omega arith
numbered BookCounts = omega arith
numbered BookAmounts = omega arith
numbered (Counterparty p) = omega arith
numbered (Asset p) = omega arith
numbered (Mitigant p) = omega arith
numbered MitigantCounts = omega arith
numbered ReinsuranceValues = omega arith
numbered StressedAssets = omega arith
numbered BufferShort = omega arith
numbered (SpecialistEntry p) = omega arith
numbered (ManyMitigants p) = omega arith
numbered CostRate = omega arith
numbered Questions = omega arith
numbered AnswersShort = omega arith
numbered NoMovement = omega arith

-- a report of a book that the checks let pass has at most 2,400 lines
few : (schedule book : List ℕ) → book_check book ≡ Ok tt → length (report_of schedule book) < 4294967296
few schedule book e = omega (arith, report-most schedule book e)

apart : (schedule book : List ℕ) (n : ℕ) → Apart (answer_of schedule book n) (packed (answer_of schedule book n))
unfolding answer_of check_of
apart schedule book n = by (check_of schedule book n) refl
  where
    by : (k : Checked) → check_of schedule book n ≡ k → Apart (answer_by k (length (report_of schedule book))) (packed (answer_by k (length (report_of schedule book))))
    by (Ok tt) e =
        few schedule book
        (then-first (book_check book) (fund_check (book_of book) and_then (refuse BufferShort unless length (report_of schedule book) ≤? n))
        (then-rest (schedule_check schedule) (book_check book and_then fund_check (book_of book) and_then (refuse BufferShort unless length (report_of schedule book) ≤? n)) e))
    by (Err why) e = omega (arith, numbered why)

pub reported : (schedule book before after : List ℕ) (a : Answer) (r : ℕ) → Answered schedule book before after a → r ≡ packed a → Reported schedule book before after r
reported schedule book before after a r w e =
    record {
      answer = e ∙ ap packed w.answer;
      apart = rw (e ∙ ap packed w.answer) (apart schedule book (length before));
      bytes = w.bytes ∙ ap (λ (x : Answer). written_by x (report_of schedule book) before) w.answer;
      cuts = rw w.answer at w.cuts;
    }

-- a book that the checks let pass has at most 63,240 bytes
book-few : (book : List ℕ) → book_check book ≡ Ok tt → length book < 4294967296
book-few book e = let a = accepted book e in omega (arith, a.size, a.counterparties, a.assets, a.mitigants)

convert-apart : (book : List ℕ) (n : ℕ) → Apart (convert_answer book n) (packed (convert_answer book n))
unfolding convert_answer book_converts
convert-apart book n = by (book_converts book and_then (refuse BufferShort unless length book ≤? n)) refl
  where
    by : (k : Checked) → (book_converts book and_then (refuse BufferShort unless length book ≤? n)) ≡ k → Apart (answer_by k (length book)) (packed (answer_by k (length book)))
    by (Ok tt) e =
        let own = then-first (book_converts book) (refuse BufferShort unless length book ≤? n) e in
        book-few book
        (then-first (book_check book) (fund_check (book_of book) and_then narrow_check book)
        (then-rest (first_check book) (book_check book and_then fund_check (book_of book) and_then narrow_check book) own))
    by (Err why) e = omega (arith, numbered why)

pub converts : (book before after : List ℕ) (a : Answer) (r : ℕ) → Converts book before after a → r ≡ packed a → Converted book before after r
converts book before after a r w e =
    record {
      answer = e ∙ ap packed w.answer;
      apart = rw (e ∙ ap packed w.answer) (convert-apart book (length before));
      bytes = w.bytes ∙ ap (λ (x : Answer). written_by x (converted book) before) w.answer;
      kept = rw w.answer at w.kept;
    }

-- bills are of 2,048 bytes
bills-apart : (schedule book : List ℕ) (rate n : ℕ) → Apart (bill_answer schedule book rate n) (packed (bill_answer schedule book rate n))
unfolding bill_answer
bills-apart schedule book rate n = by (bill_check schedule book rate n)
  where
    by : (k : Checked) → Apart (answer_by k bills_size) (packed (answer_by k bills_size))
    by (Ok _) = omega arith
    by (Err why) = omega (arith, numbered why)

pub bills-written : (schedule book : List ℕ) (rate : ℕ) (before after : List ℕ) (a : Answer) (r : ℕ) → Billed schedule book rate before after a → r ≡ packed a → BillsWritten schedule book rate before after r
bills-written schedule book rate before after a r w e =
    record {
      answer = e ∙ ap packed w.answer;
      apart = rw (e ∙ ap packed w.answer) (bills-apart schedule book rate (length before));
      bytes = w.bytes ∙ ap (λ (x : Answer). written_by x (bills_of schedule book rate) before) w.answer;
      sums = rw w.answer at w.sums;
    }

-- answers are of at most 1,600 bytes
answers-apart : (schedule book questions : List ℕ) (n : ℕ) → Apart (headroom_answer schedule book questions n) (packed (headroom_answer schedule book questions n))
unfolding headroom_answer headroom_check
answers-apart schedule book questions n = by (headroom_check schedule book questions n) refl
  where
    lists : Checked
    lists = refuse Questions unless good_list (C book) questions

    last : Checked
    last = refuse AnswersShort unless answer_size * count_of questions ≤? n

    by : (k : Checked) → headroom_check schedule book questions n ≡ k → Apart (answer_by k (answer_size * count_of questions)) (packed (answer_by k (answer_size * count_of questions)))
    by (Ok tt) e =
        let good =
        then-first lists last
        (then-rest (fund_check (book_of book)) (lists and_then last)
        (then-rest (book_check book) (fund_check (book_of book) and_then lists and_then last)
        (then-rest (schedule_check schedule) (book_check book and_then fund_check (book_of book) and_then lists and_then last) e))) in
        omega (arith, (listed (C book) questions (unless-fine Questions (good_list (C book) questions) good)).few)
    by (Err why) e = omega (arith, numbered why)

pub answered : (schedule book questions before after : List ℕ) (a : Answer) (r : ℕ) → Asked schedule book questions before after a → r ≡ packed a → Answers schedule book questions before after r
answered schedule book questions before after a r w e =
    record {
      answer = e ∙ ap packed w.answer;
      apart = rw (e ∙ ap packed w.answer) (answers-apart schedule book questions (length before));
      bytes = w.bytes ∙ ap (λ (x : Answer). written_by x (answers_of schedule book questions) before) w.answer;
      right = rw w.answer at w.right;
    }

-- so has the report of the book that a movement makes
movement-apart : (schedule : List ℕ) (m : Movement) (book : List ℕ) (n : ℕ) → Apart (movement_answer schedule m book n) (packed (movement_answer schedule m book n))
movement-apart schedule m book n = by (movement_answer schedule m book n) refl
  where
    by : (a : Answer) → movement_answer schedule m book n ≡ a → Apart a (packed a)
    by (Ok l) e =
        let w = not-refused schedule m book n e in
        let new = resulting (book_in book) m in
        omega (arith, w.size, few schedule new (checked-records new w.checked))
    by (Err why) e = omega (arith, numbered why)

pub movement-made :
    (schedule : List ℕ) (m : Movement) (book book' report report' : List ℕ) (a : Answer) (r : ℕ) → Moved schedule m book book' report report' a → r ≡ packed a
    → MovementMade schedule m book book' report report' r
movement-made schedule m book book' report report' a r w e =
    record {
      answer = e ∙ ap packed w.answer;
      apart = rw (e ∙ ap packed w.answer) (movement-apart schedule m book (length report));
      stands = w.stands ∙ ap (λ (x : Answer). stood_by x (resulting (book_in book) m) book) w.answer;
      bytes = w.bytes ∙ ap (λ (x : Answer). written_by x (report_of schedule (book_in book')) report) w.answer;
      cuts = rw w.answer at w.cuts;
    }

pub too_short : (before : List ℕ) → length before < schedule_size → Published before before 0
too_short before h = record { answer = rw (lt-leb schedule_size (length before) h) refl; bytes = rw (lt-leb schedule_size (length before) h) refl }

pub put : (before after : List ℕ) → schedule_size ≤ length before → after ≡ placed before 0 (schedule_bytes published) → Published before after schedule_size
put before after h e =
    let n : 0 + length (schedule_bytes published) ≡ schedule_size = omega (arith, published-length) in
    record {
      answer = rw (le-leb schedule_size (length before) h) refl;
      bytes = rw (le-leb schedule_size (length before) h) (e ∙ ap (λ (k : ℕ). schedule_bytes published ++ drop k before) n);
    }

pub versioned : (r : ℕ) → r ≡ library_version → Versioned r
versioned r e =
    record {
      answer = e;
      number = rw e number_read;
      schedules = λ s. rw e (schedule-read (schedule_version s));
      books = λ b. rw e (book-read (book_version b));
    }
