-- The answers, section by section of the checks.
--   short-new refused-new written_new     the book that a movement makes: a buffer that is too short for it, a refusal, a report
--   bad absent-one done                   a movement: refused for the book as it stands, for what it is, or as the book that it makes is
use Rattle.std.proofs.Common.{Ok, Err}
use mathlib.Core.Bool.{true, false}
use mathlib.Core.List.{List, [], ◌∷◌, ◌++◌}
use mathlib.Core.Path.{◌≡◌, refl, sym, ap, ◌∙◌}
use Prim.Native.Nat.{ℕ, ◌≤◌, ◌<◌}
use native.Mathlib.Omega.{arith}
use lib.ListN.{length, drop}
use borrow.Author.Tests.{le-leb, lt-leb}
use Rattle.words.specs.Words.{◌≤?◌}
use Rattle.refusal.specs.declared.Refusal.{Refusal}
use Rattle.refusal.specs.declared.Refusal.TheVariants.{BufferShort, Movement as absent}
use Rattle.refusal.specs.Chain.{refuse◌unless◌, ◌and_then◌, answer_by, Answer, Checked}
use Rattle.schedule.specs.Check.{schedule_check}
use Rattle.book.specs.Book.{book_of}
use Rattle.book.specs.Check.{book_check}
use Rattle.exposure.specs.Values.{fund_check}
use Rattle.figures.proofs.Size.{report-long}
use Rattle.book_checks.specs.Checks.{book_checks}
use Rattle.report.specs.Answer.{fund_in, report_of, check_of, answer_of, written_by, CutsOf, Answered}
use Rattle.movement.specs.Movement.{book_in, Movement, resulting, possible}
use Rattle.day.specs.Moving.{movement_check, movement_answer, stood_by, Moved, refused_behind, new_answer, Replaced}
use Rattle.day.proofs.Shown.{fresh}

-- one section after two others
then-assoc : (a b c : Checked) → ((a and_then b) and_then c) ≡ (a and_then b and_then c)
then-assoc (Ok _) b c = refl
then-assoc (Err why) b c = refl

-- ---- the book that a movement makes
module _ (schedule new book report : List ℕ) where
  -- a report has a header
  longer : 0 < length (report_of schedule new)
  unfolding report_of
  longer = omega (arith, report-long (fund_in schedule new))

  -- refused, whatever the checks before it find
  ends : (c : Checked) (why : Refusal) (n : ℕ) {r : Answer} → r ≡ answer_by (c and_then Err why) n
      → (book ≡ stood_by r new book) × (report ≡ written_by r (report_of schedule new) report) × CutsOf r (fund_in schedule new) report
  ends (Ok _) why n e = rw e (refl, refl, tt)
  ends (Err w) why n e = rw e (refl, refl, tt)

  -- `after` is what the report left of no bytes
  pub short-new : {after : List ℕ} {r : Answer} → length book < length new → length after ≡ 0 → Answered schedule new [] after r → Replaced schedule new book book report (after ++ report) r
  unfolding new_answer answer_of check_of book_checks
  short-new {after} {r} l empty a =
      let n = length (report_of schedule new) in
      let c = schedule_check schedule and_then book_check new and_then fund_check (book_of new) in
      let none : (n ≤? 0) ≡ false = lt-leb n 0 longer in
      let q : r ≡ answer_by (schedule_check schedule and_then book_check new and_then fund_check (book_of new) and_then Err BufferShort) n = rw none at a.answer in
      let z = ends c BufferShort n (q ∙ ap (λ (x : Checked). answer_by x n) (sym (three (schedule_check schedule) (book_check new) (fund_check (book_of new)) (Err BufferShort)))) in
      let same : after ++ report ≡ report = ap (λ (x : List ℕ). x ++ report) (none_left after empty) in
      record {
        answer = rw (lt-leb (length new) (length book) l, then-assoc (book_check new) (fund_check (book_of new)) (Err BufferShort)) q;
        stands = z.0;
        bytes = same ∙ z.1;
        cuts = rw same z.2;
      }
    where
      none_left : (l : List ℕ) → length l ≡ 0 → l ≡ []
      none_left [] e = refl
      none_left (x ∷ xs) e = absurd (omega arith)

      three : (a b c d : Checked) → ((a and_then b and_then c) and_then d) ≡ (a and_then b and_then c and_then d)
      three (Ok _) (Ok _) c d = refl
      three (Ok _) (Err why) c d = refl
      three (Err why) b c d = refl

  -- where the buffer has room, the answer is the report's
  same_answer : length new ≤ length book → answer_of schedule new (length report) ≡ new_answer schedule new (length book) (length report)
  unfolding new_answer answer_of check_of book_checks
  same_answer l = rw (le-leb (length new) (length book) l, then-assoc (book_check new) (fund_check (book_of new)) (refuse BufferShort unless length (report_of schedule new) ≤? length report))

  pub refused-new : {after : List ℕ} {r : Answer} {why : Refusal} → length new ≤ length book → Answered schedule new report after r → r ≡ Err why → Replaced schedule new book book report after (Err why)
  refused-new l a e = record { answer = sym e ∙ a.answer ∙ same_answer l; stands = refl; bytes = rw e at a.bytes; cuts = tt }

  pub written_new : {after book' : List ℕ} {r : Answer} {n : ℕ} → length new ≤ length book → Answered schedule new report after r → r ≡ Ok n → book' ≡ new ++ drop (length new) book → Replaced schedule new book book' report after (Ok n)
  written_new l a e p = record { answer = sym e ∙ a.answer ∙ same_answer l; stands = p; bytes = rw e at a.bytes; cuts = rw e at a.cuts }

-- ---- a movement, refused behind the schedule's own refusals or as the book that it makes is
module _ (schedule : List ℕ) (m : Movement) (book report : List ℕ) where
  abbrev behind_schedule : Refusal → Answer
  behind_schedule why = refused_behind (schedule_check schedule) why

  refused : {r : Answer} (why : Refusal) → r ≡ behind_schedule why → r ≡ movement_answer schedule m book (length report) → Moved schedule m book book report report r
  refused why e a = let z = ends schedule (book_in book) book report (schedule_check schedule) why 0 e in record { answer = a; stands = stays (schedule_check schedule) e; bytes = z.1; cuts = z.2 }
    where
      stays : {r : Answer} (c : Checked) → r ≡ refused_behind c why → book ≡ stood_by r (resulting (book_in book) m) book
      stays (Ok _) q = rw q refl
      stays (Err w) q = rw q refl

  -- how long the report would be does not matter to a refusal
  any-length : (c : Checked) (why : Refusal) (n : ℕ) → refused_behind c why ≡ answer_by (c and_then Err why) n
  any-length (Ok _) why n = refl
  any-length (Err w) why n = refl

  pub bad : {r : Answer} {why : Refusal} → book_checks (book_in book) ≡ Err why → r ≡ behind_schedule why → Moved schedule m book book report report r
  unfolding movement_answer movement_check
  bad {why = why} e q = refused why q (q ∙ any-length (schedule_check schedule) why (length (report_of schedule (resulting (book_in book) m))) ∙ rw e)

  module _ (e : book_checks (book_in book) ≡ Ok tt) where
    pub absent-one : {r : Answer} → possible (book_in book) m ≡ false → r ≡ behind_schedule absent → Moved schedule m book book report report r
    unfolding movement_answer movement_check
    absent-one p q = refused absent q (q ∙ any-length (schedule_check schedule) absent (length (report_of schedule (resulting (book_in book) m))) ∙ rw (e, p))

    pub done : {book' report' : List ℕ} {r : Answer} → possible (book_in book) m ≡ true → Replaced schedule (resulting (book_in book) m) book book' report report' r → Moved schedule m book book' report report' r
    unfolding movement_answer movement_check new_answer
    done {r = r} p v =
        let a : r ≡ movement_answer schedule m book (length report) = v.answer ∙ rw (e, p) in
        let z = fresh schedule m book report r a v.stands v.bytes v.cuts in
        record { answer = a; stands = v.stands; bytes = z.0; cuts = z.1 }
