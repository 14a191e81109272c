-- What a movement that was not refused shows.
--   checked-records checks-accepted   a book that its checks let pass is accepted
--   not-refused book-after            what the checks of a movement say where they found nothing, and the book that then stands
--   fresh                             the report that was written is that of the book which then stands
use Rattle.std.proofs.Common.{Ok, Err}
use mathlib.Core.Bool.{true, ◌&&◌}
use mathlib.Core.List.{List, ◌++◌}
use mathlib.Core.Path.{◌≡◌, refl, sym, ap, ◌∙◌}
use Prim.Native.Nat.{ℕ, ◌≤◌}
use native.Mathlib.Omega.{arith}
use lib.ListN.{length, drop}
use borrow.Author.Tests.{leb-true}
use Rattle.words.specs.Words.{◌≤?◌}
use Rattle.words.specs.Choice.{both}
use Rattle.refusal.specs.declared.Refusal.TheVariants.{BufferShort, Movement as absent}
use Rattle.refusal.specs.Chain.{refuse◌unless◌, ◌and_then◌, answer_by, Answer, Checked}
use Rattle.refusal.specs.Laws.{then-first, then-rest, unless-fine}
use Rattle.schedule.specs.Check.{schedule_check}
use Rattle.book.specs.Book.{book_of}
use Rattle.book.specs.Check.{book_check}
use Rattle.book.specs.Accepted.{Accepted}
use Rattle.book.specs.AcceptedLaws.{accepted}
use Rattle.exposure.specs.Values.{fund_check}
use Rattle.book_checks.specs.Checks.{book_checks}
use Rattle.report.specs.Answer.{fund_in, report_of, written_by, CutsOf}
use Rattle.movement.specs.Movement.{book_in, Movement, resulting, possible}
use Rattle.movement.proofs.Steps.{book-first}
use Rattle.day.specs.Moving.{movement_check, movement_answer, stood_by}

-- an answer that is no refusal comes of checks that found nothing
fine_of : (c : Checked) (n : ℕ) {l : ℕ} → answer_by c n ≡ Ok l → (c ≡ Ok tt) × (l ≡ n)
fine_of (Ok _) n e = (refl, cc)
fine_of (Err why) n e = absurd (let z : ◌≡◌ {A = ℕ} 0 1 = cc in omega arith)

pub checked-records : (b : List ℕ) → book_checks b ≡ Ok tt → book_check b ≡ Ok tt
unfolding book_checks
checked-records b e = then-first (book_check b) (fund_check (book_of b)) e

pub checks-accepted : (b : List ℕ) → book_checks b ≡ Ok tt → Accepted b
checks-accepted b e = accepted b (checked-records b e)

module _ (schedule : List ℕ) (m : Movement) (buffer : List ℕ) where
  abbrev new : List ℕ
  new = resulting (book_in buffer) m

  pub record Shown (room l : ℕ) : Type 0 where
    pub schedule-fine : schedule_check schedule ≡ Ok tt
    pub stands : Accepted (book_in buffer)
    pub can : possible (book_in buffer) m ≡ true
    pub checked : book_checks new ≡ Ok tt
    pub book-room : length new ≤ length buffer
    pub report-room : length (report_of schedule new) ≤ room
    pub size : l ≡ length (report_of schedule new)

  pub not-refused : (room : ℕ) {l : ℕ} → movement_answer schedule m buffer room ≡ Ok l → Shown room l
  unfolding movement_answer movement_check
  not-refused room e =
      let b = book_in buffer in
      let tests = length new ≤? length buffer && length (report_of schedule new) ≤? room in
      let c4 = refuse BufferShort unless tests in
      let c3 = book_checks new and_then c4 in
      let c2 = (refuse absent unless possible b m) and_then c3 in
      let f = fine_of (movement_check schedule m buffer room) (length (report_of schedule new)) e in
      let f1 = then-rest (schedule_check schedule) (book_checks b and_then c2) f.0 in
      let f2 = then-rest (book_checks b) c2 f1 in
      let f3 = then-rest (refuse absent unless possible b m) c3 f2 in
      let fits = both (length new ≤? length buffer) (length (report_of schedule new) ≤? room) (unless-fine BufferShort tests (then-rest (book_checks new) c4 f3)) in
      record {
        schedule-fine = then-first (schedule_check schedule) (book_checks b and_then c2) f.0;
        stands = checks-accepted b (then-first (book_checks b) c2 f1);
        can = unless-fine absent (possible b m) (then-first (refuse absent unless possible b m) c3 f2);
        checked = then-first (book_checks new) c4 f3;
        book-room = leb-true (length new) (length buffer) fits.0;
        report-room = leb-true (length (report_of schedule new)) room fits.1;
        size = f.1;
      }

  -- the book that stands after a movement that was not refused
  pub book-after : {room l : ℕ} → Shown room l → book_in (new ++ drop (length new) buffer) ≡ new
  book-after w = book-first new (checks-accepted new w.checked) (drop (length new) buffer)

  pub fresh :
      (report : List ℕ) {buffer' report' : List ℕ} (r : Answer) → r ≡ movement_answer schedule m buffer (length report) → buffer' ≡ stood_by r new buffer
      → report' ≡ written_by r (report_of schedule new) report → CutsOf r (fund_in schedule new) report'
      → (report' ≡ written_by r (report_of schedule (book_in buffer')) report) × CutsOf r (fund_in schedule (book_in buffer')) report'
  fresh report {buffer'} (Ok l) e s p c = let q : book_in buffer' ≡ new = ap book_in s ∙ book-after (not-refused (length report) (sym e)) in rw q (p, c)
  fresh report (Err why) e s p c = (p, tt)
