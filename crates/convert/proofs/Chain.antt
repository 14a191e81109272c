-- The answer, section by section of the checks: what is refused changes no byte; what is converted keeps everything.
use Rattle.std.proofs.Common.{Ok, Err}
use mathlib.Core.List.{List, ◌++◌}
use mathlib.Core.Path.{◌≡◌, refl, sym, ap, ◌∙◌}
use Prim.Native.Nat.{ℕ, ◌≤◌, ◌<◌}
use lib.ListN.{length, take, drop}
use lib.Seq.{take-append_seam}
use borrow.Author.Tests.{le-leb, lt-leb}
use Rattle.refusal.specs.declared.Refusal.{Refusal}
use Rattle.refusal.specs.declared.Refusal.TheVariants.{BufferShort}
use Rattle.refusal.specs.Chain.{◌and_then◌}
use Rattle.refusal.specs.Laws.{then-first, then-rest}
use Rattle.book.specs.Book.{book_of}
use Rattle.book.specs.Check.{book_check}
use Rattle.conversion.specs.Conversion.{converted, first_check, narrow_check, Narrow}
use Rattle.conversion.proofs.Converted.{narrow, converted-long, converted-book, converted-check, rebuilt-is}
use Rattle.exposure.specs.Values.{fund_check}
use Rattle.report.specs.Answer.{fund_in, report_of, check_of, answer_of}
use Rattle.convert.specs.Convert.{book_converts, convert_answer, Kept, Converts}

-- ---- the checks of the book
module _ (b : List ℕ) where
  pub bad-first : {why : Refusal} → first_check b ≡ Err why → Err why ≡ book_converts b
  unfolding book_converts
  bad-first e = rw e

  pub bad-book : {why : Refusal} → first_check b ≡ Ok tt → book_check b ≡ Err why → Err why ≡ book_converts b
  unfolding book_converts
  bad-book e f = rw (e, f)

  pub of-both : first_check b ≡ Ok tt → book_check b ≡ Ok tt → (fund_check (book_of b) and_then narrow_check b) ≡ book_converts b
  unfolding book_converts
  of-both e f = rw (e, f)

-- ---- the answer
module _ (b before : List ℕ) where
  refused : {why : Refusal} → Err why ≡ convert_answer b (length before) → Converts b before before (Err why)
  refused e = record { answer = e; bytes = refl; kept = tt }

  pub bad : {why : Refusal} → book_converts b ≡ Err why → Converts b before before (Err why)
  unfolding convert_answer
  bad e = refused (rw e refl)

  pub short : book_converts b ≡ Ok tt → length before < length b → Converts b before before (Err BufferShort)
  unfolding convert_answer
  short e l = refused (rw (e, lt-leb (length b) (length before) l) refl)

  module _ (e : book_converts b ≡ Ok tt) where
    first_fine : first_check b ≡ Ok tt
    unfolding book_converts
    first_fine = then-first (first_check b) (book_check b and_then fund_check (book_of b) and_then narrow_check b) e

    behind-first : (book_check b and_then fund_check (book_of b) and_then narrow_check b) ≡ Ok tt
    unfolding book_converts
    behind-first = then-rest (first_check b) (book_check b and_then fund_check (book_of b) and_then narrow_check b) e

    behind-book : (fund_check (book_of b) and_then narrow_check b) ≡ Ok tt
    behind-book = then-rest (book_check b) (fund_check (book_of b) and_then narrow_check b) behind-first

    pub is-narrow : Narrow b
    is-narrow = narrow b first_fine (then-rest (fund_check (book_of b)) (narrow_check b) behind-book)

    fund-same : (schedule : List ℕ) → report_of schedule (converted b) ≡ report_of schedule b
    unfolding report_of fund_in
    fund-same schedule = rw (converted-book b is-narrow)

    answer-same : (schedule : List ℕ) (room : ℕ) → answer_of schedule (converted b) room ≡ answer_of schedule b room
    unfolding answer_of check_of
    answer-same schedule room = rw (converted-check b is-narrow, fund-same schedule, converted-book b is-narrow)

    all-kept : Kept b (converted b)
    all-kept = record {
      accepted = converted-check b is-narrow ∙ then-first (book_check b) (fund_check (book_of b) and_then narrow_check b) behind-first;
      passes = ap fund_check (converted-book b is-narrow) ∙ then-first (fund_check (book_of b)) (narrow_check b) behind-book;
      answers = λ schedule lent. answer-same schedule (length lent);
      reports = λ schedule lent. rw (answer-same schedule (length lent), fund-same schedule);
      back = rebuilt-is b is-narrow;
    }

    pub done : {after : List ℕ} → length b ≤ length before → after ≡ converted b ++ drop (length b) before → Converts b before after (Ok (length b))
    unfolding convert_answer
    done {after} l put =
        let rest = drop (length b) before in
        let taken : take (length b) after ≡ converted b = rw put (ap (λ (n : ℕ). take n (converted b ++ rest)) (sym (converted-long b is-narrow)) ∙ take-append_seam (converted b) rest) in
        record { answer = rw (e, le-leb (length b) (length before) l) refl; bytes = put; kept = rw taken all-kept }
