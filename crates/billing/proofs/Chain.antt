-- The answer: what is refused changes no byte; 19, 16, and what passes all checks.
use Rattle.std.proofs.Common.{Ok, Err}
use mathlib.Core.List.{List}
use mathlib.Core.Path.{◌≡◌, refl}
use Prim.Native.Nat.{ℕ, ◌≤◌, ◌<◌}
use lib.ListN.{length}
use borrow.Author.Tests.{le-leb, lt-leb}
use Rattle.refusal.specs.declared.Refusal.{Refusal}
use Rattle.refusal.specs.declared.Refusal.TheVariants.{BufferShort, CostRate}
use Rattle.bills.specs.Bills.{most_cost_rate, bills_size}
use Rattle.book.specs.Book.{book_of}
use Rattle.exposure.specs.Values.{fund_check}
use Rattle.fund.specs.Fund.{Passed}
use Rattle.billing.specs.Billed.{bill_check, bill_answer, Billed}

module _ (schedule book : List ℕ) (rate : ℕ) (before : List ℕ) where
  pub refused : {why : Refusal} → bill_check schedule book rate (length before) ≡ Err why → Billed schedule book rate before before (Err why)
  unfolding bill_answer
  refused e = record { answer = rw e refl; bytes = refl; sums = tt }

  module _ (p : Passed schedule book) (f : fund_check (book_of book) ≡ Ok tt) where
    pub bad-rate : most_cost_rate < rate → Billed schedule book rate before before (Err CostRate)
    unfolding bill_check
    bad-rate l = refused (rw (p.of-schedule, p.of-book, f, lt-leb rate most_cost_rate l) refl)

    pub short : rate ≤ most_cost_rate → length before < bills_size → Billed schedule book rate before before (Err BufferShort)
    unfolding bill_check
    short h l = refused (rw (p.of-schedule, p.of-book, f, le-leb rate most_cost_rate h, lt-leb bills_size (length before) l) refl)

    pub fine : rate ≤ most_cost_rate → bills_size ≤ length before → Ok bills_size ≡ bill_answer schedule book rate (length before)
    unfolding bill_check bill_answer
    fine h l = rw (p.of-schedule, p.of-book, f, le-leb rate most_cost_rate h, le-leb bills_size (length before) l) refl
