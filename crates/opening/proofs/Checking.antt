-- What 1 to 13 and 17 found of a schedule and a book: nothing, and then both pass; or the first refusal of all.
use Rattle.std.proofs.Common.{Ok, Err}
use mathlib.Core.List.{List}
use mathlib.Core.Path.{◌≡◌, refl}
use Prim.Native.Nat.{ℕ}
use native.Mathlib.Omega.{arith}
use Rattle.refusal.specs.declared.Refusal.{Refusal}
use Rattle.refusal.specs.Chain.{◌and_then◌, Checked}
use Rattle.schedule.specs.Check.{schedule_check}
use Rattle.book.specs.Book.{book_of}
use Rattle.book.specs.Check.{book_check}
use Rattle.exposure.specs.Values.{fund_check}
use Rattle.fund.specs.Fund.{Passed}

first : {why : Refusal} (s b last : Checked) → (s and_then b) ≡ Err why → (s and_then b and_then last) ≡ Err why
first (Err other) b last e = e
first (Ok _) (Err other) last e = e
first (Ok _) (Ok _) last e = absurd (let z : ◌≡◌ {A = ℕ} 0 1 = cc in omega arith)

both : (s b : Checked) → (s and_then b) ≡ Ok tt → (s ≡ Ok tt) × (b ≡ Ok tt)
both (Err other) b e = absurd (let z : ◌≡◌ {A = ℕ} 0 1 = cc in omega arith)
both (Ok _) b e = (refl, e)

module _ (schedule book : List ℕ) where
  pub bad-first : {why : Refusal} → (schedule_check schedule and_then book_check book) ≡ Err why → (schedule_check schedule and_then book_check book and_then fund_check (book_of book)) ≡ Err why
  bad-first e = first (schedule_check schedule) (book_check book) (fund_check (book_of book)) e

  pub passed : (schedule_check schedule and_then book_check book) ≡ Ok tt → Passed schedule book
  passed e = let p = both (schedule_check schedule) (book_check book) e in record { of-schedule = p.0; of-book = p.1 }

  pub bad-fund : {why : Refusal} → Passed schedule book → fund_check (book_of book) ≡ Err why → (schedule_check schedule and_then book_check book and_then fund_check (book_of book)) ≡ Err why
  bad-fund p f = rw (p.of-schedule, p.of-book, f) refl
