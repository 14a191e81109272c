-- What an entry promises of what is refused, whatever is wanted of a fund: no byte changes, by a promise of a schedule, a book, the lent bytes before
-- and after, and the answer.
--   Unchanged     of what 1 to 15 and 17 refuse
--   AllUnchanged  of what these and the checks behind them refuse
use Rattle.std.specs.Prelude.{List, ◌≡◌, ℕ, Err}
use Rattle.refusal.specs.declared.Refusal.{Refusal}
use Rattle.refusal.specs.Chain.{◌and_then◌, Checked, Answer}
use Rattle.schedule.specs.Check.{schedule_check}
use Rattle.book.specs.Book.{book_of}
use Rattle.book.specs.Check.{book_check}
use Rattle.exposure.specs.Values.{fund_check}

abbrev pub Unchanged : (List ℕ → List ℕ → List ℕ → List ℕ → Answer → Type 0) → Type 0
Unchanged promise =
    (schedule book before : List ℕ) (why : Refusal) → (schedule_check schedule and_then book_check book and_then fund_check (book_of book)) ≡ Err why
    → promise schedule book before before (Err why)

-- `last` are the checks behind 15, of a schedule, a book and the lent bytes
abbrev pub AllUnchanged : (List ℕ → List ℕ → List ℕ → List ℕ → Answer → Type 0) → (List ℕ → List ℕ → List ℕ → Checked) → Type 0
AllUnchanged promise last =
    (schedule book before : List ℕ) (why : Refusal)
    → (schedule_check schedule and_then book_check book and_then fund_check (book_of book) and_then last schedule book before) ≡ Err why
    → promise schedule book before before (Err why)
