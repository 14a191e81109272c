-- The refusals of a book by itself, "Checked by rising number", and 17 "after 13": book_checks.
use Rattle.std.specs.Prelude.{List, ℕ}
use Rattle.refusal.specs.Chain.{◌and_then◌, Checked}
use Rattle.book.specs.Book.{book_of}
use Rattle.book.specs.Check.{book_check}
use Rattle.exposure.specs.Values.{fund_check}

-- 5 to 13, 17, 14 and 15
unfoldable pub book_checks : List ℕ → Checked
book_checks b = book_check b and_then fund_check (book_of b)
