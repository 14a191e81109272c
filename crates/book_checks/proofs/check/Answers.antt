-- `check`: a book whose records were let pass is what the values' check requires.
use mathlib.Core.Path.{sym, ◌∙◌}
use Rattle.book.specs.AcceptedLaws.{accepted}
use Rattle.book_checks.proofs.check.Goals as goal

pub check_book-requires : goal.check_book-requires
check_book-requires c = accepted _ (sym c.check.ensures ∙ c.in_ok-check.was)
