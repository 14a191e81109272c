-- `check`: a book that the first sections let pass is what the ones behind them require.
use mathlib.Core.Path.{sym, ◌∙◌}
use Rattle.book.specs.AcceptedLaws.{accepted}
use Rattle.convert.proofs.check.Goals as goal

pub check_book-requires : goal.check_book-requires
check_book-requires c = accepted _ (sym c.check.ensures ∙ c.in_ok-check.was)

pub narrow_check-requires : goal.narrow_check-requires
narrow_check-requires c = accepted _ (sym c.check.ensures ∙ c.in_ok-check.was)
