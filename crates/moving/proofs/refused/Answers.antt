-- `refused`: the schedule's refusal by its number, which is no book's.
use mathlib.Core.Path.{sym, ◌∙◌}
use native.Mathlib.Omega.{arith}
use Rattle.moving.proofs.Behind.{own_first, other-first, no_length}
use Rattle.moving.proofs.refused.Goals as goal

pub returns-then-number-lt5 : goal.returns-then-number-lt5
returns-then-number-lt5 c = own_first _ _ (sym c.in-Err.is ∙ c.report.ensures.answer) (omega (arith, c.if-number-lt5.true, c.number.ensures))

pub returns-in-Ok : goal.returns-in-Ok
returns-in-Ok c = no_length _ _ (sym c.in-Ok.is ∙ c.report.ensures.answer)

pub returns-else-number-lt5 : goal.returns-else-number-lt5
returns-else-number-lt5 c = other-first _ _ (sym c.in-Err.is ∙ c.report.ensures.answer) (omega (arith, c.if-number-lt5.false, c.number.ensures))
