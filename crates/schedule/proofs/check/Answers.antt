-- `schedule::check` meets its contract: the length first, and then the other checks.
use borrow.Author.Tests.{eq-eqb, ne_eqb}
use Rattle.schedule.specs.Check.{schedule_check}
use Rattle.schedule.specs.Schedule.{schedule_size}
use Rattle.schedule.proofs.check.Goals as goal

pub returns-then-s-ne-SIZE : goal.returns-then-s-ne-SIZE
unfolding schedule_check
returns-then-s-ne-SIZE c = simp (ne_eqb _ schedule_size c.if-s-ne-SIZE.true)

pub returns : goal.returns
unfolding schedule_check
returns c = simp (eq-eqb _ schedule_size c.if-s-ne-SIZE.false) c.check_fields.ensures
