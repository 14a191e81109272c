-- `first_check`: the chain of 5 to 7.
use borrow.Author.Tests.{le-leb, lt-leb}
use native.Mathlib.Omega.{arith}
use Rattle.refusal.specs.Laws.{then_err, then_ok}
use Rattle.conversion.specs.Conversion.{first_check}
use Rattle.conversion.proofs.first_check.Goals as goal

pub returns-then-b-lt-HEADER_SIZE : goal.returns-then-b-lt-HEADER_SIZE
unfolding first_check
returns-then-b-lt-HEADER_SIZE c = rw (lt-leb _ _ c.if-b-lt-HEADER_SIZE.true)

pub returns-in_err-unless : goal.returns-in_err-unless
unfolding first_check
returns-in_err-unless c = rw (le-leb _ _ c.if-b-lt-HEADER_SIZE.false) (grind (arith, then_err))

pub returns : goal.returns
unfolding first_check
returns c = rw (le-leb _ _ c.if-b-lt-HEADER_SIZE.false) (grind (arith, then_ok))
