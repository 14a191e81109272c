-- `cover`: what is to come, run on the tables as they are, gives what all of it gives on those of the start.
use Rattle.covering.proofs.Running.{Running}
use Rattle.covering.proofs.cover.Given as goal

abbrev pub invariant-loop-place : goal.invariant-loop-place
invariant-loop-place l = Running l.b l.starts l.draws l.initial.covered l.initial.halves l.initial.rests l.covered l.halves l.rests l.own l.place
