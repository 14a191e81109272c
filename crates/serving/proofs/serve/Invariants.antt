-- `serving::serve` meets its contract. The loop's invariant: the tables, served along the lines of the assets still to come, are those of all lines.
use Rattle.desks.proofs.Lines.{OnLines}
use Rattle.serving.proofs.serve.Given as goal

abbrev pub invariant-loop-place : goal.invariant-loop-place
invariant-loop-place l = OnLines l.b l.covered l.rests l.initial.still l.initial.desks l.still l.desks l.place l.first
