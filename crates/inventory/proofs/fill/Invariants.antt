-- `fill`. The loop's invariant: the tables are filled and all sums taken below the place.
use Rattle.inventory.proofs.Filling.{Filling}
use Rattle.inventory.proofs.fill.Given as goal

abbrev pub invariant-loop-place : goal.invariant-loop-place
invariant-loop-place l = Filling l.b l.initial.starts l.initial.draws l.initial.halves l.initial.rests l.initial.places l.starts l.draws l.halves l.rests l.places l.v l.first l.place
