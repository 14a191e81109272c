-- `stand` meets its contract. The loop's invariant: the groups passed are stood.
use Rattle.standing.specs.Standing.{Stood}
use Rattle.standing.proofs.stand.Given as goal

abbrev pub invariant-loop-k : goal.invariant-loop-k
invariant-loop-k l = Stood l.k l.limits l.ranking l.initial.cells l.cells
