-- `cells::fold` meets its contract. The loop's invariant: the rows passed are folded, and both sums are theirs.
use Rattle.cells.proofs.Folding.{Folding}
use Rattle.cells.proofs.fold.Given as goal

abbrev pub invariant-loop-k : goal.invariant-loop-k
invariant-loop-k l = Folding l.groups l.initial.cells l.cells l.w l.free l.k
