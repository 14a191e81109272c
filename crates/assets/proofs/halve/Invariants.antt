-- `halve`. The loop's invariant: entries before the item are halved, the others as they were.
use Rattle.assets.proofs.Halving.{Halving}
use Rattle.assets.proofs.halve.Given as goal

abbrev pub invariant-loop-sum : goal.invariant-loop-sum
invariant-loop-sum l = Halving l.initial.sums l.sums l.sum-index
