-- `a3::sum` meets its contract. The loop's invariant: the total is the sum of the groups passed, at most five limits for each.
use mathlib.Core.Path.{◌≡◌}
use Prim.Native.Nat.{◌*◌, ◌≤◌}
use Rattle.words.specs.Words.{sum}
use Rattle.limit.specs.Bounds.{most_limit}
use Rattle.cascade.specs.Cascade.{by_tier}
use Rattle.a3.specs.A3.{a3_part, a3_at}
use Rattle.a3.proofs.sum.Given as goal

abbrev pub invariant-loop-k : goal.invariant-loop-k
invariant-loop-k l = (l.total ≡ sum (λ j. a3_part (a3_at l.cells j) (by_tier l.limits)) l.k) × (l.total ≤ 5 * most_limit * l.k)
