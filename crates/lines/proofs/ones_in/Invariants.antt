-- `ones_in` meets its contract. The loop's invariant: the ones of the sets passed are counted, at most 16 a set.
use mathlib.Core.Path.{◌≡◌}
use Prim.Native.Nat.{◌*◌, ◌≤◌}
use lib.Count.{ones}
use lib.ListN.{get_or}
use Rattle.words.specs.Words.{sum}
use Rattle.lines.proofs.ones_in.Given as goal

abbrev pub invariant-loop-set : goal.invariant-loop-set
invariant-loop-set l = (l.count ≤ 16 * l.set-index) × (l.count ≡ sum (λ j. ones (get_or l.sets j 0)) l.set-index)
