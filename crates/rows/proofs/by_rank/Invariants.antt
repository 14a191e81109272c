-- `by_rank` meets its contract. The loop's invariant: the entries below the rank are the amounts of the tiers of those ranks.
use mathlib.Core.Path.{◌≡◌}
use Prim.Native.Nat.{ℕ, ◌<◌}
use lib.ListN.{length, get_or}
use Rattle.cascade.specs.Cascade.{tiers, by_tier}
use Rattle.rows.proofs.by_rank.Given as goal

abbrev pub invariant-loop-rank : goal.invariant-loop-rank
invariant-loop-rank l = (length l.out ≡ tiers) × ((u : ℕ) → u < l.rank → get_or l.out u 0 ≡ by_tier l.amounts (get_or l.t-items u 0))
