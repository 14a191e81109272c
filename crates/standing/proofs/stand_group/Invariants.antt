-- `stand_group` meets its contract. The loop's invariant: the tiers that the ranking still has are to come, and the others are passed.
use lib.ListN.{drop}
use Rattle.standing.proofs.Tiers.{Walk}
use Rattle.standing.proofs.stand_group.Given as goal

abbrev pub invariant-loop-t : goal.invariant-loop-t
invariant-loop-t l = Walk l.k l.exposures l.limits l.t-items l.initial.cells l.cells l.standing (drop l.t-index l.t-items)
