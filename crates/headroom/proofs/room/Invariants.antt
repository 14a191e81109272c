-- `headroom::room` meets its contract. The loop's invariant: what will have got through the tiers that the ranking still has is the answer.
use lib.ListN.{drop}
use Rattle.headroom.specs.Headroom.{row_from}
use Rattle.headroom.proofs.Going.{Going}
use Rattle.headroom.proofs.room.Given as goal

abbrev pub invariant-loop-t : goal.invariant-loop-t
invariant-loop-t l = Going l.limits l.fn.ranking (row_from l.cells l.at) l.tier l.most (drop l.t-index l.fn.ranking) l.standing l.room l.met
