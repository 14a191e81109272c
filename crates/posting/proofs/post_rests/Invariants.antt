-- `posting::post_rests` meets its contract. The loop's invariant: the cells, with what is left of the assets still to come, have the sums of all.
use Rattle.posting.proofs.Posting.{OnRests}
use Rattle.posting.proofs.post_rests.Given as goal

abbrev pub invariant-loop-place : goal.invariant-loop-place
invariant-loop-place l = OnRests l.b l.rests l.initial.cells l.cells l.place
