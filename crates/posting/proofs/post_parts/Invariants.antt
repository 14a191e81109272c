-- `posting::post_parts` meets its contract. The loop's invariant: the cells, with what the mitigants still to come cover, have the sums of all.
use Rattle.posting.proofs.Posting.{OnParts}
use Rattle.posting.proofs.post_parts.Given as goal

abbrev pub invariant-loop-place : goal.invariant-loop-place
invariant-loop-place l = OnParts l.b l.covered l.initial.cells l.cells l.place
