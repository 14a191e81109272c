-- `counts_add`: place by place, as the definition adds.
use Rattle.records.proofs.Adding.{Adding}
use Rattle.records.proofs.counts_add.Given as goal

abbrev pub invariant-loop-place : goal.invariant-loop-place
invariant-loop-place l = Adding l.b l.sum l.place
