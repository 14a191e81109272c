-- `desks::serve_parts` meets its contract. The loop's invariant: the tables, served along the parts still to come, are those of all.
use Rattle.desks.proofs.Lines.{OnParts}
use Rattle.desks.proofs.serve_parts.Given as goal

abbrev pub invariant-loop-place : goal.invariant-loop-place
invariant-loop-place l = OnParts l.b l.covered l.desk l.first l.end l.initial.still l.initial.desks l.still l.desks l.place
