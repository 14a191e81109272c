-- `fill`: the topmost parents by `find_tops`, then each turn fills one place of each other table.
use Rattle.parties.proofs.Filling.{Filling}
use Rattle.parties.proofs.fill.Given as goal

abbrev pub invariant-loop-place : goal.invariant-loop-place
invariant-loop-place l = Filling l.b l.c l.initial.words l.initial.terms l.initial.rows l.initial.heads l.words l.terms l.rows l.heads l.groups l.place
