-- `find_tops`: a place's topmost parent is known, or found by `top`.
use Rattle.groups.proofs.Finding.{Finding}
use Rattle.groups.proofs.find_tops.Given as goal

abbrev pub invariant-loop-place : goal.invariant-loop-place
invariant-loop-place l = Finding l.book l.c l.initial.tops l.tops l.place
