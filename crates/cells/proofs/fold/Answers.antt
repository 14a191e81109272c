use native.Mathlib.Omega.{arith}
use Rattle.cells.proofs.Folding.{folding-start, folding-step, folding-end, fold-room, fold-fits, bills-fit, free-fits}
use Rattle.cells.proofs.fold.Goals as goal

pub loop-k-init : goal.loop-k-init
loop-k-init c = folding-start _ _

pub bounds-cells-at : goal.bounds-cells-at
bounds-cells-at c = omega (arith, fold-room c.loop-k.invariant c.requires (omega arith))

pub overflow_add-w-in-loop-k : goal.overflow_add-w-in-loop-k
overflow_add-w-in-loop-k c = omega (arith, bills-fit c.loop-k.invariant c.requires (omega arith))

pub bounds-cells-at-in-loop-k : goal.bounds-cells-at-in-loop-k
bounds-cells-at-in-loop-k c = omega (arith, fold-room c.loop-k.invariant c.requires (omega arith))

pub overflow_add-free-in-loop-k : goal.overflow_add-free-in-loop-k
overflow_add-free-in-loop-k c = omega (arith, free-fits c.loop-k.invariant c.requires (omega arith))

pub fold_row-requires : goal.fold_row-requires
fold_row-requires c = (fold-room c.loop-k.invariant c.requires (omega arith), fold-fits c.loop-k.invariant c.requires (omega arith))

pub loop-k-preserved : goal.loop-k-preserved
loop-k-preserved c = folding-step c.loop-k.invariant c.requires (omega arith) c.fold_row.ensures

pub returns : goal.returns
returns c = folding-end c.loop-k.invariant (omega arith)
