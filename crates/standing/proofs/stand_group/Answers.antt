use mathlib.Core.List.{◌∷◌}
use mathlib.Core.Path.{◌≡◌}
use Prim.Native.Nat.{◌+◌}
use native.Mathlib.Omega.{arith}
use lib.ListN.{length, drop, get_or, drop_of_length-le}
use Rattle.cascade.specs.Cascade.{tiers}
use Rattle.cascade.specs.Promise.{outcome_at}
use Rattle.standing.proofs.Tiers.{Walk, walk_start, walk-next, walk-tier, walk-fits, walk_step, walk_end}
use borrow.Author.Rules.{rules}
use Rattle.standing.proofs.stand_group.Goals as goal
use Rattle.standing.proofs.stand_group.Goals.{In-loop-t}

-- where a tier is taken
here :
    (c : In-loop-t)
    → let l = c.loop-t in
    Walk c.args.k c.args.exposures c.args.limits c.args.ranking c.args.cells.now l.cells l.standing (get_or c.args.ranking l.t-index 0 ∷ drop (l.t-index + 1) c.args.ranking)
here c =
    let n : length c.args.ranking ≡ tiers = search rules in
    walk-next c.loop-t.t-index c.loop-t.invariant (omega arith)

pub loop-t-init : goal.loop-t-init
loop-t-init c = walk_start c.requires

pub offset_bounds-limits-t : goal.offset_bounds-limits-t
offset_bounds-limits-t c =
    let n : length c.args.ranking ≡ tiers = search rules in
    let u = walk-tier (walk-next c.loop-t.t-index c.loop-t.invariant (omega arith)) in search rules

pub bounds-limits-t : goal.bounds-limits-t
bounds-limits-t c =
    let n : length c.args.ranking ≡ tiers = search rules in
    walk-tier (walk-next c.loop-t.t-index c.loop-t.invariant (omega arith))

pub offset_bounds-exposures-t : goal.offset_bounds-exposures-t
offset_bounds-exposures-t c =
    let n : length c.args.ranking ≡ tiers = search rules in
    let u = walk-tier (walk-next c.loop-t.t-index c.loop-t.invariant (omega arith)) in search rules

pub bounds-exposures-t : goal.bounds-exposures-t
bounds-exposures-t c =
    let n : length c.args.ranking ≡ tiers = search rules in
    walk-tier (walk-next c.loop-t.t-index c.loop-t.invariant (omega arith))

pub cut-cut-requires : goal.cut-cut-requires
cut-cut-requires c = walk-fits (here c)

pub offset_bounds-exposures-t-in-loop-t : goal.offset_bounds-exposures-t-in-loop-t
offset_bounds-exposures-t-in-loop-t c = let u = walk-tier (here (goal.at.offset_bounds-exposures-t-in-loop-t c).In-loop-t) in search rules

pub bounds-exposures-t-in-loop-t : goal.bounds-exposures-t-in-loop-t
bounds-exposures-t-in-loop-t c = walk-tier (here (goal.at.bounds-exposures-t-in-loop-t c).In-loop-t)

pub overflow_sub-cells : goal.overflow_sub-cells
unfolding outcome_at
overflow_sub-cells c = rw c.cut-cut.ensures (omega arith)

pub overflow_add-cells : goal.overflow_add-cells
overflow_add-cells c = let u = walk-tier (here (goal.at.overflow_add-cells c).In-loop-t) in search rules

pub offset_bounds-cells-at : goal.offset_bounds-cells-at
offset_bounds-cells-at c = let u = walk-tier (here (goal.at.offset_bounds-cells-at c).In-loop-t) in search rules

pub bounds-cells-at : goal.bounds-cells-at
bounds-cells-at c = let u = walk-tier (here (goal.at.bounds-cells-at c).In-loop-t) in omega (arith, c.loop-t.invariant.size)

pub loop-t-preserved : goal.loop-t-preserved
loop-t-preserved c = walk_step (here (goal.at.loop-t-preserved c).In-loop-t) c.requires.row c.cut-cut.result c.cut-cut.ensures

pub returns : goal.returns
returns c =
    let n : length c.args.ranking ≡ tiers = search rules in
    walk_end (rw (drop_of_length-le c.args.ranking {i = c.loop-t.t-index} (omega arith)) at c.loop-t.invariant)
