use Rattle.std.proofs.Common.{◌≡◌, ◌∷◌, ◌+◌, length, drop, get_or, sym, arith, rules}
use lib.ListN.{drop_of_length-le}
use Rattle.cascade.specs.Cascade.{tiers, by_tier}
use Rattle.headroom.specs.Headroom.{row_from}
use Rattle.headroom.proofs.Closed.{no-limit}
use Rattle.headroom.proofs.Going.{Going, going_start, going_next, going-fits, going_step, going_end}
use Rattle.headroom.proofs.room.Goals as goal
use Rattle.headroom.proofs.room.Goals.{In-loop-t}

-- where a tier is taken
here :
    (c : In-loop-t)
    → let a = c.args in
    let l = c.loop-t in
    Going a.limits a.ranking (row_from a.cells.now a.at) a.tier a.most (get_or a.ranking l.t-index 0 ∷ drop (l.t-index + 1) a.ranking) l.standing l.room l.met
here c =
    let n : length c.args.ranking ≡ tiers = search rules in
    going_next c.args.ranking c.loop-t.t-index c.loop-t.invariant (omega arith)

pub returns-then-tier-ge-TIERS : goal.returns-then-tier-ge-TIERS
returns-then-tier-ge-TIERS c q =
    let a = c.args in
    let L = by_tier a.limits in
    sym (no-limit tiers q.order L q.ordered (row_from a.cells.now a.at) a.tier a.most (omega arith))

pub loop-t-init : goal.loop-t-init
loop-t-init c = let p = c.requires in going_start p.0 p.2 (omega arith)

pub overflow_add-standing : goal.overflow_add-standing
overflow_add-standing c = record { fits = going-fits (here (goal.at.overflow_add-standing c).In-loop-t) }

pub loop-t-preserved : goal.loop-t-preserved
loop-t-preserved c = rw (c.pick-room.ensures, c.min.ensures) (going_step (here (goal.at.loop-t-preserved c).In-loop-t) c.min-standing.result c.min-standing.ensures)

pub returns : goal.returns
returns c =
    let a = c.args in
    let n : length a.ranking ≡ tiers = search rules in
    going_end (rw (drop_of_length-le a.ranking {i = c.loop-t.t-index} (omega arith)) at c.loop-t.invariant)
