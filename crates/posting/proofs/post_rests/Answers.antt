use Prim.Native.Nat.{◌+◌, ◌*◌, ◌≤◌, ◌<◌, ◌^◌}
use mathlib.Core.Path.{◌≡◌, ◌∙◌}
use lib.ListN.{get_or}
use Rattle.assets.specs.Assets.{rest_cell}
use native.Mathlib.Omega.{arith}
use Rattle.book.specs.Records.{N}
use Rattle.rows.specs.Rows.{most_groups, columns}
use Rattle.posting.proofs.Posting.{rests-end, left-few, left-small, left-room, left_step}
use Rattle.posting.proofs.post_rests.Goals as goal
use Rattle.posting.proofs.post_rests.Goals.{After-from-cell}

on : (d : After-from-cell) → d.loop-place.place ≤ N d.args.b.now
on d = omega (arith, d.requires.count)

is : (d : After-from-cell) → d.from-cell.result ≡ rest_cell d.args.b.now d.loop-place.place
is d = let o = d.loop-place.invariant in d.from-cell.ensures ∙ d.requires.placed.each _ o.low (on d)

few : (d : After-from-cell) → d.from-cell.result < columns * most_groups
few d = left-few d.loop-place.invariant d.requires.accepted (on d) d.requires.cells-size (is d)

fit : (d : After-from-cell) → get_or d.loop-place.cells d.from-cell.result 0 + get_or d.args.rests.now d.loop-place.place 0 < 2 ^ 64
fit d = left-room d.loop-place.invariant d.requires.accepted (on d) d.requires.cells-size (is d) d.requires.room

pub bounds-cells-cell : goal.bounds-cells-cell
bounds-cells-cell c = left-small c.loop-place.invariant c.requires.accepted (on (goal.at.bounds-cells-cell c).After-from-cell) c.requires.cells-size (is (goal.at.bounds-cells-cell c).After-from-cell)

pub overflow_add-cells : goal.overflow_add-cells
overflow_add-cells c = omega (arith, fit (goal.at.overflow_add-cells c).After-from-cell)

pub bounds-cells-cell-in-loop-place : goal.bounds-cells-cell-in-loop-place
bounds-cells-cell-in-loop-place c = left-small c.loop-place.invariant c.requires.accepted (on (goal.at.bounds-cells-cell-in-loop-place c).After-from-cell) c.requires.cells-size (is (goal.at.bounds-cells-cell-in-loop-place c).After-from-cell)

pub loop-place-preserved : goal.loop-place-preserved
loop-place-preserved c = left_step c.loop-place.invariant c.requires.accepted (on (goal.at.loop-place-preserved c).After-from-cell) c.requires.cells-size (is (goal.at.loop-place-preserved c).After-from-cell)

pub returns : goal.returns
returns c = rests-end c.loop-place.invariant (omega (arith, c.requires.count))
