use Prim.Native.Nat.{◌+◌, ◌*◌, ◌≤◌, ◌<◌, ◌^◌}
use lib.ListN.{get_or}
use native.Mathlib.Omega.{arith}
use Rattle.book.specs.Records.{K}
use Rattle.rows.specs.Rows.{most_groups, columns}
use Rattle.posting.proofs.Posting.{parts-end, part_small, part-few, part_room, part_step}
use Rattle.posting.proofs.post_parts.Goals as goal
use Rattle.posting.proofs.post_parts.Goals.{After-cell_at-cell}

on : (d : After-cell_at-cell) → d.loop-place.place ≤ K d.args.b.now
on d = omega (arith, d.requires.count)

few : (d : After-cell_at-cell) → d.cell_at-cell.result < columns * most_groups
few d = part-few d.loop-place.invariant d.requires.accepted (on d) d.requires.cells-size (d.cell_at-cell.ensures _)

fit : (d : After-cell_at-cell) → get_or d.loop-place.cells d.cell_at-cell.result 0 + get_or d.args.covered.now d.loop-place.place 0 < 2 ^ 64
fit d = part_room d.loop-place.invariant d.requires.accepted (on d) d.requires.cells-size (d.cell_at-cell.ensures _) d.requires.room

pub offset_bounds-cells-cell : goal.offset_bounds-cells-cell
offset_bounds-cells-cell c = omega (arith, few (goal.at.offset_bounds-cells-cell c).After-cell_at-cell)

pub bounds-cells-cell : goal.bounds-cells-cell
bounds-cells-cell c = part_small c.loop-place.invariant c.requires.accepted (on (goal.at.bounds-cells-cell c).After-cell_at-cell) c.requires.cells-size (c.cell_at-cell.ensures _)

pub overflow_add-cells : goal.overflow_add-cells
overflow_add-cells c = omega (arith, fit (goal.at.overflow_add-cells c).After-cell_at-cell)

pub bounds-cells-cell-in-loop-place : goal.bounds-cells-cell-in-loop-place
bounds-cells-cell-in-loop-place c = part_small c.loop-place.invariant c.requires.accepted (on (goal.at.bounds-cells-cell-in-loop-place c).After-cell_at-cell) c.requires.cells-size (c.cell_at-cell.ensures _)

pub loop-place-preserved : goal.loop-place-preserved
loop-place-preserved c = part_step c.loop-place.invariant c.requires.accepted (on (goal.at.loop-place-preserved c).After-cell_at-cell) c.requires.cells-size (c.cell_at-cell.ensures _)

pub returns : goal.returns
returns c = parts-end c.loop-place.invariant (omega (arith, c.requires.count))
