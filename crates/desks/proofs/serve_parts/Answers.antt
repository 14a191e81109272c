use native.Mathlib.Omega.{arith}
use Rattle.desks.proofs.Lines.{parts-served, part-at, part_room, part_step}
use Rattle.desks.proofs.serve_parts.Goals as goal

pub serve-requires : goal.serve-requires
serve-requires c =
    let o = c.loop-place.invariant in
    let l = c.loop-place-test.true in (
      part-at o c.requires.accepted c.requires.low c.requires.high l c.part_cell-cell.ensures c.requires.lined,
      omega (arith, c.requires.desk-few, o.serving.places, c.requires.lined.places),
      part_room o c.requires.accepted c.requires.low c.requires.high l c.part_cell-cell.ensures (omega (arith, c.requires.desk-few, c.requires.lined.places)) c.requires.room,
    )

pub loop-place-preserved : goal.loop-place-preserved
loop-place-preserved c =
    part_step c.loop-place.invariant c.requires.accepted c.requires.low c.requires.high c.loop-place-test.true c.part_cell-cell.ensures c.serve.ensures

pub returns : goal.returns
returns c = parts-served c.loop-place.invariant c.loop-place-test.false
