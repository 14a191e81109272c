use mathlib.Core.Path.{◌≡◌}
use native.Mathlib.Omega.{arith}
use Rattle.standing.proofs.Groups.{stood-start, standable, stood-step}
use Rattle.standing.proofs.stand.Goals as goal

pub loop-k-init : goal.loop-k-init
loop-k-init c = stood-start

pub row_of-exposures-requires : goal.row_of-exposures-requires
row_of-exposures-requires c = omega (arith, c.requires.rows, c.loop-k.invariant.size)

pub stand_group-requires : goal.stand_group-requires
stand_group-requires c = standable c.requires (omega arith) c.loop-k.invariant c.row_of-exposures.ensures

pub loop-k-preserved : goal.loop-k-preserved
loop-k-preserved c =
    stood-step c.requires (omega arith) c.loop-k.invariant c.row_of-exposures.ensures c.stand_group.ensures

pub returns : goal.returns
returns c =
    let l = c.loop-k in
    let e : l.k ≡ c.args.groups = omega arith in
    rw e at l.invariant
