-- `published::put_head` meets its contract: each call places its bytes after those that stand.
use mathlib.Core.List.{◌++◌}
use mathlib.Core.Path.{refl}
use native.Mathlib.Omega.{arith}
use Rattle.wire.specs.Bytes.{bytes16}
use Rattle.wire.proofs.Laws.{then-placed}
use Rattle.schedule.specs.Schedule.{mark, head_bytes}
use Rattle.published.proofs.put_head.Goals as goal

pub returns : goal.returns
unfolding head_bytes
returns c =
    let d = c.args.d.now in
    let e2 = then-placed d mark (bytes16 1) 0 4 c.put_mark.ensures c.put_u16.ensures refl (omega (arith, c.requires)) in
    let e3 = then-placed d (mark ++ bytes16 1) (bytes16 66) 0 6 e2 c.put_u16-2.ensures refl (omega (arith, c.requires)) in
    then-placed d (mark ++ bytes16 1 ++ bytes16 66) (bytes16 34) 0 8 e3 c.put_u16-3.ensures refl (omega (arith, c.requires))
