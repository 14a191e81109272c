-- `published::put_row` meets its contract: each call places its bytes after those that stand.
use mathlib.Core.List.{◌++◌}
use mathlib.Core.Path.{refl}
use native.Mathlib.Omega.{arith}
use Rattle.wire.specs.Bytes.{bytes16, bytes64}
use Rattle.wire.proofs.Laws.{then-placed}
use Rattle.schedule.specs.Schedule.{row_bytes}
use Rattle.published.proofs.put_row.Goals as goal

pub returns : goal.returns
unfolding row_bytes
returns c =
    let d = c.args.d.now in
    let at = c.args.at in
    let r = c.args.row in
    let e2 = then-placed d (bytes16 r.rate) (bytes16 r.second) at 2 c.put_u16.ensures c.put_u16-2.ensures refl (omega (arith, c.requires)) in
    let e3 = then-placed d (bytes16 r.rate ++ bytes16 r.second) (bytes16 r.base_rate) at 4 e2 c.put_u16-3.ensures refl (omega (arith, c.requires)) in
    then-placed d (bytes16 r.rate ++ bytes16 r.second ++ bytes16 r.base_rate) (bytes64 r.fixed) at 6 e3 c.put_u64.ensures refl (omega (arith, c.requires))
