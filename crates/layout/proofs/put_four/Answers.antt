-- `put_four` meets its contract: four numbers, each placed behind the others.
use mathlib.Core.Path.{refl}
use mathlib.Core.List.{◌++◌}
use native.Mathlib.Omega.{arith}
use Rattle.wire.specs.Bytes.{bytes64}
use Rattle.wire.proofs.Laws.{then-placed}
use Rattle.layout.proofs.put_four.Goals as goal

pub returns : goal.returns
returns c =
    let d = c.args.d.now in
    let at = c.args.at in
    let a = bytes64 c.args.a in
    let b = bytes64 c.args.b in
    let e = bytes64 c.args.c in
    let e2 = then-placed d a b at 8 c.put_u64.ensures c.put_u64-2.ensures refl (omega (arith, c.requires)) in
    let e3 = then-placed d (a ++ b) e at 16 e2 c.put_u64-3.ensures refl (omega (arith, c.requires)) in
    then-placed d (a ++ b ++ e) (bytes64 c.args.e) at 24 e3 c.put_u64-4.ensures refl (omega (arith, c.requires))
