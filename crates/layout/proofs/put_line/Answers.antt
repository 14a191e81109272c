-- `put_line` meets its contract: its parts, each placed behind the others, are the line's bytes.
use mathlib.Core.Path.{refl}
use mathlib.Core.List.{◌++◌, ◌∷◌, []}
use native.Mathlib.Omega.{arith}
use Rattle.wire.specs.Bytes.{bytes16, bytes64}
use Rattle.wire.proofs.Laws.{then-placed}
use Rattle.figures.specs.Report.{line_bytes}
use Rattle.layout.proofs.Putting.{line-put}
use Rattle.layout.proofs.put_line.Goals as goal

pub returns : goal.returns
unfolding line_bytes
returns c =
    let d = c.args.d.now in
    let at = c.args.at in
    let x = c.args.line in
    let p2 = bytes16 x.top ++ (x.tier ∷ []) in
    let p3 = p2 ++ (0 ∷ []) in
    let p4 = p3 ++ bytes16 x.tiers in
    let p5 = p4 ++ bytes16 0 in
    let four = bytes64 x.exposure ++ bytes64 x.limit ++ bytes64 x.left ++ bytes64 x.excess in
    let e2 = then-placed d (bytes16 x.top) (x.tier ∷ []) at 2 c.put_u16.ensures c.put_u8.ensures refl (omega (arith, c.requires)) in
    let e3 = then-placed d p2 (0 ∷ []) at 3 e2 c.put_u8-2.ensures refl (omega (arith, c.requires)) in
    let e4 = then-placed d p3 (bytes16 x.tiers) at 4 e3 c.put_u16-2.ensures refl (omega (arith, c.requires)) in
    let e5 = then-placed d p4 (bytes16 0) at 6 e4 c.put_u16-3.ensures refl (omega (arith, c.requires)) in
    line-put x at d (omega (arith, c.requires)) (then-placed d p5 four at 8 e5 c.put_four.ensures refl (omega (arith, c.requires)))
