-- `put_head` meets its contract: its parts, each placed behind the others.
use mathlib.Core.Path.{refl}
use mathlib.Core.List.{List, ◌++◌, ◌∷◌, []}
use Prim.Native.Nat.{ℕ}
use native.Mathlib.Omega.{arith}
use Rattle.wire.specs.Bytes.{bytes16, bytes64}
use Rattle.wire.proofs.Laws.{then-placed}
use Rattle.figures.specs.Report.{head_bytes}
use Rattle.layout.proofs.put_head.Goals as goal

pub returns : goal.returns
unfolding head_bytes
returns c =
    let d = c.args.d.now in
    let h = c.args.head in
    let mark : List ℕ = 65 ∷ 67 ∷ 82 ∷ 0 ∷ 1 ∷ 0 ∷ [] in
    let first = bytes64 h.vaf ++ bytes64 h.stressed_vaf ++ bytes64 h.all_net ++ bytes64 h.unlimited in
    let second = bytes64 h.group_excess ++ bytes64 h.a3_sum ++ bytes64 h.a3_limit ++ bytes64 h.charge in
    let e2 = then-placed d mark (bytes16 h.lines) 0 6 c.put_mark.ensures c.put_u16.ensures refl (omega (arith, c.requires)) in
    let e3 = then-placed d (mark ++ bytes16 h.lines) first 0 8 e2 c.put_four.ensures refl (omega (arith, c.requires)) in
    then-placed d (mark ++ bytes16 h.lines ++ first) second 0 40 e3 c.put_four-2.ensures refl (omega (arith, c.requires))
