-- `make`: a book of up to 4,048 bytes has room for a record more in the smaller array, and any book in the larger.
use native.Mathlib.Omega.{arith}
use Rattle.replacing.proofs.Array.{cut-long, added-room}
use Rattle.replacing.proofs.make.Goals as goal

pub sized-requires : goal.sized-requires
sized-requires c = (c.requires, omega (arith, c.if-size.true), omega arith)

pub sized-requires-2 : goal.sized-requires-2
sized-requires-2 c =
    let w = c.requires in
    (w, omega (arith, added-room _ w.accepted, cut-long c.args.book.now c.args.size w.stands.within), omega arith)
