-- `accepted`: the sizes of the tables are enough.
use native.Mathlib.Omega.{arith}
use Rattle.book.specs.HeaderLaws.{header-counts}
use Rattle.fund.proofs.Limits.{taken}
use Rattle.opening.proofs.Zeros.{rows-of, room-of, room-for-all}
use Rattle.opening.proofs.accepted.Goals as goal

pub header_at-h-requires : goal.header_at-h-requires
header_at-h-requires g c =
    let a = taken c.requires in omega (arith, a.size)

pub sized-requires : goal.sized-requires
sized-requires g c =
    let n = header-counts c.args.book.now c.header_at-h.ensures in
    let h = c.if-c-le-SMALL.true in
    (c.requires, n.0, room-of 16 (omega arith) (omega (arith, n.0, h)) (omega (arith, n.1, c.if-n.true)) (omega (arith, n.2, c.if-k.true)), rows-of 16 (omega arith) (omega (arith, n.0, h)))

pub sized-requires-then-k-2 : goal.sized-requires-then-k-2
sized-requires-then-k-2 g c =
    let n = header-counts c.args.book.now c.header_at-h.ensures in
    let h = c.if-c-le-MEDIUM.true in
    (c.requires, n.0, room-of 128 (omega arith) (omega (arith, n.0, h)) (omega (arith, n.1, c.if-n-2.true)) (omega (arith, n.2, c.if-k-2.true)), rows-of 128 (omega arith) (omega (arith, n.0, h)))

pub sized-requires-2 : goal.sized-requires-2
sized-requires-2 g c =
    let n = header-counts c.args.book.now c.header_at-h.ensures in
    let a = taken c.requires in
    (c.requires, n.0, room-for-all a, rows-of 500 (omega arith) a.counterparties)
