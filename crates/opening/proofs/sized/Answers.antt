-- `sized`: the tables are long enough, and zeros.
use native.Mathlib.Omega.{arith}
use Rattle.fund.proofs.Limits.{taken}
use Rattle.opening.proofs.Size.{bytes-fit}
use Rattle.opening.proofs.Zeros.{zero-parties, groups-le, fewer, rows-of, prepared}
use Rattle.opening.proofs.sized.Goals as goal

pub fill-groups-requires : goal.fill-groups-requires
fill-groups-requires g c =
    (taken c.requires.0, c.requires.1, zero-parties _ g.row.PARTIES (omega (arith, c.requires.1, c.requires.2.of-parties)))

pub answer-requires : goal.answer-requires
answer-requires g c =
    let r = c.requires.2 in
    let q = c.fill-groups.ensures in
    (bytes-fit r, (prepared r c.requires.0 c.requires.1 q, r, rows-of 64 (omega arith) c.if-groups-le-FEW.true))

pub answer-requires-2 : goal.answer-requires-2
answer-requires-2 g c =
    let r = c.requires.2 in
    let q = c.fill-groups.ensures in
    (bytes-fit r, (prepared r c.requires.0 c.requires.1 q, r, fewer (omega (arith, groups-le c.args.book.now q.count, c.requires.1)) c.requires.3))
