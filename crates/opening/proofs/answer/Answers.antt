-- `answer`: refused by 14 or 15, or what is wanted of a fund whose tables are made.
use Rattle.making.proofs.Tables.{fund-tables}
use Rattle.opening.proofs.Made.{made-fine, made-bad}
use Rattle.opening.proofs.Zeros.{zero-cells, zero_room}
use Rattle.opening.proofs.Checking.{bad-fund}
use Rattle.opening.proofs.answer.Goals as goal

pub make-found-requires : goal.make-found-requires
make-found-requires g c =
    let p = c.requires in
    (p.0.passed, p.0.provided, zero-cells p.2)

pub finish-requires : goal.finish-requires
finish-requires g c =
    let p = c.requires in
    let k = c.make-found.ensures in
    let fine = made-fine c.args.schedule.now c.args.book.now _ k.made c.in-Ok.is in
    (fund-tables p.0.passed p.0.provided (zero-cells p.2) k.tables fine.0 fine.1, p.0.headed, zero_room p.2)

pub returns-in-Err : goal.returns-in-Err
returns-in-Err g c =
    let bad = made-bad c.args.schedule.now c.args.book.now _ c.make-found.ensures.made c.in-Err.is in
    g.met.W.Wanted.refused c.args.wanted c.args.schedule.now c.args.book.now c.args.lent.now _ (bad-fund c.args.schedule.now c.args.book.now c.requires.0.passed bad)
