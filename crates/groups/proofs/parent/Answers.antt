-- `parent` gives the parent of a place: an accepted book stores it as it is.
use Rattle.groups.specs.TableLaws.{parent-stored}
use Rattle.groups.proofs.parent.Goals as goal

pub returns : goal.returns
returns c =
    let e = c.counterparty_at-who.ensures in
    let d = c.from.ensures in
    let h = c.requires.0.parent c.args.place c.requires.1 c.requires.2 in
    (rw (d, e) (parent-stored c.args.book.now c.args.place h), rw (d, e) h)
