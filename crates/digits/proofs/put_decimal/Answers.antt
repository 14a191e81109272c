-- `digits::put_decimal` meets its contract: what `io::decimal` spells, copied.
use mathlib.Core.Path.{◌∙◌}
use Rattle.digits.proofs.Laws.{decimal-is}
use Rattle.digits.proofs.put_decimal.Goals as goal

pub returns-clause-written : goal.returns-clause-written
returns-clause-written c =
    let p = c.put in
    let d = c.decimal-many in
    rw (d.ensures.digits ∙ decimal-is c.args.n d.result c.ranges.n.fits d.ensures.len) at p.ensures
