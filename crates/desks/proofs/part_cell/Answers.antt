-- `desks::part_cell` meets its contract: the row of the group, and the tier of the column that the form's digit gives.
use native.Mathlib.Omega.{arith}
use Rattle.desks.proofs.Lines.{column-few, part-cell}
use Rattle.desks.proofs.part_cell.Goals as goal

pub bounds-tiers-column : goal.bounds-tiers-column
bounds-tiers-column c =
    omega (arith, column-few c.requires.0 c.requires.2 c.requires.3 c.mitigant_at-m.ensures c.requires.4 (rw (c.from.ensures, c.from-from.ensures) at c.of_form-column.ensures.0), c.requires.5.size)

pub returns : goal.returns
returns c =
    part-cell c.requires.0 c.requires.2 c.requires.3 c.mitigant_at-m.ensures c.requires.4 (rw (c.from.ensures, c.from-from.ensures) at c.of_form-column.ensures.0) c.requires.5 (rw c.from-from.ensures at c.from-2.ensures) c.from-3.ensures
