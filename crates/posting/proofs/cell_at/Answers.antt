-- `posting::cell_at` meets its contract: the row of the group and the digit of the form in the word.
use Rattle.posting.proofs.Posting.{cell-is}
use Rattle.posting.proofs.cell_at.Goals as goal

pub returns : goal.returns
returns c = cell-is c.requires.0 c.requires.2 c.requires.3 c.mitigant_at-m.ensures c.requires.4 (rw c.from-from.ensures at c.from.ensures) (rw (c.from-2.ensures, c.from-from.ensures) at c.of_form.ensures.0)
