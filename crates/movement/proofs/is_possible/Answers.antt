-- `is_possible`: by what was asked.
use mathlib.Core.Path.{sym, ◌∙◌}
use Rattle.movement.proofs.Asked.{same-possible, place-there}
use Rattle.movement.proofs.is_possible.Goals as goal

pub returns-in-Add : goal.returns-in-Add
returns-in-Add c = sym (same-possible c.args.b.now c.in-Add.is)

pub returns-in-Remove : goal.returns-in-Remove
returns-in-Remove c =
    place-there c.args.b.now c.in-Remove.place c.header_at-h.ensures c.is_there.ensures
    ∙ sym (same-possible c.args.b.now c.in-Remove.is)
