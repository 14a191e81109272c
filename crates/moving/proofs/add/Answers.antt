-- `add`: what `moved` promises of the change that it is handed.
use Rattle.moving.proofs.add.Goals as goal

pub returns : goal.returns
returns c = c.moved.ensures
