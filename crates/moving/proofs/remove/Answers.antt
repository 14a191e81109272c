-- `remove`: what `moved` promises of the change that it is handed.
use Rattle.moving.proofs.remove.Goals as goal

pub returns : goal.returns
returns c = c.moved.ensures
