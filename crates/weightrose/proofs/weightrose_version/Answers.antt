-- `weightrose::weightrose_version` meets its contract: the number, and what is read in it.
use Rattle.promises.proofs.Laws.{versioned}
use Rattle.weightrose.proofs.weightrose_version.Goals as goal

pub returns : goal.returns
returns c = versioned _ c.version.ensures
