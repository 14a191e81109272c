-- `weightrose::weightrose_remove` meets its contract: the entry's promise, its answer packed.
use Rattle.promises.proofs.Laws.{movement-made}
use Rattle.weightrose.proofs.weightrose_remove.Goals as goal

pub returns : goal.returns
returns c = movement-made _ _ _ _ _ _ c.remove.result c.pack.result c.remove.ensures c.pack.ensures
