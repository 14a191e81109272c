-- `weightrose::weightrose_add` meets its contract: the entry's promise, its answer packed.
use Rattle.promises.proofs.Laws.{movement-made}
use Rattle.weightrose.proofs.weightrose_add.Goals as goal

pub returns : goal.returns
returns c = movement-made _ _ _ _ _ _ c.add.result c.pack.result c.add.ensures c.pack.ensures
