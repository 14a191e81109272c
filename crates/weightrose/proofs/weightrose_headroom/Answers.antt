-- `weightrose::weightrose_headroom` meets its contract: the entry's promise, its answer packed.
use Rattle.promises.proofs.Laws.{answered}
use Rattle.weightrose.proofs.weightrose_headroom.Goals as goal

pub returns : goal.returns
returns c = answered _ _ _ _ _ c.headroom.result c.pack.result c.headroom.ensures c.pack.ensures
