-- `weightrose::weightrose_convert` meets its contract: the entry's promise, its answer packed.
use Rattle.promises.proofs.Laws.{converts}
use Rattle.weightrose.proofs.weightrose_convert.Goals as goal

pub returns : goal.returns
returns c = converts _ _ _ c.convert.result c.pack.result c.convert.ensures c.pack.ensures
