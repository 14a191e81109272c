-- `weightrose::weightrose_bills` meets its contract: the entry's promise, its answer packed.
use Rattle.promises.proofs.Laws.{bills-written}
use Rattle.weightrose.proofs.weightrose_bills.Goals as goal

pub returns : goal.returns
returns c = bills-written _ _ _ _ _ c.bills.result c.pack.result c.bills.ensures c.pack.ensures
