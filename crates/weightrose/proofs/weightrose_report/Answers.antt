-- `weightrose::weightrose_report` meets its contract: the entry's promise, its answer packed.
use Rattle.promises.proofs.Laws.{reported}
use Rattle.weightrose.proofs.weightrose_report.Goals as goal

pub returns : goal.returns
returns c = reported _ _ _ _ c.report.result c.pack.result c.report.ensures c.pack.ensures
