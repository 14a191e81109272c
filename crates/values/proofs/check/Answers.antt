-- `check`: by two of the sums.
use Rattle.values.proofs.check.Goals as goal

pub check_sums-requires : goal.check_sums-requires
check_sums-requires c = (c.requires.0, c.requires.1.reinsurance, c.requires.1.stressed)
