-- `schedule::row_at` meets its contract: each call reads its field of the definition.
use Rattle.schedule.specs.Fields.{row_by}
use Rattle.schedule.proofs.row_at.Goals as goal

pub returns : goal.returns
returns c =
    row_by _ _ _
    c.rate_at.ensures
    c.rate_at-2.ensures
    c.rate_at-3.ensures
    c.u64_at.ensures
