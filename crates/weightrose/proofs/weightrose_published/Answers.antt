-- `weightrose::weightrose_published` meets its contract.
use Rattle.promises.proofs.Laws.{too_short, put}
use Rattle.weightrose.proofs.weightrose_published.Goals as goal

pub returns-then-schedule-lt-SIZE : goal.returns-then-schedule-lt-SIZE
returns-then-schedule-lt-SIZE c = too_short _ c.if-schedule-lt-SIZE.true

pub returns : goal.returns
returns c = put c.args.schedule.now _ c.if-schedule-lt-SIZE.false c.put_published.ensures
