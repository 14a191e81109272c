-- `published::put_published` meets its contract: the rows stand after the head.
use mathlib.Core.Path.{refl}
use native.Mathlib.Omega.{arith}
use Rattle.words.specs.Words.{each_of}
use Rattle.wire.proofs.Laws.{then-placed}
use Rattle.schedule.specs.Schedule.{head_size, published, rows_of, head_bytes, row_bytes, schedule_bytes}
use Rattle.published.proofs.put_published.Goals as goal

pub returns : goal.returns
unfolding schedule_bytes head_bytes row_bytes each_of
returns c =
    then-placed c.args.d.now (head_bytes published) (each_of row_bytes (rows_of published)) 0 head_size c.put_head.ensures c.put_rows.ensures refl (omega (arith, c.requires))
