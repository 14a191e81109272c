-- `published::put_rows` meets its contract: after n turns the first n rows stand.
use mathlib.Core.List.{List}
use mathlib.Core.Path.{◌≡◌}
use Prim.Native.Nat.{◌≤◌}
use lib.ListN.{length, take}
use Rattle.words.specs.Words.{each_of}
use Rattle.wire.specs.Bytes.{placed}
use Rattle.limit.specs.declared.Row.{Row}
use Rattle.schedule.specs.Schedule.{head_size, row_count, published, rows_of, row_bytes}
use Rattle.published.proofs.put_rows.Given as goal

abbrev pub rows : List Row
rows = rows_of published

abbrev pub invariant-loop-n : goal.invariant-loop-n
invariant-loop-n l = (l.n ≤ row_count) × (length l.d ≡ length l.initial.d) × (l.d ≡ placed l.initial.d head_size (each_of row_bytes (take l.n rows)))
