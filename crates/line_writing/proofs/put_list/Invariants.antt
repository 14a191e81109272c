-- `put_list` meets its contract. The loop's invariant: the array has the ranked exposures of the last group; what stands, the excesses so far and the
-- exposures to come are within all exposures; and, of whatever limits the ranked ones are, the lines that are still to come are put behind those that are,
-- and their excesses make up the sum.
use mathlib.Core.Path.{◌≡◌}
use mathlib.Core.List.{List, [], map}
use Prim.Native.Nat.{ℕ, ◌+◌, ◌*◌, ◌≤◌}
use lib.ListN.{length}
use Rattle.std.specs.Prelude.{Some}
use Rattle.std.specs.Option.{unwrap_or}
use Rattle.words.specs.Words.{sum_of}
use Rattle.cascade.specs.Cascade.{by_tier}
use Rattle.figures.specs.Report.{head_size, line_size}
use Rattle.rows.specs.Rows.{row}
use Rattle.lines.specs.Listing.{exposure_in, source, no_group, entries_in}
use Rattle.line_writing.proofs.Writing.{rest, Put}
use Rattle.line_writing.proofs.put_list.Given as goal

abbrev pub invariant-loop-entry : goal.invariant-loop-entry
invariant-loop-entry l = (l.standing + l.excesses + sum_of (exposure_in l.cells) (rest (source [] l.ranking l.cells l.sets l.heads) l.fn.table.list.now (length l.fn.table.list.now) l.entry-index) ≤ sum_of (exposure_in l.cells) (entries_in (source [] l.ranking l.cells l.sets l.heads) l.fn.table.list.now (length l.fn.table.list.now)))
    × ((k : ℕ) → l.last ≡ Some k → l.exposures ≡ map (by_tier (row l.cells k)) l.ranking)
    × (l.place ≡ head_size + line_size * l.entry-index)
    × (length l.d ≡ length l.initial.d)
    × ((limits : List ℕ) → l.ranked ≡ map (by_tier limits) l.ranking → Put (source limits l.ranking l.cells l.sets l.heads) l.fn.table.list.now (length l.fn.table.list.now) l.initial.d l.d l.excesses l.standing (unwrap_or l.last no_group) l.place l.entry-index)
