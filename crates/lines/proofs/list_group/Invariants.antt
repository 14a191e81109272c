-- `list_group` meets its contract. The loop's invariant: the ranks that are still to come, tried from the place reached, leave what all of them leave;
-- and those of them that have a line lead from there to the place behind the group's entries.
use mathlib.Core.Path.{◌≡◌}
use mathlib.Core.List.{map}
use Prim.Native.Nat.{◌+◌, ◌≤◌}
use lib.ListN.{length, drop}
use Rattle.words.specs.Words.{those}
use Rattle.lines.specs.Listing.{entry, all_ranks, shown_by, tried}
use Rattle.lines.proofs.list_group.Given as goal

abbrev pub invariant-loop-i : goal.invariant-loop-i
invariant-loop-i l = (l.place ≤ l.at + l.i) × (length l.list ≡ length l.initial.list)
    × (tried (shown_by l.cells l.fn.ranking) l.place (map (entry l.k) (drop l.i all_ranks)) l.list ≡ tried (shown_by l.cells l.fn.ranking) l.at (map (entry l.k) all_ranks) l.initial.list)
    × (l.place + length (those (shown_by l.cells l.fn.ranking) (map (entry l.k) (drop l.i all_ranks))) ≡ l.at + length (those (shown_by l.cells l.fn.ranking) (map (entry l.k) all_ranks)))
