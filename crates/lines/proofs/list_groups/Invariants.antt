-- `list_groups` meets its contract. The loop's invariant: the entries of the groups that are still to come, tried from the place reached, leave what all
-- of them leave; and those that have a line lead from there to the place behind all entries.
use mathlib.Core.Path.{◌≡◌}
use Prim.Native.Nat.{◌+◌, ◌*◌, ◌≤◌}
use lib.ListN.{length}
use Rattle.words.specs.Words.{those}
use Rattle.cascade.specs.Cascade.{tiers}
use Rattle.lines.specs.Listing.{all_entries, all_ranks, shown_by, tried}
use Rattle.lines.proofs.Groups.{later}
use Rattle.lines.proofs.list_groups.Given as goal

abbrev pub invariant-loop-k : goal.invariant-loop-k
invariant-loop-k l = (l.place ≤ tiers * l.k) × (length l.list ≡ length l.initial.list)
    × (l.place + length (those (shown_by l.cells l.ranking) (later l.groups all_ranks l.k)) ≡ length (those (shown_by l.cells l.ranking) (all_entries l.groups all_ranks)))
    × (tried (shown_by l.cells l.ranking) l.place (later l.groups all_ranks l.k) l.list ≡ tried (shown_by l.cells l.ranking) 0 (all_entries l.groups all_ranks) l.initial.list)
