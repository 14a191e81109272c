-- `add_bits` meets its contract. The loop's invariant: each set has the bits of the entries passed.
use mathlib.Core.Path.{◌≡◌}
use Prim.Native.Nat.{ℕ, ◌+◌}
use lib.ListN.{length, take, get_or}
use Rattle.words.specs.Words.{sum_of}
use Rattle.lines.specs.Listing.{bit_for}
use Rattle.lines.proofs.add_bits.Given as goal

abbrev pub invariant-loop-entry : goal.invariant-loop-entry
invariant-loop-entry l = (length l.sets ≡ length l.initial.sets) × ((k : ℕ) → get_or l.sets k 0 ≡ get_or l.initial.sets k 0 + sum_of (bit_for l.ranking k) (take l.entry-index l.list))
