-- The loop that halves: entries below a place are halved, the others as they were.
use mathlib.Core.List.{List}
use mathlib.Core.Path.{◌≡◌}
use Prim.Native.Nat.{ℕ, ◌/◌, ◌≤◌, ◌<◌}
use lib.ListN.{length, get_or}

pub record Halving (before t : List ℕ) (place : ℕ) : Type 0 where
  pub size : length t ≡ length before
  pub below : (q : ℕ) → q < place → get_or t q 0 ≡ get_or before q 0 / 2
  pub above : (q : ℕ) → place ≤ q → get_or t q 0 ≡ get_or before q 0
