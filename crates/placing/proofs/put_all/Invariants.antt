-- `put_all`: behind each turn one byte more is the source's.
use mathlib.Core.List.{List, ◌++◌}
use mathlib.Core.Path.{◌≡◌}
use Prim.Native.Nat.{ℕ, ◌≤◌}
use lib.ListN.{length, take, drop}
use Rattle.placing.proofs.put_all.Given as goal

-- the first i bytes of s, and then those of d
pub record Put (s d₀ d : List ℕ) (i : ℕ) : Type 0 where
  pub within : i ≤ length s
  pub size : length d ≡ length d₀
  pub bytes : d ≡ take i s ++ drop i d₀

abbrev pub invariant-loop-i : goal.invariant-loop-i
invariant-loop-i l = Put l.s l.initial.d l.d l.i
