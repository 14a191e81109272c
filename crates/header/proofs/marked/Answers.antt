-- `marked`: four bytes and three, byte by byte.
use mathlib.Core.Bool.{and_assoc, and-true}
use mathlib.Core.List.{List, [], ◌∷◌}
use mathlib.Core.Path.{◌≡◌}
use Prim.Native.Nat.{ℕ, ◌≤◌}
use native.Mathlib.Omega.{arith}
use lib.Dec.{eqb}
use lib.ListN.{length, get_or, take, drop}
use lib.Seq.{take-suc}
use Rattle.std.proofs.lemmas.Grind.{common_steps}
use Rattle.header.proofs.marked.Goals as goal

first-four : (b : List ℕ) → 4 ≤ length b → take 4 b ≡ get_or b 0 0 ∷ get_or b 1 0 ∷ get_or b 2 0 ∷ get_or b 3 0 ∷ []
first-four b h = search (arith, take-suc)

three-from : (b : List ℕ) → 16 ≤ length b → take 3 (drop 13 b) ≡ get_or b 13 0 ∷ get_or b 14 0 ∷ get_or b 15 0 ∷ []
three-from b h = search (arith, take-suc)

turned : (m n : ℕ) → eqb m n ≡ eqb n m
turned m n = grind (arith, common_steps)

pub returns : goal.returns
returns c =
    let b = c.args.b.now in
    let e = c.starts_with.ensures.value in
    let f = c.eq.ensures in
    rw (e, f, first-four b (omega arith), three-from b (omega arith), turned 65, turned 67, turned 66, turned 0) (simp (and_assoc, and-true))
