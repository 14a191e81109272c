-- A sum over groups and tiers of what is at one group and tier alone (twice).
use mathlib.Core.Bool.{◌&&◌}
use mathlib.Core.Path.{◌≡◌, ◌∙◌}
use Prim.Native.Nat.{ℕ, ◌+◌, ◌-◌, ◌≤◌, ◌<◌}
use native.Mathlib.Omega.{arith}
use borrow.Author.Tests.{eq-eqb, eqb-true}
use Rattle.std.specs.Prelude.{if◌then◌else◌}
use Rattle.words.specs.Words.{◌=?◌, sum}
use Rattle.words.specs.Ranges.{sum-here}
use Rattle.figures.proofs.Sums.{sum-none, sum_one, none_of}

pub twice : (p q v m n : ℕ) → 1 ≤ p → p ≤ m → q < n → sum (λ k. sum (λ t. if p =? (k + 1) && q =? t then v else 0) n) m ≡ v
twice p q v m n h l k =
    sum_one (λ k. sum (λ t. if p =? (k + 1) && q =? t then v else 0) n) m (p - 1) (omega arith)
    (λ u _ z. sum-none (λ t. if p =? (u + 1) && q =? t then v else 0) n (λ t _. none_of (p =? (u + 1)) (q =? t) v (λ a _. z (omega (arith, eqb-true p (u + 1) a)))))
    ∙ (let e : p ≡ p - 1 + 1 = omega arith in rw (eq-eqb p (p - 1 + 1) e) (sum-here v q n k))
