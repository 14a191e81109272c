-- The theorems along the ranked tiers, for any order `le` along which limits do not fall: of a group (ranked-optimal, ranked-alone, ranked-stands,
-- ranked-left), of a fund (ranked-fund-optimal), and of a group's excesses summed.
use mathlib.Core.Path.{◌≡◌, refl, ap}
use mathlib.Core.Bool.{Bool}
use mathlib.Core.List.{List}
use Prim.Native.Nat.{ℕ, ◌+◌, ◌-◌, ◌≤◌, ◌<◌}
use native.Mathlib.Omega.{arith}
use native.Mathlib.Decide.{dec_lt}
use borrow.Author.Tests.{lt-ltb, le-ltb}
use lib.Dec.{ltb}
use Rattle.cascade.specs.Cascade.{ranked, standing, left, excess, standing_after, excess_sum}
use Rattle.cascade.specs.Cut.{stands, taken, Optimal, FundOptimal, Ordered}
use Rattle.std.specs.Prelude.{if◌then◌else◌}
use Rattle.words.specs.Words.{sum}
use Rattle.words.specs.Sums.{sum-le, sum_same}
use Rattle.cascade.proofs.Core.{optimal, optimal-only, stands_after, standing-within}
use Rattle.cascade.proofs.Ranking.{ranked-sorted, ranked-lists}

pub ranked-optimal : (n : ℕ) (le : ℕ → ℕ → Bool) (L e : ℕ → ℕ) → Ordered le L → Optimal n le L e (excess L e (ranked le n))
ranked-optimal n le L e o = optimal n le L e (ranked le n) o (ranked-sorted le L o n) (ranked-lists le n)

-- and the excesses are the only best cut of the group's tiers
pub ranked-alone :
    (n : ℕ) (le : ℕ → ℕ → Bool) (L e : ℕ → ℕ) → Ordered le L → (cut : ℕ → ℕ) → Optimal n le L e cut → (t : ℕ) → t < n → 0 < e t → cut t ≡ excess L e (ranked le n) t
ranked-alone n le L e o = optimal-only n le L e (ranked le n) o (ranked-sorted le L o n) (ranked-lists le n)

-- what the excesses leave standing at a tier is what stands after it
pub ranked-stands : (n : ℕ) (le : ℕ → ℕ → Bool) (L e : ℕ → ℕ) → Ordered le L → (t : ℕ) → t < n → stands n le e (excess L e (ranked le n)) t ≡ standing_after L e (ranked le n) t
ranked-stands n le L e o = stands_after n le L e (ranked le n) o (ranked-sorted le L o n) (ranked-lists le n)

-- left is exact: with what stands before it, it is the limit
pub ranked-left : (n : ℕ) (le : ℕ → ℕ → Bool) (L e : ℕ → ℕ) → Ordered le L → (t : ℕ) → t < n → left L e (ranked le n) t + standing L e 0 (ranked le n) t ≡ L t
unfolding left
ranked-left n le L e o t l = omega (arith, standing-within n le L e (ranked le n) o (ranked-sorted le L o n) (ranked-lists le n) t l)

-- a fund's cuts are the best where each group's are
pub fund-optimal : (groups n : ℕ) (le : ℕ → ℕ → Bool) (L : ℕ → ℕ) (e x : ℕ → ℕ → ℕ) → ((g : ℕ) → g < groups → Optimal n le L (e g) (x g)) → FundOptimal groups n le L e x
fund-optimal groups n le L e x o =
    record {
      feasible = λ g l. (o g l).feasible;
      most = λ g l. (o g l).most;
      least = λ cut h. sum-le (λ g. taken n (e g) (x g)) (λ g. taken n (e g) (cut g)) groups (λ g l. (o g l).least (cut g) (h g l));
    }

pub ranked-fund-optimal : (groups n : ℕ) (le : ℕ → ℕ → Bool) (L : ℕ → ℕ) (e : ℕ → ℕ → ℕ) → Ordered le L → FundOptimal groups n le L e (λ g. excess L (e g) (ranked le n))
ranked-fund-optimal groups n le L e o = fund-optimal groups n le L e (λ g. excess L (e g) (ranked le n)) (λ g _. ranked-optimal n le L (e g) o)

-- a cut that agrees with a best one at every tier of the group, those of exposure above 0, is a best one
module _ (n : ℕ) (le : ℕ → ℕ → Bool) (L e x y : ℕ → ℕ) (q : (t : ℕ) → t < n → 0 < e t → x t ≡ y t) where
  stands_same : (t : ℕ) → stands n le e x t ≡ stands n le e y t
  unfolding stands
  stands_same t = sum_same (λ u. (if le u t then e u - x u else 0)) (λ u. (if le u t then e u - y u else 0)) n (λ u l. ap (λ (k : ℕ). (if le u t then k else 0)) (kept u l))
    where
      kept : (u : ℕ) → u < n → e u - x u ≡ e u - y u
      kept u l = elim (dec_lt 0 (e u)) [ yes p ↦ rw (q u l p) | no p ↦ omega arith ]

  taken-same : taken n e x ≡ taken n e y
  unfolding taken
  taken-same =
      sum_same (λ u. (if ltb 0 (e u) then x u else 0)) (λ u. (if ltb 0 (e u) then y u else 0)) n
      (λ u l. elim (dec_lt 0 (e u)) [ yes p ↦ rw (q u l p) | no p ↦ rw (le-ltb 0 (e u) (omega arith)) ])

  pub optimal-same : Optimal n le L e x → Optimal n le L e y
  optimal-same o =
      record {
        feasible = record { within = λ t l p. rw (← q t l p) (o.feasible.within t l p); fits = λ t l p. rw (← stands_same t) (o.feasible.fits t l p) };
        most = λ c h t l p. rw (← stands_same t) (o.most c h t l p);
        least = λ c h. rw (← taken-same) (o.least c h);
      }

-- no excess passes its exposure
pub excess-within : (L e : ℕ → ℕ) (ks : List ℕ) (t : ℕ) → excess L e ks t ≤ e t
unfolding excess
excess-within L e ks t = omega arith

-- the entries of x, which are within the exposures, add up to what x takes
pub sum-taken : (n : ℕ) (e x y : ℕ → ℕ) → ((t : ℕ) → t < n → x t ≡ y t) → ((t : ℕ) → y t ≤ e t) → sum x n ≡ taken n e y
unfolding taken
sum-taken n e x y q h =
    sum_same x (λ u. (if ltb 0 (e u) then y u else 0)) n
    (λ u l. elim (dec_lt 0 (e u)) [ yes p ↦ rw (lt-ltb 0 (e u) p) (q u l) | no p ↦ rw (le-ltb 0 (e u) (omega arith)) (omega (arith, q u l, h u)) ])

-- a group's excesses summed are what they take, and at most its exposures summed
pub excess-sum-taken : (n : ℕ) (L e : ℕ → ℕ) (ks : List ℕ) → excess_sum n L e ks ≡ taken n e (excess L e ks)
unfolding excess_sum
excess-sum-taken n L e ks = sum-taken n e (excess L e ks) (excess L e ks) (λ t l. refl) (excess-within L e ks)

pub excess-sum-within : (n : ℕ) (L e : ℕ → ℕ) (ks : List ℕ) → excess_sum n L e ks ≤ sum e n
unfolding excess_sum
excess-sum-within n L e ks = sum-le (excess L e ks) e n (λ t l. excess-within L e ks t)
