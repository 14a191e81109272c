-- Groups of document 01 and one of sixteen tiers with equal limits, computed on the definitions.
use mathlib.Core.Path.{◌≡◌, refl}
use mathlib.Core.List.{List, [], ◌∷◌, map}
use Prim.Native.Nat.{ℕ}
use lib.ListN.{length}
use Rattle.words.specs.Words.{◌<?◌, sum, those, All}
use Rattle.cascade.specs.Cascade.{by_tier, ranks, by_limit, insert, ranked, next, standing, left, excess, excess_sum}
use Rattle.cascade.specs.Cut.{stands}

-- limits and exposures by tier, and what is to come of them: the tiers by rank, a line for each tier of the group, the excesses summed
record Case : Type 0 where
  limits : List ℕ
  exposures : List ℕ
  ranking : List ℕ
  lines : List (List ℕ)
  total : ℕ

module _ (c : Case) where
  abbrev L : ℕ → ℕ
  L = by_tier c.limits

  abbrev e : ℕ → ℕ
  e = by_tier c.exposures

  abbrev n : ℕ
  n = length c.limits

  abbrev x : ℕ → ℕ
  x = excess L e (ranked (by_limit L) n)

  -- tier, exposure, limit, left, excess, and what the excesses leave standing at the tier
  abbrev line : ℕ → List ℕ
  line t = t ∷ e t ∷ L t ∷ left L e (ranked (by_limit L) n) t ∷ x t ∷ stands n (by_limit L) e x t ∷ []

  abbrev Holds : Type 0
  Holds =
      (ranked (by_limit L) n ≡ c.ranking) × (map line (those (λ t. 0 <? e t) (ranked (by_limit L) n)) ≡ c.lines)
      × (excess_sum n L e (ranked (by_limit L) n) ≡ c.total)

-- T2, at the limits of the published schedule in the example fund
abbrev t2 : Case
t2 =
    record {
      limits = 250000000 ∷ 250000000 ∷ 500000000 ∷ 500000000 ∷ 425000000 ∷ 825000000 ∷ 1250000000 ∷ 850000000 ∷ 1650000000 ∷ 2500000000 ∷ 2500000000 ∷ 2500000000 ∷ 5000000000 ∷ 5000000000 ∷ 3300000000 ∷ 1700000000 ∷ [];
      exposures = 300000000 ∷ 0 ∷ 300000000 ∷ [];
      ranking = 0 ∷ 1 ∷ 4 ∷ 2 ∷ 3 ∷ 5 ∷ 7 ∷ 6 ∷ 8 ∷ 15 ∷ 9 ∷ 10 ∷ 11 ∷ 14 ∷ 12 ∷ 13 ∷ [];
      lines =
          (0 ∷ 300000000 ∷ 250000000 ∷ 250000000 ∷ 50000000 ∷ 250000000 ∷ [])
          ∷ (2 ∷ 300000000 ∷ 500000000 ∷ 250000000 ∷ 50000000 ∷ 500000000 ∷ [])
          ∷ [];
      total = 100000000;
    }

-- T5: bills and deposits of one bank, W being the bills
abbrev t5 : Case
t5 =
    record {
      limits = 250000000 ∷ 250000000 ∷ 500000000 ∷ 500000000 ∷ 425000000 ∷ 825000000 ∷ 1250000000 ∷ 850000000 ∷ 1650000000 ∷ 2500000000 ∷ 2500000000 ∷ 2500000000 ∷ 4000000000 ∷ 5000000000 ∷ 3300000000 ∷ 1700000000 ∷ [];
      exposures = 0 ∷ 0 ∷ 0 ∷ 0 ∷ 0 ∷ 0 ∷ 0 ∷ 0 ∷ 0 ∷ 0 ∷ 0 ∷ 1000000000 ∷ 4000000000 ∷ [];
      ranking = 0 ∷ 1 ∷ 4 ∷ 2 ∷ 3 ∷ 5 ∷ 7 ∷ 6 ∷ 8 ∷ 15 ∷ 9 ∷ 10 ∷ 11 ∷ 14 ∷ 12 ∷ 13 ∷ [];
      lines =
          (11 ∷ 1000000000 ∷ 2500000000 ∷ 2500000000 ∷ 0 ∷ 1000000000 ∷ [])
          ∷ (12 ∷ 4000000000 ∷ 4000000000 ∷ 3000000000 ∷ 1000000000 ∷ 4000000000 ∷ [])
          ∷ [];
      total = 1000000000;
    }

-- every tier has exposure, and six limits are shared by two or three tiers
abbrev sixteen : Case
sixteen =
    record {
      limits = 50 ∷ 30 ∷ 50 ∷ 30 ∷ 10 ∷ 90 ∷ 70 ∷ 70 ∷ 10 ∷ 90 ∷ 110 ∷ 50 ∷ 130 ∷ 30 ∷ 110 ∷ 5 ∷ [];
      exposures = 4 ∷ 9 ∷ 25 ∷ 8 ∷ 7 ∷ 30 ∷ 20 ∷ 5 ∷ 6 ∷ 12 ∷ 15 ∷ 9 ∷ 20 ∷ 3 ∷ 11 ∷ 8 ∷ [];
      ranking = 15 ∷ 4 ∷ 8 ∷ 1 ∷ 3 ∷ 13 ∷ 0 ∷ 2 ∷ 11 ∷ 6 ∷ 7 ∷ 5 ∷ 9 ∷ 10 ∷ 14 ∷ 12 ∷ [];
      lines =
          (15 ∷ 8 ∷ 5 ∷ 5 ∷ 3 ∷ 5 ∷ [])
          ∷ (4 ∷ 7 ∷ 10 ∷ 5 ∷ 2 ∷ 10 ∷ [])
          ∷ (8 ∷ 6 ∷ 10 ∷ 0 ∷ 6 ∷ 10 ∷ [])
          ∷ (1 ∷ 9 ∷ 30 ∷ 20 ∷ 0 ∷ 19 ∷ [])
          ∷ (3 ∷ 8 ∷ 30 ∷ 11 ∷ 0 ∷ 27 ∷ [])
          ∷ (13 ∷ 3 ∷ 30 ∷ 3 ∷ 0 ∷ 30 ∷ [])
          ∷ (0 ∷ 4 ∷ 50 ∷ 20 ∷ 0 ∷ 34 ∷ [])
          ∷ (2 ∷ 25 ∷ 50 ∷ 16 ∷ 9 ∷ 50 ∷ [])
          ∷ (11 ∷ 9 ∷ 50 ∷ 0 ∷ 9 ∷ 50 ∷ [])
          ∷ (6 ∷ 20 ∷ 70 ∷ 20 ∷ 0 ∷ 70 ∷ [])
          ∷ (7 ∷ 5 ∷ 70 ∷ 0 ∷ 5 ∷ 70 ∷ [])
          ∷ (5 ∷ 30 ∷ 90 ∷ 20 ∷ 10 ∷ 90 ∷ [])
          ∷ (9 ∷ 12 ∷ 90 ∷ 0 ∷ 12 ∷ 90 ∷ [])
          ∷ (10 ∷ 15 ∷ 110 ∷ 20 ∷ 0 ∷ 105 ∷ [])
          ∷ (14 ∷ 11 ∷ 110 ∷ 5 ∷ 6 ∷ 110 ∷ [])
          ∷ (12 ∷ 20 ∷ 130 ∷ 20 ∷ 0 ∷ 130 ∷ [])
          ∷ [];
      total = 62;
    }

table : All Holds (t2 ∷ t5 ∷ sixteen ∷ [])
unfolding sum those ranked insert ranks next standing left excess excess_sum stands
table = ((refl, refl, refl), ((refl, refl, refl), ((refl, refl, refl), tt)))
