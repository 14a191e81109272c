-- How much more a tier may take, computed on a fund of three groups, and what hasty readings would answer.
use Rattle.std.specs.Prelude.{List, [], ◌∷◌, map, ◌≡◌, refl, ℕ, ◌+◌, ◌-◌, if◌then◌else◌}
use Rattle.words.specs.Words.{◌<?◌, ◌=?◌, sum_of, sum}
use Rattle.wire.specs.Bytes.{M}
use Rattle.cascade.specs.Cascade.{by_tier, by_limit, ranks, insert, ranked, next, standing, left, excess, excess_sum}
use Rattle.cascade.specs.Cut.{stands}
use Rattle.figures.specs.Fund.{Fund}
use Rattle.figures.specs.Report.{ranking, group_excess, charge}
use Rattle.headroom.specs.Headroom.{with_more, least_of, over_at, room_in, headroom_of}

-- tiers 0 and 2 have equal limits; the tiers rank 1, 3, 0, 2, 4
abbrev limits : List ℕ
limits = 30 ∷ 10 ∷ 30 ∷ 20 ∷ 50 ∷ []

-- group 1 stands at 4 in tier 1 and at 16 in tier 0; group 2 has 11 above tier 0's limit, and 5 in tier 4; group 3 has 10 in tier 0 and 15 in tier 2
abbrev exposures : ℕ → List ℕ
exposures g =
    if g =? 1 then 12 ∷ 4 ∷ 0 ∷ 0 ∷ 0 ∷ []
    else if g =? 2 then 33 ∷ 8 ∷ 0 ∷ 0 ∷ 5 ∷ []
    else 10 ∷ 0 ∷ 15 ∷ 0 ∷ 0 ∷ []

-- the A3 sum is 3 above its limit
abbrev fund : Fund
fund =
    record {
      groups = 3;
      tiers = 5;
      order = by_limit (by_tier limits);
      limit = by_tier limits;
      exposure = λ g. by_tier (exposures g);
      vaf = 0;
      stressed_vaf = 0;
      all_net = 0;
      unlimited = 0;
      a3_sum = 12;
      a3_limit = 9;
    }

-- whoever unfolds this opens every definition on the way from a fund to its charge and to the answers
unfoldable opened : ℕ
unfolding sum_of sum ranks insert ranked next standing left excess excess_sum stands group_excess charge with_more least_of room_in
opened = 0

charge-case : charge fund ≡ 14
unfolding opened
charge-case = refl

-- the answer for each tier of a group, and for what has no limit
abbrev answers : ℕ → List ℕ
answers g = map (λ t. headroom_of fund g t M) (0 ∷ 1 ∷ 2 ∷ 3 ∷ 4 ∷ 5 ∷ [])

-- tier 1 has 6 of its own; tier 3, which the group has not, ranks between two that it has, and has 16 itself, but tier 0 above it only 14. "A kind without limit answers M"
first-case : answers 1 ≡ 14 ∷ 6 ∷ 14 ∷ 14 ∷ 34 ∷ M ∷ []
unfolding opened
first-case = refl

-- nothing at the tier in excess and below it, though tier 1 has 2 left over itself and tier 3 has 12; nothing at tier 2 of the same limit; 15 above
second-case : answers 2 ≡ 0 ∷ 0 ∷ 0 ∷ 0 ∷ 15 ∷ M ∷ []
unfolding opened
second-case = refl

-- of equal limits, "an equal limit counts as lower": what is added to tier 0 stands in tier 2 as well
third-case : answers 3 ≡ 5 ∷ 5 ∷ 5 ∷ 5 ∷ 25 ∷ M ∷ []
unfolding opened
third-case = refl

-- "up to M": of less than there is, all of it
most-case : map (headroom_of fund 1 0) (0 ∷ 13 ∷ 14 ∷ 15 ∷ []) ≡ 0 ∷ 13 ∷ 14 ∷ 14 ∷ []
unfolding opened
most-case = refl

-- "without raising the charge; one cent more raises it": the charge with each answer added, and with one more
same_case :
    map (λ g. map (λ t. charge (with_more fund g t (headroom_of fund g t M))) (0 ∷ 1 ∷ 2 ∷ 3 ∷ 4 ∷ [])) (1 ∷ 2 ∷ 3 ∷ [])
    ≡ (14 ∷ 14 ∷ 14 ∷ 14 ∷ 14 ∷ []) ∷ (14 ∷ 14 ∷ 14 ∷ 14 ∷ 14 ∷ []) ∷ (14 ∷ 14 ∷ 14 ∷ 14 ∷ 14 ∷ []) ∷ []
unfolding opened
same_case = refl

more-case :
    map (λ g. map (λ t. charge (with_more fund g t (headroom_of fund g t M + 1))) (0 ∷ 1 ∷ 2 ∷ 3 ∷ 4 ∷ [])) (1 ∷ 2 ∷ 3 ∷ [])
    ≡ (15 ∷ 15 ∷ 15 ∷ 15 ∷ 15 ∷ []) ∷ (15 ∷ 15 ∷ 15 ∷ 15 ∷ 15 ∷ []) ∷ (15 ∷ 15 ∷ 15 ∷ 15 ∷ 15 ∷ []) ∷ []
unfolding opened
more-case = refl

-- what has no limit raises nothing, however much
free-case : charge (with_more fund 2 5 (M + 1)) ≡ 14
unfolding opened
free-case = refl

-- ---- hasty readings, each for the tiers 0 to 4 of a group

abbrev over : ℕ → ℕ → ℕ
over g u = over_at 5 fund.order fund.limit (fund.exposure g) u

abbrev misread : ℕ → (ℕ → ℕ) → List ℕ
misread g f = map f (0 ∷ 1 ∷ 2 ∷ 3 ∷ 4 ∷ [])

-- the tier's own limit alone: too much in group 1's tier 3, group 2's tiers 1 and 3, group 3's tier 0
own-case : misread 2 (over 2) ≡ 0 ∷ 2 ∷ 0 ∷ 12 ∷ 15 ∷ []
unfolding opened
own-case = refl

-- the tiers of a higher limit alone, so that equal ones do not count
higher-case : misread 3 (λ t. least_of (λ u. u =? t) (over 3) 5 (least_of (λ u. fund.limit t <? fund.limit u) (over 3) 5 M)) ≡ 20 ∷ 5 ∷ 5 ∷ 5 ∷ 25 ∷ []
unfolding opened
higher-case = refl

-- the tiers that rank below it
lower-case : misread 1 (λ t. least_of (λ u. fund.order u t) (over 1) 5 M) ≡ 6 ∷ 6 ∷ 6 ∷ 6 ∷ 6 ∷ []
unfolding opened
lower-case = refl

-- the report's left: the limit less what stands before the tier
left-case : misread 1 (left fund.limit (fund.exposure 1) (ranking fund)) ≡ 26 ∷ 10 ∷ 14 ∷ 16 ∷ 34 ∷ []
unfolding opened
left-case = refl

-- exposures not cut: group 2's 46 in place of the 35 that stand
uncut-case : misread 2 (λ t. least_of (fund.order t) (λ u. fund.limit u - stands 5 fund.order (fund.exposure 2) (λ _. 0) u) 5 M) ≡ 0 ∷ 0 ∷ 0 ∷ 0 ∷ 4 ∷ []
unfolding opened
uncut-case = refl

-- the tiers that the group has, alone: tier 2 of group 1 would be held by nothing but M
present-case : misread 1 (λ t. least_of (λ u. if fund.order t u then 0 <? fund.exposure 1 u else 0 <? 0) (over 1) 5 M) ≡ 14 ∷ 6 ∷ M ∷ 14 ∷ M ∷ []
unfolding opened
present-case = refl
