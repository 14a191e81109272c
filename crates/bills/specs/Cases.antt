-- Bills, computed on a fund of two groups: two tiers of the first in excess, an amount without limit, and an A3 excess.
use Rattle.std.specs.Prelude.{List, [], ◌∷◌, map, ◌≡◌, refl, ℕ, if◌then◌else◌}
use Rattle.words.specs.Words.{◌=?◌, sum_of, sum}
use Rattle.cascade.specs.Cascade.{by_tier, by_limit, ranks, insert, ranked, next, standing, excess, excess_sum}
use Rattle.figures.specs.Fund.{Fund}
use Rattle.figures.specs.Report.{group_excess, charge}
use Rattle.bills.specs.Lines.{ExposureLine, amount_in, tier_excess, stands_in, excess_lines}
use Rattle.bills.specs.Bills.{desk_count, amount_of_desk, desk_excess, cost_of, bill_of}

-- limits 100, 160 and 500. Group 1 has 120 in tier 0 and 90 in tier 1, of which 100 and 60 stand, and 700 without limit; group 2 has 130 in tier 0. The A3 sum is 7
-- above its limit
abbrev limits : List ℕ
limits = 100 ∷ 160 ∷ 500 ∷ []

abbrev exposures : ℕ → List ℕ
exposures g = if g =? 1 then 120 ∷ 90 ∷ 0 ∷ 700 ∷ [] else if g =? 2 then 130 ∷ 0 ∷ 0 ∷ 0 ∷ [] else []

abbrev fund : Fund
fund =
    record {
      groups = 2;
      tiers = 3;
      order = by_limit (by_tier limits);
      limit = by_tier limits;
      exposure = λ g. by_tier (exposures g);
      vaf = 0;
      stressed_vaf = 0;
      all_net = 0;
      unlimited = 700;
      a3_sum = 57;
      a3_limit = 50;
    }

-- a line by group, tier, amount and desk
abbrev line : ℕ → ℕ → ℕ → ℕ → ExposureLine
line group tier amount desk = record { group = group; tier = tier; amount = amount; desk = desk }

abbrev lines : List ExposureLine
lines = line 1 0 70 4 ∷ line 1 1 80 0 ∷ line 2 0 90 9 ∷ line 1 3 700 5 ∷ line 1 0 40 1 ∷ line 2 0 40 4 ∷ line 1 1 10 4 ∷ line 1 0 10 255 ∷ []

-- whoever unfolds this opens every definition on the way from a fund and its lines to the desks' excesses
unfoldable opened : ℕ
unfolding sum_of sum amount_in tier_excess stands_in excess_lines amount_of_desk desk_excess ranks insert ranked next standing excess excess_sum group_excess charge
opened = 0

-- "what stands": exposure less excess, and all of what has no limit
stands-case : map (stands_in fund 1) (0 ∷ 1 ∷ 2 ∷ 3 ∷ []) ≡ 100 ∷ 60 ∷ 0 ∷ 700 ∷ []
unfolding opened
stands-case = refl

-- "given to the exposure lines in book order": in tier 0 of group 1 the first line whole, of the second 30 of 40, of the third nothing; each group by itself
excess-case : map (λ (x : ExposureLine). x.amount) (excess_lines (stands_in fund) lines) ≡ 0 ∷ 20 ∷ 0 ∷ 0 ∷ 10 ∷ 30 ∷ 10 ∷ 10 ∷ []
unfolding opened
excess-case = refl

-- "The A3 excess goes to desk 0", beside its own lines' 20
desk-case : map (desk_excess fund lines) (0 ∷ 1 ∷ 4 ∷ 5 ∷ 9 ∷ 255 ∷ []) ≡ 27 ∷ 10 ∷ 40 ∷ 0 ∷ 0 ∷ 10 ∷ []
unfolding opened
desk-case = refl

total-case : (sum (desk_excess fund lines) desk_count ≡ 87) × (charge fund ≡ 87)
unfolding opened
total-case = (refl, refl)

-- at three hundredths, of 27, 37, 77 and 87: 0.81, 1.11, 2.31, 2.61, each rounded down less the one before. Each desk's own three hundredths would be 0, 0, 1 and 0
bill-case : map (bill_of (desk_excess fund lines) 300) (0 ∷ 1 ∷ 4 ∷ 5 ∷ 9 ∷ 255 ∷ []) ≡ 0 ∷ 1 ∷ 1 ∷ 0 ∷ 0 ∷ 0 ∷ []
unfolding opened cost_of bill_of
bill-case = refl

-- excesses of 7 at 999 ten-thousandths: 0.69, 1.39, 2.09, 2.79, 3.49 in all. Rounded each by itself every bill would be 0
running-case : map (bill_of (λ _. 7) 999) (0 ∷ 1 ∷ 2 ∷ 3 ∷ 4 ∷ []) ≡ 0 ∷ 1 ∷ 1 ∷ 0 ∷ 1 ∷ []
unfolding sum cost_of bill_of
running-case = refl

-- rates 0, 1 and 1,000 on 10,000 and 9,999
rate-case : map (λ rate. bill_of (λ d. if d =? 0 then 10000 else 9999) rate 0) (0 ∷ 1 ∷ 1000 ∷ []) ≡ 0 ∷ 1 ∷ 1000 ∷ []
unfolding sum cost_of bill_of
rate-case = refl
