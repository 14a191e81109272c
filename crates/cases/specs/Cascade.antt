-- "Cascade (P23)" and A3: a group with all sixteen tiers, tiers whose rank is not that of their numbers, groups by topmost parent, A3 with kind 4 in a group.
use Rattle.std.specs.Prelude.{List, [], ◌∷◌, ◌++◌, ℕ, T, replicate}
use Rattle.words.specs.Words.{every}
use Rattle.book.specs.Build.{counterparty, book_bytes}
use Rattle.figures.specs.Read.{group_excess_in, charge_in}
use Rattle.examples.specs.Build.{plain, reinsured, entered, usual, specialist, name, graded_name}
use Rattle.examples.specs.Reading.{a3_sum_in, a3_limit_in, printed, line, tier_sets}
use Rattle.examples.specs.Table.{Case, case, right}
use Rattle.examples.specs.Opened.{report_computed}

-- "group excess, A3 sum, A3 limit, charge"
abbrev charges : List ℕ → List ℕ
charges r = group_excess_in r ∷ a3_sum_in r ∷ a3_limit_in r ∷ charge_in r ∷ []

-- 1 a name, 2 its graded bank, 3 the bank's graded registered life company
abbrev sixteen : List ℕ
sixteen =
    specialist (name ∷ counterparty 1 1 1 0 ∷ counterparty 2 4 1 0 ∷ [])
    (plain 11 1 100000000 ∷ reinsured 1 0 100000000 ∷ plain 6 1 300000000 ∷ reinsured 2 0 200000000
    ∷ entered 2 12 1 100000000 ∷ entered 2 3 1 100000000 ∷ entered 2 2 1 100000000
    ∷ entered 1 23 1 900000000 ∷ entered 1 11 1 900000000 ∷ entered 1 0 1 900000000
    ∷ plain 10 3 900000000 ∷ plain 3 2 900000000 ∷ plain 4 2 4000000000
    ∷ entered 3 0 1 600000000 ∷ entered 3 255 2 400000000 ∷ entered 3 11 1 900000000 ∷ entered 3 23 1 700000000 ∷ [])
    []

-- excluded assets make VAF' 8,000,000,000
abbrev excluding : List ℕ
excluding =
    book_bytes 10000000000 0 2000000000 (name ∷ counterparty 1 0 2 0 ∷ [])
    (plain 11 1 100000000 ∷ reinsured 1 0 100000000 ∷ plain 6 1 200000000 ∷ reinsured 2 0 200000000 ∷ []) []

-- groups 1, 4, 5 and 2, 3; place 5 is 4's, and 4 is 1's
abbrev two_groups : List ℕ
two_groups =
    usual (name ∷ name ∷ counterparty 2 0 0 0 ∷ counterparty 1 0 0 0 ∷ counterparty 4 0 0 0 ∷ [])
    (plain 11 3 300000000 ∷ plain 6 2 100000000 ∷ plain 6 5 100000000 ∷ plain 11 4 200000000 ∷ plain 11 5 200000000 ∷ []) []

-- two graded names and an ungraded one in group 1; a graded name and a related registered life company in group 4
abbrev counted : List ℕ
counted =
    usual (graded_name ∷ counterparty 1 0 2 0 ∷ counterparty 1 0 0 0 ∷ graded_name ∷ counterparty 4 4 2 1 ∷ [])
    (reinsured 1 0 300000000 ∷ reinsured 2 0 300000000 ∷ reinsured 3 0 200000000
    ∷ entered 2 12 3 200000000 ∷ entered 2 3 3 200000000 ∷ entered 2 0 3 200000000 ∷ entered 1 12 3 100000000
    ∷ reinsured 4 0 200000000 ∷ reinsured 5 0 300000000 ∷ [])
    []

unfoldable table : List Case
table =
    -- C-17: "Tiers shall rank by the unrounded limit, and only truly equal ones by number"; "an equal limit counts as lower"; C-11: "They rank and cascade like the rest, and A3 doesn't count them"
    case sixteen (λ r. printed r ++ tier_sets r ++ charges r)
    (line 1 0 100000000 250000000 250000000 0
    ++ line 1 1 100000000 250000000 150000000 0
    ++ line 1 4 100000000 425000000 225000000 0
    ++ line 1 2 300000000 500000000 200000000 100000000
    ++ line 1 3 200000000 500000000 0 200000000
    ++ line 1 5 100000000 825000000 325000000 0
    ++ line 1 7 900000000 850000000 250000000 650000000
    ++ line 1 6 100000000 1250000000 400000000 0
    ++ line 1 8 900000000 1650000000 700000000 200000000
    ++ line 1 15 700000000 1700000000 50000000 650000000
    ++ line 1 9 900000000 2500000000 800000000 100000000
    ++ line 1 10 900000000 2500000000 0 900000000
    ++ line 1 11 900000000 2500000000 0 900000000
    ++ line 1 14 900000000 3300000000 800000000 100000000
    ++ line 1 12 4000000000 4100000000 800000000 3200000000
    ++ line 1 13 1000000000 5000000000 900000000 100000000
    ++ replicate 16 65535
    ++ (7100000000 ∷ 600000000 ∷ 1250000000 ∷ 7100000000 ∷ []))
    -- "Tiers 1 and 3 to 9 use VAF'": they rank before 0 and 2
    ∷ case excluding (λ r. printed r ++ charges r)
    (line 1 1 100000000 200000000 200000000 0
    ++ line 1 0 100000000 250000000 150000000 0
    ++ line 1 3 200000000 400000000 200000000 0
    ++ line 1 2 200000000 500000000 100000000 100000000
    ++ (100000000 ∷ 300000000 ∷ 1000000000 ∷ 100000000 ∷ []))
    -- "everyone with the same topmost parent"; "groups by top place"; "all groups' excesses summed"
    ∷ case two_groups (λ r. printed r ++ charges r)
    (line 1 0 400000000 250000000 250000000 150000000
    ++ line 1 2 100000000 500000000 250000000 0
    ++ line 2 0 300000000 250000000 250000000 50000000
    ++ line 2 2 100000000 500000000 250000000 0
    ++ (200000000 ∷ 0 ∷ 1250000000 ∷ 200000000 ∷ []))
    -- A3: "exposures to counterparties not of kind 4 count together, tier by tier, up to the tier's unreduced limit": of group 1 200,000,000 in each of
    -- tiers 1, 4, 5 and 6 and 500,000,000 in tier 3, of which 100,000,000 are left; of group 4 200,000,000. "(bit n is tier n; (..))": 250 and 8
    ∷ case counted (λ r. printed r ++ tier_sets r ++ charges r)
    (line 1 1 200000000 250000000 250000000 0
    ++ line 1 4 200000000 425000000 225000000 0
    ++ line 1 3 600000000 500000000 100000000 500000000
    ++ line 1 5 200000000 825000000 325000000 0
    ++ line 1 7 100000000 850000000 150000000 0
    ++ line 1 6 200000000 1250000000 450000000 0
    ++ line 4 3 500000000 500000000 500000000 0
    ++ (250 ∷ 250 ∷ 250 ∷ 250 ∷ 250 ∷ 250 ∷ 8 ∷ [])
    ++ (500000000 ∷ 1500000000 ∷ 1250000000 ∷ 750000000 ∷ []))
    ∷ []

holds : T (every right table)
unfolding report_computed table right
holds = tt
