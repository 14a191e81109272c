-- C-11, "Specialist reinsurers (P46)", off the report: the tier by grade and months, limits of VAF' alone, A3, a covered treaty.
use Rattle.std.specs.Prelude.{List, [], ◌∷◌, ◌++◌, ℕ, T}
use Rattle.words.specs.Words.{every}
use Rattle.book.specs.Build.{counterparty, asset, mitigant, specialist_bytes}
use Rattle.figures.specs.Read.{group_excess_in, charge_in}
use Rattle.examples.specs.Build.{reinsured, entered, specialist, name, graded_name, bank, registered}
use Rattle.examples.specs.Reading.{vaf'_in, a3_sum_in, cells, cell, printed, line}
use Rattle.examples.specs.Table.{Case, case, right}
use Rattle.examples.specs.Opened.{report_computed}

-- a name each, so that each treaty has a line of its own
abbrev names : List (List ℕ)
names = name ∷ name ∷ name ∷ name ∷ name ∷ name ∷ name ∷ name ∷ []

-- graded: a registered life company, with bit 2 and related, approved affiliates, related ones, a bank, of kind 0
abbrev graded_names : List (List ℕ)
graded_names =
    counterparty 0 4 3 0 ∷ counterparty 0 4 3 5 ∷ counterparty 0 0 1 4 ∷ counterparty 0 0 1 2 ∷ counterparty 0 1 2 3 ∷ counterparty 0 4 3 1 ∷ bank ∷ graded_name ∷ []

unfoldable table : List Case
table =
    -- "ungraded, months 0 to 2 give tier 13, 3 to 11 tier 14, 12 to 23 tier 15, from 24 the ordinary rule with no entry"
    case
    (specialist names
    (entered 3 0 1 7 ∷ entered 3 2 2 7 ∷ entered 3 3 3 7 ∷ entered 3 11 4 7 ∷ entered 3 12 5 7 ∷ entered 3 23 6 7 ∷ entered 3 24 7 7 ∷ entered 3 255 8 7 ∷ []) [])
    cells
    (cell 1 13 7 ++ cell 2 13 7 ++ cell 3 14 7 ++ cell 4 14 7 ++ cell 5 15 7 ++ cell 6 15 7 ++ cell 7 1 7 ++ cell 8 1 7)
    -- "Graded gives tier 13 whatever the months", where another entry or none gives e, g or h
    ∷ case
    (specialist graded_names
    (entered 3 0 1 7 ∷ entered 3 2 2 7 ∷ entered 3 3 3 7 ∷ entered 3 11 4 7 ∷ entered 3 12 5 7 ∷ entered 3 23 6 7 ∷ entered 3 24 7 7 ∷ entered 3 255 8 7 ∷ []) [])
    cells
    (cell 1 13 7 ++ cell 2 13 7 ++ cell 3 13 7 ++ cell 4 13 7 ++ cell 5 13 7 ++ cell 6 13 7 ++ cell 7 13 7 ++ cell 8 13 7)
    ∷ case
    (specialist graded_names
    (reinsured 1 0 7 ∷ reinsured 2 0 7 ∷ reinsured 3 0 7 ∷ entered 1 3 4 7 ∷ entered 1 24 5 7 ∷ entered 2 0 6 7 ∷ reinsured 7 0 7 ∷ reinsured 8 0 7 ∷ []) [])
    cells
    (cell 1 9 7 ++ cell 2 9 7 ++ cell 3 9 7 ++ cell 4 6 7 ++ cell 5 6 7 ++ cell 6 3 7 ++ cell 7 3 7 ++ cell 8 3 7)
    -- "500, 330 and 170 per mille of VAF', without base or fixed part": 35, 23 and 12 of VAF' 71, where the base gives tier 1 a limit of 125,000,000; total 100
    ∷ case
    (specialist_bytes 100 1000000000 29 (name ∷ []) (entered 3 24 1 11 ∷ entered 3 0 1 20 ∷ entered 3 3 1 20 ∷ entered 3 12 1 20 ∷ []) [])
    (λ r. vaf'_in r ∷ printed r)
    (71 ∷ line 1 15 20 12 12 8 ++ line 1 14 20 23 11 9 ++ line 1 13 20 35 12 8 ++ line 1 1 11 125000000 124999965 0)
    -- "A3 doesn't count them": of three groups in tier 13 nothing, of a treaty from 24 months on what its limit leaves, of a registered life company's nothing
    ∷ case
    (specialist (name ∷ graded_name ∷ name ∷ registered ∷ [])
    (entered 3 0 1 1000000000 ∷ entered 3 0 2 1000000000 ∷ entered 3 24 3 300000000 ∷ entered 3 24 4 300000000 ∷ []) [])
    (λ r. cells r ++ (group_excess_in r ∷ a3_sum_in r ∷ charge_in r ∷ []))
    (cell 1 13 1000000000 ++ cell 2 13 1000000000 ++ cell 3 1 300000000 ++ cell 4 1 300000000 ++ (100000000 ∷ 250000000 ∷ 100000000 ∷ []))
    -- a treaty's letter covers half of it; "a remainder goes by its asset's own (..) entry and months"
    ∷ case
    (specialist (graded_name ∷ bank ∷ []) (asset 9 0 3 30 1 1 101 0 0 0 101 ∷ []) (mitigant 5 8 2 101 ∷ []))
    cells
    (cell 1 13 51 ++ cell 2 11 50)
    ∷ []

holds : T (every right table)
unfolding report_computed table right
holds = tt
