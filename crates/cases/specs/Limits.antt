-- Limits off the report: other percents and rates than the published ones, the percent of a fixed amount, a negative base, W.
use Rattle.std.specs.Prelude.{List, [], ◌∷◌, ◌++◌, ℕ, T, set}
use Rattle.words.specs.Words.{every}
use Rattle.book.specs.Build.{counterparty, asset, mitigant, book_bytes}
use Rattle.examples.specs.Build.{covered, plain, reinsured, entered, usual, name, bank, registered, minus}
use Rattle.examples.specs.Reading.{a3_limit_in, printed, line}
use Rattle.examples.specs.Table.{Case, published_bytes, case, right}
use Rattle.examples.specs.Opened.{report_computed}

-- percents 34 and 66
abbrev swapped : List ℕ
swapped = set (set published_bytes 6 34) 8 66

-- row h with a second rate of 100
abbrev second_rate : List ℕ
second_rate = set published_bytes 82 100

-- tiers 5, 4, 8 and 7 of one name
abbrev downgraded : List ℕ
downgraded =
    usual (name ∷ [])
    (entered 2 3 1 300000000 ∷ entered 2 12 1 300000000 ∷ entered 1 3 1 300000000 ∷ entered 1 12 1 300000000 ∷ []) []

-- one name's asset of kind 11, by total and base
abbrev single : ℕ → ℕ → List ℕ
single total base = book_bytes total base 0 (name ∷ []) (plain 11 1 1 ∷ []) []

-- deposits one above the limit; of tier c a province's guarantee, a letter and a bank guarantee; a linked bill, and a bill that is no bank's
abbrev letters : List ℕ
letters =
    usual (bank ∷ counterparty 0 3 0 0 ∷ bank ∷ registered ∷ [])
    (plain 4 1 4700000001 ∷ plain 5 2 1000000000 ∷ reinsured 4 1 100000000 ∷ covered 7 4 1 200000000
    ∷ asset 3 1 0 0 3 0 400000000 0 0 0 0 ∷ plain 3 4 50000000 ∷ [])
    (mitigant 5 8 3 100000000 ∷ mitigant 4 4 3 200000000 ∷ [])

unfoldable table : List Case
table =
    -- a second percent above the first: the tiers rank by what their limits are
    record {
      schedule = swapped;
      book = downgraded;
      reading = printed;
      due =
          line 1 5 300000000 425000000 425000000 0 ++ line 1 4 300000000 825000000 525000000 0
          ++ line 1 8 300000000 850000000 250000000 50000000 ++ line 1 7 300000000 1650000000 800000000 0;
    }
    -- "second rate × VAF", of any row
    ∷ record {
      schedule = second_rate;
      book = usual (name ∷ []) (plain 6 1 1000000001 ∷ []) [];
      reading = printed;
      due = line 1 2 1000000001 1000000000 1000000000 1;
    }
    -- "and fixed amount, times the percent kept"
    ∷ case (book_bytes 2000 0 0 (name ∷ []) (entered 1 0 1 1 ∷ entered 1 3 1 1 ∷ entered 1 12 1 1 ∷ []) []) printed
    (line 1 7 1 680000000 680000000 0 ++ line 1 8 1 1320000000 1319999999 0 ++ line 1 9 1 2000000000 1999999998 0)
    -- "base rate × base (a negative base gives nothing)": 1,000,000,000 and −1,000,000,000
    ∷ case (single 1000000000 1000000000) (λ r. a3_limit_in r ∷ printed r) (625000000 ∷ line 1 0 1 125000000 125000000 0)
    ∷ case (single 1000000000 (minus 1000000000)) (λ r. a3_limit_in r ∷ printed r) (125000000 ∷ line 1 0 1 25000000 25000000 0)
    -- 8, 7 and −8 alone
    ∷ case (single 0 8) (λ r. a3_limit_in r ∷ printed r) (5 ∷ line 1 0 1 1 1 0)
    ∷ case (single 0 7) (λ r. a3_limit_in r ∷ printed r) (4 ∷ line 1 0 1 0 0 1)
    ∷ case (single 0 (minus 8)) (λ r. a3_limit_in r ∷ printed r) (0 ∷ line 1 0 1 0 0 1)
    -- "W, the whole fund's tier c exposure of kind 3": 300,000,000
    ∷ case letters printed
    (line 1 12 4700000001 4700000000 4700000000 1 ++ line 2 11 1000000000 2500000000 2500000000 0 ++ line 3 11 300000000 2500000000 2500000000 0
    ++ line 4 0 50000000 250000000 250000000 0)
    -- "For d the first rate's product is lessened by W", and not the second's
    ∷ case (usual (bank ∷ bank ∷ []) (plain 4 1 2500000001 ∷ plain 3 2 3000000000 ∷ []) []) printed
    (line 1 12 2500000001 2500000000 2500000000 1 ++ line 2 11 3000000000 2500000000 2500000000 500000000)
    ∷ []

holds : T (every right table)
unfolding report_computed table right
holds = tt
