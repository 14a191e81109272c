-- C-15, "Rates in ten-thousandths", off the report: schedules of version 2, and the same rates in both versions.
use Rattle.std.specs.Prelude.{List, [], ◌∷◌, ◌++◌, ℕ, T, set}
use Rattle.words.specs.Words.{every}
use Rattle.wire.specs.Bytes.{M, bytes16, placed}
use Rattle.book.specs.Build.{book_bytes, specialist_bytes}
use Rattle.schedule.specs.declared.Schedule.{Schedule}
use Rattle.schedule.specs.Schedule.{published, schedule_bytes}
use Rattle.schedule.specs.PublishedLaws.{published2}
use Rattle.examples.specs.Build.{plain, entered, usual, name, graded_name, bank}
use Rattle.examples.specs.Reading.{vaf_in, vaf'_in, a3_limit_in, printed, line}
use Rattle.examples.specs.Table.{Case, published_bytes, right}
use Rattle.cases.specs.Sums.{t6, t7}
use Rattle.examples.specs.Opened.{report_computed}

-- "Schedule version 2 has the same layout"
abbrev version2 : Schedule → List ℕ
version2 s = set (schedule_bytes s) 4 2

-- ten times the published rates; the same with another rate in row h, and in row z
abbrev tenfold : List ℕ
tenfold = published2

abbrev with_h : ℕ → List ℕ
with_h rate = placed tenfold 80 (bytes16 rate)

abbrev with_z : List ℕ → ℕ → List ℕ
with_z s rate = placed s 108 (bytes16 rate)

-- a case with a schedule
abbrev under : List ℕ → List ℕ → (List ℕ → List ℕ) → List ℕ → Case
under schedule book reading due = record { schedule = schedule; book = book; reading = reading; due = due }

-- one graded name's loan, by total, without base
abbrev loan : ℕ → ℕ → List ℕ
loan total value = book_bytes total 0 0 (graded_name ∷ []) (plain 7 1 value ∷ []) []

-- a name each in tiers 9, 6 and 12
abbrev fixed_amounts : List ℕ
fixed_amounts = book_bytes 2000 0 0 (name ∷ name ∷ bank ∷ []) (entered 1 0 1 1 ∷ entered 2 0 2 1 ∷ plain 4 3 1 ∷ []) []

-- a specialist fund's retrocessions, VAF' 71
abbrev retrocessions : List ℕ
retrocessions = specialist_bytes 100 0 29 (name ∷ []) (entered 3 0 1 20 ∷ entered 3 3 1 20 ∷ entered 3 12 1 20 ∷ []) []

unfoldable table : List Case
table =
    -- T6 and T7 with ten times the rates; with the published rates, which version 2 lets pass too, VAF 40 and 399 give 0, 400 gives 1
    under tenfold (t6 39) (λ r. vaf_in r ∷ printed r) (39 ∷ line 1 0 1 0 0 1)
    ∷ under tenfold (t6 40) (λ r. vaf_in r ∷ printed r) (40 ∷ line 1 0 1 1 1 0)
    ∷ under tenfold t7 (λ r. vaf'_in r ∷ printed r) (71 ∷ line 1 4 10 3 3 7)
    ∷ under (version2 published) (t6 40) printed (line 1 0 1 0 0 1)
    ∷ under (version2 published) (t6 399) printed (line 1 0 1 0 0 1)
    ∷ under (version2 published) (t6 400) printed (line 1 0 1 1 1 0)
    -- "an adjusted rate of 4.37 per cent": on VAF 71; on M, where 43 and 44 per mille give 430,000,000,000 and 440,000,000,000
    ∷ under (with_h 437) (loan 71 5) printed (line 1 2 5 3 3 2)
    ∷ under (with_h 437) (loan M 437000000001) printed (line 1 2 437000000001 437000000000 437000000000 1)
    ∷ under (with_h 430) (loan M 437000000001) printed (line 1 2 437000000001 430000000000 430000000000 7000000001)
    ∷ under (with_h 440) (loan M 437000000001) printed (line 1 2 437000000001 440000000000 440000000000 0)
    -- one rate in both versions: 1,500 is 1.5 times M in version 1 and 0.15 times M in version 2, whose most, 15,000, is 1.5 times M
    ∷ under (with_z published_bytes 1500) (book_bytes M 0 0 [] [] []) (λ r. a3_limit_in r ∷ []) (15000000000000 ∷ [])
    ∷ under (with_z tenfold 1500) (book_bytes M 0 0 [] [] []) (λ r. a3_limit_in r ∷ []) (1500000000000 ∷ [])
    ∷ under (with_z tenfold 15000) (book_bytes M 0 0 [] [] []) (λ r. a3_limit_in r ∷ []) (15000000000000 ∷ [])
    -- fixed amounts are cents in both versions
    ∷ under tenfold fixed_amounts printed (line 1 9 1 2000000000 2000000000 0 ++ line 2 6 1 250 250 0 ++ line 3 12 1 2000000000 2000000000 0)
    ∷ under (version2 published) fixed_amounts printed (line 1 9 1 2000000000 2000000000 0 ++ line 2 6 1 25 25 0 ++ line 3 12 1 2000000000 2000000000 0)
    -- W is cents in both versions: half of 10,000,000,000 less 300,000,000
    ∷ under tenfold (usual (bank ∷ bank ∷ []) (plain 4 1 4700000001 ∷ plain 3 2 300000000 ∷ []) []) printed
    (line 1 12 4700000001 4700000000 4700000000 1 ++ line 2 11 300000000 2500000000 2500000000 0)
    -- C-11's per mille stay 35, 23 and 12 of VAF' 71 whatever the schedule
    ∷ under tenfold retrocessions printed (line 1 15 20 12 12 8 ++ line 1 14 20 23 11 9 ++ line 1 13 20 35 12 8)
    ∷ under (version2 published) retrocessions printed (line 1 15 20 12 12 8 ++ line 1 14 20 23 11 9 ++ line 1 13 20 35 12 8)
    ∷ []

holds : T (every right table)
unfolding report_computed table right
holds = tt
