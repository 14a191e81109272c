-- "Values (P16 to P20, P26, P27)": stressed, netted and excluded amounts in VAF and VAF', in net, all net and unlimited.
use Rattle.std.specs.Prelude.{List, [], ◌∷◌, ◌++◌, ℕ, T}
use Rattle.words.specs.Words.{every}
use Rattle.book.specs.Build.{asset, counterparty, book_bytes}
use Rattle.examples.specs.Build.{plain, usual, name}
use Rattle.examples.specs.Reading.{vaf_in, vaf'_in, all_net_in, unlimited_in, cells, cell}
use Rattle.examples.specs.Table.{Case, case, right}
use Rattle.examples.specs.Opened.{report_computed}

abbrev figures : List ℕ → List ℕ
figures r = vaf_in r ∷ vaf'_in r ∷ all_net_in r ∷ unlimited_in r ∷ []

-- netted 40 above stressed 20; stressed 180, the greater amount not asked for; a linked one; offsets of other kinds, within the value and above it
abbrev stresses : List ℕ
stresses =
    book_bytes 1000 0 30 (name ∷ [])
    (asset 9 0 0 0 1 0 100 40 0 0 20 ∷ asset 9 0 0 0 1 0 200 50 10 300 180 ∷ asset 9 1 0 0 1 0 60 10 0 0 60
    ∷ asset 11 0 0 0 1 0 100 30 20 0 0 ∷ asset 6 0 0 0 1 0 10 30 0 0 0 ∷ []) []

unfoldable table : List Case
table =
    -- VAF 1000 − (40 + 50 + 10), VAF' 1000 − (100 + 200 + 60) + (0 + 130 + 50) − 30; nets 0, 120, 50, 50, 0, the third one linked
    case stresses figures (900 ∷ 790 ∷ 220 ∷ 50 ∷ [])
    -- the limit on VAF' is the lower one here, 19 against 22
    ∷ case stresses cells (cell 1 1 120 ++ cell 1 0 50)
    -- with bit 1 "the greater of the two", whichever that is
    ∷ case (book_bytes 1000 0 0 (name ∷ []) (asset 9 2 0 0 1 0 100 0 0 130 70 ∷ asset 9 2 0 0 1 0 100 0 0 70 160 ∷ []) []) figures
    (1000 ∷ 1090 ∷ 290 ∷ 0 ∷ [])
    -- "unlimited (linked nets and exposures without limit)": the last make no line
    ∷ case
    (usual (counterparty 0 2 0 0 ∷ counterparty 0 4 0 1 ∷ name ∷ []) (plain 1 1 500 ∷ plain 2 2 60 ∷ asset 6 1 0 0 3 0 7 0 0 0 0 ∷ plain 11 3 1000 ∷ []) [])
    (λ r. figures r ++ cells r) (10000000000 ∷ 10000000000 ∷ 1567 ∷ 567 ∷ cell 3 0 1000)
    ∷ []

holds : T (every right table)
unfolding report_computed table right
holds = tt
