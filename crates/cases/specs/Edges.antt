-- What is just accepted: every field at its most, and amounts that just do not refuse.
use Rattle.std.specs.Prelude.{List, [], ◌∷◌, ℕ, T, set}
use Rattle.words.specs.Words.{every}
use Rattle.wire.specs.Bytes.{M}
use Rattle.book.specs.Build.{counterparty, asset, mitigant, book_bytes}
use Rattle.examples.specs.Build.{plain, usual, name, minus}
use Rattle.examples.specs.Reading.{vaf_in, vaf'_in, cells, cell, a3_limit_in}
use Rattle.examples.specs.Table.{Case, published_bytes, case, right}
use Rattle.examples.specs.Opened.{report_computed}

-- VAF, VAF' and the A3 limit
abbrev figures : List ℕ → List ℕ
figures r = vaf_in r ∷ vaf'_in r ∷ a3_limit_in r ∷ []

-- both percents 100, row z's rate 1,500
abbrev highest : List ℕ
highest = set (set (set (set published_bytes 6 100) 8 100) 108 220) 109 5

unfoldable table : List Case
table =
    -- total and base M: 1,500 per mille of M
    record { schedule = highest; book = book_bytes M M 0 [] [] []; reading = figures; due = M ∷ M ∷ 15000000000000 ∷ [] }
    -- base −M, all of it excluded
    ∷ case (book_bytes M (minus M) M [] [] []) figures (M ∷ 0 ∷ 0 ∷ [])
    -- grade 7, kind 4 and every flag; a reinsurance asset with every flag, the last entry and month, every amount M; a mitigant with every flag, value M
    ∷ case
    (book_bytes M 0 0 (counterparty 0 4 7 7 ∷ counterparty 1 0 0 0 ∷ []) (asset 9 3 2 255 2 1 M M M M M ∷ []) (mitigant 5 31 2 M ∷ []))
    figures (0 ∷ 0 ∷ 0 ∷ [])
    -- VAF' M
    ∷ case (book_bytes 0 0 0 (name ∷ []) (asset 9 0 0 0 1 0 0 0 0 0 M ∷ []) []) figures (0 ∷ M ∷ 1250000000000 ∷ [])
    -- "offsets (..) at most its value" is asked of reinsurance alone
    ∷ case (usual (name ∷ []) (asset 11 0 0 0 1 0 5 6 0 0 0 ∷ plain 6 1 5 ∷ []) []) cells (cell 1 2 5)
    ∷ []

holds : T (every right table)
unfolding report_computed table right
holds = tt
