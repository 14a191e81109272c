-- Refusals beside the examples: 13 to 15 and 17 with linked assets and at their edges, and two faults at once, from section to section of the checks.
use Rattle.std.specs.Prelude.{List, [], ◌∷◌, ℕ, ◌+◌, T, set}
use Rattle.words.specs.Words.{every}
use Rattle.wire.specs.Bytes.{M}
use Rattle.book.specs.Build.{counterparty, asset, mitigant, book_bytes, specialist_bytes}
use Rattle.examples.specs.Build.{reinsured, entered, usual, name}
use Rattle.examples.specs.Table.{published_bytes}
use Rattle.cases.specs.Turned.{TurnedBack, by_book, right}
use Rattle.examples.specs.Opened.{report_computed}

-- a mitigant of form 0
abbrev no_form : List ℕ
no_form = mitigant 0 0 1 0

unfoldable table : List TurnedBack
table =
    -- a linked asset's mitigants are checked, and counted
    by_book (usual (name ∷ []) (asset 11 1 0 0 1 1 0 0 0 0 0 ∷ []) (no_form ∷ [])) 12 1
    ∷ by_book (usual (name ∷ []) (asset 11 1 0 0 1 2 0 0 0 0 0 ∷ []) (mitigant 1 0 1 0 ∷ [])) 13 0
    -- 14: two values together, one of them linked
    ∷ by_book (book_bytes 4 0 0 (name ∷ []) (reinsured 1 0 2 ∷ asset 9 1 0 0 1 0 3 0 0 0 0 ∷ []) []) 14 0
    -- 15: VAF' M + 1; excluded one more than there is
    ∷ by_book (book_bytes 1 0 0 (name ∷ []) (asset 9 0 0 0 1 0 0 0 0 0 M ∷ []) []) 15 0
    ∷ by_book (book_bytes 10 0 9 (name ∷ []) (asset 9 0 0 0 1 0 5 0 0 0 3 ∷ []) []) 15 0
    -- "Checked by rising number": all three slices empty; a percent of 101 and an empty book; an empty book and no buffer
    ∷ record { schedule = []; book = []; buffer = 0; number = 1; place = 0 }
    ∷ record { schedule = set published_bytes 6 101; book = []; buffer = 0; number = 4; place = 0 }
    ∷ record { schedule = published_bytes; book = []; buffer = 0; number = 5; place = 0 }
    -- 17: of the first such asset, linked or not
    ∷ by_book (usual (name ∷ []) (reinsured 1 0 1 ∷ entered 3 0 1 1 ∷ entered 3 24 1 1 ∷ []) []) 17 2
    ∷ by_book (usual (name ∷ []) (asset 9 1 3 0 1 0 1 0 0 0 1 ∷ []) []) 17 1
    -- 13 and 17, 17 and 14, 17 and 15, 17 and 16
    ∷ by_book (usual (name ∷ []) (asset 9 0 3 0 1 1 1 0 0 0 1 ∷ []) []) 13 0
    ∷ by_book (book_bytes 4 0 0 (name ∷ []) (entered 3 0 1 5 ∷ []) []) 17 1
    ∷ by_book (specialist_bytes 4 0 0 (name ∷ []) (entered 3 0 1 5 ∷ []) []) 14 0
    ∷ by_book (book_bytes 5 0 6 (name ∷ []) (entered 3 0 1 5 ∷ []) []) 17 1
    ∷ record { schedule = published_bytes; book = usual (name ∷ []) (entered 3 0 1 5 ∷ []) []; buffer = 0; number = 17; place = 1 }
    -- 9 and 10, 12 and 13, 13 and 14, 14 and 15, 15 and 16
    ∷ by_book (book_bytes (M + 1) 0 0 (counterparty 1 0 0 0 ∷ []) [] []) 9 0
    ∷ by_book (usual (name ∷ []) [] (mitigant 1 0 1 0 ∷ no_form ∷ [])) 12 2
    ∷ by_book (book_bytes 4 0 0 (name ∷ []) (reinsured 1 1 5 ∷ []) []) 13 0
    ∷ by_book (book_bytes 4 0 9 (name ∷ []) (reinsured 1 0 5 ∷ []) []) 14 0
    ∷ record { schedule = published_bytes; book = book_bytes 0 0 1 [] [] []; buffer = 0; number = 15; place = 0 }
    ∷ []

holds : T (every right table)
unfolding report_computed table right
holds = tt
