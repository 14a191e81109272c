-- C-13: reports of books with desks, and the converter's answers.
use Rattle.std.specs.Prelude.{Bool, List, [], ◌∷◌, ◌++◌, ℕ, ◌+◌, T, length, set, take, replicate}
use Rattle.words.specs.Words.{every}
use Rattle.wire.specs.Bytes.{M}
use Rattle.book.specs.Build.{counterparty, asset, desk_asset, mitigant, book_bytes, specialist_bytes, desk_bytes}
use Rattle.conversion.specs.Conversion.{recounted, converted, first_check, narrow_check}
use Rattle.report.specs.Answer.{report_of, answer_of, written_by}
use Rattle.convert.specs.Convert.{book_converts, convert_answer}
use Rattle.examples.specs.Build.{covered, plain, entered, usual, name, graded_name, bank}
use Rattle.examples.specs.Table.{published_bytes, same, accepted, turned}
use Rattle.examples.specs.Opened.{report_computed}

-- ---- a book with desks and the same without: assets with and without mitigants, reinsurance, a second asset of one group's tier

abbrev names : List (List ℕ)
names = name ∷ bank ∷ graded_name ∷ counterparty 1 0 0 0 ∷ []

abbrev letters : List (List ℕ)
letters = mitigant 1 1 2 70000000 ∷ mitigant 4 1 2 5 ∷ mitigant 5 8 2 90000000 ∷ []

abbrev without : List ℕ
without =
    usual names (asset 6 0 0 0 1 2 700000000 3 4 0 0 ∷ plain 6 4 400000000 ∷ asset 9 0 0 0 3 1 600000000 0 0 0 600000000 ∷ plain 11 2 9 ∷ []) letters

-- at such desks
abbrev at : ℕ → ℕ → ℕ → ℕ → List ℕ
at d e f g =
    desk_bytes 10_000_000_000 1_000_000_000 0 names
    (desk_asset d 6 0 0 0 1 2 700000000 3 4 0 0 ∷ desk_asset e 6 0 0 0 4 0 400000000 0 0 0 0 ∷ desk_asset f 9 0 0 0 3 1 600000000 0 0 0 600000000 ∷ desk_asset g 11 0 0 0 2 0 9 0 0 0 0 ∷ [])
    letters

abbrev reported : List ℕ → List ℕ
reported b = report_of published_bytes b

unfoldable reports : List Bool
reports =
    accepted (answer_of published_bytes without 65536) (length (reported without))
    ∷ accepted (answer_of published_bytes (at 0 0 0 0) 65536) (length (reported without))
    ∷ same (reported (at 0 0 0 0)) (reported without)
    ∷ accepted (answer_of published_bytes (at 1 255 1 7) 65536) (length (reported without))
    ∷ same (reported (at 1 255 1 7)) (reported without)
    -- the converted book's desks are 0
    ∷ same (converted without) (at 0 0 0 0)
    -- "its version": 3
    ∷ turned (answer_of published_bytes (set without 4 3) 65536) 7 0
    ∷ []

reports-hold : T (every (λ t. t) reports)
unfolding report_computed recounted converted reports
reports-hold = tt

-- ---- the converter

-- the bytes lent, each of them 7, and what stands there afterwards
abbrev written : List ℕ → ℕ → List ℕ
written b n = written_by (convert_answer b n) (converted b) (replicate n 7)

-- a book with a counterparty, an asset and nothing else, 92 bytes
abbrev small : List ℕ
small = usual (name ∷ []) (plain 11 1 5 ∷ []) []

unfoldable answers : List Bool
answers =
    -- "16 compares the output with the book's length"
    accepted (convert_answer small 92) 92
    ∷ same (written small 92) (desk_bytes 10_000_000_000 1_000_000_000 0 (name ∷ []) (plain 11 1 5 ∷ []) [])
    ∷ turned (convert_answer small 91) 16 0
    ∷ same (written small 91) (replicate 91 7)
    -- no byte behind the book's length is written
    ∷ accepted (convert_answer small 95) 92
    ∷ same (written small 95) (converted small ++ (7 ∷ 7 ∷ 7 ∷ []))
    -- "The converter takes only version 1": 2, 3 and 0; before 8, behind 5 and 6
    ∷ turned (convert_answer (set small 4 2) 92) 7 0
    ∷ turned (convert_answer (set small 4 3) 92) 7 0
    ∷ turned (convert_answer (set small 4 0) 92) 7 0
    ∷ turned (convert_answer (set (take 91 small) 4 2) 92) 7 0
    ∷ turned (convert_answer (take 91 small) 92) 8 0
    ∷ turned (convert_answer (set (set small 4 2) 12 2) 92) 6 0
    ∷ turned (convert_answer [] 0) 5 0
    -- "5 to 15 keep their order", 17 behind 13
    ∷ turned (convert_answer (book_bytes (M + 1) 0 0 (counterparty 1 0 0 0 ∷ []) [] []) 0) 9 0
    ∷ turned (convert_answer (usual (counterparty 1 0 0 0 ∷ []) (plain 0 1 0 ∷ []) []) 0) 10 1
    ∷ turned (convert_answer (usual (name ∷ []) (plain 11 1 0 ∷ plain 0 1 0 ∷ []) (mitigant 6 0 1 0 ∷ [])) 0) 11 2
    ∷ turned (convert_answer (usual (name ∷ []) [] (mitigant 6 0 1 0 ∷ [])) 0) 12 1
    ∷ turned (convert_answer (usual (name ∷ []) (entered 3 0 1 5 ∷ []) (mitigant 1 0 1 0 ∷ [])) 0) 13 0
    ∷ turned (convert_answer (book_bytes 4 0 0 (name ∷ []) (entered 3 0 1 5 ∷ []) []) 0) 17 1
    ∷ turned (convert_answer (specialist_bytes 4 0 9 (name ∷ []) (entered 3 0 1 5 ∷ []) []) 0) 14 0
    ∷ turned (convert_answer (book_bytes 0 0 1 [] [] []) 0) 15 0
    ∷ turned (convert_answer (usual [] [] []) 39) 16 0
    ∷ accepted (convert_answer (usual [] [] []) 40) 40
    -- a count that is more than 255 and does not add up is no 18
    ∷ turned (convert_answer (usual (name ∷ []) (covered 11 1 0x0101 0 ∷ []) []) 0) 13 0
    ∷ []

answers-hold : T (every (λ t. t) answers)
unfolding report_computed recounted converted first_check narrow_check book_converts convert_answer answers
answers-hold = tt
