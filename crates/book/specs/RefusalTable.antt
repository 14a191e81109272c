-- "What the desk turns back", 5 to 13, and C-11's 17, as computed tables.
--   examples    document 01's example of each refusal
--   headers     both sides of each edge of a header
--   edges       both sides of each edge of a record's fields
--   versions    what a version makes of bytes 6 and 7 of an asset
--   specialists both sides of each edge of 17 and of what a specialist fund may have
--   two-faults  the lower number and the first record win, 17 behind 13
use Rattle.refusal.specs.Chain.{Checked}
use Rattle.std.specs.Prelude.{Bool, ◌&&◌, List, [], ◌∷◌, ◌++◌, map, ◌≡◌, refl, ℕ, ◌+◌, ◌-◌, T, set, take, replicate, Ok, Err}
use Rattle.words.specs.Words.{◌=?◌, every}
use Rattle.wire.specs.Bytes.{M}
use Rattle.refusal.specs.Refusals.{number_of, place_of}
use Rattle.book.specs.Records.{asset_at}
use Rattle.book.specs.Check.{book_check}
use Rattle.book.specs.Build.{counterparty, asset, desk_asset, mitigant, book_bytes, specialist_bytes, desk_bytes, book_computed}

-- a book, and its refusal's number and place; 0 and 0 for none
pub record Case : Type 0 where
  pub book : List ℕ
  pub number : ℕ
  pub place : ℕ

infix 8 ◌gives◌at◌
abbrev ◌gives◌at◌ : List ℕ → ℕ → ℕ → Case
b gives n at p = record { book = b; number = n; place = p }

abbrev fine : List ℕ → Case
fine b = b gives 0 at 0

abbrev answers : Checked → ℕ → ℕ → Bool
answers (Ok _) number place = number =? 0 && place =? 0
answers (Err why) number place = number_of why =? number && place_of why =? place

unfoldable pub right : Case → Bool
right c = answers (book_check c.book) c.number c.place

-- ---- books
-- an ungraded name of kind 0
abbrev name : List ℕ
name = counterparty 0 0 0 0

-- an asset of a kind with counterparty `who` and a value, nothing else
abbrev plain : ℕ → ℕ → ℕ → List ℕ
plain kind who value = asset kind 0 0 0 who 0 value 0 0 0 0

abbrev book : List (List ℕ) → List (List ℕ) → List (List ℕ) → List ℕ
book counterparties assets mitigants = book_bytes 100 10 0 counterparties assets mitigants

abbrev empty : List ℕ
empty = book [] [] []

-- one name; one name and one asset; one name, one asset and its one mitigant
abbrev of_name : List ℕ → List ℕ
of_name c = book (c ∷ []) [] []

abbrev of_asset : List ℕ → List ℕ
of_asset a = book (name ∷ []) (a ∷ []) []

abbrev of_mitigant : List ℕ → List ℕ
of_mitigant m = book (name ∷ []) (asset 11 0 0 0 1 1 0 0 0 0 0 ∷ []) (m ∷ [])

-- the same in a specialist fund
abbrev specialist : List (List ℕ) → List (List ℕ) → List (List ℕ) → List ℕ
specialist counterparties assets mitigants = specialist_bytes 100 10 0 counterparties assets mitigants

-- reinsurance with entry class 3 and such months
abbrev retroceded : ℕ → List ℕ
retroceded months = asset 9 0 3 months 1 0 0 0 0 0 0

-- one name, one asset with byte 6 and byte 7, and so many mitigants, in version 1 and in version 2
abbrev in_first : ℕ → ℕ → ℕ → List ℕ
in_first six seven k = book (name ∷ []) (desk_asset seven 11 0 0 0 1 six 0 0 0 0 0 ∷ []) (replicate k (mitigant 1 0 1 0))

abbrev with_desks : ℕ → ℕ → ℕ → List ℕ
with_desks six seven k = desk_bytes 100 10 0 (name ∷ []) (desk_asset seven 11 0 0 0 1 six 0 0 0 0 0 ∷ []) (replicate k (mitigant 1 0 1 0))

-- −n as 64 bits
abbrev minus : ℕ → ℕ
minus n = 18446744073709551616 - n

-- ---- the tables
unfoldable pub examples : List Case
examples =
    -- 5 book under 40 bytes: empty
    ([] gives 5 at 0)
    -- 6 its mark or zeros: byte 12 = 2
    ∷ (set empty 12 2 gives 6 at 0)
    -- 7 its version: 0
    ∷ (set empty 4 0 gives 7 at 0)
    -- 8 a count over its most, or another length: N = 901
    ∷ (book (name ∷ []) (replicate 901 (plain 11 1 0)) [] gives 8 at 0)
    -- 9 total or excluded over M, base outside −M to M: base −M − 1
    ∷ (book_bytes 0 (minus (M + 1)) 0 [] [] [] gives 9 at 0)
    -- 10 counterparty field, unknown bit: parent = own place
    ∷ (of_name (counterparty 1 0 0 0) gives 10 at 1)
    -- 11 asset field, unknown bit, amount over M: counterparty 0
    ∷ (of_asset (plain 11 0 0) gives 11 at 1)
    -- 12 mitigant likewise: form 6
    ∷ (of_mitigant (mitigant 6 0 1 0) gives 12 at 1)
    -- 13 counts don't add to K: K = 1, N = 0, C = 1
    ∷ (book (name ∷ []) [] (mitigant 1 0 1 0 ∷ []) gives 13 at 0)
    -- 17 when entry 3 stands in a book whose byte 12 is 0
    ∷ (of_asset (retroceded 0) gives 17 at 1)
    ∷ []

unfoldable pub headers : List Case
headers =
    fine empty
    ∷ (take 39 empty gives 5 at 0)
    ∷ (set empty 2 76 gives 6 at 0)
    ∷ (set empty 3 1 gives 6 at 0)
    ∷ fine (set empty 12 1)
    ∷ (set empty 12 255 gives 6 at 0)
    ∷ (set empty 13 1 gives 6 at 0)
    ∷ (set empty 14 1 gives 6 at 0)
    ∷ (set empty 15 1 gives 6 at 0)
    -- versions 1 and 2, and no other
    ∷ fine (set empty 4 2)
    ∷ (set empty 4 3 gives 7 at 0)
    ∷ (set empty 4 255 gives 7 at 0)
    ∷ (set empty 5 1 gives 7 at 0)
    ∷ (set (set empty 4 2) 5 1 gives 7 at 0)
    -- a header that lies about its counts, a byte more, a byte less
    ∷ (set empty 6 1 gives 8 at 0)
    ∷ (set empty 8 1 gives 8 at 0)
    ∷ (set empty 10 1 gives 8 at 0)
    ∷ (empty ++ (0 ∷ []) gives 8 at 0)
    ∷ (take 43 (of_name name) gives 8 at 0)
    ∷ (book (replicate 501 name) [] [] gives 8 at 0)
    ∷ (book (name ∷ []) [] (replicate 1501 (mitigant 1 0 1 0)) gives 8 at 0)
    ∷ fine (book_bytes M M M [] [] [])
    ∷ fine (book_bytes 0 (minus M) 0 [] [] [])
    ∷ (book_bytes (M + 1) 0 0 [] [] [] gives 9 at 0)
    ∷ (book_bytes 0 0 (M + 1) [] [] [] gives 9 at 0)
    ∷ (book_bytes 0 (M + 1) 0 [] [] [] gives 9 at 0)
    ∷ []

unfoldable pub edges : List Case
edges =
    -- 10: a parent is a lower place; grade 7, kind 4, flags 7 are the last known
    fine (book (name ∷ counterparty 1 0 0 0 ∷ []) [] [])
    ∷ (book (name ∷ counterparty 2 0 0 0 ∷ []) [] [] gives 10 at 2)
    ∷ (book (name ∷ counterparty 3 0 0 0 ∷ []) [] [] gives 10 at 2)
    ∷ fine (of_name (counterparty 0 4 7 7))
    ∷ (of_name (counterparty 0 0 8 0) gives 10 at 1)
    ∷ (of_name (counterparty 0 5 0 0) gives 10 at 1)
    ∷ (of_name (counterparty 0 0 0 8) gives 10 at 1)
    -- 11: kinds 1 to 11, entries 0 to 3, counterparties 1 to C, amounts to M
    ∷ fine (of_asset (plain 1 1 M))
    ∷ (of_asset (plain 0 1 0) gives 11 at 1)
    ∷ fine (of_asset (plain 11 1 0))
    ∷ (of_asset (plain 12 1 0) gives 11 at 1)
    ∷ fine (of_asset (asset 9 3 2 0 1 0 0 0 0 0 0))
    ∷ (of_asset (asset 9 4 0 0 1 0 0 0 0 0 0) gives 11 at 1)
    ∷ (of_asset (asset 9 0 4 0 1 0 0 0 0 0 0) gives 11 at 1)
    ∷ (of_asset (plain 11 2 0) gives 11 at 1)
    ∷ fine (of_asset (asset 9 0 0 0 1 0 M M M M M))
    ∷ (of_asset (plain 11 1 (M + 1)) gives 11 at 1)
    ∷ (of_asset (asset 11 0 0 0 1 0 0 (M + 1) 0 0 0) gives 11 at 1)
    ∷ (of_asset (asset 11 0 0 0 1 0 0 0 (M + 1) 0 0) gives 11 at 1)
    ∷ (of_asset (asset 9 0 0 0 1 0 0 0 0 (M + 1) 0) gives 11 at 1)
    ∷ (of_asset (asset 9 0 0 0 1 0 0 0 0 0 (M + 1)) gives 11 at 1)
    -- 11: what only reinsurance may have
    ∷ fine (of_asset (asset 4 1 0 0 1 0 0 0 0 0 0))
    ∷ (of_asset (asset 4 2 0 0 1 0 0 0 0 0 0) gives 11 at 1)
    ∷ (of_asset (asset 4 0 1 0 1 0 0 0 0 0 0) gives 11 at 1)
    ∷ (of_asset (asset 4 0 0 1 1 0 0 0 0 0 0) gives 11 at 1)
    ∷ (of_asset (asset 4 0 0 0 1 0 0 0 0 1 0) gives 11 at 1)
    ∷ (of_asset (asset 4 0 0 0 1 0 0 0 0 0 1) gives 11 at 1)
    -- 11: months need an entry; reinsurance offsets are at most its value, other offsets are not held to it
    ∷ fine (of_asset (asset 9 0 1 255 1 0 0 0 0 0 0))
    ∷ (of_asset (asset 9 0 0 1 1 0 0 0 0 0 0) gives 11 at 1)
    ∷ fine (of_asset (asset 9 0 0 0 1 0 5 5 0 0 0))
    ∷ (of_asset (asset 9 0 0 0 1 0 5 6 0 0 0) gives 11 at 1)
    ∷ fine (of_asset (asset 11 0 0 0 1 0 5 6 0 0 0))
    -- 12: forms 1 to 5, flags to 31, counterparties 1 to C, values to M
    ∷ fine (of_mitigant (mitigant 5 31 1 M))
    ∷ (of_mitigant (mitigant 0 0 1 0) gives 12 at 1)
    ∷ (of_mitigant (mitigant 1 32 1 0) gives 12 at 1)
    ∷ (of_mitigant (mitigant 1 0 0 0) gives 12 at 1)
    ∷ (of_mitigant (mitigant 1 0 2 0) gives 12 at 1)
    ∷ (of_mitigant (mitigant 1 0 1 (M + 1)) gives 12 at 1)
    -- 13: counts over K, under it, two that add to it, and two that add to K + 65,536
    ∷ (of_asset (asset 11 0 0 0 1 1 0 0 0 0 0) gives 13 at 0)
    ∷ (book (name ∷ []) (plain 11 1 0 ∷ []) (mitigant 1 0 1 0 ∷ []) gives 13 at 0)
    ∷ fine (book (name ∷ []) (asset 11 0 0 0 1 1 0 0 0 0 0 ∷ asset 11 0 0 0 1 1 0 0 0 0 0 ∷ []) (mitigant 1 0 1 0 ∷ mitigant 2 0 1 0 ∷ []))
    ∷ (book (name ∷ []) (asset 11 0 0 0 1 32768 0 0 0 0 0 ∷ asset 11 0 0 0 1 32769 0 0 0 0 0 ∷ []) (mitigant 1 0 1 0 ∷ []) gives 13 at 0)
    ∷ []

unfoldable pub versions : List Case
versions =
    -- version 2: byte 7 is no part of the count
    fine (with_desks 0 0 0)
    ∷ fine (with_desks 0 255 0)
    ∷ fine (with_desks 1 1 1)
    ∷ (with_desks 1 1 2 gives 13 at 0)
    -- version 1: it is
    ∷ (in_first 1 1 1 gives 13 at 0)
    ∷ (in_first 0 255 0 gives 13 at 0)
    -- a specialist fund's book may be of version 2
    ∷ fine (set (desk_bytes 100 10 0 (name ∷ []) (desk_asset 9 9 0 3 0 1 0 0 0 0 0 0 ∷ []) []) 12 1)
    ∷ (desk_bytes 100 10 0 (name ∷ []) (desk_asset 9 9 0 3 0 1 0 0 0 0 0 0 ∷ []) [] gives 17 at 1)
    ∷ []

-- the count and the desk that are read of the one asset
abbrev count_and_desk : List ℕ → List ℕ
count_and_desk b = (asset_at b 1).count ∷ (asset_at b 1).desk ∷ []

unfoldable pub specialists : List Case
specialists =
    -- entries 0 to 3 in a specialist fund, 0 to 2 in another
    fine (specialist (name ∷ []) (retroceded 0 ∷ []) [])
    ∷ fine (specialist (name ∷ []) (retroceded 255 ∷ asset 9 0 2 0 1 0 0 0 0 0 0 ∷ asset 9 0 0 0 1 0 0 0 0 0 0 ∷ plain 11 1 0 ∷ []) [])
    ∷ fine (of_asset (asset 9 0 2 255 1 0 0 0 0 0 0))
    ∷ (specialist (name ∷ []) (asset 9 0 4 0 1 0 0 0 0 0 0 ∷ []) [] gives 11 at 1)
    -- entry 3 is held to what entries 1 and 2 are: reinsurance alone has it
    ∷ (specialist (name ∷ []) (asset 4 0 3 0 1 0 0 0 0 0 0 ∷ []) [] gives 11 at 1)
    ∷ (specialist (name ∷ []) (asset 9 0 3 0 1 0 5 6 0 0 0 ∷ []) [] gives 11 at 1)
    ∷ (specialist (name ∷ []) (asset 9 0 0 1 1 0 0 0 0 0 0 ∷ []) [] gives 11 at 1)
    -- any months, and linked or not; the first of two, wherever it stands
    ∷ (of_asset (retroceded 255) gives 17 at 1)
    ∷ (of_asset (asset 9 1 3 0 1 0 0 0 0 0 0) gives 17 at 1)
    ∷ (book (name ∷ []) (plain 11 1 0 ∷ retroceded 0 ∷ retroceded 0 ∷ []) [] gives 17 at 2)
    ∷ (book (name ∷ []) (plain 11 1 0 ∷ asset 9 0 2 0 1 0 0 0 0 0 0 ∷ retroceded 24 ∷ []) [] gives 17 at 3)
    ∷ []

unfoldable pub two_faults : List Case
two_faults =
    -- mark and version; version and length; length and total; base and parent
    (set (set empty 0 0) 4 0 gives 6 at 0)
    ∷ (set (set empty 4 0) 8 1 gives 7 at 0)
    ∷ (set (book_bytes (M + 1) 0 0 [] [] []) 8 1 gives 8 at 0)
    ∷ (book_bytes 0 (M + 1) 0 (counterparty 1 0 0 0 ∷ []) [] [] gives 9 at 0)
    -- a second counterparty before a first asset; a second asset before a first mitigant; a mitigant before the counts
    ∷ (book (name ∷ counterparty 2 0 0 0 ∷ []) (plain 0 1 0 ∷ []) [] gives 10 at 2)
    ∷ (book (name ∷ []) (asset 11 0 0 0 1 1 0 0 0 0 0 ∷ plain 0 1 0 ∷ []) (mitigant 6 0 1 0 ∷ []) gives 11 at 2)
    ∷ (book (name ∷ []) [] (mitigant 6 0 1 0 ∷ []) gives 12 at 1)
    -- 17 behind 6, 11, of a later asset too, 12 and 13
    ∷ (set (of_asset (retroceded 0)) 13 1 gives 6 at 0)
    ∷ (book (name ∷ []) (retroceded 0 ∷ plain 0 1 0 ∷ []) [] gives 11 at 2)
    ∷ (book (name ∷ []) (asset 9 0 3 0 1 1 0 0 0 0 0 ∷ []) (mitigant 6 0 1 0 ∷ []) gives 12 at 1)
    ∷ (of_asset (asset 9 0 3 0 1 1 0 0 0 0 0) gives 13 at 0)
    -- the first of two bad records
    ∷ (book (name ∷ counterparty 0 5 0 0 ∷ counterparty 0 0 8 0 ∷ []) [] [] gives 10 at 2)
    ∷ (book (name ∷ []) (plain 1 1 0 ∷ plain 12 1 0 ∷ plain 0 1 0 ∷ []) [] gives 11 at 2)
    ∷ (book (name ∷ []) (asset 11 0 0 0 1 3 0 0 0 0 0 ∷ []) (mitigant 1 0 1 0 ∷ mitigant 6 0 1 0 ∷ mitigant 0 0 1 0 ∷ []) gives 12 at 2)
    ∷ []

-- ---- each gives what it says
pub examples-hold : T (every right examples)
unfolding book_computed every right examples
examples-hold = tt

pub headers-hold : T (every right headers)
unfolding book_computed every right headers
headers-hold = tt

pub edges-hold : T (every right edges)
unfolding book_computed every right edges
edges-hold = tt

pub versions-hold : T (every right versions)
unfolding book_computed every right versions
versions-hold = tt

pub counts-and-desks : map count_and_desk (with_desks 0 0 0 ∷ with_desks 1 1 0 ∷ with_desks 255 255 0 ∷ in_first 0 0 0 ∷ in_first 1 1 0 ∷ in_first 255 0 0 ∷ in_first 0 1 0 ∷ in_first 255 255 0 ∷ []) ≡ (0 ∷ 0 ∷ []) ∷ (1 ∷ 1 ∷ []) ∷ (255 ∷ 255 ∷ []) ∷ (0 ∷ 0 ∷ []) ∷ (0x0101 ∷ 0 ∷ []) ∷ (255 ∷ 0 ∷ []) ∷ (256 ∷ 0 ∷ []) ∷ (65535 ∷ 0 ∷ []) ∷ []
unfolding book_computed
counts-and-desks = refl

pub specialists-hold : T (every right specialists)
unfolding book_computed every right specialists
specialists-hold = tt

pub two-faults-hold : T (every right two_faults)
unfolding book_computed every right two_faults
two-faults-hold = tt
