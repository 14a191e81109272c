-- Books out of numbers, as bytes, for worked cases.
--   counterparty asset desk_asset mitigant   the bytes of a record, an asset's of version 1 and of version 2
--   book_bytes specialist_bytes desk_bytes     the bytes of a book, of one that is a specialist fund's, and of one of version 2
--   book_computed                  opens every definition on the way from them to a check
use Rattle.std.specs.Prelude.{List, [], ◌∷◌, ◌++◌, ℕ, ◌+◌, ◌*◌, length, set}
use Rattle.words.specs.Words.{sum_of, each_of}
use Rattle.wire.specs.Bytes.{u16_at, u64_at, i64_at, bytes16, bytes64}
use Rattle.refusal.specs.Chain.{first_bad, Checked}
use Rattle.book.specs.Records.{header_at, counterparty_at, asset_from, mitigant_at}
use Rattle.book.specs.Book.{mitigants_from, holdings_from, book_of, parent_of, top_in, top_of}
use Rattle.book.specs.Check.{good_counterparty, good_asset, good_mitigant, counts_add, header_check, counterparties_check, assets_check, mitigants_check, counts_check, records_check, specialist_check, book_check}

-- a counterparty's 4 bytes: parent, kind, grade, flags
abbrev pub counterparty : ℕ → ℕ → ℕ → ℕ → List ℕ
counterparty parent kind grade flags = bytes16 parent ++ ((kind * 16 + grade) ∷ flags ∷ [])

-- an asset's 48 bytes: kind, flags, entry, months, counterparty, count of mitigants; value, offsets, deductions, insurance, combination
abbrev pub asset : ℕ → ℕ → ℕ → ℕ → ℕ → ℕ → ℕ → ℕ → ℕ → ℕ → ℕ → List ℕ
asset kind flags entry months who count value offsets deductions insurance combination =
    (kind ∷ flags ∷ entry ∷ months ∷ []) ++ bytes16 who ++ bytes16 count
    ++ bytes64 value ++ bytes64 offsets ++ bytes64 deductions ++ bytes64 insurance ++ bytes64 combination

-- the same in version 2, with the desk first: kind, flags, entry, months, counterparty, count of mitigants; the five amounts
abbrev pub desk_asset : ℕ → ℕ → ℕ → ℕ → ℕ → ℕ → ℕ → ℕ → ℕ → ℕ → ℕ → ℕ → List ℕ
desk_asset desk kind flags entry months who count value offsets deductions insurance combination =
    (kind ∷ flags ∷ entry ∷ months ∷ []) ++ bytes16 who ++ (count ∷ desk ∷ [])
    ++ bytes64 value ++ bytes64 offsets ++ bytes64 deductions ++ bytes64 insurance ++ bytes64 combination

-- a mitigant's 12 bytes: form, flags, counterparty, value
abbrev pub mitigant : ℕ → ℕ → ℕ → ℕ → List ℕ
mitigant form flags who value = (form ∷ flags ∷ []) ++ bytes16 who ++ bytes64 value

-- a book's bytes: total, base (as 64 bits), excluded, counterparties, assets, mitigants
unfoldable pub book_bytes : ℕ → ℕ → ℕ → List (List ℕ) → List (List ℕ) → List (List ℕ) → List ℕ
book_bytes total base excluded counterparties assets mitigants =
    (65 ∷ 67 ∷ 66 ∷ 0 ∷ []) ++ bytes16 1
    ++ bytes16 (length counterparties) ++ bytes16 (length assets) ++ bytes16 (length mitigants) ++ (0 ∷ 0 ∷ 0 ∷ 0 ∷ [])
    ++ bytes64 total ++ bytes64 base ++ bytes64 excluded
    ++ each_of (λ r. r) counterparties ++ each_of (λ r. r) assets ++ each_of (λ r. r) mitigants

-- the same in a specialist fund
unfoldable pub specialist_bytes : ℕ → ℕ → ℕ → List (List ℕ) → List (List ℕ) → List (List ℕ) → List ℕ
specialist_bytes total base excluded counterparties assets mitigants = set (book_bytes total base excluded counterparties assets mitigants) 12 1

-- the same in version 2
unfoldable pub desk_bytes : ℕ → ℕ → ℕ → List (List ℕ) → List (List ℕ) → List (List ℕ) → List ℕ
desk_bytes total base excluded counterparties assets mitigants = set (book_bytes total base excluded counterparties assets mitigants) 4 2

-- the check of a book, with every definition on the way opened: a proof that says `unfolding book_computed` computes it
unfoldable pub book_computed : List ℕ → Checked
unfolding sum_of each_of u16_at u64_at i64_at book_bytes specialist_bytes desk_bytes first_bad header_at counterparty_at asset_from mitigant_at mitigants_from holdings_from book_of parent_of top_in top_of good_counterparty good_asset good_mitigant counts_add header_check counterparties_check assets_check mitigants_check counts_check records_check specialist_check book_check
book_computed b = book_check b
