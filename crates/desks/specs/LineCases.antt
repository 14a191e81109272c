-- The exposure lines of a book, computed: their order, groups and tiers, and the desk of each.
use Rattle.std.specs.Prelude.{List, [], ◌∷◌, ◌≡◌, refl, ℕ}
use Rattle.book.specs.Build.{counterparty, desk_asset, asset, mitigant, book_bytes, desk_bytes, book_computed}
use Rattle.book.specs.Book.{book_of}
use Rattle.exposure.specs.Examples.{opened}
use Rattle.bills.specs.Lines.{ExposureLine}
use Rattle.covering.specs.ByPlace.{parts_at}
use Rattle.desks.specs.BookLines.{exposure_line, holding_lines, book_lines}
use Rattle.desks.specs.Pass.{part_lines, asset_lines, lines_at}

abbrev line : ℕ → ℕ → ℕ → ℕ → ExposureLine
line group tier amount desk = record { group = group; tier = tier; amount = amount; desk = desk }

-- 1 a graded name, 2 a bank, 3 an ungraded name below 1
abbrev names : List (List ℕ)
names = counterparty 0 0 1 0 ∷ counterparty 0 1 1 0 ∷ counterparty 1 0 0 0 ∷ []

-- a loan to 3 that the bank guarantees with 30 and 1 with 20, a linked loan, and 3's shares
abbrev guarantees : List (List ℕ)
guarantees = mitigant 4 4 2 30 ∷ mitigant 4 4 1 20 ∷ mitigant 4 4 2 9 ∷ []

abbrev book : List ℕ
book = desk_bytes 1000 0 0 names (desk_asset 3 7 0 0 0 3 2 100 0 0 0 0 ∷ desk_asset 4 7 1 0 0 3 1 60 0 0 0 0 ∷ desk_asset 255 11 0 0 0 3 0 50 0 0 0 0 ∷ []) guarantees

-- "in book order, each asset's covered parts before its remainder": the parts in the groups of those who guarantee, at the asset's desk; nothing of what is linked
lines_case : book_lines (book_of book) ≡ line 2 11 30 3 ∷ line 1 2 20 3 ∷ line 1 0 50 3 ∷ line 1 0 50 255 ∷ []
unfolding book_computed opened exposure_line holding_lines book_lines
lines_case = refl

-- "as does every line of a version 1 book": the same book without desks
first-case :
    book_lines (book_of (book_bytes 1000 0 0 names (asset 7 0 0 0 3 2 100 0 0 0 0 ∷ asset 7 1 0 0 3 1 60 0 0 0 0 ∷ asset 11 0 0 0 3 0 50 0 0 0 0 ∷ []) guarantees))
    ≡ line 2 11 30 0 ∷ line 1 2 20 0 ∷ line 1 0 50 0 ∷ line 1 0 50 0 ∷ []
unfolding book_computed opened exposure_line holding_lines book_lines
first-case = refl

-- out of the tables by place, those of the linked asset with no amount
table-case :
    lines_at book (0 ∷ 30 ∷ 20 ∷ 0 ∷ []) (0 ∷ 50 ∷ 0 ∷ 50 ∷ []) 1 1 3
    ≡ line 2 11 30 3 ∷ line 1 2 20 3 ∷ line 1 0 50 3 ∷ line 2 11 0 4 ∷ line 1 0 0 4 ∷ line 1 0 50 255 ∷ []
unfolding book_computed opened exposure_line parts_at part_lines asset_lines lines_at
table-case = refl
