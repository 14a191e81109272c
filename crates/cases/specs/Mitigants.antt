-- "Mitigants (P31 to P43)": which are recognised, what a covered part becomes, how much is covered, linked assets.
use Rattle.std.specs.Prelude.{Bool, List, [], ◌∷◌, ◌++◌, ℕ, ◌+◌, T, length, if◌then◌else◌}
use Rattle.words.specs.Words.{◌<?◌, each_of, every}
use Rattle.book.specs.Build.{counterparty, asset, mitigant}
use Rattle.book.specs.Book.{book_of}
use Rattle.exposure.specs.declared.Exposure.{Exposure}
use Rattle.exposure.specs.Parts.{exposures}
use Rattle.exposure.specs.Tier.{no_limit, tier_of}
use Rattle.examples.specs.Build.{covered, reinsured, usual, name, bank, registered}
use Rattle.examples.specs.Reading.{all_net_in, unlimited_in, printed, line}
use Rattle.examples.specs.Table.{Case, case, right, same}
use Rattle.examples.specs.Opened.{report_computed}

-- ---- parts and remainder, in order

-- an exposure: counterparty, kind, tier, amount
abbrev part : ℕ → ℕ → ℕ → ℕ → List ℕ
part who kind tier amount = who ∷ kind ∷ tier ∷ amount ∷ []

-- the exposures above 0 of a book
unfoldable parts : List ℕ → List ℕ
parts b =
    let B = book_of b in
    each_of (λ (x : Exposure). if 0 <? x.amount then part x.counterparty x.kind (tier_of B.counterparty x) x.amount else []) (exposures B)

-- ---- recognition

-- a mitigant of some value, and the covered part that it makes, if any
record Tried : Type 0 where
  bytes : ℕ → List ℕ
  due : ℕ → List ℕ

-- form, flags and counterparty of one that covers, with the kind and tier that its value becomes; of one that is not recognised
abbrev covers : ℕ → ℕ → ℕ → ℕ → ℕ → Tried
covers form flags who kind tier = record { bytes = mitigant form flags who; due = part who kind tier }

abbrev unread : ℕ → ℕ → ℕ → Tried
unread form flags who = record { bytes = mitigant form flags who; due = λ value. [] }

-- each has a value of its own: value, value + 1, ..
unfoldable valued : (Tried → ℕ → List ℕ) → ℕ → List Tried → List (List ℕ)
valued f value [] = []
valued f value (x ∷ xs) = f x value ∷ valued f (value + 1) xs

-- 2 bank, 3 graded bank, 4 graded and related bank, 5 name, 6 graded name, 7 home government, 8 graded home government, 9 graded provincial government
abbrev names : List ℕ → List (List ℕ)
names own =
    own ∷ counterparty 0 1 0 0 ∷ bank ∷ counterparty 0 1 1 1 ∷ name ∷ counterparty 0 0 3 0
    ∷ counterparty 0 2 0 0 ∷ counterparty 0 2 1 0 ∷ counterparty 0 3 1 0 ∷ []

-- an asset of counterparty `own` with all of the mitigants has just the parts due, and then a remainder of kind and tier
unfoldable recognises : List ℕ → (ℕ → ℕ → List ℕ) → List Tried → List ℕ → Bool
recognises own a xs remainder =
    same (parts (usual (names own) (a (length xs) 1000 ∷ []) (valued (λ x. x.bytes) 1 xs)))
    (each_of (λ r. r) (valued (λ x. x.due) 1 xs) ++ remainder)

-- bits: 1 secured and held, 2 P35 or P36 terms, 4 P40 terms, 8 P42b to m terms, 16 same currency
abbrev plain_table : List Tried
plain_table =
    -- "Collateral: bit 4, and bit 0"; "cash kind 4"
    covers 1 17 3 4 12
    ∷ covers 1 17 2 4 12
    ∷ covers 1 17 6 4 2
    ∷ unread 1 15 3
    ∷ unread 1 30 3
    -- "government security kind 1"
    ∷ covers 2 17 7 1 no_limit
    ∷ covers 2 17 5 1 0
    ∷ unread 2 16 7
    -- "debt must be graded"; "debt 7"
    ∷ covers 3 17 6 7 2
    ∷ unread 3 31 5
    ∷ unread 3 31 2
    -- "Guarantee: not related, graded, bit 2"; "guarantee 3, 1 or 5 for a bank, home or provincial government, else 7"
    ∷ covers 4 4 3 3 11
    ∷ covers 4 4 8 1 no_limit
    ∷ covers 4 4 9 5 11
    ∷ covers 4 4 6 7 2
    ∷ unread 4 31 4
    ∷ unread 4 31 2
    ∷ unread 4 27 3
    -- "Letter of credit: reinsurance only"
    ∷ unread 5 31 3
    ∷ []

-- 1 + 2 + 3 + 6 + 7 + 9 + 12 + 13 + 14 + 15 of 1000 are covered
plain-right : T (recognises name (covered 11 1) plain_table (part 1 11 0 918))
unfolding report_computed parts valued recognises
plain-right = tt

abbrev reinsurance_table : List Tried
reinsurance_table =
    -- "bit 4, and bit 0 (reinsurance: bit 0 or 1)"
    covers 1 17 3 4 12
    ∷ covers 1 18 3 4 12
    ∷ unread 1 28 3
    ∷ unread 1 15 3
    ∷ covers 2 18 7 1 no_limit
    ∷ covers 3 18 6 7 2
    ∷ unread 3 31 5
    -- "for reinsurance a bank with bit 3 instead of bit 2"
    ∷ covers 4 8 3 3 11
    ∷ unread 4 23 3
    ∷ unread 4 31 4
    ∷ unread 4 31 2
    ∷ unread 4 31 6
    ∷ unread 4 31 8
    -- "Letter of credit: (..) same as its guarantee"; "letter 3"
    ∷ covers 5 8 3 3 11
    ∷ unread 5 23 3
    ∷ unread 5 31 4
    ∷ unread 5 31 2
    ∷ unread 5 31 6
    ∷ []

-- 1 + 2 + 5 + 6 + 8 + 14 of 1000 are covered
reinsurance-right : T (recognises registered (reinsured 1) reinsurance_table (part 1 9 1 964))
unfolding report_computed parts valued recognises
reinsurance-right = tt

-- ---- how much is covered

-- a book, and its exposures above 0
record Parted : Type 0 where
  book : List ℕ
  due : List ℕ

abbrev parted : List ℕ → List ℕ → Parted
parted book due = record { book = book; due = due }

-- a reinsurer of kind 0 without flags; an approved affiliate; both ungraded
abbrev affiliate : List ℕ
affiliate = counterparty 0 0 0 2

-- two letters of 30 for a reinsurance asset of net 101
abbrev letters : List ℕ → List ℕ
letters reinsurer = usual (reinsurer ∷ bank ∷ []) (reinsured 1 2 101 ∷ []) (mitigant 5 8 2 30 ∷ mitigant 5 8 2 30 ∷ [])

unfoldable amounts : List Parted
amounts =
    -- "taken in order, each covering the lesser of its value and what may still be covered. That starts at net": 130 − 20 − 10
    parted
    (usual (name ∷ bank ∷ []) (asset 11 0 0 0 1 4 130 20 10 0 0 ∷ [])
    (mitigant 1 17 2 60 ∷ mitigant 1 0 2 70 ∷ mitigant 4 4 2 60 ∷ mitigant 1 17 2 10 ∷ []))
    (part 2 4 12 60 ++ part 2 3 11 40)
    -- C-18: "The half (..) rounded down once", of "each reinsurance asset whose counterparty is neither of kind 4 nor an approved affiliate"
    ∷ parted (letters name) (part 2 3 11 30 ++ part 2 3 11 20 ++ part 1 9 1 51)
    ∷ parted (letters affiliate) (part 2 3 11 30 ++ part 2 3 11 30 ++ part 1 9 1 41)
    ∷ parted (letters registered) (part 2 3 11 30 ++ part 2 3 11 30 ++ part 1 9 1 41)
    -- each its own mitigants, "in asset order"; two treaties share a half of 101
    ∷ parted
    (usual (name ∷ bank ∷ []) (reinsured 1 1 101 ∷ reinsured 1 1 101 ∷ []) (mitigant 5 8 2 40 ∷ mitigant 1 18 2 60 ∷ []))
    (part 2 3 11 40 ++ part 1 9 1 61 ++ part 2 4 12 60 ++ part 1 9 1 41)
    -- "a remainder goes by its asset's own counterparty, kind, entry and months", and a covered part by none of its asset's
    ∷ parted (usual (affiliate ∷ bank ∷ []) (asset 9 0 2 3 1 1 100 0 0 0 100 ∷ []) (mitigant 1 17 2 60 ∷ [])) (part 2 4 12 60 ++ part 1 9 5 40)
    ∷ []

parted-right : Parted → Bool
parted-right x = same (parts x.book) x.due

amounts-right : T (every parted-right amounts)
unfolding report_computed parts amounts parted-right
amounts-right = tt

-- ---- linked assets

-- "A linked asset's net is unlimited and its mitigants unread"; they take their places all the same, so that the second asset's mitigant is the third
abbrev linked : List ℕ
linked =
    usual (name ∷ bank ∷ bank ∷ []) (asset 11 1 0 0 1 2 700000000 0 0 0 0 ∷ covered 11 1 1 300000000 ∷ [])
    (mitigant 1 17 2 200000000 ∷ mitigant 1 17 2 100000000 ∷ mitigant 1 17 3 10000000 ∷ [])

unfoldable linked_table : List Case
linked_table =
    case linked (λ r. all_net_in r ∷ unlimited_in r ∷ printed r)
    (1000000000 ∷ 700000000 ∷ (line 1 0 290000000 250000000 250000000 40000000 ++ line 3 12 10000000 5000000000 5000000000 0))
    -- nothing but a linked asset: no line
    ∷ case (usual (name ∷ []) (asset 11 1 0 0 1 0 700000000 0 0 0 0 ∷ []) []) (λ r. all_net_in r ∷ unlimited_in r ∷ length r ∷ [])
    (700000000 ∷ 700000000 ∷ 72 ∷ [])
    ∷ []

linked-right : T (every right linked_table)
unfolding report_computed linked_table right
linked-right = tt
