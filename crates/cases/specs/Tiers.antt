-- "Tiers (A1, A2)": every kind with a counterparty that meets its condition and with one that does not; reinsurance by kind and flags, and by months.
use Rattle.std.specs.Prelude.{Bool, List, [], ◌∷◌, ℕ, T}
use Rattle.words.specs.Words.{each_of}
use Rattle.book.specs.Build.{counterparty}
use Rattle.book.specs.Book.{book_of}
use Rattle.exposure.specs.Parts.{exposures}
use Rattle.exposure.specs.Tier.{no_limit, tier_of}
use Rattle.examples.specs.Build.{plain, reinsured, entered, usual, name, graded_name, bank, registered}
use Rattle.examples.specs.Table.{same}
use Rattle.examples.specs.Opened.{report_computed}

-- an asset and its tier
record Classed : Type 0 where
  asset : List ℕ
  tier : ℕ

abbrev in_tier : ℕ → List ℕ → Classed
in_tier tier asset = record { asset = asset; tier = tier }

-- the exposures of a book with these assets have these tiers
unfoldable right : List (List ℕ) → List Classed → Bool
right names xs =
    let B = book_of (usual names (each_of (λ (x : Classed). x.asset ∷ []) xs) []) in
    same (each_of (λ x. tier_of B.counterparty x ∷ []) (exposures B)) (each_of (λ (x : Classed). x.tier ∷ []) xs)

-- ---- kinds 1 to 8, 10 and 11

-- ungraded: 1 of kind 0, 2 bank, 3 home government, 4 provincial government, 5 registered life company, 6 a related one;
-- 7 graded of kind 0, 8 of grade 4, 9 a graded registered life company
abbrev names : List (List ℕ)
names =
    name ∷ counterparty 0 1 0 0 ∷ counterparty 0 2 0 0 ∷ counterparty 0 3 0 0 ∷ registered ∷ counterparty 0 4 0 1
    ∷ counterparty 0 0 3 0 ∷ counterparty 0 0 4 0 ∷ counterparty 0 4 1 0 ∷ []

abbrev kinds : List Classed
kinds =
    -- "Kind 1 (government guaranteed) with home government, and kind 2 (life policy) with a related registered life company: no limit"
    in_tier no_limit (plain 1 3 1)
    ∷ in_tier no_limit (plain 2 6 1)
    -- "Kind 3 (bank bill, guarantee, letter) with a bank, 5 (guaranteed by a province) with provincial: c. 4 (deposit) with a bank: d"
    ∷ in_tier 11 (plain 3 2 1)
    ∷ in_tier 11 (plain 5 4 1)
    ∷ in_tier 12 (plain 4 2 1)
    -- "6 (traded), 8 (property): h. 10 (premiums owed) with graded kind 4: f. 11 (any other): i"
    ∷ in_tier 2 (plain 6 1 1)
    ∷ in_tier 2 (plain 8 1 1)
    ∷ in_tier 10 (plain 10 9 1)
    ∷ in_tier 0 (plain 11 7 1)
    -- "Kind 7 (loan), and any of the above that fails its condition: h if graded, else i"; ""Graded" means 1 to 3"
    ∷ in_tier 2 (plain 7 7 1)
    ∷ in_tier 0 (plain 7 8 1)
    ∷ in_tier 0 (plain 1 4 1)
    ∷ in_tier 2 (plain 1 7 1)
    ∷ in_tier 0 (plain 2 5 1)
    ∷ in_tier 2 (plain 2 9 1)
    ∷ in_tier 0 (plain 3 3 1)
    ∷ in_tier 0 (plain 4 4 1)
    ∷ in_tier 0 (plain 5 3 1)
    ∷ in_tier 0 (plain 10 5 1)
    ∷ in_tier 2 (plain 10 7 1)
    ∷ []

kinds-right : T (right names kinds)
unfolding report_computed right
kinds-right = tt

-- ---- kind 9

-- graded registered life companies: 1 without flags, 2 related, 3 related and bit 2, 4 related and bit 1; graded of kind 0: 5 without flags, 6 bit 2,
-- 7 bit 1, 8 both; 9 a graded bank; ungraded: 10 grade 4 and bit 2, 11 grade 7 and bit 1, 12 a registered life company
abbrev reinsurers : List (List ℕ)
reinsurers =
    counterparty 0 4 3 0 ∷ counterparty 0 4 3 1 ∷ counterparty 0 4 3 5 ∷ counterparty 0 4 3 3
    ∷ graded_name ∷ counterparty 0 0 1 4 ∷ counterparty 0 0 1 2 ∷ counterparty 0 0 1 6 ∷ bank
    ∷ counterparty 0 0 4 4 ∷ counterparty 0 0 7 2 ∷ registered ∷ []

abbrev reinsurance : List Classed
reinsurance =
    -- "graded gives e if kind 4 and not related, or if bit 2 is set whatever the kind"
    in_tier 9 (reinsured 1 0 1)
    ∷ in_tier 9 (reinsured 3 0 1)
    ∷ in_tier 9 (reinsured 6 0 1)
    ∷ in_tier 9 (reinsured 8 0 1)
    -- "else g if bit 1 and not kind 4"
    ∷ in_tier 6 (reinsured 7 0 1)
    -- "else h"
    ∷ in_tier 3 (reinsured 2 0 1)
    ∷ in_tier 3 (reinsured 4 0 1)
    ∷ in_tier 3 (reinsured 5 0 1)
    ∷ in_tier 3 (reinsured 9 0 1)
    -- entry and months count for the ungraded alone, and for them neither kind nor flags
    ∷ in_tier 3 (entered 1 12 5 1)
    ∷ in_tier 6 (entered 2 0 10 1)
    ∷ in_tier 9 (entered 1 0 11 1)
    ∷ in_tier 4 (entered 2 12 12 1)
    -- "otherwise i"
    ∷ in_tier 1 (reinsured 10 0 1)
    ∷ in_tier 1 (reinsured 11 0 1)
    ∷ in_tier 1 (reinsured 12 0 1)
    ∷ []

reinsurance-right : T (right reinsurers reinsurance)
unfolding report_computed right
reinsurance-right = tt

-- "full limit for months 0 to 2, first percent 3 to 11, second 12 to 23; otherwise i"; "(255 is 255 or more)"
abbrev months : List Classed
months =
    in_tier 9 (entered 1 0 1 1)
    ∷ in_tier 9 (entered 1 2 1 1)
    ∷ in_tier 8 (entered 1 3 1 1)
    ∷ in_tier 8 (entered 1 11 1 1)
    ∷ in_tier 7 (entered 1 12 1 1)
    ∷ in_tier 7 (entered 1 23 1 1)
    ∷ in_tier 1 (entered 1 24 1 1)
    ∷ in_tier 1 (entered 1 255 1 1)
    ∷ in_tier 6 (entered 2 0 1 1)
    ∷ in_tier 6 (entered 2 2 1 1)
    ∷ in_tier 5 (entered 2 3 1 1)
    ∷ in_tier 5 (entered 2 11 1 1)
    ∷ in_tier 4 (entered 2 12 1 1)
    ∷ in_tier 4 (entered 2 23 1 1)
    ∷ in_tier 1 (entered 2 24 1 1)
    ∷ in_tier 1 (entered 2 255 1 1)
    ∷ []

months-right : T (right (name ∷ []) months)
unfolding report_computed right
months-right = tt
