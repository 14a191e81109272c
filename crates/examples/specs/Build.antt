-- Names and books of the worked cases, over the records of book.specs.Build.
--   name graded_name bank registered     counterparties without flags and parent
--   covered plain reinsured entered     assets
--   minus usual specialist              a base below 0; the usual book, and one that is a specialist fund's
--   t2                                  document 01's T2
use Rattle.std.specs.Prelude.{List, [], ◌∷◌, ℕ, ◌-◌}
use Rattle.book.specs.Build.{counterparty, asset, book_bytes, specialist_bytes}

-- ungraded of kind 0; graded of kind 0; a graded bank; an ungraded registered life company
abbrev pub name : List ℕ
name = counterparty 0 0 0 0

abbrev pub graded_name : List ℕ
graded_name = counterparty 0 0 2 0

abbrev pub bank : List ℕ
bank = counterparty 0 1 1 0

abbrev pub registered : List ℕ
registered = counterparty 0 4 0 0

-- an asset of a kind, a counterparty, a count of mitigants and a value, nothing else; the same without mitigants
abbrev pub covered : ℕ → ℕ → ℕ → ℕ → List ℕ
covered kind who count value = asset kind 0 0 0 who count value 0 0 0 0

abbrev pub plain : ℕ → ℕ → ℕ → List ℕ
plain kind who value = covered kind who 0 value

-- a reinsurance asset whose value and combination stress are the same: counterparty, count of mitigants, value
abbrev pub reinsured : ℕ → ℕ → ℕ → List ℕ
reinsured who count value = asset 9 0 0 0 who count value 0 0 0 value

-- one with an entry class, at so many months, without mitigants
abbrev pub entered : ℕ → ℕ → ℕ → ℕ → List ℕ
entered entry months who value = asset 9 0 entry months who 0 value 0 0 0 value

-- −n as 64 bits: "two's complement"
abbrev pub minus : ℕ → ℕ
minus n = 18446744073709551616 - n

-- "total 10,000,000,000, base 1,000,000,000, unless said"
abbrev pub usual : List (List ℕ) → List (List ℕ) → List (List ℕ) → List ℕ
usual counterparties assets mitigants = book_bytes 10_000_000_000 1_000_000_000 0 counterparties assets mitigants

abbrev pub specialist : List (List ℕ) → List (List ℕ) → List (List ℕ) → List ℕ
specialist counterparties assets mitigants = specialist_bytes 10_000_000_000 1_000_000_000 0 counterparties assets mitigants

-- "kind 11 and kind 6, one ungraded name, 300000000 each"
abbrev pub t2 : List ℕ
t2 = usual (name ∷ []) (plain 11 1 300000000 ∷ plain 6 1 300000000 ∷ []) []
