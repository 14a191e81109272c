-- A book as its records: each asset with its own mitigants.
use Rattle.std.specs.Prelude.{List, [], ◌∷◌, ℕ, zero, suc, ◌+◌, ℤ, if◌then◌else◌}
use Rattle.words.specs.Words.{◌<?◌, ◌=?◌}
use Rattle.book.specs.declared.Counterparty.{Counterparty}
use Rattle.book.specs.declared.Asset.{Asset}
use Rattle.book.specs.declared.Mitigant.{Mitigant}
use Rattle.book.specs.Records.{C, N, total, base, excluded, counterparty_at, asset_at, mitigant_at}

-- an asset and its mitigants
pub record Holding : Type 0 where
  pub asset : Asset
  pub mitigants : List Mitigant

-- a book's amounts, how many counterparties it has, the counterparty at each place (from 1), and its assets in book order
pub record Book : Type 0 where
  pub total : ℕ
  pub base : ℤ
  pub excluded : ℕ
  pub counterparties : ℕ
  pub counterparty : ℕ → Counterparty
  pub holdings : List Holding

-- "Mitigant, 12 bytes, in asset order": `count` mitigants from a place on
unfoldable pub mitigants_from : List ℕ → ℕ → ℕ → List Mitigant
mitigants_from b place zero = []
mitigants_from b place (suc count) = mitigant_at b place ∷ mitigants_from b (place + 1) count

-- `more` assets from a place on, whose first mitigant is the one at place m
unfoldable pub holdings_from : List ℕ → ℕ → ℕ → ℕ → List Holding
holdings_from b place m zero = []
holdings_from b place m (suc more) =
    let a = asset_at b place in
    record { asset = a; mitigants = mitigants_from b m a.count } ∷ holdings_from b (place + 1) (m + a.count) more

-- the book that the bytes hold
unfoldable pub book_of : List ℕ → Book
book_of b =
    record {
      total = total b;
      base = base b;
      excluded = excluded b;
      counterparties = C b;
      counterparty = counterparty_at b;
      holdings = holdings_from b 1 1 (N b);
    }

-- "u16 parent (0 none, else a lower place)": the parent of a place, 0 for none
unfoldable pub parent_of : (ℕ → Counterparty) → ℕ → ℕ
parent_of who place = if (who place).parent <? place then (who place).parent else 0

-- "the same topmost parent": what is reached from a place in so many steps up, as far as there are parents
unfoldable pub top_in : ℕ → (ℕ → Counterparty) → ℕ → ℕ
top_in zero who place = place
top_in (suc steps) who place = if parent_of who place =? 0 then place else top_in steps who (parent_of who place)

-- "A group is everyone with the same topmost parent"; each step goes to a lower place, so a place needs no more steps than its number
unfoldable pub top_of : (ℕ → Counterparty) → ℕ → ℕ
top_of who place = top_in place who place
