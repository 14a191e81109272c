-- What the pass over the mitigants asks for and promises; tables by place, entry 0 unused but that of the halves: nobody's half.
--   Known     the table of counterparties' terms
--   Offers    what the mitigant at a place could cover
--   Coverable     the tables of assets, owners and halves before it
--   Covers    the tables behind it
use Rattle.std.specs.Prelude.{List, ◌≡◌, ℕ, ◌≤◌, ◌<◌, min, length, get_or, if◌then◌else◌}
use Rattle.std.proofs.lemmas.List.Edits.{sets}
use Rattle.book.specs.declared.Asset.{Asset}
use Rattle.book.specs.Records.{C, N, K, counterparty_at, asset_at, mitigant_at}
use Rattle.book.specs.Fields.{reinsurance}
use Rattle.book.specs.Book.{book_of}
use Rattle.exposure.specs.Parts.{covers, half_of, covered_of, each_drawing}
use Rattle.columns.specs.Column.{terms_of}
use Rattle.assets.specs.Marks.{owner_by, Owned}
use Rattle.assets.specs.Shares.{rest_of, draws_on}
use Rattle.assets.specs.Halves.{endless}
use Rattle.covering.specs.Covered.{rests_from, halves_after}

pub record Known (b terms : List ℕ) : Type 0 where
  pub size : C b < length terms
  pub each : (p : ℕ) → 0 < p → p ≤ C b → get_or terms p 0 ≡ terms_of (counterparty_at b p)

-- of reinsurance or of any other asset, as `re` is 1 or 0: the lesser of it and of what may still be covered is what the mitigant covers
pub record Offers (b : List ℕ) (place re offer : ℕ) : Type 0 where
  pub part : (a : Asset) → re ≡ (if reinsurance a then 1 else 0)
      → (still : ℕ) → min offer still ≡ covers a (mitigant_at b place) (counterparty_at b (mitigant_at b place).counterparty) still

-- each mitigant's owner; whose half each asset draws on, nobody's half and each counterparty's, and what there is of each asset
pub record Coverable (b starts draws halves rests : List ℕ) : Type 0 where
  pub starts-size : K b < length starts
  pub draws-size : N b < length draws
  pub halves-size : C b < length halves
  pub rests-size : N b < length rests
  pub owned : Owned (owner_by starts) b 1 1 (N b)
  pub on : (p : ℕ) → 0 < p → p ≤ N b → get_or draws p 0 ≡ draws_on (counterparty_at b) (asset_at b p)
  pub of-nobody : get_or halves 0 0 ≡ endless
  pub halved : (q : ℕ) → 0 < q → get_or halves q 0 ≡ half_of (book_of b).holdings q
  pub there : (p : ℕ) → 0 < p → p ≤ N b → get_or rests p 0 ≡ rest_of (asset_at b p)

-- what each mitigant covers, and that taken off the half that its asset draws on and off its asset's entry; every other entry as it was
pub record Covers (b covered₀ halves₀ rests₀ covered halves rests : List ℕ) : Type 0 where
  pub parts : covered ≡ sets covered₀ 1 (each_drawing (counterparty_at b) (covered_of (counterparty_at b)) (half_of (book_of b).holdings) (book_of b).holdings)
  pub drawn : halves ≡ halves_after (counterparty_at b) (half_of (book_of b).holdings) halves₀ (book_of b).holdings
  pub remainders : rests ≡ sets rests₀ 1 (rests_from (counterparty_at b) (half_of (book_of b).holdings) rests₀ 1 (book_of b).holdings)
