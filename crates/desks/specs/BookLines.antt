-- C-14: "the exposure lines in book order, each asset's covered parts before its remainder".
--   exposure_line         the line of an exposure of an asset of such a desk
--   holding_lines   the lines of an asset with its mitigants, where `left` is left of the halves
--   book_lines      those of a book
use Rattle.std.specs.Prelude.{List, map, ℕ}
use Rattle.bills.specs.Lines.{ExposureLine}
use Rattle.book.specs.declared.Counterparty.{Counterparty}
use Rattle.book.specs.Book.{Book, Holding, top_of}
use Rattle.exposure.specs.declared.Exposure.{Exposure}
use Rattle.exposure.specs.Parts.{half_of, exposures_of, each_drawing}
use Rattle.exposure.specs.Tier.{tier_of}

-- the group and tier where the report counts the exposure
unfoldable pub exposure_line : (ℕ → Counterparty) → ℕ → Exposure → ExposureLine
exposure_line cs desk x = record { group = top_of cs x.counterparty; tier = tier_of cs x; amount = x.amount; desk = desk }

-- `exposures_of` gives an asset's covered parts in the order of its mitigants and then its remainder, and nothing where it is linked; the desk is the asset's
unfoldable pub holding_lines : (ℕ → Counterparty) → (ℕ → ℕ) → Holding → List ExposureLine
holding_lines cs left h = map (exposure_line cs h.asset.desk) (exposures_of cs left h)

-- with the halves drawn on as the exposures draw on them
unfoldable pub book_lines : Book → List ExposureLine
book_lines B = each_drawing B.counterparty (holding_lines B.counterparty) (half_of B.holdings) B.holdings
