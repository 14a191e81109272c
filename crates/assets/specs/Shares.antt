-- What there is of an asset to be covered or left, and whose half it draws on.
--   rest_of      an asset's net where it is not linked: its exposures add up to this
--   draws_on     the counterparty whose half it draws on, or 0 for nobody's
--   treaty_rest  what it adds to its counterparty's nets
use Rattle.std.specs.Prelude.{ℕ, if◌then◌else◌}
use Rattle.book.specs.declared.Counterparty.{Counterparty}
use Rattle.book.specs.declared.Asset.{Asset}
use Rattle.book.specs.Fields.{linked, reinsurance}
use Rattle.exposure.specs.Values.{net}
use Rattle.exposure.specs.Parts.{half_covered}

-- "A linked asset's net is unlimited": it has no exposures
unfoldable pub rest_of : Asset → ℕ
rest_of a = if linked a then 0 else net a

unfoldable pub draws_on : (ℕ → Counterparty) → Asset → ℕ
draws_on cs a = if half_covered a (cs a.counterparty) then a.counterparty else 0

-- "unlinked reinsurance nets"
unfoldable pub treaty_rest : Asset → ℕ
treaty_rest a = if reinsurance a then rest_of a else 0
