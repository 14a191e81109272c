-- "Values (P16 to P20, P26, P27)", and refusals 14 and 15.
--   stressed net                     of an asset
--   of_reinsurance over_reinsurance    an amount where an asset is reinsurance, and its sum over a book
--   reinsurance_values all_netted stressed_less_netted    such sums
--   VAF before_excluded VAF'          of a book
--   fund_check                        14 and 15
use Rattle.std.specs.Prelude.{◌&&◌, ℕ, ◌+◌, ◌-◌, max, if◌then◌else◌}
use Rattle.words.specs.Words.{◌≤?◌, sum_of}
use Rattle.wire.specs.Bytes.{M}
use Rattle.refusal.specs.declared.Refusal.TheVariants.{ReinsuranceValues, StressedAssets}
use Rattle.refusal.specs.Chain.{refuse◌unless◌, ◌and_then◌, Checked}
use Rattle.book.specs.declared.Asset.{Asset}
use Rattle.book.specs.Fields.{reinsurance, rises}
use Rattle.book.specs.Book.{Book, Holding}

-- "Stressed = combination amount, or the greater of the two if bit 1 is set"
unfoldable pub stressed : Asset → ℕ
stressed a = if rises a then max a.insurance a.combination else a.combination

-- "Net = value (reinsurance: stressed) − offsets − deductions, never below 0"
unfoldable pub net : Asset → ℕ
net a = (if reinsurance a then stressed a else a.value) - a.offsets - a.deductions

-- an amount of an asset where it is reinsurance
abbrev pub of_reinsurance : (Asset → ℕ) → Asset → ℕ
of_reinsurance amount a = if reinsurance a then amount a else 0

-- the sum of an amount over the book's reinsurance assets
unfoldable pub over_reinsurance : (Asset → ℕ) → Book → ℕ
over_reinsurance amount B = sum_of (λ (h : Holding). of_reinsurance amount h.asset) B.holdings

-- "reinsurance values"
abbrev pub reinsurance_values : Book → ℕ
reinsurance_values B = over_reinsurance (λ a. a.value) B

-- "all netted"; a reinsurance asset's "offsets are netted liabilities"
abbrev pub all_netted : Book → ℕ
all_netted B = over_reinsurance (λ a. a.offsets) B

-- "the sum of (stressed − netted, never below 0)"
abbrev pub stressed_less_netted : Book → ℕ
stressed_less_netted B = over_reinsurance (λ a. stressed a - a.offsets) B

-- "VAF = total − all netted"
unfoldable pub VAF : Book → ℕ
VAF B = B.total - all_netted B

-- "total − reinsurance values + the sum of (stressed − netted, never below 0)"
unfoldable pub before_excluded : Book → ℕ
before_excluded B = B.total - reinsurance_values B + stressed_less_netted B

-- "VAF' = (..) − excluded"
unfoldable pub VAF' : Book → ℕ
VAF' B = before_excluded B - B.excluded

-- 14 and 15 of "What the desk turns back"
unfoldable pub fund_check : Book → Checked
fund_check B =
    (refuse ReinsuranceValues unless reinsurance_values B ≤? B.total)
    and_then (refuse StressedAssets unless B.excluded ≤? before_excluded B && VAF' B ≤? M)
