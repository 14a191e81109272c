-- VAF and VAF' of a fund that refusals 14 and 15 let pass, at most M: vaf-le, stressed-vaf-le; their differences don't pass below 0: vaf-exact, stressed-vaf-exact.
use Rattle.std.proofs.Common.{Ok}
use mathlib.Core.Path.{◌≡◌}
use mathlib.Core.List.{List}
use mathlib.Core.Bool.{true, ◌&&◌}
use Prim.Native.Nat.{ℕ, ◌+◌, ◌≤◌}
use native.Mathlib.Omega.{arith}
use borrow.Author.Tests.{leb-true}
use Rattle.words.specs.Words.{◌≤?◌}
use Rattle.words.specs.Choice.{both}
use Rattle.wire.specs.Bytes.{M}
use Rattle.refusal.specs.declared.Refusal.TheVariants.{ReinsuranceValues, StressedAssets}
use Rattle.refusal.specs.Chain.{refuse◌unless◌}
use Rattle.refusal.specs.Laws.{then-first, then-rest, unless-fine}
use Rattle.book.specs.Records.{total}
use Rattle.book.specs.Book.{Book, book_of}
use Rattle.book.specs.Accepted.{Accepted}
use Rattle.exposure.specs.Values.{reinsurance_values, all_netted, stressed_less_netted, VAF, before_excluded, VAF', fund_check}
use Rattle.assets.proofs.Laws.{netted-le-values}

-- ---- a fund that 14 and 15 let pass
module _ (B : Book) (e : fund_check B ≡ Ok tt) where
  held : reinsurance_values B ≤ B.total
  unfolding fund_check
  held =
      leb-true (reinsurance_values B) B.total
      (unless-fine ReinsuranceValues (reinsurance_values B ≤? B.total)
      (then-first (refuse ReinsuranceValues unless reinsurance_values B ≤? B.total) (refuse StressedAssets unless B.excluded ≤? before_excluded B && VAF' B ≤? M) e))

  within : (B.excluded ≤? before_excluded B && VAF' B ≤? M) ≡ true
  unfolding fund_check
  within =
      unless-fine StressedAssets (B.excluded ≤? before_excluded B && VAF' B ≤? M)
      (then-rest (refuse ReinsuranceValues unless reinsurance_values B ≤? B.total) (refuse StressedAssets unless B.excluded ≤? before_excluded B && VAF' B ≤? M) e)

  pub stressed-vaf-le : VAF' B ≤ M
  stressed-vaf-le = leb-true (VAF' B) M (both (B.excluded ≤? before_excluded B) (VAF' B ≤? M) within).1

  pub stressed-vaf-exact : VAF' B + B.excluded + reinsurance_values B ≡ B.total + stressed_less_netted B
  unfolding VAF' before_excluded
  stressed-vaf-exact =
      let h = leb-true B.excluded (before_excluded B) (both (B.excluded ≤? before_excluded B) (VAF' B ≤? M) within).0 in
      omega (arith, held)

module _ (b : List ℕ) (acc : Accepted b) where
  pub vaf-le : VAF (book_of b) ≤ M
  unfolding VAF book_of
  vaf-le = omega (arith, acc.total)

  pub vaf-exact : fund_check (book_of b) ≡ Ok tt → VAF (book_of b) + all_netted (book_of b) ≡ total b
  unfolding VAF book_of
  vaf-exact e = omega (arith, held (book_of b) e, netted-le-values b acc)
