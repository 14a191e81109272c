-- Laws of an asset's values: stressed-le, net-le (at most M, in a book that is accepted).
use Rattle.std.specs.Prelude.{ℕ, ◌≤◌}
use Rattle.std.proofs.Common.{arith}
use Rattle.words.specs.Choice.{if-le}
use Rattle.wire.specs.Bytes.{M}
use Rattle.book.specs.declared.Asset.{Asset}
use Rattle.book.specs.Fields.{rises, reinsurance}
use Rattle.book.specs.Accepted.{AssetFits}
use Rattle.exposure.specs.Values.{stressed, net}

pub stressed-le : (c : ℕ) (a : Asset) → AssetFits c a → stressed a ≤ M
unfolding stressed
stressed-le c a f = if-le (rises a) (omega (arith, f.insurance, f.combination)) f.combination

pub net-le : (c : ℕ) (a : Asset) → AssetFits c a → net a ≤ M
unfolding net
net-le c a f = omega (arith, if-le (reinsurance a) (stressed-le c a f) f.value)
