-- `asset_at`: the asset that starts where its place says.
use native.Mathlib.Omega.{arith}
use Rattle.book.specs.HeaderLaws.{assets-start, assets-counts}
use Rattle.book.proofs.asset_at.Goals as goal

pub overflow_add-assets : goal.overflow_add-assets
overflow_add-assets c = omega (arith, assets-start _ c.requires.0)

pub asset_from-requires : goal.asset_from-requires
asset_from-requires c = (omega (arith, assets-start _ c.requires.0), assets-counts _ c.requires.0)

pub returns : goal.returns
returns c = rw (c.asset_from.ensures, assets-start _ c.requires.0)
