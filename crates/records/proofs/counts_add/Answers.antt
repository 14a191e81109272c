use mathlib.Core.Path.{ap, ◌∙◌}
use native.Mathlib.Omega.{arith}
use Rattle.book.specs.declared.Asset.{Asset}
use Rattle.records.proofs.Adding.{adding-starts, adding-on, adding-ends}
use Rattle.records.proofs.counts_add.Goals as goal

pub loop-place-init : goal.loop-place-init
loop-place-init c = adding-starts _

pub loop-place-preserved : goal.loop-place-preserved
loop-place-preserved c = adding-on c.loop-place.invariant (omega arith) (c.from-sum.ensures ∙ ap (λ (a : Asset). a.count) c.asset_at.ensures) (omega arith)

pub returns : goal.returns
returns c = adding-ends c.loop-place.invariant (omega arith)
