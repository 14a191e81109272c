-- `enter`: both ways give the same equations.
use mathlib.Core.Bool.{true, false}
use mathlib.Core.Path.{◌≡◌, refl, sym, ◌∙◌}
use native.Mathlib.Omega.{arith}
use Rattle.book.specs.Fields.{reinsurance}
use Rattle.entering.proofs.Entering.{treaty-fits, other_fits, net-fits, treaty-entered, other-entered}
use Rattle.entering.proofs.enter.Goals as goal

pub with_treaty-sums-requires : goal.with_treaty-sums-requires
with_treaty-sums-requires c =
    let e : reinsurance c.args.a ≡ true = sym c.is_reinsurance.ensures ∙ c.if-is_reinsurance.true in
    treaty-fits c.requires e c.stressed_of-stressed.ensures c.share_of-s.ensures

pub overflow_add-halves : goal.overflow_add-halves
overflow_add-halves c =
    let e : reinsurance c.args.a ≡ true = sym c.is_reinsurance.ensures ∙ c.if-is_reinsurance.true in
    rw c.from.ensures (omega (arith, net-fits c.requires e c.stressed_of-stressed.ensures c.share_of-s.ensures))

pub returns-then-is_reinsurance : goal.returns-then-is_reinsurance
returns-then-is_reinsurance c =
    let e : reinsurance c.args.a ≡ true = sym c.is_reinsurance.ensures ∙ c.if-is_reinsurance.true in
    rw c.from.ensures (treaty-entered c.args.word c.args.terms c.settle.ensures e c.stressed_of-stressed.ensures c.share_of-s.ensures c.treaty_column.ensures.0 c.treaty_draws-on.ensures refl c.with_treaty-sums.ensures)

pub with_other-sums-requires : goal.with_other-sums-requires
with_other-sums-requires c =
    let e : reinsurance c.args.a ≡ false = sym c.is_reinsurance.ensures ∙ c.if-is_reinsurance.false in
    other_fits c.requires e c.share_of-s-2.ensures

pub returns : goal.returns
returns c =
    let e : reinsurance c.args.a ≡ false = sym c.is_reinsurance.ensures ∙ c.if-is_reinsurance.false in
    other-entered c.args.word c.args.terms c.settle-2.ensures e c.share_of-s-2.ensures c.kind_column.ensures.0 refl refl c.with_other-sums.ensures
