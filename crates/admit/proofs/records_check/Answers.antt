-- `records_check`: the chain of 10 to 13.
use native.Mathlib.Omega.{arith}
use Rattle.refusal.specs.Laws.{then_ok}
use Rattle.book.specs.HeaderLaws.{header-counts}
use Rattle.book.specs.Check.{counts_check, records_check}
use Rattle.admit.proofs.records_check.Goals as goal

pub counterparties_check-requires : goal.counterparties_check-requires
counterparties_check-requires c =
    let h = header-counts _ c.header_at-h.ensures in
    (c.requires, h.0)

pub assets_check-requires : goal.assets_check-requires
assets_check-requires c =
    let h = header-counts _ c.header_at-h.ensures in
    (c.requires, h.0, h.1, c.assets_of-assets.ensures)

pub mitigants_check-requires : goal.mitigants_check-requires
mitigants_check-requires c =
    let h = header-counts _ c.header_at-h.ensures in
    (c.requires, h.0, h.2, omega (arith, c.mitigants_start.ensures))

pub counts_add-requires : goal.counts_add-requires
counts_add-requires c =
    let h = header-counts _ c.header_at-h.ensures in
    (c.requires, h.1, c.assets_of-assets.ensures)

pub returns : goal.returns
unfolding counts_check records_check
returns c =
    let k = (header-counts _ c.header_at-h.ensures).2 in
    grind (arith, then_ok, k)
