-- `find`: out of the header, the asset and the counts before it.
use mathlib.Core.Path.{ap}
use native.Mathlib.Omega.{arith}
use Rattle.book.specs.declared.Asset.{Asset}
use Rattle.book.specs.HeaderLaws.{header-counts, mitigants-from}
use Rattle.movement.proofs.Afresh.{counts-within}
use Rattle.movement.proofs.find.Goals as goal

pub counterparty_start-assets-requires : goal.counterparty_start-assets-requires
counterparty_start-assets-requires c =
    (omega arith, omega (arith, (header-counts c.args.b.now c.header_at-h.ensures).0, c.requires.0.counterparties))

pub overflow_mul-first : goal.overflow_mul-first
overflow_mul-first c =
    record { fits = omega (arith, c.counts_before.ensures, counts-within c.args.b.now c.requires.0 c.args.place c.requires.1 c.requires.2, c.requires.0.mitigants) }

pub overflow_add-first : goal.overflow_add-first
overflow_add-first c =
    let m = mitigants-from c.args.b.now c.header_at-h.ensures c.mitigants_start.ensures in
    record { fits = omega (arith, m, c.counts_before.ensures, counts-within c.args.b.now c.requires.0 c.args.place c.requires.1 c.requires.2, c.requires.0.size, c.requires.0.mitigants, c.requires.0.assets, c.requires.0.counterparties) }

pub overflow_add-result-2 : goal.overflow_add-result-2
overflow_add-result-2 c =
    let m = mitigants-from c.args.b.now c.header_at-h.ensures c.mitigants_start.ensures in
    let a = ap (λ (x : Asset). x.count) c.asset_at-a.ensures in
    record { fits = omega (arith, m, a, c.counts_before.ensures, counts-within c.args.b.now c.requires.0 c.args.place c.requires.1 c.requires.2, c.requires.0.mitigants, c.requires.0.assets, c.requires.0.counterparties) }

pub returns : goal.returns
returns c =
    let h = header-counts c.args.b.now c.header_at-h.ensures in
    let m = mitigants-from c.args.b.now c.header_at-h.ensures c.mitigants_start.ensures in
    let a = ap (λ (x : Asset). x.count) c.asset_at-a.ensures in
    let n = c.counts_before.ensures in
    record { asset = omega (arith, h.0, c.counterparty_start-assets.ensures); first = omega (arith, m, n); behind = omega (arith, m, n, a); count = a }
