-- `put_added`: three parts, one behind the other, and the counts.
use mathlib.Core.Path.{refl}
use native.Mathlib.Omega.{arith}
use Rattle.book.specs.HeaderLaws.{header-counts, mitigants-from}
use Rattle.resulting.proofs.Putting.{added-put}
use Rattle.resulting.proofs.put_added.Goals as goal

pub put_slice-requires : goal.put_slice-requires
put_slice-requires c =
    let b = c.args.b.now in
    let m = mitigants-from b c.header_at-h.ensures c.mitigants_start-m.ensures in
    let z = c.requires.0.size in
    (omega arith, omega (arith, m, z), omega (arith, m, z, c.requires.2))

pub put_slice-requires-2 : goal.put_slice-requires-2
put_slice-requires-2 c =
    let b = c.args.b.now in
    let m = mitigants-from b c.header_at-h.ensures c.mitigants_start-m.ensures in
    let z = c.requires.0.size in
    (omega arith, omega (arith, c.requires.1), omega (arith, m, z, c.requires.2, c.put_slice.auto.d))

pub put_slice-requires-3 : goal.put_slice-requires-3
put_slice-requires-3 c =
    let b = c.args.b.now in
    let m = mitigants-from b c.header_at-h.ensures c.mitigants_start-m.ensures in
    let z = c.requires.0.size in
    (omega (arith, m, z), omega arith, omega (arith, m, z, c.requires.2, c.put_slice-2.auto.d, c.put_slice.auto.d))

pub overflow_add-h : goal.overflow_add-h
overflow_add-h c =
    let n = header-counts c.args.b.now c.header_at-h.ensures in
    record { fits = omega (arith, n.1, c.requires.0.assets) }

pub returns : goal.returns
returns c =
    let b = c.args.b.now in
    let h = c.header_at-h.ensures in
    let n = header-counts b h in
    added-put b c.args.d.now c.requires.0 c.args.asset.now _ _ _ _ c.requires.1 (mitigants-from b h c.mitigants_start-m.ensures) n.1 n.2 refl
    c.put_slice.ensures c.put_slice-2.ensures c.put_slice-3.ensures c.put_counts.ensures
