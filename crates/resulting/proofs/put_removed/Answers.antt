-- `put_removed`: three parts, one behind the other, and the counts.
use mathlib.Core.Path.{refl, ap, ap₂}
use Prim.Native.Nat.{ℕ, ◌-◌}
use native.Mathlib.Omega.{arith}
use Rattle.book.specs.HeaderLaws.{header-counts}
use Rattle.resulting.proofs.Putting.{bounds, removed-put}
use Rattle.resulting.proofs.put_removed.Goals as goal

pub put_slice-requires-2 : goal.put_slice-requires-2
put_slice-requires-2 c =
    let h = bounds c.args.b.now c.requires.0 c.args.place c.requires.1 c.requires.2 c.find-s.ensures in
    (h.own, omega (arith, h), omega (arith, h, c.requires.3, c.put_slice.auto.d))

pub put_slice-requires-3 : goal.put_slice-requires-3
put_slice-requires-3 c =
    let h = bounds c.args.b.now c.requires.0 c.args.place c.requires.1 c.requires.2 c.find-s.ensures in
    (omega (arith, h), omega arith, omega (arith, h, c.requires.3, c.put_slice-2.auto.d, c.put_slice.auto.d))

pub overflow_sub-h : goal.overflow_sub-h
overflow_sub-h c =
    omega (arith, (header-counts c.args.b.now c.header_at-h.ensures).1, c.requires.1, c.requires.2)

pub overflow_sub-h-2 : goal.overflow_sub-h-2
overflow_sub-h-2 c =
    let h = bounds c.args.b.now c.requires.0 c.args.place c.requires.1 c.requires.2 c.find-s.ensures in
    omega (arith, h.count, (header-counts c.args.b.now c.header_at-h.ensures).2)

pub overflow_sub-result-2 : goal.overflow_sub-result-2
overflow_sub-result-2 c =
    let h = bounds c.args.b.now c.requires.0 c.args.place c.requires.1 c.requires.2 c.find-s.ensures in
    h.within

pub returns : goal.returns
returns c =
    let b = c.args.b.now in
    let t = c.find-s.ensures in
    let n = header-counts b c.header_at-h.ensures in
    removed-put b c.args.d.now c.requires.0 c.args.place _ _ _ _ _ _ c.requires.1 c.requires.2 t.asset t.first t.behind
    (ap (λ (x : ℕ). x - 1) n.1) (ap₂ (λ (x y : ℕ). x - y) n.2 t.count) refl
    c.put_slice.ensures c.put_slice-2.ensures c.put_slice-3.ensures c.put_counts.ensures
