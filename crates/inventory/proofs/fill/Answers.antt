use Prim.Native.Nat.{◌≤◌, ◌<◌}
use native.Mathlib.Omega.{arith}
use lib.ListN.{length}
use Rattle.book.specs.Records.{N}
use Rattle.inventory.proofs.Filling.{filling-start, first-inside, asset-enters, asset-step, filling-end}
use Rattle.inventory.proofs.fill.Goals as goal
use Rattle.inventory.proofs.fill.Goals.{After-asset_at-a, In-loop-place}

pub loop-place-init : goal.loop-place-init
loop-place-init c = filling-start c.requires.4

-- in the loop the place is an asset's, and its mark's is inside the table
here : (c : In-loop-place) → c.loop-place.place ≤ N c.args.b.now
here c = omega (arith, c.requires.2)

record Marks (c : In-loop-place) : Type 0 where
  few : c.loop-place.first ≤ 1501
  inside : c.loop-place.first < length c.loop-place.starts

marks : (c : In-loop-place) → Marks c
marks c =
    let k = c.loop-place.invariant in
    let p = c.requires in
    let f = first-inside k p.0 (here c) in
    record { few = omega (arith, f, p.0.mitigants); inside = omega (arith, f, k.starts-size, p.4.of-starts) }

pub enter-v-requires : goal.enter-v-requires
enter-v-requires c =
    let p = c.requires in
    rw c.from-who.ensures (asset-enters c.loop-place.invariant p.0 (here (goal.at.enter-v-requires c).In-loop-place) p.3 c.asset_at-a.ensures p.4)

pub offset_bounds-starts-first : goal.offset_bounds-starts-first
offset_bounds-starts-first c = omega (arith, (marks (goal.at.offset_bounds-starts-first c).In-loop-place).few)

pub bounds-starts-first : goal.bounds-starts-first
bounds-starts-first c = (marks (goal.at.bounds-starts-first c).In-loop-place).inside

pub overflow_add-first : goal.overflow_add-first
overflow_add-first c = omega (arith, (marks (goal.at.overflow_add-first c).In-loop-place).few, c.asset_at-a.type_inv, c.from-first.ensures)

pub loop-place-preserved : goal.loop-place-preserved
loop-place-preserved c =
    let p = c.requires in
    rw c.from-first.ensures (asset-step c.loop-place.invariant p.0 (here (goal.at.loop-place-preserved c).In-loop-place) p.3 c.asset_at-a.ensures c.mark_of.ensures (rw c.from-who.ensures at c.enter-v.ensures))

pub returns : goal.returns
returns c = filling-end c.loop-place.invariant (omega (arith, c.requires.2))
