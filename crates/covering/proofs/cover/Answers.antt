use Prim.Native.Nat.{◌/◌, ◌≤◌, ◌<◌}
use lib.ListN.{length, get_or}
use native.Mathlib.Omega.{arith}
use Rattle.book.specs.Records.{K}
use Rattle.covering.proofs.Running.{running-start, running-step, running-end, own-inside, draws-inside, on-inside, halves-inside, rests-inside}
use Rattle.covering.proofs.cover.Goals as goal
use Rattle.covering.proofs.cover.Goals.{After-owner_at-own}

pub loop-place-init : goal.loop-place-init
loop-place-init c = running-start _ _ _ _ _ _

-- once the mitigant's owner is read: its place, the asset's, and whose half that draws on, are inside the tables
record At (c : After-owner_at-own) : Type 0 where
  place : c.loop-place.place ≤ K c.args.b.now
  own : c.owner_at-own.result / 2 ≤ 900
  draws : c.owner_at-own.result / 2 < length c.args.draws.now
  on : get_or c.args.draws.now (c.owner_at-own.result / 2) 0 ≤ 500
  halves : get_or c.args.draws.now (c.owner_at-own.result / 2) 0 < length c.loop-place.halves
  rests : c.owner_at-own.result / 2 < length c.loop-place.rests

at : (c : After-owner_at-own) → At c
at c =
    let k = c.loop-place.invariant in
    let h : c.loop-place.place ≤ K c.args.b.now = omega (arith, c.requires.2) in
    let e = c.owner_at-own.ensures in
    record {
      place = h;
      own = omega (arith, own-inside k c.requires.0 c.requires.4 h e, c.requires.0.assets);
      draws = draws-inside k c.requires.0 c.requires.4 h e;
      on = omega (arith, on-inside k c.requires.0 c.requires.4 h e, c.requires.0.counterparties);
      halves = halves-inside k c.requires.0 c.requires.4 h e;
      rests = rests-inside k c.requires.0 c.requires.4 h e;
    }

pub bounds-draws-from : goal.bounds-draws-from
bounds-draws-from c = (at (goal.at.bounds-draws-from c).After-owner_at-own).draws

pub offset_bounds-rests-from : goal.offset_bounds-rests-from
offset_bounds-rests-from c = omega (arith, (at (goal.at.offset_bounds-rests-from c).After-owner_at-own).own)

pub bounds-rests-from : goal.bounds-rests-from
bounds-rests-from c = (at (goal.at.bounds-rests-from c).After-owner_at-own).rests

pub bounds-halves-on : goal.bounds-halves-on
bounds-halves-on c = rw c.from-on.ensures (at (goal.at.bounds-halves-on c).After-owner_at-own).halves

pub bounds-halves-on-in-loop-place : goal.bounds-halves-on-in-loop-place
bounds-halves-on-in-loop-place c = rw c.from-on.ensures (at (goal.at.bounds-halves-on-in-loop-place c).After-owner_at-own).halves

pub offset_bounds-rests-from-in-loop-place : goal.offset_bounds-rests-from-in-loop-place
offset_bounds-rests-from-in-loop-place c = omega (arith, (at (goal.at.offset_bounds-rests-from-in-loop-place c).After-owner_at-own).own)

pub bounds-rests-from-in-loop-place : goal.bounds-rests-from-in-loop-place
bounds-rests-from-in-loop-place c = (at (goal.at.bounds-rests-from-in-loop-place c).After-owner_at-own).rests

pub loop-place-preserved : goal.loop-place-preserved
loop-place-preserved c =
    let k = c.loop-place.invariant in
    rw c.from-on.ensures (running-step k c.requires.0 c.requires.4 (at (goal.at.loop-place-preserved c).After-owner_at-own).place c.owner_at-own.ensures c.offer_at-offer.ensures (rw c.from-on.ensures at c.min-still.ensures) c.min-part.ensures)

pub returns : goal.returns
returns c = running-end c.loop-place.invariant c.requires.0 c.requires.4 (omega (arith, c.requires.2))
