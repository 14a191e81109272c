use mathlib.Core.Path.{◌≡◌, refl}
use Prim.Native.Nat.{ℕ, ◌≤◌, ◌<◌}
use native.Mathlib.Omega.{arith}
use lib.ListN.{get_or}
use Rattle.book.specs.Records.{N, asset_at}
use Rattle.parties.specs.Rows.{row_of}
use Rattle.desks.proofs.Lines.{rest-row, lines_start, lines-served, lined-still, end-few, own-desk, parts-room, behind-parts, rest_at, rest-room, rest-step}
use Rattle.serving.proofs.serve.Goals as goal
use Rattle.serving.proofs.serve.Goals.{After-from-who, In-loop-place}

pub loop-place-init : goal.loop-place-init
loop-place-init c = lines_start _ _ _ _ _ c.requires.accepted

-- the asset at the loop's place is there
here : (d : In-loop-place) → d.loop-place.place ≤ N d.args.b.now
here d = omega (arith, d.loop-place-test.true, d.requires.count)

-- a book is bytes
byte : (d : In-loop-place) (k : ℕ) → get_or d.args.b.now k 0 < 256
byte d k = omega (arith, d.shared_slice_known-1.given k)

-- the row of its counterparty's group
row_at : (a : After-from-who)
    → get_or a.args.rows.now a.from-who.result 0 ≡ row_of a.args.b.now (asset_at a.args.b.now a.loop-place.place).counterparty
row_at a =
    let f = a.requires.accepted.asset _ a.loop-place.invariant.low (omega (arith, a.requires.count)) in
    rw (a.from-who.ensures, a.asset_at-a.ensures) (a.requires.rowed.row _ f.low f.high)

pub serve_parts-requires : goal.serve_parts-requires
serve_parts-requires c =
    let o = c.loop-place.invariant in
    let e = c.asset_at-a.ensures in
    record {
      accepted = c.requires.accepted;
      section = c.requires.section;
      low = o.start;
      along = omega arith;
      high = rw (c.from.ensures, e) (end-few o (here (goal.at.serve_parts-requires c).In-loop-place) refl);
      desk-few = rw (c.from-desk.ensures, e) (own-desk o (here (goal.at.serve_parts-requires c).In-loop-place) refl c.requires.accepted (byte (goal.at.serve_parts-requires c).In-loop-place) c.requires.lined);
      rowed = c.requires.rowed;
      tiered = c.tiers-tiers.ensures;
      covered-size = c.requires.covered-size;
      lined = lined-still o c.requires.lined;
      room = rw (c.from-desk.ensures, c.from.ensures, e) (parts-room o (here (goal.at.serve_parts-requires c).In-loop-place) refl c.requires.accepted (byte (goal.at.serve_parts-requires c).In-loop-place) c.requires.lined c.requires.room);
    }

pub rest_cell-cell-requires : goal.rest_cell-cell-requires
rest_cell-cell-requires c =
    let r = rest-row c.args.b.now c.loop-place.place (row_at (goal.at.rest_cell-cell-requires c).After-from-who) (c.requires.placed.each _ c.loop-place.invariant.low (here (goal.at.rest_cell-cell-requires c).In-loop-place)) in
    (r.0, r.1, c.tiers-tiers.ensures)

pub serve-requires : goal.serve-requires
serve-requires c =
    let o = c.loop-place.invariant in
    let e = c.asset_at-a.ensures in
    let p = rw (c.from-desk.ensures, c.from.ensures, e) at c.serve_parts.ensures in
    let q = c.requires.placed.each _ o.low (here (goal.at.serve-requires c).In-loop-place) in
    let r = behind-parts o (here (goal.at.serve-requires c).In-loop-place) refl c.requires.accepted (byte (goal.at.serve-requires c).In-loop-place) c.requires.lined p in (
      rest_at o (here (goal.at.serve-requires c).In-loop-place) refl c.requires.accepted (byte (goal.at.serve-requires c).In-loop-place) c.requires.lined p (row_at (goal.at.serve-requires c).After-from-who) q c.rest_cell-cell.ensures,
      rw (c.from-desk.ensures, e) (omega (arith, own-desk o (here (goal.at.serve-requires c).In-loop-place) refl c.requires.accepted (byte (goal.at.serve-requires c).In-loop-place) c.requires.lined, r.places, c.requires.lined.places)),
      rw (c.from-desk.ensures, e) (rest-room o (here (goal.at.serve-requires c).In-loop-place) refl c.requires.accepted (byte (goal.at.serve-requires c).In-loop-place) c.requires.lined p (row_at (goal.at.serve-requires c).After-from-who) q c.rest_cell-cell.ensures c.requires.room),
    )

pub loop-place-preserved : goal.loop-place-preserved
loop-place-preserved c =
    let o = c.loop-place.invariant in
    let e = c.asset_at-a.ensures in
    let p = rw (c.from-desk.ensures, c.from.ensures, e) at c.serve_parts.ensures in
    let q = c.requires.placed.each _ o.low (here (goal.at.loop-place-preserved c).In-loop-place) in
    rw (c.from.ensures, e) (rest-step o (here (goal.at.loop-place-preserved c).In-loop-place) refl c.requires.accepted (byte (goal.at.loop-place-preserved c).In-loop-place) c.requires.lined p (row_at (goal.at.loop-place-preserved c).After-from-who) q c.rest_cell-cell.ensures (rw (c.from-desk.ensures, e) at c.serve.ensures))

pub returns : goal.returns
returns c = lines-served c.loop-place.invariant (omega (arith, c.loop-place-test.false, c.requires.count))
