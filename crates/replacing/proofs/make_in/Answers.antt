-- `make_in`: the book that was put into the lent bytes is the one that takes the place.
use mathlib.Core.List.{List}
use mathlib.Core.Path.{ap, ◌∙◌}
use Prim.Native.Nat.{ℕ}
use native.Mathlib.Omega.{arith}
use Rattle.movement.specs.Movement.{movement_of, resulting}
use Rattle.replacing.proofs.Array.{cut-long, put-within, put-taken, replaced-as}
use Rattle.replacing.proofs.make_in.Goals as goal

pub slice_bounds-put-end-2 : goal.slice_bounds-put-end-2
slice_bounds-put-end-2 c = cut-long _ _ c.requires.0.stands.within

pub put-end-requires : goal.put-end-requires
put-end-requires c =
    let w = c.requires.0 in
    (w.accepted, w.can, omega (arith, c.requires.1, cut-long c.args.book.now c.args.size w.stands.within))

pub slice_bounds-replace-end : goal.slice_bounds-replace-end
slice_bounds-replace-end c = put-within c.put-end.ensures

pub slice_bounds-replace-end-2 : goal.slice_bounds-replace-end-2
slice_bounds-replace-end-2 c = cut-long _ _ (put-within c.put-end.ensures)

pub returns : goal.returns
returns c =
    replaced-as (put-taken c.put-end.ensures ∙ ap (λ (b : List ℕ). resulting b (movement_of c.args.change)) c.requires.0.stands.bytes) c.replace.ensures
