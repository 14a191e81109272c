-- `moved`: the book that stands, 22, then the book that the movement makes.
use mathlib.Core.List.{List}
use mathlib.Core.Path.{sym, ap, ◌∙◌}
use Prim.Native.Nat.{ℕ}
use borrow.Author.Tests.{not-true, not-false}
use Rattle.movement.specs.Movement.{movement_of, possible}
use Rattle.day.proofs.Chain.{bad, absent-one, done}
use Rattle.replacing.proofs.Array.{cut-long}
use Rattle.moving.proofs.InBuffer.{in-buffer-checks, in-buffer-accepted}
use Rattle.moving.proofs.moved.Goals as goal

pub slice_bounds-check-end-2 : goal.slice_bounds-check-end-2
slice_bounds-check-end-2 c = cut-long _ _ c.size_in-size.ensures.within

pub slice_bounds-is_possible-end-in-Ok : goal.slice_bounds-is_possible-end-in-Ok
slice_bounds-is_possible-end-in-Ok c = cut-long _ _ c.size_in-size.ensures.within

pub is_possible-requires : goal.is_possible-requires
is_possible-requires c = in-buffer-accepted _ _ c.size_in-size.ensures c.check.ensures c.in-Ok.is

pub returns-then-not-is_possible : goal.returns-then-not-is_possible
returns-then-not-is_possible c =
    let stands = c.size_in-size.ensures in
    let m = movement_of c.args.change in
    absent-one c.args.schedule.now m c.args.book.now c.args.report.now (in-buffer-checks _ _ stands c.check.ensures c.in-Ok.is)
    (sym (ap (λ (b : List ℕ). possible b m) stands.bytes) ∙ sym c.is_possible.ensures ∙ not-true _ c.if-not-is_possible.true-raw) c.refused-then-not-is_possible.ensures

pub make-requires : goal.make-requires
make-requires c =
    let stands = c.size_in-size.ensures in
    record {
      stands = stands;
      accepted = in-buffer-accepted _ _ stands c.check.ensures c.in-Ok.is;
      can = sym c.is_possible.ensures ∙ not-false _ c.if-not-is_possible.false-raw;
    }

pub returns-in-Err : goal.returns-in-Err
returns-in-Err c =
    bad c.args.schedule.now (movement_of c.args.change) c.args.book.now c.args.report.now (in-buffer-checks _ _ c.size_in-size.ensures c.check.ensures c.in-Err.is) c.refused.ensures

pub returns-else-not-is_possible : goal.returns-else-not-is_possible
returns-else-not-is_possible c =
    let stands = c.size_in-size.ensures in
    let m = movement_of c.args.change in
    done c.args.schedule.now m c.args.book.now c.args.report.now (in-buffer-checks _ _ stands c.check.ensures c.in-Ok.is)
    (sym (ap (λ (b : List ℕ). possible b m) stands.bytes) ∙ sym c.is_possible.ensures ∙ not-false _ c.if-not-is_possible.false-raw) c.make.ensures
