use Rattle.std.proofs.Common.{refl, ap, get_or, arith, get_or-take}
use lib.Count.{ones, ones-le}
use lib.Seq.{length-take-le}
use Rattle.words.specs.Words.{sum}
use Rattle.words.specs.Ranges.{sum-next}
use Rattle.lines.proofs.ones_in.Goals as goal

pub loop-set-init : goal.loop-set-init
unfolding sum
loop-set-init c = (omega arith, refl)

pub loop-set-preserved : goal.loop-set-preserved
loop-set-preserved c =
    let xs = c.args.sets.now in
    let i = c.loop-set.set-index in
    let e = ap ones (get_or-take c.args.groups xs i 0 (omega (arith, length-take-le c.args.groups xs c.requires.1))) in
    (omega (arith, e, ones-le 16 _ (c.type_inv.sets i).fits), omega (arith, e, c.loop-set.invariant.1, sum-next (λ j. ones (get_or xs j 0)) i))
