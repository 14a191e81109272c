use Rattle.std.proofs.Common.{arith, rules}
use Rattle.groups.proofs.Finding.{finding-known, finding-new, finding-end}
use Rattle.groups.proofs.find_tops.Goals as goal

pub loop-place-preserved : goal.loop-place-preserved
loop-place-preserved c =
    let h = c.loop-place-test.true in
    let l = c.loop-place.invariant in
    search (rules, finding-new l c.requires.1 (omega arith), finding-known l c.requires.1 (omega arith))

pub returns : goal.returns
returns c = finding-end c.loop-place.invariant c.requires.1 (omega (arith, c.loop-place-test.false))
