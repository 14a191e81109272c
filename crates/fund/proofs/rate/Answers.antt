-- `rate`: each figure by its callee's promise.
use mathlib.Core.List.{List}
use mathlib.Core.Path.{refl, ap, ◌∙◌}
use Prim.Native.Nat.{ℕ}
use native.Mathlib.Omega.{arith}
use Rattle.book.specs.Records.{C}
use Rattle.cascade.specs.Cascade.{tiers, by_tier, by_limit, ranked}
use Rattle.parties.specs.RowLaws.{tops-le}
use Rattle.cells.specs.declared.Sums.{Sums}
use Rattle.fund.proofs.Limits.{taken, limit-most, unlimited-fits, unlimited-is, a3-sum-is}
use Rattle.fund.proofs.rate.Goals as goal

pub limits_of-l-requires : goal.limits_of-l-requires
limits_of-l-requires c =
    (c.requires.0.passed, c.requires.0.checked, c.requires.1.of-assets, ap (λ (x : Sums). x.w) c.requires.1.of-exposures)

pub overflow_add-figures : goal.overflow_add-figures
overflow_add-figures c =
    let r = unlimited-fits (taken c.requires.0.passed) c.requires.1 in omega (arith, r)

pub sum-requires : goal.sum-requires
sum-requires c =
    let a = taken c.requires.0.passed in
    let few = tops-le c.args.book.now (C c.args.book.now) in
    (omega (arith, a.counterparties, c.requires.0.count), c.requires.0.exposed.size, limit-most c.requires.0.passed c.requires.0.checked c.limits_of-l.ensures.limits)

pub returns : goal.returns
returns c =
    let l = c.limits_of-l.ensures in
    let q = c.sum.ensures in
    record {
      limits = l.limits;
      ranking = c.rank.ensures.0 ∙ ap (λ (us : List ℕ). ranked (by_limit (by_tier us)) tiers) l.unrounded;
      vaf = l.vaf;
      stressed = l.stressed;
      all-net = c.requires.1.of-assets.all;
      unlimited = unlimited-is (taken c.requires.0.passed) c.requires.1;
      a3-sum = q.0 ∙ a3-sum-is c.args.schedule.now l.limits c.requires.0.count c.requires.0.exposed;
      a3-within = q.1;
      a3-limit = l.a3;
    }
