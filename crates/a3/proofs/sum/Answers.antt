use mathlib.Core.Path.{◌≡◌, refl, ap, ap₂, ◌∙◌}
use Prim.Native.Nat.{◌+◌, ◌*◌, ◌≤◌}
use native.Mathlib.Omega.{arith}
use Rattle.words.specs.Words.{sum}
use Rattle.limit.specs.Bounds.{most_limit}
use Rattle.cascade.specs.Cascade.{by_tier}
use Rattle.words.specs.Ranges.{sum-next}
use Rattle.a3.specs.A3.{a3_part, a3_at}
use Rattle.a3.specs.Laws.{part-le}
use Rattle.a3.proofs.sum.Goals as goal
use Rattle.a3.proofs.sum.Goals.{After-part-total}

pub loop-k-init : goal.loop-k-init
unfolding sum
loop-k-init c = (refl, omega arith)

part-within : (c : After-part-total) → c.part-total.result ≤ 5 * most_limit
part-within c =
    omega (arith, c.part-total.ensures, part-le (a3_at c.args.cells.now c.loop-k.k) (by_tier c.args.limits) most_limit c.requires.2)

pub overflow_add-total : goal.overflow_add-total
overflow_add-total c = omega (arith, part-within c)

pub loop-k-preserved : goal.loop-k-preserved
loop-k-preserved c =
    let l = c.loop-k in (
      ap₂ ◌+◌ l.invariant.0 c.part-total.ensures ∙ sum-next (λ j. a3_part (a3_at c.args.cells.now j) (by_tier c.args.limits)) l.k,
      omega (arith, part-within c),
    )

pub returns : goal.returns
returns c =
    let l = c.loop-k in
    let e : l.k ≡ c.args.groups = omega arith in
    (l.invariant.0 ∙ ap (sum (λ j. a3_part (a3_at c.args.cells.now j) (by_tier c.args.limits))) e, omega arith)
