use mathlib.Core.Path.{◌≡◌}
use Prim.Native.Nat.{◌+◌, ◌*◌}
use native.Mathlib.Omega.{arith}
use borrow.Author.Rules.{rules}
use Rattle.wire.proofs.Amounts.{amounts-none, amounts-placed}
use Rattle.bills.specs.Tables.{by_desk}
use Rattle.bills.proofs.Running.{bills as all, bills-long, all-put, running-start, cost-start, running-next, cost-next, bill-next, running-within, cost-grows, product-fits}
use Rattle.bills.proofs.put.Goals as goal

pub loop-d-init : goal.loop-d-init
loop-d-init c =
    let a = c.args in
    let x = by_desk a.excesses.now in
    (running-start x a.rate, cost-start x a.rate, search rules, amounts-none a.bills.now (all x a.rate) 0 (omega arith))

pub overflow_add-running : goal.overflow_add-running
overflow_add-running c =
    let a = c.args in
    let l = c.loop-d in
    record { fits = omega (arith, running-within (by_desk a.excesses.now) a.rate l.d (omega arith) l.invariant.0) }

pub overflow_mul-cost : goal.overflow_mul-cost
overflow_mul-cost c =
    let a = c.args in
    let l = c.loop-d in
    record { fits = product-fits _ a.rate (omega (arith, running-within (by_desk a.excesses.now) a.rate l.d (omega arith) l.invariant.0)) (omega arith) }

pub overflow_mul-d : goal.overflow_mul-d
overflow_mul-d c = record { fits = omega arith }

pub overflow_sub-cost : goal.overflow_sub-cost
overflow_sub-cost c =
    let a = c.args in
    let l = c.loop-d in
    cost-grows (by_desk a.excesses.now) a.rate l.d l.invariant.0 l.invariant.1

pub put_u64-requires : goal.put_u64-requires
put_u64-requires c = omega (arith, c.loop-d.invariant.2)

pub loop-d-preserved : goal.loop-d-preserved
loop-d-preserved c =
    let a = c.args in
    let l = c.loop-d in
    let x = by_desk a.excesses.now in
    let b = bill-next x a.rate l.d (omega arith) l.invariant.0 l.invariant.1 in
    let p : 0 + 8 * l.d ≡ 8 * l.d = omega arith in (
      running-next x a.rate l.d l.invariant.0,
      cost-next x a.rate l.d l.invariant.0,
      search rules,
      amounts-placed a.bills.now (all x a.rate) 0 {i = l.d} (omega (arith, bills-long x a.rate)) (omega (arith, bills-long x a.rate)) l.invariant.3 (rw (b, ← p) at c.put_u64.ensures),
    )

pub returns : goal.returns
returns c =
    let a = c.args in
    let l = c.loop-d in
    all-put (by_desk a.excesses.now) a.rate a.bills.now l.d (omega arith) l.invariant.3
