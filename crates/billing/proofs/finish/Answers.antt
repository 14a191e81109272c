-- `billing::finish` meets its contract: refused by 19 or 16, or the bills that were written are those of the definitions.
use mathlib.Core.Path.{refl}
use Prim.Native.Nat.{ℕ, ◌<◌}
use native.Mathlib.Omega.{arith}
use lib.ListN.{get_or}
use Rattle.fund.proofs.Limits.{taken}
use Rattle.billing.proofs.Chain.{bad-rate, short}
use Rattle.billing.proofs.Written.{desks-few, billed}
use Rattle.billing.proofs.finish.Goals as goal
use Rattle.billing.proofs.finish.Goals.{After-excesses}

pub returns-then-rate-gt-MOST_RATE : goal.returns-then-rate-gt-MOST_RATE
returns-then-rate-gt-MOST_RATE c =
    record {
      tables = refl;
      billed = bad-rate c.args.schedule.now c.args.book.now c.args.rate c.args.bills.now c.requires.rateable.passed c.requires.rateable.checked c.if-rate-gt-MOST_RATE.true;
    }

pub returns-then-bills-lt-SIZE : goal.returns-then-bills-lt-SIZE
returns-then-bills-lt-SIZE c =
    record {
      tables = refl;
      billed = short c.args.schedule.now c.args.book.now c.args.rate c.args.bills.now c.requires.rateable.passed c.requires.rateable.checked c.if-rate-gt-MOST_RATE.false c.if-bills-lt-SIZE.true;
    }

-- a book is bytes
byte : (d : After-excesses) (k : ℕ) → get_or d.args.book.now k 0 < 256
byte d k = omega (arith, d.shared_slice_known-2-1.given k)

pub put-requires : goal.put-requires
put-requires c =
    let e = c.excesses.ensures in (
      omega (arith, e.size),
      desks-few c.args.schedule.now c.args.book.now (taken c.requires.rateable.passed) (byte (goal.at.put-requires c).After-excesses) e,
      c.if-rate-gt-MOST_RATE.false,
      c.if-bills-lt-SIZE.false,
    )

pub returns : goal.returns
returns c =
    let e = c.excesses.ensures in record {
      tables = e.left;
      billed = billed c.args.schedule.now c.args.book.now (taken c.requires.rateable.passed) (byte (goal.at.returns c).After-excesses) e c.args.rate c.args.bills.now c.requires.rateable.passed c.requires.rateable.checked c.if-rate-gt-MOST_RATE.false c.if-bills-lt-SIZE.false
          c.put.ensures;
    }
