-- `bills::put` meets its contract. The loop's invariant: the bills of the desks below d are put, and the running excess and its cost are those of d.
use mathlib.Core.Path.{◌≡◌}
use lib.ListN.{length, take}
use Rattle.words.specs.Words.{sum}
use Rattle.wire.specs.Bytes.{placed}
use Rattle.wire.specs.Amounts.{amounts_bytes}
use Rattle.bills.specs.Bills.{cost_of}
use Rattle.bills.specs.Tables.{by_desk}
use Rattle.bills.proofs.Running.{bills as all}
use Rattle.bills.proofs.put.Given as goal

abbrev pub invariant-loop-d : goal.invariant-loop-d
invariant-loop-d l = (l.running ≡ sum (by_desk l.excesses) l.d) × (l.before ≡ cost_of (by_desk l.excesses) l.rate l.d) × (length l.bills ≡ length l.initial.bills)
    × (l.bills ≡ placed l.initial.bills 0 (amounts_bytes (take l.d (all (by_desk l.excesses) l.rate))))
