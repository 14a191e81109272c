-- `check_sums`: the chain of `fund_check`.
use native.Mathlib.Omega.{arith}
use Rattle.refusal.specs.Laws.{then_err, then_ok}
use Rattle.exposure.specs.Values.{VAF', fund_check}
use mathlib.Core.Path.{ap}
use Rattle.book.specs.declared.Header.{Header}
use Rattle.book.specs.Records.{header_at}
use Rattle.book.specs.Book.{book_of}
use Rattle.values.proofs.check_sums.Goals as goal

pub returns-in_err-unless : goal.returns-in_err-unless
unfolding fund_check VAF' book_of header_at
returns-in_err-unless c =
    let t = ap (λ (h : Header). h.total) c.header_at-h.ensures in
    grind (arith, then_err, t)

pub returns : goal.returns
unfolding fund_check VAF' book_of header_at
returns c =
    let t = ap (λ (h : Header). h.total) c.header_at-h.ensures in
    let x = ap (λ (h : Header). h.excluded) c.header_at-h.ensures in
    grind (arith, then_ok, t, x)
