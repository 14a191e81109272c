-- `before_excluded`: the sum fits, and is `before_excluded` by the sums required.
use native.Mathlib.Omega.{arith}
use Rattle.exposure.specs.Values.{before_excluded}
use mathlib.Core.Path.{◌≡◌, ap}
use Rattle.book.specs.declared.Header.{Header}
use Rattle.book.specs.Records.{total, header_at}
use Rattle.book.specs.Book.{book_of}
use Rattle.assets.proofs.Laws.{stressed-sum-le}
use Rattle.values.proofs.before_excluded.Goals as goal

pub overflow_add-result : goal.overflow_add-result
unfolding header_at
overflow_add-result c =
    let t : c.header_at-h.result.total ≡ total c.args.b.now = ap (λ (h : Header). h.total) c.header_at-h.ensures in
    omega (arith, c.saturating_sub.ensures, stressed-sum-le c.args.b.now c.requires.0, c.requires.2, c.requires.0.total, t)

pub returns : goal.returns
unfolding before_excluded book_of header_at
returns c = cc (ap (λ (h : Header). h.total) c.header_at-h.ensures)
