-- `convert::convert` meets its contract: the checks in order, then the bytes.
use Rattle.std.proofs.Common.{rules, ◌≡◌, Err}
use mathlib.Core.Path.{sym, ◌∙◌}
use Rattle.convert.proofs.Chain.{bad, short, is-narrow, done}
use Rattle.convert.proofs.convert.Goals as goal

pub returns-in_err-check : goal.returns-in_err-check
returns-in_err-check c =
    let e : c.from_residual.result ≡ Err _ = search rules in
    rw e (bad c.args.book.now c.args.converted.now (sym c.check.ensures ∙ c.in_err-check.was))

pub returns-then-converted-book : goal.returns-then-converted-book
returns-then-converted-book c =
    short c.args.book.now c.args.converted.now (sym c.check.ensures ∙ c.in_ok-check.was) c.if-converted-book.true

pub put-requires : goal.put-requires
put-requires c =
    (is-narrow c.args.book.now c.args.converted.now (sym c.check.ensures ∙ c.in_ok-check.was), c.if-converted-book.false)

pub returns : goal.returns
returns c =
    done c.args.book.now c.args.converted.now (sym c.check.ensures ∙ c.in_ok-check.was) c.if-converted-book.false c.put.ensures
