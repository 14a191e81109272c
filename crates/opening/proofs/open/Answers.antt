-- `open` meets its contract: the sections of the checks in order, then what is wanted.
use Rattle.std.proofs.Common.{rules, ◌≡◌, Err}
use mathlib.Core.Path.{sym, ◌∙◌}
use Rattle.opening.proofs.Checking.{bad-first, passed}
use Rattle.opening.proofs.open.Goals as goal

pub accepted-requires : goal.accepted-requires
accepted-requires g c = passed c.args.schedule.now c.args.book.now (sym c.check.ensures ∙ c.in_ok-check.was)

pub returns-in_err-check : goal.returns-in_err-check
returns-in_err-check g c =
    let a = c.args in
    let e : c.from_residual.result ≡ Err _ = search rules in
    rw e (g.met.W.Wanted.refused a.wanted a.schedule.now a.book.now a.lent.now _ (bad-first a.schedule.now a.book.now (sym c.check.ensures ∙ c.in_err-check.was)))
