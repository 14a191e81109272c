-- `make`: what 14 and 15 find, and the fund where they find nothing.
use Rattle.std.proofs.Common.{rules, refl}
use mathlib.Core.Path.{sym, ◌∙◌}
use Rattle.fund.proofs.Limits.{taken}
use Rattle.making.proofs.Drawing.{exposed}
use Rattle.making.proofs.make.Goals as goal

pub draw-drawn-requires : goal.draw-drawn-requires
draw-drawn-requires c =
    (taken c.requires.0, c.requires.1, c.requires.2)

pub check-requires : goal.check-requires
check-requires c =
    (taken c.requires.0, c.draw-drawn.ensures.sums.of-assets)

pub rate-requires : goal.rate-requires
rate-requires c =
    let t = c.draw-drawn.ensures in
    (record { passed = c.requires.0; checked = sym c.check.ensures ∙ c.in_ok-check.was; count = c.requires.1.count; exposed = exposed t.tables c.requires.2 }, t.sums)

pub returns-in_err-check : goal.returns-in_err-check
returns-in_err-check c =
    let e = sym c.check.ensures ∙ c.in_err-check.was in
    record { tables = c.draw-drawn.ensures.tables; made = rw e (search rules) }

pub returns : goal.returns
returns c =
    let e = sym c.check.ensures ∙ c.in_ok-check.was in
    record { tables = c.draw-drawn.ensures.tables; made = rw e (c.rate.result, refl, c.rate.ensures) }
