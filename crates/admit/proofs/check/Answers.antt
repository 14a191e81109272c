-- `check`: section by section; a header that passed is what the sections behind it require.
use mathlib.Core.Path.{sym, ◌∙◌}
use native.Mathlib.Omega.{arith}
use Rattle.refusal.specs.Laws.{then_err, then_ok}
use Rattle.book.specs.HeaderLaws.{header-counts, header-specialist}
use Rattle.book.specs.AcceptedLaws.{header-fits}
use Rattle.admit.proofs.Laws.{by_length, by-header, by-records}
use Rattle.admit.proofs.check.Goals as goal

pub returns-then-b-lt-HEADER_SIZE : goal.returns-then-b-lt-HEADER_SIZE
returns-then-b-lt-HEADER_SIZE c = by_length _ (omega arith)

pub returns-in_err-header_check : goal.returns-in_err-header_check
returns-in_err-header_check c =
    let e = by-header _ (omega arith) c.header_check.ensures c.in_err-header_check.was in
    grind (arith, e)

pub records_check-requires : goal.records_check-requires
records_check-requires c = header-fits _ (sym c.header_check.ensures ∙ c.in_ok-header_check.was)

pub returns-in_err-records_check : goal.returns-in_err-records_check
returns-in_err-records_check c =
    let e = by-records _ (omega arith) c.header_check.ensures c.in_ok-header_check.was in
    grind (arith, then_err, e)

pub specialist_check-requires : goal.specialist_check-requires
specialist_check-requires c =
    let e = c.header_at-h.ensures in
    let h = header-counts _ e in
    (header-fits _ (sym c.header_check.ensures ∙ c.in_ok-header_check.was), header-specialist _ e, h.1, c.assets_of.ensures)

pub returns : goal.returns
returns c =
    let e = by-records _ (omega arith) c.header_check.ensures c.in_ok-header_check.was in
    grind (arith, then_ok, e)
