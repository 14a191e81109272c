-- `finish`: refused by 16, or the report that was written is that of the definitions.
use native.Mathlib.Omega.{arith}
use Rattle.fund.proofs.Limits.{taken}
use Rattle.report.proofs.Chain.{short}
use Rattle.report.proofs.Written.{listable, lines-few, size_is, ready, answered}
use Rattle.report.proofs.finish.Goals as goal

pub list_lines-n-requires : goal.list_lines-n-requires
list_lines-n-requires c =
    let p = c.requires in
    listable p.2 p.0.count p.0.exposed p.1 (taken p.0.passed) p.3

pub overflow_mul-size : goal.overflow_mul-size
overflow_mul-size c =
    let p = c.requires in
    omega (arith, lines-few p.2 p.0.count p.0.exposed p.1 c.list_lines-n.ensures (taken p.0.passed))

pub overflow_add-size : goal.overflow_add-size
overflow_add-size c =
    let p = c.requires in
    omega (arith, lines-few p.2 p.0.count p.0.exposed p.1 c.list_lines-n.ensures (taken p.0.passed))

pub returns-then-report-size-clause-answered : goal.returns-then-report-size-clause-answered
returns-then-report-size-clause-answered c =
    let p = c.requires in
    let n = size_is p.2 p.0.count p.0.exposed p.1 c.list_lines-n.ensures in
    short c.args.schedule.now c.args.book.now c.args.report.now p.0.passed p.0.checked (omega (arith, n))

pub put_report-requires : goal.put_report-requires
put_report-requires c =
    let p = c.requires in
    ready p.2 p.0.count p.0.exposed p.1 c.list_lines-n.ensures (taken p.0.passed) p.3 (omega arith) (omega arith)

pub returns-clause-answered : goal.returns-clause-answered
returns-clause-answered c =
    let p = c.requires in
    answered p.2 p.0.count p.0.exposed p.1 c.list_lines-n.ensures p.0.passed p.0.checked (taken p.0.passed) p.3 (omega arith) (omega (arith, c.if-report-size.false)) c.put_report.ensures
