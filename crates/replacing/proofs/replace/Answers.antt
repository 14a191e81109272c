-- `replace`: no byte for the report where the book's buffer is too short; else the report's answer, and the book after a report.
use Rattle.std.proofs.Common.{rules, ◌≡◌, Err}
use Rattle.day.proofs.Chain.{short-new, refused-new, written_new}
use Rattle.replacing.proofs.replace.Goals as goal

pub returns-then-book-new : goal.returns-then-book-new
returns-then-book-new c =
    short-new c.args.schedule.now c.args.new.now c.args.book.now c.args.report.now c.if-book-new.true c.report.auto.report c.report.ensures

pub returns-in_err-size : goal.returns-in_err-size
returns-in_err-size c =
    let e : c.from_residual.result ≡ Err _ = search rules in
    rw e (refused-new c.args.schedule.now c.args.new.now c.args.book.now c.args.report.now c.if-book-new.false c.report-2.ensures c.in_err-size.was)

pub returns : goal.returns
returns c =
    written_new c.args.schedule.now c.args.new.now c.args.book.now c.args.report.now c.if-book-new.false c.report-2.ensures c.in_ok-size.was c.put_all.ensures
