-- `printing::print` meets its contract, by the answer's cases.
use borrow.Author.Rules.{rules}
use mathlib.Core.Path.{◌≡◌, sym}
use native.Mathlib.Omega.{arith}
use lib.ListN.{length}
use Rattle.printing.specs.Printed.{buffer_size}
use Rattle.printing.proofs.Laws.{report-printed, refusal-printed, promised, counts}
use Rattle.printing.proofs.print.Goals as goal

pub put_report-requires : goal.put_report-requires
put_report-requires c =
    let held = rw c.in-Ok.is at c.answer.ensures in
    let whole = held.cuts.whole in
    let size : length c.answer.new.report ≡ buffer_size = search rules in
    record {
      report_in_bounds = whole;
      line_room_in_bounds = omega arith;
    }

pub returns-in-Ok : goal.returns-in-Ok
returns-in-Ok c =
    let held = rw c.in-Ok.is at c.answer.ensures in record {
      printed = promised c.put_report.ensures.written (report-printed _ _ c.large_buffer-report.result c.answer.new.report (sym c.large_buffer-report.ensures) _ held);
      prefix_len = counts _ _ c.put_report.ensures.upper_bound;
    }

pub returns-in-Err : goal.returns-in-Err
returns-in-Err c =
    let held = rw c.in-Err.is at c.answer.ensures in record {
      printed = promised c.put_refusal.ensures.written (refusal-printed _ _ c.large_buffer-report.result c.answer.new.report (sym c.large_buffer-report.ensures) _ held);
      prefix_len = counts _ _ c.put_refusal.ensures.upper_bound;
    }
