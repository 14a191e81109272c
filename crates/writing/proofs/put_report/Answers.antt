-- `put_report` meets its contract: the lines, and the header before them.
use native.Mathlib.Omega.{arith}
use Rattle.writing.proofs.Whole.{table-entries, lines-few, excess-few, report-put}
use Rattle.writing.proofs.put_report.Goals as goal

pub put_list-group_excess-requires : goal.put_list-group_excess-requires
put_list-group_excess-requires c = let r = c.requires in table-entries r.table _ r.fits

pub overflow_cast-head : goal.overflow_cast-head
overflow_cast-head c = record { fits = omega (arith, lines-few c.requires.table) }

pub overflow_add-head : goal.overflow_add-head
overflow_add-head c =
    let r = c.requires in
    record { fits = omega (arith, c.put_list-group_excess.ensures.0, c.saturating_sub-over.ensures, r.a3, excess-few r.table) }

pub returns : goal.returns
returns c order places groups h t =
    let p = c.put_list-group_excess in
    let o = c.saturating_sub-over in
    report-put t h c.args.figures p.result o.result p.ensures.0 o.ensures c.args.buffer.now p.new.d c.put_head.new.d c.requires.fits p.ensures.1 c.put_head.ensures
