use mathlib.Core.Path.{◌≡◌, refl}
use native.Mathlib.Numerals.{add-one}
use native.Mathlib.Omega.{arith}
use Rattle.words.specs.Words.{each_of}
use Rattle.figures.specs.Read.{lines_in, charge_in, line_at}
use Rattle.digits.proofs.Laws.{then-written}
use Rattle.text.specs.Text.{line_text, charge_text, report_text, lines_read}
use Rattle.report_text.proofs.Laws.{lines_next}
use Rattle.report_text.proofs.put_report.Goals as goal

pub loop-i-init : goal.loop-i-init
unfolding lines_read each_of
loop-i-init c = (omega arith, record { bytes = refl; place = refl }, refl)

pub loop-i-preserved : goal.loop-i-preserved
loop-i-preserved c =
    let p = c.put_line-at in
    let report = c.args.report.now in
    let i = c.loop-i.i in (
      omega arith,
      rw (add-one, lines_next report i)
          (then-written (each_of line_text (lines_read report i)) (line_text (line_at report i)) c.loop-i.invariant.1 (rw c.line_from.ensures at p.ensures.written) (omega arith)),
      omega arith,
    )

pub returns : goal.returns
unfolding report_text
returns c =
    let report = c.args.report.now in
    let e : c.loop-i.i ≡ lines_in report = omega (arith, c.from-lines.ensures, c.u16_at.ensures) in record {
      written = then-written (each_of line_text (lines_read report (lines_in report))) (charge_text (charge_in report)) (rw e at c.loop-i.invariant.1) (rw c.u64_at.ensures at c.put_charge.ensures.written) (omega arith);
      upper_bound = omega arith;
    }
