-- `text::put_line` meets its contract: six numbers, one behind the other.
use native.Mathlib.Omega.{arith}
use Rattle.text.specs.Text.{line_text}
use Rattle.digits.proofs.Laws.{then-number}
use Rattle.text.proofs.put_line.Goals as goal

pub returns : goal.returns
unfolding line_text
returns c =
    let a = c.args.line in
    let n1 = c.put_number-a.ensures.upper_bound in
    let n2 = c.put_number-b.ensures.upper_bound in
    let n3 = c.put_number-c.ensures.upper_bound in
    let n4 = c.put_number-d.ensures.upper_bound in
    let n5 = c.put_number-e.ensures.upper_bound in
    let n6 = c.put_number.ensures.upper_bound in
    let w2 = then-number _ a.tier 32 (rw c.from.ensures at c.put_number-a.ensures.written) (rw c.from-2.ensures at c.put_number-b.ensures.written) (omega (arith, n1, n2, c.requires)) in
    let w3 = then-number _ a.exposure 32 w2 c.put_number-c.ensures.written (omega (arith, n1, n2, n3, c.requires)) in
    let w4 = then-number _ a.limit 32 w3 c.put_number-d.ensures.written (omega (arith, n1, n2, n3, n4, c.requires)) in
    let w5 = then-number _ a.left 32 w4 c.put_number-e.ensures.written (omega (arith, n1, n2, n3, n4, n5, c.requires)) in record {
      written = then-number _ a.excess 10 w5 c.put_number.ensures.written (omega (arith, n1, n2, n3, n4, n5, n6, c.requires));
      upper_bound = omega (arith, n1, n2, n3, n4, n5, n6);
    }
