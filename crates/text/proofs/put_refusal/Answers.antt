-- `text::put_refusal` meets its contract: the word, the number and the place.
use native.Mathlib.Omega.{arith}
use Rattle.digits.specs.Decimal.{ascii}
use Rattle.text.specs.Text.{refused_text}
use Rattle.digits.proofs.Laws.{then-number}
use Rattle.text.proofs.put_refusal.Goals as goal

pub returns : goal.returns
unfolding refused_text
returns c =
    let n1 = c.put-a.ensures.place in
    let n2 = c.put_number-b.ensures.upper_bound in
    let n3 = c.put_number.ensures.upper_bound in
    let w = then-number (ascii "refused ") c.number-number.result 32 c.put-a.ensures c.put_number-b.ensures.written (omega (arith, n1, n2, c.requires)) in record {
      written = rw (← c.number-number.ensures.0, ← c.place-place.ensures.0) (then-number _ c.place-place.result 10 w c.put_number.ensures.written (omega (arith, n1, n2, n3, c.requires)));
      upper_bound = omega (arith, n1, n2, n3, c.requires);
    }
