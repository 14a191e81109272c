-- `text::put_charge` meets its contract: the word, then the number.
use native.Mathlib.Omega.{arith}
use Rattle.digits.specs.Decimal.{ascii}
use Rattle.text.specs.Text.{charge_text}
use Rattle.digits.proofs.Laws.{then-number}
use Rattle.text.proofs.put_charge.Goals as goal

pub returns : goal.returns
unfolding charge_text
returns c =
    record {
      written = then-number (ascii "charge ") c.args.charge 10 c.put-a.ensures c.put_number.ensures.written
          (omega (arith, c.put-a.ensures.place, c.put_number.ensures.upper_bound, c.requires));
      upper_bound = omega (arith, c.put-a.ensures.place, c.put_number.ensures.upper_bound);
    }
