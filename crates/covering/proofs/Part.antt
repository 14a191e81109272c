-- What a mitigant's record and its counterparty's terms say.
use mathlib.Core.Bool.{Bool, true, false}
use mathlib.Core.List.{List}
use mathlib.Core.Path.{◌≡◌, refl}
use Prim.Native.Nat.{ℕ, ◌+◌, ◌*◌, ◌/◌, ◌^◌, ◌≤◌, ◌<◌, min}
use native.Mathlib.Omega.{arith}
use lib.ListN.{length, get_or}
use Rattle.std.specs.Prelude.{if◌then◌else◌}
use Rattle.wire.specs.Bytes.{bit}
use Rattle.book.specs.declared.Mitigant.{Mitigant}
use Rattle.book.specs.Records.{C, K, counterparty_at, mitigant_at}
use Rattle.book.specs.Accepted.{Accepted, MitigantFits}
use Rattle.exposure.specs.Parts.{covers}
use Rattle.columns.specs.Column.{trust_of}
use Rattle.columns.proofs.ColumnLaws.{terms-trust, trust-le}
use Rattle.recognition.specs.Needs.{needs_at, recognised-is}
use Rattle.covering.specs.Pass.{Known, Offers}

lesser-of : (t : Bool) (value still : ℕ) → min (if t then value else 0) still ≡ (if t then min value still else 0)
lesser-of true value still = refl
lesser-of false value still = omega arith

module _ {b terms : List ℕ} {m : Mitigant} {place : ℕ} (acc : Accepted b) (kn : Known b terms) (l : 0 < place) (h : place ≤ K b) (em : m ≡ mitigant_at b place) where
  pub fits : MitigantFits (C b) m
  fits = rw em (acc.mitigant place l h)

  pub from-inside : m.counterparty < length terms
  from-inside = omega (arith, fits.high, kn.size)

  trust-is : get_or terms m.counterparty 0 / 2 ^ 61 ≡ trust_of (counterparty_at b m.counterparty)
  trust-is =
      rw (kn.each m.counterparty fits.low fits.high)
      (terms-trust (counterparty_at b m.counterparty) (acc.flags m.counterparty fits.low fits.high))

  pub trust-small : get_or terms m.counterparty 0 / 2 ^ 61 ≤ 3
  trust-small = rw trust-is (trust-le (counterparty_at b m.counterparty))

  pub offer-is : {re offer : ℕ} {t : Bool} → t ≡ bit (8 * m.form + 4 * re + get_or terms m.counterparty 0 / 2 ^ 61) (needs_at m.flags) → offer ≡ (if t then m.value else 0)
      → Offers b place re offer
  unfolding covers
  offer-is et eo =
      record {
        part = λ a ea still.
            rw (← em, eo, lesser-of, et, trust-is, ea, recognised-is a m (counterparty_at b m.counterparty) fits.form-low fits.form fits.flags);
      }
