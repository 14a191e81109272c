-- "A version 1 rate counts ten times" (C-15): a limit in per mille is the limit in ten-thousandths of ten times the row, per-mille; unrounded it has a
-- tenth of the parts, tenfold-unrounded.
use Rattle.std.specs.Prelude.{◌≡◌, ℕ, ◌*◌, ◌-◌, max, ℤ}
use Rattle.std.proofs.Math.Nat.{mul_assoc}
use Rattle.std.proofs.Common.{arith}
use Rattle.limit.specs.declared.Row.{Row}
use Rattle.limit.specs.Limit.{per_mille, ten_thousandths, times_row, counted, greatest, unrounded, limit_of}

tenfold-max : (a b : ℕ) {c d : ℕ} → c ≡ 10 * a → d ≡ 10 * b → max c d ≡ 10 * max a b
tenfold-max a b e f = omega arith

module _ (row : Row) (percent vaf : ℕ) (base : ℤ) (w : ℕ) where
  tenfold-greatest : greatest ten_thousandths (times_row 10 row) vaf base w ≡ 10 * greatest per_mille row vaf base w
  unfolding greatest
  tenfold-greatest =
      tenfold-max _ _
      (tenfold-max (row.rate * vaf - per_mille * w) (row.second * vaf) (omega (arith, mul_assoc 10 row.rate vaf)) (mul_assoc 10 row.second vaf))
      (tenfold-max (row.base_rate * counted base) (per_mille * row.fixed) (mul_assoc 10 row.base_rate (counted base)) (omega arith))

  pub tenfold-unrounded : unrounded ten_thousandths (times_row 10 row) percent vaf base w ≡ 10 * unrounded per_mille row percent vaf base w
  unfolding unrounded
  tenfold-unrounded = rw tenfold-greatest (mul_assoc 10 (greatest per_mille row vaf base w) percent)

  pub per-mille : limit_of ten_thousandths (times_row 10 row) percent vaf base w ≡ limit_of per_mille row percent vaf base w
  unfolding limit_of
  per-mille = omega (arith, tenfold-unrounded)
