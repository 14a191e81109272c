-- What a limit comes to at most, for every row that refusal 4 lets pass and any W: times-le, greatest-le, unrounded-le, limit-le.
use Rattle.std.specs.Prelude.{ℕ, ◌*◌, ◌≤◌, ℤ}
use Rattle.std.proofs.Common.{le_trans, mul-le-mul_left, mul-le-mul_right, arith}
use Rattle.wire.specs.Bytes.{M}
use Rattle.limit.specs.declared.Row.{Row}
use Rattle.limit.specs.Limit.{ten_thousandths, counted, greatest, unrounded, limit_of}
use Rattle.limit.specs.Bounds.{most_product, most_unrounded, most_limit, RowFits}

-- a bound on a product from bounds on its factors
pub times-le : {a b m n : ℕ} → a ≤ m → b ≤ n → a * b ≤ m * n
times-le {a} {b} {m} {n} h k = le_trans (mul-le-mul_right b h) (mul-le-mul_left m k)

module _ (row : Row) (percent vaf : ℕ) (base : ℤ) (w : ℕ) (r : RowFits row) (p : percent ≤ 100) (v : vaf ≤ M) (b : counted base ≤ M) where
  greatest-le : greatest ten_thousandths row vaf base w ≤ most_product
  unfolding greatest
  greatest-le = omega (arith, times-le r.rate v, times-le r.second v, times-le r.base b)

  pub unrounded-le : unrounded ten_thousandths row percent vaf base w ≤ most_unrounded
  unfolding unrounded
  unrounded-le = times-le greatest-le p

  pub limit-le : limit_of ten_thousandths row percent vaf base w ≤ most_limit
  unfolding limit_of
  limit-le = omega (arith, unrounded-le)
