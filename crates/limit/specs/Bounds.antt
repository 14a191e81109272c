-- What a row, and so a limit, is at most.
--   most_rate        the most that a rate may be
--   most_product     the most that a product comes to, in parts of a cent, ten_thousandths to the cent
--   most_unrounded   the most that a limit comes to before it is rounded, in parts of a cent, ten_thousandths × 100 to the cent
--   most_limit       the most that a limit comes to, in cents
--   RowFits         a row that refusal 4 lets pass, in ten-thousandths
use Rattle.std.specs.Prelude.{ℕ, ◌*◌, ◌/◌, ◌≤◌}
use Rattle.wire.specs.Bytes.{M}
use Rattle.limit.specs.declared.Row.{Row}
use Rattle.limit.specs.Limit.{ten_thousandths}

-- C-15: "rates in ten-thousandths, at most 15,000"
abbrev pub most_rate : ℕ
most_rate = 15000

-- 1.5 · 10^17: a rate times VAF or base, each at most M by refusal 9, or times VAF', at most M by 15; a fixed amount, at most M by 4, comes to less
abbrev pub most_product : ℕ
most_product = most_rate * M

-- 1.5 · 10^19, which 64 bits just hold (1.84 · 10^19): a product times a percent, at most 100 by refusal 4
abbrev pub most_unrounded : ℕ
most_unrounded = most_product * 100

-- one and a half times M
abbrev pub most_limit : ℕ
most_limit = most_unrounded / (ten_thousandths * 100)

-- refusal 4 is "a rate over 1,500 (..) or fixed amount over M", and "reads 15,000 for version 2" (C-15); a version 1 rate counts ten times
pub record RowFits (row : Row) : Type 0 where
  pub rate : row.rate ≤ most_rate
  pub second : row.second ≤ most_rate
  pub base : row.base_rate ≤ most_rate
  pub fixed : row.fixed ≤ M
