-- The limit formula, for any scale of the rates, row and percent (A1, A2). Every limit is taken at ten_thousandths.
--   per_mille ten_thousandths   the scales of rates
--   times_row    a row with its rates so many times
--   counted     what a capital base counts for
--   greatest    the greatest of a row's four products, in parts of a cent, scale to the cent
--   unrounded   the limit before it is rounded, in parts of a cent, scale × 100 to the cent
--   cents_of     so many parts, in whole cents
--   limit_of     the limit in cents
use Rattle.std.specs.Prelude.{ℕ, ◌*◌, ◌-◌, ◌/◌, max, ℤ, pos, negsuc}
use Rattle.limit.specs.declared.Row.{Row}

-- rates "per mille" of document 01 and C-11
abbrev pub per_mille : ℕ
per_mille = 1000

-- C-15: "rates in ten-thousandths"
abbrev pub ten_thousandths : ℕ
ten_thousandths = 10000

-- C-15: a rate "counts ten times", here n times; the fixed amount is in cents and stays
abbrev pub times_row : ℕ → Row → Row
times_row n row = record { rate = n * row.rate; second = n * row.second; base_rate = n * row.base_rate; fixed = row.fixed }

-- "a negative base gives nothing"
abbrev pub counted : ℤ → ℕ
counted (pos n) = n
counted (negsuc n) = 0

-- "the greatest of the row's rate × VAF, second rate × VAF, base rate × base (..) and fixed amount", in parts of a cent, `scale` to the cent;
-- "the first rate's product is lessened by W (..), not below 0"
unfoldable pub greatest : ℕ → Row → ℕ → ℤ → ℕ → ℕ
greatest scale row vaf base w =
    max (max (row.rate * vaf - scale * w) (row.second * vaf)) (max (row.base_rate * counted base) (scale * row.fixed))

-- "times the percent kept, exact": in parts of a cent, `scale` × 100 to the cent
unfoldable pub unrounded : ℕ → Row → ℕ → ℕ → ℤ → ℕ → ℕ
unrounded scale row percent vaf base w = greatest scale row vaf base w * percent

-- "rounded down once"
abbrev pub cents_of : ℕ → ℕ → ℕ
cents_of scale parts = parts / (scale * 100)

unfoldable pub limit_of : ℕ → Row → ℕ → ℕ → ℤ → ℕ → ℕ
limit_of scale row percent vaf base w = cents_of scale (unrounded scale row percent vaf base w)
