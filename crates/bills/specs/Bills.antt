-- C-14, "Capital cost per desk": what each desk is billed. xs are the exposure lines of the fund F in book order, x is the excess of each desk.
--   desk_count most_cost_rate bills_size   how many desks there are, the greatest rate, the bills' length
--   amount_of_desk desk_excess        the amounts of a desk's lines; the excess of a desk
--   cost_of bill_of                  the cost of the running excess; what a desk is billed
--   bill_bytes                      all bills as bytes
use Rattle.std.specs.Prelude.{List, map, ℕ, ◌+◌, ◌*◌, ◌-◌, ◌/◌, if◌then◌else◌}
use Rattle.words.specs.Words.{◌=?◌, sum_of, sum, count_from}
use Rattle.wire.specs.Amounts.{amounts_bytes}
use Rattle.figures.specs.Fund.{Fund}
use Rattle.bills.specs.Lines.{ExposureLine, stands_in, excess_lines}

-- "256 amounts", one to each value of the desk byte
abbrev pub desk_count : ℕ
desk_count = 256

-- "up to 1,000"
abbrev pub most_cost_rate : ℕ
most_cost_rate = 1000

-- "256 amounts of eight bytes"
abbrev pub bills_size : ℕ
bills_size = 2048

-- the amounts of the lines of desk d
unfoldable pub amount_of_desk : ℕ → List ExposureLine → ℕ
amount_of_desk d xs = sum_of (λ (x : ExposureLine). if x.desk =? d then x.amount else 0) xs

-- "The A3 excess goes to desk 0": what, if anything, the A3 sum has above the A3 limit
abbrev pub a3_excess : Fund → ℕ → ℕ
a3_excess F d = if d =? 0 then F.a3_sum - F.a3_limit else 0

-- the excess of desk d: its lines' excesses, and the A3 excess
unfoldable pub desk_excess : Fund → List ExposureLine → ℕ → ℕ
desk_excess F xs d = amount_of_desk d (excess_lines (stands_in F) xs) + a3_excess F d

-- "the running excess times the rate, rounded down", the rate "in ten-thousandths", where the desks below d have run
unfoldable pub cost_of : (ℕ → ℕ) → ℕ → ℕ → ℕ
cost_of x rate d = sum x d * rate / 10000

-- "less the same figure before that desk"
unfoldable pub bill_of : (ℕ → ℕ) → ℕ → ℕ → ℕ
bill_of x rate d = cost_of x rate (d + 1) - cost_of x rate d

-- "Desk by desk from 0", "256 amounts of eight bytes"
unfoldable pub bill_bytes : (ℕ → ℕ) → ℕ → List ℕ
bill_bytes x rate = amounts_bytes (map (bill_of x rate) (count_from 0 desk_count))
