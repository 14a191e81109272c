-- What lines are those of a fund; the tables that lines are served in, and what the functions ask for and promise of them.
--   LineInside LinesOf          a line of a fund; all of its lines
--   by_desk most_excess       the entry of a table at a desk; what the desks' excesses add up to at the most
--   still_after desks_after   what is still to be given behind lines, and what the desks have
--   LineServed              one line
use Rattle.std.specs.Prelude.{List, [], ◌∷◌, ◌≡◌, ℕ, ◌+◌, ◌*◌, ◌-◌, ◌≤◌, ◌<◌, get_or, set}
use Rattle.words.specs.Words.{All}
use Rattle.wire.specs.Bytes.{M}
use Rattle.figures.specs.Fund.{Fund}
use Rattle.bills.specs.Lines.{ExposureLine, amount_in}
use Rattle.bills.specs.Bills.{desk_count}

-- a line has a group of the fund, a tier or no limit, and a desk
abbrev pub LineInside : Fund → ExposureLine → Type 0
LineInside F x = (1 ≤ x.group) × (x.group ≤ F.groups) × (x.tier ≤ F.tiers) × (x.desk < desk_count)

-- "A group's exposure in a tier is all that its counterparties have there in covered parts and remainders"
pub record LinesOf (F : Fund) (xs : List ExposureLine) : Type 0 where
  pub inside : All (LineInside F) xs
  pub amounts : (g t : ℕ) → amount_in g t xs ≡ F.exposure g t

abbrev pub by_desk : List ℕ → ℕ → ℕ
by_desk table d = get_or table d 0

-- the group excess and the A3 sum are each at most 900 × M; times the greatest rate, that fits 64 bits
abbrev pub most_excess : ℕ
most_excess = 1800 * M

-- one line: what is still to be given in its cell, and what its desk has
pub record LineServed (cell amount desk : ℕ) (still₀ still desks₀ desks : List ℕ) : Type 0 where
  pub cells : still ≡ set still₀ cell (get_or still₀ cell 0 - amount)
  pub excess : desks ≡ set desks₀ desk (get_or desks₀ desk 0 + (amount - get_or still₀ cell 0))

-- what is still to be given behind lines, where `cell` says which entry of the table is a line's
unfoldable pub still_after : (ExposureLine → ℕ) → List ExposureLine → List ℕ → List ℕ
still_after cell [] still = still
still_after cell (x ∷ xs) still = still_after cell xs (set still (cell x) (get_or still (cell x) 0 - x.amount))

-- what the desks have behind them
unfoldable pub desks_after : (ExposureLine → ℕ) → List ExposureLine → List ℕ → List ℕ → List ℕ
desks_after cell [] still desks = desks
desks_after cell (x ∷ xs) still desks =
    desks_after cell xs (set still (cell x) (get_or still (cell x) 0 - x.amount)) (set desks x.desk (get_or desks x.desk 0 + (x.amount - get_or still (cell x) 0)))
