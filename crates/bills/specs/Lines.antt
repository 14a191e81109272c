-- C-14: "Within a group's tier, what stands is given to the exposure lines in book order": exposure lines, and the excess of each.
--   ExposureLine              a covered part or a remainder, as far as bills go
--   is_in amount_in             the lines of a group's tier
--   tier_excess stands_in       the excess of a group's tier, and what stands there
--   served unserved after     one line, where `still` says what is still to be given, by group and tier
--   excess_lines               the lines, each with its excess in the place of its amount
use Rattle.std.specs.Prelude.{Bool, ◌&&◌, List, [], ◌∷◌, ℕ, ◌-◌, min, if◌then◌else◌}
use Rattle.words.specs.Words.{◌<?◌, ◌=?◌, sum_of}
use Rattle.figures.specs.Fund.{Fund}
use Rattle.figures.specs.Report.{excess_of}

-- the top place of its group, its tier (or the number that stands for no limit), its amount, and the desk of its asset
pub record ExposureLine : Type 0 where
  pub group : ℕ
  pub tier : ℕ
  pub amount : ℕ
  pub desk : ℕ

-- the line is in tier t of group g
abbrev pub is_in : ℕ → ℕ → ExposureLine → Bool
is_in g t x = x.group =? g && x.tier =? t

-- the amounts of the lines in tier t of group g
unfoldable pub amount_in : ℕ → ℕ → List ExposureLine → ℕ
amount_in g t xs = sum_of (λ (x : ExposureLine). if is_in g t x then x.amount else 0) xs

-- the report's excess of group g in tier t; what has no limit has none
unfoldable pub tier_excess : Fund → ℕ → ℕ → ℕ
tier_excess F g t = if t <? F.tiers then excess_of F g t else 0

-- "what stands" in tier t of group g: its exposure less its excess
unfoldable pub stands_in : Fund → ℕ → ℕ → ℕ
stands_in F g t = F.exposure g t - tier_excess F g t

-- what a line is given: its amount, as far as that is still to be given in its group's tier
abbrev pub served : (ℕ → ℕ → ℕ) → ExposureLine → ℕ
served still x = min x.amount (still x.group x.tier)

-- "A line's unserved part is its excess"
abbrev pub unserved : (ℕ → ℕ → ℕ) → ExposureLine → ℕ
unserved still x = x.amount - served still x

-- what is still to be given behind the line
abbrev pub after : (ℕ → ℕ → ℕ) → ExposureLine → ℕ → ℕ → ℕ
after still x g t = if is_in g t x then still g t - served still x else still g t

-- the same line with another amount
abbrev pub with_amount : ExposureLine → ℕ → ExposureLine
with_amount x amount = record { group = x.group; tier = x.tier; amount = amount; desk = x.desk }

-- "given to the exposure lines in book order"
unfoldable pub excess_lines : (ℕ → ℕ → ℕ) → List ExposureLine → List ExposureLine
excess_lines still [] = []
excess_lines still (x ∷ xs) = with_amount x (unserved still x) ∷ excess_lines (after still x) xs
