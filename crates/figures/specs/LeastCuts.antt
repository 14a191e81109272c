-- Demand 3, of the bytes R: R's lines are those of the groups' tiers, its excesses are feasible cuts that leave the most standing and take the least,
-- and its charge follows. Excesses, group excess and charge are read off R; tiers, limits, exposures and A3 are the fund's.
use Rattle.std.specs.Prelude.{◌≡◌, List, ℕ, ◌+◌, ◌*◌, ◌-◌, ◌≤◌, ◌<◌, length}
use Rattle.words.specs.Words.{sum}
use Rattle.cascade.specs.Cut.{stands, taken, Feasible}
use Rattle.figures.specs.Fund.{Fund, over_groups}
use Rattle.figures.specs.Report.{head_size, line_size}
use Rattle.figures.specs.Read.{line_at, lines_in, group_excess_in, charge_in, read_excess}

-- t is a tier of group g: "its tiers are those where that is above 0"
pub record TierOf (F : Fund) (g t : ℕ) : Type 0 where
  pub first : 1 ≤ g
  pub last : g ≤ F.groups
  pub tier : t < F.tiers
  pub above : 0 < F.exposure g t

-- R has exactly one line of group g and tier t
pub record OneLine (R : List ℕ) (g t : ℕ) : Type 0 where
  pub place : ℕ
  pub inside : place < lines_in R
  pub top : (line_at R place).top ≡ g
  pub tier : (line_at R place).tier ≡ t
  pub alone : (j : ℕ) → j < lines_in R → (line_at R j).top ≡ g → (line_at R j).tier ≡ t → j ≡ place

-- a cut of the exposures of group g that is feasible
abbrev pub FeasibleAt : Fund → ℕ → (ℕ → ℕ) → Type 0
FeasibleAt F g cut = Feasible F.tiers F.order F.limit (F.exposure g) cut

-- what stands at tier t of group g under a cut: "what a cut leaves standing is exposure less cut"
abbrev pub stands_at : Fund → ℕ → (ℕ → ℕ) → ℕ → ℕ
stands_at F g cut t = stands F.tiers F.order (F.exposure g) cut t

-- all that the cuts of a fund's groups take
abbrev pub taken_of : Fund → (ℕ → ℕ → ℕ) → ℕ
taken_of F cut = over_groups F (λ g. taken F.tiers (F.exposure g) (cut g))

-- whole      the lines that the header names stand in R
-- lines      "one for each tier of each group"
-- only       and no other lines
-- feasible   each group's excesses are a feasible cut
-- most       no feasible cut leaves more standing at any tier of any group
-- least      no feasible cuts of the fund take less than the group excess
-- total      "group excess (all groups' excesses summed)", over R's lines
-- charge     "group excess (..) + what, if anything, the A3 sum has above the A3 limit"
pub record LeastCuts (F : Fund) (R : List ℕ) : Type 0 where
  pub whole : head_size + line_size * lines_in R ≤ length R
  pub lines : (g t : ℕ) → TierOf F g t → OneLine R g t
  pub only : (i : ℕ) → i < lines_in R → TierOf F (line_at R i).top (line_at R i).tier
  pub feasible : (g : ℕ) → 1 ≤ g → g ≤ F.groups → FeasibleAt F g (read_excess R g)
  pub most : (g t : ℕ) → TierOf F g t → (cut : ℕ → ℕ) → FeasibleAt F g cut → stands_at F g cut t ≤ stands_at F g (read_excess R g) t
  pub least : (cut : ℕ → ℕ → ℕ) → ((g : ℕ) → 1 ≤ g → g ≤ F.groups → FeasibleAt F g (cut g)) → group_excess_in R ≤ taken_of F cut
  pub total : group_excess_in R ≡ sum (λ i. (line_at R i).excess) (lines_in R)
  pub charge : charge_in R ≡ group_excess_in R + (F.a3_sum - F.a3_limit)
