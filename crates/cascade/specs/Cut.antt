-- Demand 3's words on cuts, with no list and no sorting in them: what a cut leaves standing, which cuts are feasible, which is the best; and all that is
-- asked of a ranking (Ordered).
-- There are n tiers. le says whether a tier ranks at or below another, L is a tier's limit, e the group's exposure in it, cut what is cut of it.
-- The tiers of a group are those where e is above 0; what a cut says of any other tier counts nowhere.
use Rattle.std.specs.Prelude.{Bool, true, false, ◌≡◌, ℕ, ◌-◌, ◌≤◌, ◌<◌, if◌then◌else◌}
use Rattle.words.specs.Words.{◌<?◌, sum}

-- le ranks the tiers one above the other, and limits do not fall along it:
-- self     a tier ranks at or below itself
-- total    of two tiers, one ranks at or below the other
-- strict   two tiers that are not the same rank at or below each other one way only
-- trans    what ranks above a tier ranks above all below that tier
-- rises    a tier that ranks above another has at least its limit
pub record Ordered (le : ℕ → ℕ → Bool) (L : ℕ → ℕ) : Type 0 where
  pub self : (a : ℕ) → le a a ≡ true
  pub total : (a b : ℕ) → le b a ≡ false → le a b ≡ true
  pub strict : (a b : ℕ) → (a ≡ b → ⊥) → le a b ≡ true → le b a ≡ false
  pub trans : (a b c : ℕ) → le b a ≡ false → le c b ≡ false → le c a ≡ false
  pub rises : (a b : ℕ) → le b a ≡ false → L a ≤ L b

-- "what a cut leaves standing is exposure less cut": at tier t, summed over the tiers that rank at or below t ("an equal limit counts as lower")
unfoldable pub stands : (n : ℕ) → (ℕ → ℕ → Bool) → (ℕ → ℕ) → (ℕ → ℕ) → ℕ → ℕ
stands n le e cut t = sum (λ u. if le u t then e u - cut u else 0) n

-- the cuts of a group's tiers summed
unfoldable pub taken : ℕ → (ℕ → ℕ) → (ℕ → ℕ) → ℕ
taken n e cut = sum (λ u. if 0 <? e u then cut u else 0) n

-- a cut is feasible where, at every tier of the group, it is at most the exposure and what stands is at most the limit
pub record Feasible (n : ℕ) (le : ℕ → ℕ → Bool) (L e cut : ℕ → ℕ) : Type 0 where
  pub within : (t : ℕ) → t < n → 0 < e t → cut t ≤ e t
  pub fits : (t : ℕ) → t < n → 0 < e t → stands n le e cut t ≤ L t

-- x is feasible; no feasible cut leaves more standing at any tier of the group; and none takes less
pub record Optimal (n : ℕ) (le : ℕ → ℕ → Bool) (L e x : ℕ → ℕ) : Type 0 where
  pub feasible : Feasible n le L e x
  pub most : (cut : ℕ → ℕ) → Feasible n le L e cut → (t : ℕ) → t < n → 0 < e t → stands n le e cut t ≤ stands n le e x t
  pub least : (cut : ℕ → ℕ) → Feasible n le L e cut → taken n e x ≤ taken n e cut

-- the same for a fund of any number of groups, what is taken summed over the groups: e g and x g are the exposures and cuts of group g
pub record FundOptimal (groups n : ℕ) (le : ℕ → ℕ → Bool) (L : ℕ → ℕ) (e x : ℕ → ℕ → ℕ) : Type 0 where
  pub feasible : (g : ℕ) → g < groups → Feasible n le L (e g) (x g)
  pub most :
      (g : ℕ) → g < groups → (cut : ℕ → ℕ) → Feasible n le L (e g) cut → (t : ℕ) → t < n → 0 < e g t
      → stands n le (e g) cut t ≤ stands n le (e g) (x g) t
  pub least :
      (cut : ℕ → ℕ → ℕ) → ((g : ℕ) → g < groups → Feasible n le L (e g) (cut g))
      → sum (λ g. taken n (e g) (x g)) groups ≤ sum (λ g. taken n (e g) (cut g)) groups
