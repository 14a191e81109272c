-- How a fund's tiers rank (C-17).
--   limits-rise   a limit in cents does not fall where the unrounded one does not
--   ordered       so along the ranking limits do not fall: all that demand 3 and the answers to questions ask of it
use Prim.Native.Nat.{ℕ, ◌≤◌}
use Rattle.cascade.specs.Cascade.{by_tier}
use Rattle.cascade.specs.Cut.{Ordered}
use Rattle.cascade.proofs.Ranking.{by_limit-ordered, ordered-with}
use Rattle.schedule.specs.declared.Schedule.{Schedule}
use Rattle.schedule.specs.TierLaws as tier-laws
use Rattle.book.specs.Book.{Book}
use Rattle.exposure.specs.Values.{VAF, VAF'}
use Rattle.exposure.specs.Sums.{W}
use Rattle.fund.specs.Figures.{unrounded_of, limits_of, limit, order}

module _ (S : Schedule) (B : Book) where
  abbrev unrounded : ℕ → ℕ
  unrounded = by_tier (unrounded_of S B)

  pub limits-rise : (a b : ℕ) → unrounded a ≤ unrounded b → limit S B a ≤ limit S B b
  unfolding unrounded_of limits_of
  limits-rise = tier-laws.limits-rise S (VAF B) (VAF' B) B.base (W B)

  pub ordered : Ordered (order S B) (limit S B)
  ordered = ordered-with unrounded (limit S B) (by_limit-ordered unrounded) limits-rise
