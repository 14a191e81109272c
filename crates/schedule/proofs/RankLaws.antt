-- C-15 and C-17: a version 1 schedule's tiers rank as its rates do in per mille (stays-ranked).
use mathlib.Core.List.{List}
use mathlib.Core.Path.{◌≡◌, refl, ap, ◌∙◌}
use Prim.Native.Nat.{ℕ, ◌*◌}
use native.Mathlib.Omega.{arith}
use lib.IntN.{ℤ}
use lib.ListN.{get_or}
use Rattle.limit.specs.Limit.{per_mille}
use Rattle.cascade.specs.Cascade.{by_tier, by_limit}
use Rattle.cascade.proofs.Ranking.{by_limit-same}
use Rattle.schedule.specs.declared.Schedule.{Schedule}
use Rattle.schedule.specs.Schedule.{version, times_all, written_of, schedule_of}
use Rattle.schedule.specs.Tiers.{unrounded_in, unrounded_limits}
use Rattle.schedule.specs.TierLaws.{map_at}
use Rattle.schedule.specs.CountLaws.{tenfold-limits, by-version}

-- ten times as many parts rank alike
module _ (S : Schedule) (vaf vaf' : ℕ) (base : ℤ) (w : ℕ) where
  abbrev mille : List ℕ
  mille = unrounded_in per_mille S vaf vaf' base w

  per-mille-ranked : (a b : ℕ) → by_limit (by_tier (unrounded_limits (times_all 10 S) vaf vaf' base w)) a b ≡ by_limit (by_tier mille) a b
  per-mille-ranked a b =
      let ten : (t : ℕ) → by_tier (unrounded_limits (times_all 10 S) vaf vaf' base w) t ≡ 10 * by_tier mille t =
      λ t. ap (λ (xs : List ℕ). get_or xs t 0) (tenfold-limits S vaf vaf' base w) ∙ map_at (λ n. 10 * n) refl mille t in
      by_limit-same (by_tier (unrounded_limits (times_all 10 S) vaf vaf' base w)) (by_tier mille) (λ c d h. omega (arith, ten c, ten d)) a b
      (λ _ q. omega (arith, ten a, ten b)) (λ _ q. omega (arith, ten a, ten b))

pub stays-ranked :
    (s : List ℕ) → version s ≡ 1 → (vaf vaf' : ℕ) (base : ℤ) (w a b : ℕ)
    → by_limit (by_tier (unrounded_limits (schedule_of s) vaf vaf' base w)) a b ≡ by_limit (by_tier (unrounded_in per_mille (written_of s) vaf vaf' base w)) a b
stays-ranked s e vaf vaf' base w a b = rw (by-version s e) (per-mille-ranked (written_of s) vaf vaf' base w a b)
