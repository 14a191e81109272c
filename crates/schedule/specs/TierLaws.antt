-- How many limits there are, and what each is at most, under a schedule that fits: alone-fits, limits-length, limits-le, a3-limit-le.
-- A limit is its unrounded limit in cents, and so does not fall where that does not fall: cents-at, limit-cents, limits-rise.
use Rattle.std.specs.Prelude.{◌≡◌, refl, List, [], ◌∷◌, map, ℕ, zero, suc, ◌≤◌, ℤ, length, get_or}
use Rattle.std.proofs.Common.{sym, arith}
use Rattle.words.specs.Words.{All}
use Rattle.words.specs.Sums.{all-at}
use Rattle.wire.specs.Bytes.{M}
use Rattle.limit.specs.Limit.{ten_thousandths, counted, cents_of, limit_of}
use Rattle.limit.specs.Bounds.{most_rate, most_limit, RowFits}
use Rattle.limit.specs.BoundLaws.{limit-le}
use Rattle.cascade.specs.Cascade.{tiers}
use Rattle.schedule.specs.declared.Schedule.{Schedule}
use Rattle.schedule.specs.Tiers.{rate_alone, unrounded_limits, unrounded_in, limits, limits_in, a3_limit_of, a3_limit_in}
use Rattle.schedule.specs.Fits.{RatesFit}

infixr 10 ◌and◌
◌and◌ : {A B : Type 0} → A → B → A × B
◌and◌ a b = (a, b)

pub alone-fits : {rate : ℕ} → rate ≤ most_rate → RowFits (rate_alone rate)
alone-fits h = record { rate = h; second = omega arith; base = omega arith; fixed = omega arith }

pub limits-length : (S : Schedule) (vaf vaf' : ℕ) (base : ℤ) (w : ℕ) → length (limits S vaf vaf' base w) ≡ tiers
unfolding limits_in unrounded_in
limits-length S vaf vaf' base w = refl

-- an entry of a list in cents, and of one that f takes 0 of to 0
pub map_at : (f : ℕ → ℕ) → f 0 ≡ 0 → (xs : List ℕ) (t : ℕ) → get_or (map f xs) t 0 ≡ f (get_or xs t 0)
map_at f z [] t = sym z
map_at f z (x ∷ xs) zero = refl
map_at f z (x ∷ xs) (suc t) = map_at f z xs t

pub cents-at : (parts : List ℕ) (t : ℕ) → get_or (map (cents_of ten_thousandths) parts) t 0 ≡ cents_of ten_thousandths (get_or parts t 0)
cents-at parts t = map_at (cents_of ten_thousandths) refl parts t

module _ (S : Schedule) (vaf vaf' : ℕ) (base : ℤ) (w : ℕ) where
  pub limit-cents : (t : ℕ) → get_or (limits S vaf vaf' base w) t 0 ≡ cents_of ten_thousandths (get_or (unrounded_limits S vaf vaf' base w) t 0)
  unfolding limits_in
  limit-cents t = cents-at (unrounded_limits S vaf vaf' base w) t

  pub limits-rise :
      (a b : ℕ) → get_or (unrounded_limits S vaf vaf' base w) a 0 ≤ get_or (unrounded_limits S vaf vaf' base w) b 0
      → get_or (limits S vaf vaf' base w) a 0 ≤ get_or (limits S vaf vaf' base w) b 0
  limits-rise a b h = omega (arith, limit-cents a, limit-cents b)

module _ (S : Schedule) (vaf vaf' : ℕ) (base : ℤ) (w : ℕ) (h : RatesFit S) (v : vaf ≤ M) (v' : vaf' ≤ M) (b : counted base ≤ M) where
  all-le : All (λ n. n ≤ most_limit) (limits S vaf vaf' base w)
  unfolding limits_in unrounded_in limit_of
  all-le =
      limit-le _ _ _ _ _ h.i (omega arith) (omega arith) b
      and limit-le _ _ _ _ _ h.i (omega arith) (omega arith) b
      and limit-le _ _ _ _ _ h.h (omega arith) (omega arith) b
      and limit-le _ _ _ _ _ h.h (omega arith) (omega arith) b
      and limit-le _ _ _ _ _ h.g (omega arith) (omega arith) b
      and limit-le _ _ _ _ _ h.g (omega arith) (omega arith) b
      and limit-le _ _ _ _ _ h.g (omega arith) (omega arith) b
      and limit-le _ _ _ _ _ h.e (omega arith) (omega arith) b
      and limit-le _ _ _ _ _ h.e (omega arith) (omega arith) b
      and limit-le _ _ _ _ _ h.e (omega arith) (omega arith) b
      and limit-le _ _ _ _ _ h.f (omega arith) (omega arith) b
      and limit-le _ _ _ _ _ h.c (omega arith) (omega arith) b
      and limit-le _ _ _ _ _ h.d (omega arith) (omega arith) b
      and limit-le _ _ _ _ _ (alone-fits (omega arith)) (omega arith) (omega arith) b
      and limit-le _ _ _ _ _ (alone-fits (omega arith)) (omega arith) (omega arith) b
      and limit-le _ _ _ _ _ (alone-fits (omega arith)) (omega arith) (omega arith) b
      and tt

  pub limits-le : (t : ℕ) → get_or (limits S vaf vaf' base w) t 0 ≤ most_limit
  limits-le t = all-at (λ n. n ≤ most_limit) 0 (omega arith) (limits S vaf vaf' base w) all-le t

pub a3-limit-le : (S : Schedule) (vaf' : ℕ) (base : ℤ) → RatesFit S → vaf' ≤ M → counted base ≤ M → a3_limit_of S vaf' base ≤ most_limit
unfolding a3_limit_in
a3-limit-le S vaf' base h v b = limit-le S.z 100 vaf' base 0 h.z (omega arith) v b
