-- Laws of sums over a range.
--   sum-next     one number more
--   sum-within   a sum with one number more is within the sum over a longer range
--   sum-zero     of zeros
--   sum-here     of what is at one number alone
use Rattle.std.specs.Prelude.{Bool, true, false, ◌≡◌, refl, ℕ, zero, suc, ◌+◌, ◌-◌, ◌≤◌, ◌<◌, eqb, if◌then◌else◌}
use Rattle.std.proofs.Common.{arith, eqb-true, ne_eqb}
use Rattle.std.proofs.lemmas.Bool.{eqb-false}
use Rattle.words.specs.Words.{◌=?◌, sum}

pub sum-next : (f : ℕ → ℕ) (k : ℕ) → sum f k + f k ≡ sum f (k + 1)
unfolding sum
sum-next f k = let d : k + 1 ≡ suc k = omega arith in rw d

sum-rise : (f : ℕ → ℕ) (more n : ℕ) → sum f n ≤ sum f (n + more)
unfolding sum
sum-rise f zero n = let d : n + 0 ≡ n = omega arith in rw d (omega arith)
sum-rise f (suc more) n = let d : n + suc more ≡ suc (n + more) = omega arith in rw d (omega (arith, sum-rise f more n))

pub sum-within : (f : ℕ → ℕ) (k n : ℕ) → k < n → sum f k + f k ≤ sum f n
unfolding sum
sum-within f k n h = let d : suc k + (n - suc k) ≡ n = omega arith in rw d at (sum-rise f (n - suc k) (suc k))

pub sum-zero : (f : ℕ → ℕ) (n : ℕ) → ((k : ℕ) → k < n → f k ≡ 0) → sum f n ≡ 0
unfolding sum
sum-zero f zero h = refl
sum-zero f (suc n) h = omega (arith, h n (omega arith), sum-zero f n (λ k l. h k (omega arith)))

pub sum-here : (a j n : ℕ) → j < n → sum (λ k. if j =? k then a else 0) n ≡ a
unfolding sum
sum-here a j zero h = absurd (omega arith)
sum-here a j (suc n) h = by (eqb j n) refl (λ l. sum-here a j n l)
  where
    by : (t : Bool) → eqb j n ≡ t → (j < n → sum (λ k. if j =? k then a else 0) n ≡ a) → sum (λ k. if j =? k then a else 0) n + (if t then a else 0) ≡ a
    by true e ih =
        let d = eqb-true j n e in
        omega (arith, sum-zero (λ k. if j =? k then a else 0) n (λ k l. rw (ne_eqb j k (λ z. omega arith))))
    by false e ih = omega (arith, ih (omega (arith, eqb-false j n e)))
