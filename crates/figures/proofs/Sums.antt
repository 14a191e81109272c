-- Sums over 0 .. n - 1 of which no term, or one, is above 0; and a count that is 1.
use mathlib.Core.Path.{◌≡◌, refl, ap}
use mathlib.Core.Bool.{Bool, true, false, ◌&&◌}
use mathlib.Core.Logic.{⊎_elim}
use Prim.Native.Nat.{ℕ, zero, suc, ◌*◌, ◌<◌}
use native.Mathlib.Omega.{arith}
use native.Mathlib.Nat.{eq-or-lt_of_le, le_of_suc-le-suc, suc-mul}
use Rattle.std.specs.Prelude.{if◌then◌else◌}
use Rattle.words.specs.Words.{sum}
use Rattle.words.specs.Choice.{never}

pub sum-none : (f : ℕ → ℕ) (n : ℕ) → ((u : ℕ) → u < n → f u ≡ 0) → sum f n ≡ 0
unfolding sum
sum-none f zero h = refl
sum-none f (suc n) h = omega (arith, sum-none f n (λ u l. h u (omega arith)), h n (omega arith))

pub sum_one : (f : ℕ → ℕ) (n t : ℕ) → t < n → ((u : ℕ) → u < n → (u ≡ t → ⊥) → f u ≡ 0) → sum f n ≡ f t
unfolding sum
sum_one f zero t l h = absurd (omega arith)
sum_one f (suc n) t l h =
    ⊎_elim (λ e. omega (arith, sum-none f n (λ u k. h u (omega arith) (λ q. omega arith)), ap f e))
    (λ k. omega (arith, sum_one f n t k (λ u m. h u (omega arith)), h n (omega arith) (λ q. omega arith)))
    (eq-or-lt_of_le (le_of_suc-le-suc l))

pub sum-zero-at : (f : ℕ → ℕ) (n u : ℕ) → u < n → sum f n ≡ 0 → f u ≡ 0
unfolding sum
sum-zero-at f zero u l h = absurd (omega arith)
sum-zero-at f (suc n) u l h =
    ⊎_elim (λ e. omega (arith, ap f e)) (λ k. sum-zero-at f n u k (omega arith)) (eq-or-lt_of_le (le_of_suc-le-suc l))

pub sum-const : (c m : ℕ) → sum (λ _. c) m ≡ m * c
unfolding sum
sum-const c zero = omega arith
sum-const c (suc m) = omega (arith, sum-const c m, suc-mul m c)

-- where not both tests hold there is nothing
pub none_of : (a b : Bool) (v : ℕ) → (a ≡ true → b ≡ true → ⊥) → (if a && b then v else 0) ≡ 0
none_of true true v h = absurd (h refl refl)
none_of true false v h = refl
none_of false b v h = refl

pub if-zero : (b : Bool) → ◌≡◌ {A = ℕ} (if b then 0 else 0) 0
if-zero true = refl
if-zero false = refl

-- how many of the first m tests are true
abbrev pub count_of : (ℕ → Bool) → ℕ → ℕ
count_of b m = sum (λ i. if b i then 1 else 0) m

-- of the first m tests just one is true
pub record One (b : ℕ → Bool) (m : ℕ) : Type 0 where
  pub place : ℕ
  pub inside : place < m
  pub holds : b place ≡ true
  pub alone : (j : ℕ) → j < m → b j ≡ true → j ≡ place

true-counts : (b : Bool) → b ≡ true → ◌≡◌ {A = ℕ} (if b then 1 else 0) 1
true-counts b h = rw h

pub one_of : (b : ℕ → Bool) (m : ℕ) → count_of b m ≡ 1 → One b m
unfolding sum
one_of b zero h = absurd (omega arith)
one_of b (suc m) h = by (b m) refl (one_of b m)
  where
    by : (a : Bool) → b m ≡ a → (count_of b m ≡ 1 → One b m) → One b (suc m)
    by true e ih =
        let none : count_of b m ≡ 0 = omega (arith, true-counts (b m) e) in
        record {
          place = m;
          inside = omega arith;
          holds = e;
          alone = λ j l q.
              ⊎_elim (λ r. r) (λ k. absurd (omega (arith, sum-zero-at (λ i. if b i then 1 else 0) m j k none, true-counts (b j) q))) (eq-or-lt_of_le (le_of_suc-le-suc l));
        }
    by false e ih =
        let o = ih (let z : ◌≡◌ {A = ℕ} (if b m then 1 else 0) 0 = rw e in omega arith) in
        record {
          place = o.place;
          inside = omega (arith, o.inside);
          holds = o.holds;
          alone = λ j l q. ⊎_elim (λ r. never (rw e at (rw r at q))) (λ k. o.alone j k q) (eq-or-lt_of_le (le_of_suc-le-suc l));
        }
