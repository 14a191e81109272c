-- Tests computed at each of the numbers below n, and at both truths; and a `match` whose arms are such numbers.
--   all_below below       a test at each number below n, and one case of it
--   below_next below-not how a loop goes up to n: one number more that passes, or one that does not
--   all_truths at-truth   a test of both truths, and one case of it
--   NoneOf past          what the last arm of a `match` over 0 to k - 1 knows
use Rattle.std.specs.Prelude.{Bool, true, false, ◌&&◌, ◌≡◌, refl, ℕ, zero, suc, ◌+◌, ◌≤◌, ◌<◌, eqb}
use Rattle.std.proofs.Common.{sym, ◌∙◌, add-one, arith, eqb-true}
use Rattle.std.proofs.lemmas.Bool.{eqb-false}
use Rattle.words.specs.Choice.{both, never}

unfoldable pub all_below : ℕ → (ℕ → Bool) → Bool
all_below zero t = true
all_below (suc n) t = t n && all_below n t

pub below : (n : ℕ) (t : ℕ → Bool) → all_below n t ≡ true → (k : ℕ) → k < n → t k ≡ true
unfolding all_below
below zero t e k h = absurd (omega arith)
below (suc n) t e k h = by (eqb k n) refl (below n t (both (t n) (all_below n t) e).1)
  where
    by : (s : Bool) → eqb k n ≡ s → ((j : ℕ) → j < n → t j ≡ true) → t k ≡ true
    by true z ih = rw (eqb-true k n z) (both (t n) (all_below n t) e).0
    by false z ih = ih k (omega (arith, eqb-false k n z))

pub below_next : (k : ℕ) (t : ℕ → Bool) → all_below k t ≡ true → t k ≡ true → all_below (k + 1) t ≡ true
unfolding all_below
below_next k t e h = rw (add-one k, h) e

pub below-not : (n : ℕ) (t : ℕ → Bool) (k : ℕ) → k < n → t k ≡ false → all_below n t ≡ false
below-not n t k l h = by (all_below n t) refl
  where
    by : (b : Bool) → all_below n t ≡ b → b ≡ false
    by true e = never (sym h ∙ below n t e k l)
    by false e = refl

unfoldable pub all_truths : (Bool → Bool) → Bool
all_truths t = t true && t false

pub at-truth : (t : Bool → Bool) → all_truths t ≡ true → (b : Bool) → t b ≡ true
unfolding all_truths
at-truth t e true = (both (t true) (t false) e).0
at-truth t e false = (both (t true) (t false) e).1

-- n is none of the numbers 0 to k - 1
abbrev pub NoneOf : ℕ → ℕ → Type 0
NoneOf n zero = Unit {0}
NoneOf n (suc k) = NoneOf n k × (n ≡ k → ⊥)

pub past : (n k : ℕ) → NoneOf n k → k ≤ n
past n zero r = omega arith
past n (suc k) r = let h = past n k r.0 in let z = r.1 in omega arith
