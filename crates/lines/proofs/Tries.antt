-- The elements of a list that pass a test; and entries that are tried: what stands where the place moved on.
use mathlib.Core.Path.{◌≡◌, refl, ap, ◌∙◌}
use mathlib.Core.Bool.{Bool, true, false}
use mathlib.Core.List.{List, [], ◌∷◌, ◌++◌, append_assoc, append-nil}
use Prim.Native.Nat.{ℕ, suc, ◌+◌, ◌≤◌, ◌<◌}
use native.Mathlib.Numerals.{add-one}
use native.Mathlib.Nat.{add-zero}
use native.Mathlib.Omega.{arith}
use lib.ListN.{length, take, set, length-set}
use lib.Seq.{take-suc-set, take-set-le}
use Rattle.std.specs.Prelude.{if◌then◌else◌}
use Rattle.words.specs.Words.{sum_of, each_of, those, All}
use Rattle.words.specs.Sums.{all_append}
use Rattle.lines.specs.Listing.{tried}

-- ---- those

module _ (test : ℕ → Bool) where
  pub those-append : (xs ys : List ℕ) → those test (xs ++ ys) ≡ those test xs ++ those test ys
  unfolding those
  those-append [] ys = refl
  those-append (x ∷ xs) ys = by (test x) (those-append xs ys)
    where
      by : (b : Bool) → those test (xs ++ ys) ≡ those test xs ++ those test ys
          → (if b then x ∷ those test (xs ++ ys) else those test (xs ++ ys)) ≡ (if b then x ∷ those test xs else those test xs) ++ those test ys
      by true e = rw e
      by false e = e

  pub those-each : (g : ℕ → List ℕ) (ks : List ℕ) → those test (each_of g ks) ≡ each_of (λ k. those test (g k)) ks
  unfolding each_of those
  those-each g [] = refl
  those-each g (k ∷ ks) = those-append (g k) (each_of g ks) ∙ ap (λ (zs : List ℕ). those test (g k) ++ zs) (those-each g ks)

  pub those-all : (P : ℕ → Type 0) (xs : List ℕ) → All P xs → All P (those test xs)
  unfolding those
  those-all P [] h = tt
  those-all P (x ∷ xs) h = by (test x) (those-all P xs h.1)
    where
      by : (b : Bool) → All P (those test xs) → All P (if b then x ∷ those test xs else those test xs)
      by true q = (h.0, q)
      by false q = q

  pub those-count : (xs : List ℕ) → length (those test xs) ≡ sum_of (λ x. if test x then 1 else 0) xs
  unfolding those sum_of
  those-count [] = refl
  those-count (x ∷ xs) = by (test x) (those-count xs)
    where
      by : (b : Bool) → length (those test xs) ≡ sum_of (λ x. if test x then 1 else 0) xs
          → length (if b then x ∷ those test xs else those test xs) ≡ (if b then 1 else 0) + sum_of (λ x. if test x then 1 else 0) xs
      by true e = omega arith
      by false e = omega arith

  pub those-if : (f : ℕ → ℕ) (xs : List ℕ) → sum_of f (those test xs) ≡ sum_of (λ x. if test x then f x else 0) xs
  unfolding those sum_of
  those-if f [] = refl
  those-if f (x ∷ xs) = by (test x) (those-if f xs)
    where
      by : (b : Bool) → sum_of f (those test xs) ≡ sum_of (λ x. if test x then f x else 0) xs
          → sum_of f (if b then x ∷ those test xs else those test xs) ≡ (if b then f x else 0) + sum_of (λ x. if test x then f x else 0) xs
      by true e = omega arith
      by false e = omega arith

  pub those-sum : (f : ℕ → ℕ) (xs : List ℕ) → sum_of f (those test xs) ≤ sum_of f xs
  unfolding those sum_of
  those-sum f [] = omega arith
  those-sum f (x ∷ xs) = by (test x) (those-sum f xs)
    where
      by : (b : Bool) → sum_of f (those test xs) ≤ sum_of f xs → sum_of f (if b then x ∷ those test xs else those test xs) ≤ f x + sum_of f xs
      by true e = omega arith
      by false e = omega arith

pub those-same : (test other : ℕ → Bool) (xs : List ℕ) → All (λ x. test x ≡ other x) xs → those test xs ≡ those other xs
unfolding those
those-same test other [] h = refl
those-same test other (x ∷ xs) h = rw (h.0, those-same test other xs h.1)

-- what holds of all that each element gives
pub each_all : (P Q : ℕ → Type 0) (g : ℕ → List ℕ) → ((k : ℕ) → Q k → All P (g k)) → (ks : List ℕ) → All Q ks → All P (each_of g ks)
unfolding each_of
each_all P Q g f [] h = tt
each_all P Q g f (k ∷ ks) h = all_append P (g k) (each_of g ks) (f k h.0) (each_all P Q g f ks h.1)

-- ---- tried

module _ (test : ℕ → Bool) where
  pub tried-long : (es : List ℕ) (at : ℕ) (l : List ℕ) → length (tried test at es l) ≡ length l
  unfolding tried
  tried-long [] at l = refl
  tried-long (e ∷ es) at l = tried-long es (if test e then at + 1 else at) (set l at e) ∙ length-set l at e

  -- two lists, one after the other
  pub tried-append : (xs ys : List ℕ) (at : ℕ) (l : List ℕ) → tried test at (xs ++ ys) l ≡ tried test (at + length (those test xs)) ys (tried test at xs l)
  unfolding tried those
  tried-append [] ys at l = ap (λ (k : ℕ). tried test k ys l) (omega arith)
  tried-append (x ∷ xs) ys at l = tried-append xs ys (if test x then at + 1 else at) (set l at x) ∙ ap (λ (k : ℕ). tried test k ys (tried test (if test x then at + 1 else at) xs (set l at x))) (by (test x))
    where
      by : (b : Bool) → (if b then at + 1 else at) + length (those test xs) ≡ at + length (if b then x ∷ those test xs else those test xs)
      by true = omega arith
      by false = refl

  -- what stands before the place that is reached in the end: what stood before the first, and then the entries that pass the test
  pub tried-first :
      (es : List ℕ) (at : ℕ) (l : List ℕ) → at + length es ≤ length l → take (at + length (those test es)) (tried test at es l) ≡ take at l ++ those test es
  unfolding tried those
  tried-first [] at l h = rw (add-zero, append-nil)
  tried-first (e ∷ es) at l h = by (test e) (tried-first es at (set l at e) (omega (arith, length-set l at e))) (λ q. tried-first es (at + 1) (set l at e) (omega (arith, q, length-set l at e)))
    where
      by : (b : Bool) → take (at + length (those test es)) (tried test at es (set l at e)) ≡ take at (set l at e) ++ those test es
          → (at < length l → take (at + 1 + length (those test es)) (tried test (at + 1) es (set l at e)) ≡ take (at + 1) (set l at e) ++ those test es)
          → take (at + length (if b then e ∷ those test es else those test es)) (tried test (if b then at + 1 else at) es (set l at e))
          ≡ take at l ++ (if b then e ∷ those test es else those test es)
      by true _ p =
          let n : at + suc (length (those test es)) ≡ at + 1 + length (those test es) = omega arith in
          rw n (p (omega arith) ∙ rw (add-one, take-suc-set l at e (omega arith)) (append_assoc (take at l) (e ∷ []) (those test es)))
      by false p _ = p ∙ rw (take-set-le at l at e (omega arith))
