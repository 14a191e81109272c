-- Plain words for the definitions.
--   _≤?_ _<?_ _=?_    tests on numbers, true or false
--   sum_of, sum        sums over a list and over 0 .. n - 1
--   each_of            what each element of a list gives, one after the other
--   those             the elements of a list that pass a test
--   count_from         a, a + 1, ..
--   every, All        a test that every element passes, a fact that holds of every element
use Rattle.std.specs.Prelude.{Bool, true, ◌&&◌, List, [], ◌∷◌, ◌++◌, ℕ, zero, suc, ◌+◌, leb, ltb, eqb, if◌then◌else◌}

-- tests on numbers
infix 45 ◌≤?◌ ◌<?◌ ◌=?◌
abbrev pub ◌≤?◌ : ℕ → ℕ → Bool
a ≤? b = leb a b

abbrev pub ◌<?◌ : ℕ → ℕ → Bool
a <? b = ltb a b

abbrev pub ◌=?◌ : ℕ → ℕ → Bool
a =? b = eqb a b

-- the sum of f over a list
unfoldable pub sum_of : {A : Type 0} → (A → ℕ) → List A → ℕ
sum_of f [] = 0
sum_of f (x ∷ xs) = f x + sum_of f xs

-- the sum of f over 0 .. n - 1
unfoldable pub sum : (ℕ → ℕ) → ℕ → ℕ
sum f zero = 0
sum f (suc n) = sum f n + f n

-- what each element gives, one after the other
unfoldable pub each_of : {A B : Type 0} → (A → List B) → List A → List B
each_of f [] = []
each_of f (x ∷ xs) = f x ++ each_of f xs

-- the elements that pass a test
unfoldable pub those : {A : Type 0} → (A → Bool) → List A → List A
those t [] = []
those t (x ∷ xs) = if t x then x ∷ those t xs else those t xs

-- a, a + 1, .. : so many of them
unfoldable pub count_from : ℕ → ℕ → List ℕ
count_from a zero = []
count_from a (suc more) = a ∷ count_from (a + 1) more

-- every element passes a test
unfoldable pub every : {A : Type 0} → (A → Bool) → List A → Bool
every t [] = true
every t (x ∷ xs) = t x && every t xs

-- P holds of every element
abbrev pub All : {A : Type 0} → (A → Type 0) → List A → Type 0
All P [] = Unit {0}
All P (x ∷ xs) = P x × All P xs
