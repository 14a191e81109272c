-- Laws of sums, of concatenation and of what holds of every element. Over a list: sum-append, sum-map, sum-each, sum-agree, sum-each-same, sum-length, length-each,
-- each_append, each_same, each_next, all-at, all_map, all_both, all_append, all-mapped, all-count, length-count, count_at.
-- Over a range: sum-zero, sum-add, sum-le, sum_same, sum_first, sum-count (a sum over count_from is one over the range). Of both: sum-most, sum-swap, sum-once.
use Rattle.std.specs.Prelude.{Bool, true, false, List, [], ◌∷◌, ◌++◌, map, ◌≡◌, refl, ℕ, zero, suc, ◌+◌, ◌*◌, ◌≤◌, ◌<◌, length, get_or, take, if◌then◌else◌}
use Rattle.std.proofs.Common.{append_assoc, append-nil, sym, ap, ◌∙◌, arith, length-append}
use Rattle.words.specs.Words.{sum_of, sum, each_of, count_from, All}
use Rattle.words.specs.Choice.{by-test}

-- ---- over a list

pub sum-append : {A : Type 0} (f : A → ℕ) (xs ys : List A) → sum_of f (xs ++ ys) ≡ sum_of f xs + sum_of f ys
unfolding sum_of
sum-append f [] ys = omega arith
sum-append f (x ∷ xs) ys = omega (arith, sum-append f xs ys)

pub sum-map : {A B : Type 0} (f : B → ℕ) (g : A → B) (xs : List A) → sum_of f (map g xs) ≡ sum_of (λ x. f (g x)) xs
unfolding sum_of
sum-map f g [] = refl
sum-map f g (x ∷ xs) = ap (λ (n : ℕ). f (g x) + n) (sum-map f g xs)

pub sum-each : {A B : Type 0} (f : B → ℕ) (g : A → List B) (xs : List A) → sum_of f (each_of g xs) ≡ sum_of (λ x. sum_of f (g x)) xs
unfolding sum_of each_of
sum-each f g [] = refl
sum-each f g (x ∷ xs) = sum-append f (g x) (each_of g xs) ∙ ap (λ (n : ℕ). sum_of f (g x) + n) (sum-each f g xs)

-- two functions that agree on every element of the list, or on every element there is, have the same sum
pub sum-agree : {A : Type 0} (f g : A → ℕ) (xs : List A) → All (λ x. f x ≡ g x) xs → sum_of f xs ≡ sum_of g xs
unfolding sum_of
sum-agree f g [] h = refl
sum-agree f g (x ∷ xs) h = rw (h.0, sum-agree f g xs h.1)

pub sum-each-same : {A : Type 0} (f g : A → ℕ) (xs : List A) → ((x : A) → f x ≡ g x) → sum_of f xs ≡ sum_of g xs
unfolding sum_of
sum-each-same f g [] h = refl
sum-each-same f g (x ∷ xs) h = rw (h x, sum-each-same f g xs h)

-- one for each element
pub sum-length : {A : Type 0} (xs : List A) → sum_of (λ _. 1) xs ≡ length xs
unfolding sum_of
sum-length [] = refl
sum-length (x ∷ xs) = omega (arith, sum-length xs)

-- where each element gives n elements
pub length-each : {A B : Type 0} (n : ℕ) (g : A → List B) → ((x : A) → length (g x) ≡ n) → (xs : List A) → length (each_of g xs) ≡ n * length xs
unfolding each_of
length-each n g h [] = omega arith
length-each n g h (x ∷ xs) = length-append (g x) (each_of g xs) ∙ omega (arith, h x, length-each n g h xs)

pub each_append : {A B : Type 0} (g : A → List B) (xs ys : List A) → each_of g (xs ++ ys) ≡ each_of g xs ++ each_of g ys
unfolding each_of
each_append g [] ys = refl
each_append {B = B} g (x ∷ xs) ys = ap (λ (zs : List B). g x ++ zs) (each_append g xs ys) ∙ sym (append_assoc (g x) (each_of g xs) (each_of g ys))

pub each_same : {A B : Type 0} (f g : A → List B) (xs : List A) → All (λ x. f x ≡ g x) xs → each_of f xs ≡ each_of g xs
unfolding each_of
each_same f g [] h = refl
each_same f g (x ∷ xs) h = rw (h.0, each_same f g xs h.1)

-- what the first n + 1 elements give is what the first n give, and then what the next one gives
pub each_next : {A B : Type 0} (g : A → List B) (d : A) (xs : List A) (n : ℕ) → n < length xs → each_of g (take (suc n) xs) ≡ each_of g (take n xs) ++ g (get_or xs n d)
unfolding each_of
each_next g d [] n h = absurd (omega arith)
each_next g d (x ∷ xs) zero h = append-nil (g x)
each_next g d (x ∷ xs) (suc n) h = ap (λ l. g x ++ l) (each_next g d xs n (omega arith)) ∙ sym (append_assoc (g x) (each_of g (take n xs)) (g (get_or xs n d)))

-- what holds of every element, and of what stands past the end, holds of what is read at any place
pub all-at : {A : Type 0} (P : A → Type 0) (d : A) → P d → (xs : List A) → All P xs → (n : ℕ) → P (get_or xs n d)
all-at P d o [] h n = o
all-at P d o (x ∷ xs) h zero = h.0
all-at P d o (x ∷ xs) h (suc n) = all-at P d o xs h.1 n

pub all_map : {A : Type 0} {P Q : A → Type 0} → ((x : A) → P x → Q x) → (xs : List A) → All P xs → All Q xs
all_map f [] h = tt
all_map f (x ∷ xs) h = (f x h.0, all_map f xs h.1)

pub all_both : {A : Type 0} {P Q R : A → Type 0} → ((x : A) → P x → Q x → R x) → (xs : List A) → All P xs → All Q xs → All R xs
all_both f [] h g = tt
all_both f (x ∷ xs) h g = (f x h.0 g.0, all_both f xs h.1 g.1)

pub all_append : {A : Type 0} (P : A → Type 0) (xs ys : List A) → All P xs → All P ys → All P (xs ++ ys)
all_append P [] ys h k = k
all_append P (x ∷ xs) ys h k = (h.0, all_append P xs ys h.1 k)

pub all-mapped : {A B : Type 0} (P : B → Type 0) (f : A → B) (xs : List A) → All (λ x. P (f x)) xs → All P (map f xs)
all-mapped P f [] h = tt
all-mapped P f (x ∷ xs) h = (h.0, all-mapped P f xs h.1)

-- a, a + 1, .. up to a + n
pub all-count : (a n : ℕ) → All (λ k. (a ≤ k) × (k < a + n)) (count_from a n)
unfolding count_from
all-count a zero = tt
all-count a (suc n) =
    ((omega arith, omega arith), all_map (λ k h. (omega (arith, h.0), omega (arith, h.1))) (count_from (a + 1) n) (all-count (a + 1) n))

pub length-count : (a n : ℕ) → length (count_from a n) ≡ n
unfolding count_from
length-count a zero = refl
length-count a (suc n) = ap suc (length-count (a + 1) n)

-- what f gives for them, at a place
pub count_at : (f : ℕ → ℕ) (a n k : ℕ) → k < n → get_or (map f (count_from a n)) k 0 ≡ f (a + k)
unfolding count_from
count_at f a zero k l = absurd (omega arith)
count_at f a (suc n) zero l = ap f (omega arith)
count_at f a (suc n) (suc k) l = count_at f (a + 1) n k (omega arith) ∙ ap f (omega arith)

-- ---- over a range

pub sum-zero : (n : ℕ) → sum (λ _. 0) n ≡ 0
unfolding sum
sum-zero zero = refl
sum-zero (suc n) = omega (arith, sum-zero n)

pub sum-add : (f g h : ℕ → ℕ) (n : ℕ) → ((u : ℕ) → u < n → f u + g u ≡ h u) → sum f n + sum g n ≡ sum h n
unfolding sum
sum-add f g h zero q = refl
sum-add f g h (suc n) q = let ih = sum-add f g h n (λ u l. q u (omega arith)) in (let p = q n (omega arith) in omega arith)

pub sum-le : (f g : ℕ → ℕ) (n : ℕ) → ((u : ℕ) → u < n → f u ≤ g u) → sum f n ≤ sum g n
unfolding sum
sum-le f g zero q = omega arith
sum-le f g (suc n) q = let ih = sum-le f g n (λ u l. q u (omega arith)) in (let p = q n (omega arith) in omega arith)

pub sum_same : (f g : ℕ → ℕ) (n : ℕ) → ((u : ℕ) → u < n → f u ≡ g u) → sum f n ≡ sum g n
unfolding sum
sum_same f g zero q = refl
sum_same f g (suc n) q = rw (sum_same f g n (λ u l. q u (omega arith)), q n (omega arith))

-- the first apart from the others
pub sum_first : (f : ℕ → ℕ) (n : ℕ) → sum f (suc n) ≡ f 0 + sum (λ k. f (suc k)) n
unfolding sum
sum_first f zero = omega arith
sum_first f (suc n) = let ih = sum_first f n in omega arith

-- a sum over a, a + 1, .. is one over the range
pub sum-count : (f : ℕ → ℕ) (a n : ℕ) → sum_of f (count_from a n) ≡ sum (λ k. f (a + k)) n
unfolding sum_of count_from sum
sum-count f a zero = refl
sum-count f a (suc n) =
    ap (λ (m : ℕ). f a + m) (sum-count f (a + 1) n ∙ sum_same (λ k. f (a + 1 + k)) (λ k. f (a + suc k)) n (λ k _. next k))
    ∙ sym (sum_first (λ k. f (a + k)) n ∙ ap (λ (m : ℕ). m + sum (λ k. f (a + suc k)) n) first)
  where
    next : (k : ℕ) → f (a + 1 + k) ≡ f (a + suc k)
    next k = ap f (omega arith)

    first : f (a + 0) ≡ f a
    first = ap f (omega arith)

-- ---- over a range of sums over a list

pub sum-most : {A : Type 0} (f g : A → ℕ) (xs : List A) → ((x : A) → f x ≤ g x) → sum_of f xs ≤ sum_of g xs
unfolding sum_of
sum-most f g [] h = omega arith
sum-most f g (x ∷ xs) h = omega (arith, h x, sum-most f g xs h)

pub sum-swap : {A : Type 0} (f : ℕ → A → ℕ) (n : ℕ) (xs : List A) → sum (λ k. sum_of (f k) xs) n ≡ sum_of (λ x. sum (λ k. f k x) n) xs
unfolding sum_of
sum-swap f n [] = sum-zero n
sum-swap f n (x ∷ xs) = sym (sum-add (λ k. f k x) (λ k. sum_of (f k) xs) (λ k. f k x + sum_of (f k) xs) n (λ k _. refl)) ∙ ap (λ (m : ℕ). sum (λ k. f k x) n + m) (sum-swap f n xs)

-- a sum of one thing, taken where a test holds that holds of one number at the most
pub sum-once : (p : ℕ → Bool) (v n : ℕ) → ((j k : ℕ) → p j ≡ true → p k ≡ true → j ≡ k) → sum (λ k. if p k then v else 0) n ≤ v
unfolding sum
sum-once p v zero h = omega arith
sum-once p v (suc n) h = by (p n) refl (sum-once p v n h)
  where
    nowhere : p n ≡ true → sum (λ k. if p k then v else 0) n ≡ 0
    nowhere e = sum_same (λ k. if p k then v else 0) (λ _. 0) n (λ k l. by-test (λ m. m ≡ 0) (p k) v 0 (λ t. absurd (let q = h k n t e in omega arith)) (λ _. refl)) ∙ sum-zero n

    by : (t : Bool) → p n ≡ t → sum (λ k. if p k then v else 0) n ≤ v → sum (λ k. if p k then v else 0) n + (if t then v else 0) ≤ v
    by true e ih = omega (arith, nowhere e)
    by false e ih = omega arith
