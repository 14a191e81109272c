-- Laws of lists of tiers: what holds of each entry, sums over them, and a sum that counts one number.
use mathlib.Core.Path.{◌≡◌, refl}
use mathlib.Core.List.{List, [], ◌∷◌}
use Prim.Native.Nat.{ℕ, zero, suc, ◌≤◌, ◌<◌}
use native.Mathlib.Omega.{arith}
use native.Mathlib.Decide.{dec_lt}
use borrow.Author.Tests.{eq-eqb, ne_eqb}
use lib.ListN.{length, get_or}
use Rattle.std.specs.Prelude.{if◌then◌else◌}
use Rattle.words.specs.Words.{◌=?◌, sum_of, sum, All}

pub sum_of-zero : (f : ℕ → ℕ) (ks : List ℕ) → All (λ k. f k ≡ 0) ks → sum_of f ks ≡ 0
unfolding sum_of
sum_of-zero f [] h = refl
sum_of-zero f (k ∷ ks) h = let q = sum_of-zero f ks h.1 in omega arith

pub all-at : (P : ℕ → Type 0) (ks : List ℕ) → All P ks → (j : ℕ) → j < length ks → P (get_or ks j 0)
all-at P [] h j l = absurd (omega arith)
all-at P (k ∷ ks) h zero l = h.0
all-at P (k ∷ ks) h (suc j) l = all-at P ks h.1 j (omega arith)

-- t is counted once among 0 .. n - 1, and not at all where it is not among them
count_none : (t n : ℕ) → n ≤ t → sum (λ u. if u =? t then 1 else 0) n ≡ 0
unfolding sum
count_none t zero l = refl
count_none t (suc n) l = rw (count_none t n (omega arith), ne_eqb n t (λ q. omega arith))

pub count-one : (t n : ℕ) → t < n → sum (λ u. if u =? t then 1 else 0) n ≡ 1
unfolding sum
count-one t zero l = absurd (omega arith)
count-one t (suc n) l =
    elim (dec_lt t n) [ yes k ↦ rw (count-one t n k, ne_eqb n t (λ q. omega arith)) | no k ↦ rw (count_none t n (omega arith), eq-eqb n t (omega arith)) ]
