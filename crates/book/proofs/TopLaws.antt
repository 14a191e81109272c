-- Laws of the topmost parent: top-step is its rule without a count of steps, top-le and top_pos say where it can stand.
use Rattle.std.specs.Prelude.{Bool, true, false, ◌≡◌, refl, ℕ, zero, suc, ◌-◌, ◌≤◌, ◌<◌, ltb, eqb, if◌then◌else◌}
use Rattle.std.proofs.Common.{ap, pos_of_ne-zero, arith, ltb-true, eq-eqb}
use Rattle.std.proofs.lemmas.Bool.{eqb-false}
use Rattle.words.specs.Choice.{by-test, if-le}
use Rattle.book.specs.declared.Counterparty.{Counterparty}
use Rattle.book.specs.Book.{parent_of, top_in, top_of}

pub parent-lower : (who : ℕ → Counterparty) (p : ℕ) → parent_of who p ≤ p - 1
unfolding parent_of
parent-lower who p = by (ltb (who p).parent p) refl
  where
    by : (t : Bool) → ltb (who p).parent p ≡ t → (if t then (who p).parent else 0) ≤ p - 1
    by true e = omega (arith, ltb-true (who p).parent p e)
    by false e = omega arith

root : (who : ℕ → Counterparty) (p : ℕ) → p ≤ 0 → eqb (parent_of who p) 0 ≡ true
root who p h = eq-eqb (parent_of who p) 0 (omega (arith, parent-lower who p))

agree : (f g : ℕ) (who : ℕ → Counterparty) (p : ℕ) → p ≤ f → p ≤ g → top_in f who p ≡ top_in g who p
unfolding top_in
agree zero zero who p h k = refl
agree zero (suc g) who p h k = rw (root who p h) refl
agree (suc f) zero who p h k = rw (root who p k) refl
agree (suc f) (suc g) who p h k =
    ap (λ (z : ℕ). if eqb (parent_of who p) 0 then p else z)
    (agree f g who (parent_of who p) (omega (arith, parent-lower who p)) (omega (arith, parent-lower who p)))

-- a place without parent is its own top, any other has its parent's
pub top-step : (who : ℕ → Counterparty) (p : ℕ) → top_of who p ≡ (if eqb (parent_of who p) 0 then p else top_of who (parent_of who p))
unfolding top_of top_in
top-step who zero = rw (root who 0 (omega arith)) refl
top-step who (suc n) =
    ap (λ (z : ℕ). if eqb (parent_of who (suc n)) 0 then suc n else z)
    (agree n (parent_of who (suc n)) who (parent_of who (suc n)) (omega (arith, parent-lower who (suc n))) (omega arith))

-- a topmost parent is no higher a place
top-in-le : (steps : ℕ) (who : ℕ → Counterparty) (p : ℕ) → top_in steps who p ≤ p
unfolding top_in
top-in-le zero who p = omega arith
top-in-le (suc n) who p =
    if-le (eqb (parent_of who p) 0) (omega arith) (omega (arith, top-in-le n who (parent_of who p), parent-lower who p))

pub top-le : (who : ℕ → Counterparty) (p : ℕ) → top_of who p ≤ p
unfolding top_of
top-le who p = top-in-le p who p

-- the topmost parent of a place is a place
top-in-pos : (steps : ℕ) (who : ℕ → Counterparty) (p : ℕ) → 0 < p → 0 < top_in steps who p
unfolding top_in
top-in-pos zero who p h = h
top-in-pos (suc n) who p h =
    by-test (λ (t : ℕ). 0 < t) (eqb (parent_of who p) 0) p (top_in n who (parent_of who p)) (λ e. h)
    (λ e. top-in-pos n who (parent_of who p) (pos_of_ne-zero (eqb-false (parent_of who p) 0 e)))

pub top_pos : (who : ℕ → Counterparty) (p : ℕ) → 0 < p → 0 < top_of who p
unfolding top_of
top_pos who p h = top-in-pos p who p h
