-- A search for the first bad record, place by place, for any test: search-starts, search-on (a good one), search-finds (a bad one), search-ends.
use Rattle.std.specs.Prelude.{Bool, true, false, ◌≡◌, refl, eqb, List, Option, Some, None, MatchOption, Ok, Err}
use Rattle.std.proofs.Common.{eqb-true}
use Rattle.std.proofs.lemmas.Bool.{eqb-false}
use mathlib.Core.Path.{sym}
use denote.Param.Members.{Mut}
use denote.Ref.{Bor}
use Rattle.std.specs.declared.ops.Range.{Range}
use Rattle.std.specs.Bool.{⊤}
use Rattle.std.specs.Fn.{CalledAt}
use Rattle.std.specs.Iterator.{YieldsThen}
use Rattle.std.specs.List.{FoldsTo}
use Rattle.std.proofs.iter.Yields.{nat_range_steps}
use Rattle.std.proofs.lemmas.Iterator.{first_from_Range}
use Prim.Native.Nat.{ℕ, zero, suc, ◌+◌, ◌-◌, ◌≤◌, ◌<◌}
use native.Mathlib.Omega.{arith}
use Rattle.refusal.specs.declared.Refusal.{Refusal}
use Rattle.refusal.specs.Chain.{refuse◌unless◌, ◌and_then◌, first_bad, refuse_each}

-- no record before place p of n is bad
pub record Searching (why : ℕ → Refusal) (good : ℕ → Bool) (n p : ℕ) : Type 0 where
  pub started : 0 < p
  pub within : p ≤ n + 1
  pub rest : first_bad why good p (n + 1 - p) ≡ refuse_each why good n

pub search-starts : (why : ℕ → Refusal) (good : ℕ → Bool) (n : ℕ) → Searching why good n 1
search-starts why good n = record {
  started = omega arith;
  within = omega arith;
  rest = let d : n + 1 - 1 ≡ n = omega arith in rw d;
}

module _ {why : ℕ → Refusal} {good : ℕ → Bool} {n p : ℕ} (s : Searching why good n p) where
  pub search-on : p ≤ n → good p ≡ true → Searching why good n (p + 1)
  unfolding first_bad
  search-on h e =
      let d : n + 1 - p ≡ suc (n - p) = omega arith in
      let f : n + 1 - (p + 1) ≡ n - p = omega arith in
      record {
        started = omega arith;
        within = omega arith;
        rest = rw f (rw (d, e) at s.rest);
      }

  pub search-finds : p ≤ n → good p ≡ false → Err (why p) ≡ refuse_each why good n
  unfolding first_bad
  search-finds h e = let d : n + 1 - p ≡ suc (n - p) = omega arith in rw (d, e) at s.rest

  pub search-ends : n < p → Ok tt ≡ refuse_each why good n
  unfolding first_bad
  search-ends h = let d : n + 1 - p ≡ 0 = omega arith in rw d at s.rest

-- the first bad of `more` records from place p on stands at place i: none before it is bad
pub first_at : (why : ℕ → Refusal) (good : ℕ → Bool) (more p i : ℕ) → p ≤ i → i < p + more → good i ≡ false
    → ((k : ℕ) → p ≤ k → k < i → good k ≡ true) → first_bad why good p more ≡ Err (why i)
unfolding first_bad
first_at why good zero p i l h b g = absurd (omega arith)
first_at why good (suc more) p i l h b g =
    by (eqb i p) refl (λ m. first_at why good more (p + 1) i m (omega arith) b (λ k n j. g k (omega arith) j))
  where
    by : (t : Bool) → eqb i p ≡ t → (p + 1 ≤ i → first_bad why good (p + 1) more ≡ Err (why i))
        → ((refuse why p unless good p) and_then first_bad why good (p + 1) more) ≡ Err (why i)
    by true e r = let s = eqb-true i p e in rw (← s, b)
    by false e r = let n = eqb-false i p e in rw (g p (omega arith) (omega (arith, n))) (r (omega (arith, n)))

-- where none of them is bad, nothing is found
pub none_bad : (why : ℕ → Refusal) (good : ℕ → Bool) (more p : ℕ) → ((k : ℕ) → p ≤ k → k < p + more → good k ≡ true) → first_bad why good p more ≡ Ok tt
unfolding first_bad
none_bad why good zero p g = refl
none_bad why good (suc more) p g = rw (g p (omega arith) (omega arith)) (none_bad why good more (p + 1) (λ k m j. g k (omega arith) (omega arith)))

-- what a search by `find` over the places 1 to n says of the check of every record, where its closure is the test turned round
pub searched : {F : Type 0} {g : Mut F (Bor ℕ × Unit {0}) Bool} (why : ℕ → Refusal) (good : ℕ → Bool) (n : ℕ) (s u : Range ℕ) (f : F) (r : Option ℕ)
    → (xs : List ℕ) × (j : F) × YieldsThen nat_range_steps s xs r u × FoldsTo (λ p x q. CalledAt g p x false q) f xs j × MatchOption r ⊤ (λ x. (h : F) × CalledAt g j x true h)
    → ((x : ℕ) (q : F) → CalledAt g f x true q → good x ≡ false)
    → ((x : ℕ) (q : F) → CalledAt g f x false q → (q ≡ f) × (good x ≡ true))
    → s.start ≡ 1 → s.end ≡ n + 1
    → MatchOption r (Ok tt ≡ refuse_each why good n) (λ i. (i ≤ n) × (Err (why i) ≡ refuse_each why good n))
searched why good n s u f r ran bad fine one end =
    by r (rw (one, end) at (first_from_Range s u f r (λ p. good p ≡ false) (λ p. good p ≡ true) ran bad fine))
  where
    by : (r : Option ℕ)
        → MatchOption r ((k : ℕ) → 1 ≤ k → k < n + 1 → good k ≡ true) (λ i. (1 ≤ i) × (i < n + 1) × (good i ≡ false) × ((k : ℕ) → 1 ≤ k → k < i → good k ≡ true))
        → MatchOption r (Ok tt ≡ refuse_each why good n) (λ i. (i ≤ n) × (Err (why i) ≡ refuse_each why good n))
    by None h = sym (none_bad why good n 1 (λ k m j. h k m (omega arith)))
    by (Some i) h = (omega (arith, h.1), sym (first_at why good n 1 i h.0 (omega (arith, h.1)) h.2 h.3))
