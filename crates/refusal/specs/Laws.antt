-- Laws of the chain of checks: then-first, then-rest, unless-fine, each-good say what a chain that found nothing says of its links; then_err, then_ok: a chain by its first check; first-same: tests that agree find the same.
use Rattle.std.specs.Prelude.{Bool, true, false, ◌≡◌, refl, ℕ, zero, suc, ◌+◌, ◌≤◌, ◌<◌, eqb, Ok, Err}
use Rattle.std.proofs.Common.{arith, eqb-true}
use Rattle.std.proofs.lemmas.Bool.{eqb-false}
use Rattle.refusal.specs.declared.Refusal.{Refusal}
use Rattle.refusal.specs.Chain.{refuse◌unless◌, ◌and_then◌, first_bad, Checked}

-- a refusal is not nothing
pub bad-fine : {P : Type 0} {why : Refusal} → ◌≡◌ {A = Checked} (Err why) (Ok tt) → P
bad-fine e = absurd (let z : ◌≡◌ {A = ℕ} 0 1 = cc in omega arith)

pub then-first : (a r : Checked) → (a and_then r) ≡ Ok tt → a ≡ Ok tt
then-first (Ok _) r e = refl
then-first (Err why) r e = bad-fine e

pub then-rest : (a r : Checked) → (a and_then r) ≡ Ok tt → r ≡ Ok tt
then-rest (Ok _) r e = e
then-rest (Err why) r e = bad-fine e

pub unless-fine : (why : Refusal) (t : Bool) → (refuse why unless t) ≡ Ok tt → t ≡ true
unless-fine why true e = refl
unless-fine why false e = bad-fine e

-- where no record is bad, each one is good
pub each-good : (why : ℕ → Refusal) (good : ℕ → Bool) (more p : ℕ) → first_bad why good p more ≡ Ok tt → (q : ℕ) → p ≤ q → q < p + more → good q ≡ true
unfolding first_bad
each-good why good zero p e q l h = absurd (omega arith)
each-good why good (suc more) p e q l h = by (eqb q p) refl (each-good why good more (p + 1) (then-rest (refuse why p unless good p) (first_bad why good (p + 1) more) e) q)
  where
    by : (t : Bool) → eqb q p ≡ t → (p + 1 ≤ q → q < p + 1 + more → good q ≡ true) → good q ≡ true
    by true s r = rw (eqb-true q p s) (unless-fine (why p) (good p) (then-first (refuse why p unless good p) (first_bad why good (p + 1) more) e))
    by false s r = r (omega (arith, eqb-false q p s)) (omega arith)

-- two tests that agree on the records find the same first bad one
pub first-same : (why : ℕ → Refusal) (f g : ℕ → Bool) (more p : ℕ) → ((q : ℕ) → p ≤ q → q < p + more → f q ≡ g q) → first_bad why f p more ≡ first_bad why g p more
unfolding first_bad
first-same why f g zero p h = refl
first-same why f g (suc more) p h = rw (h p (omega arith) (omega arith), first-same why f g more (p + 1) (λ q l k. h q (omega arith) (omega arith)))

-- a chain whose first check refuses, and one whose first check finds nothing
pub then_err : (a r : Checked) (why : Refusal) → a ≡ Err why → (a and_then r) ≡ Err why
then_err a r why e = rw e refl

pub then_ok : (a r : Checked) → a ≡ Ok tt → (a and_then r) ≡ r
then_ok a r e = rw e refl
