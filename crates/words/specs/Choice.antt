-- Laws of tests and of a choice: by-test, never, both, each-true (of tests that are `joined`), not-true, not-false, if-le.
use Rattle.std.specs.Prelude.{Bool, true, false, not, ◌&&◌, List, [], ◌∷◌, ◌≡◌, refl, ℕ, ◌≤◌, if◌then◌else◌}
use Rattle.std.proofs.Common.{sym, ap, arith}
use Rattle.words.specs.Words.{All}

-- what holds of both ways of a choice, each where its test says so, holds of the choice
pub by-test : {A : Type 0} (P : A → Type 0) (t : Bool) (a b : A) → (t ≡ true → P a) → (t ≡ false → P b) → P (if t then a else b)
by-test P true a b f g = f refl
by-test P false a b f g = g refl

-- a false test that is true
pub never : {P : Type 0} → false ≡ true → P
never e = absurd (let z : ◌≡◌ {A = ℕ} 0 1 = ap (λ (t : Bool). if t then 1 else 0) e in omega arith)

-- two tests that hold together
pub both : (p q : Bool) → (p && q) ≡ true → (p ≡ true) × (q ≡ true)
both true q e = (refl, e)
both false q e = never e

-- tests joined by `&&`, from the left
abbrev pub joined : Bool → List Bool → Bool
joined t [] = t
joined t (u ∷ us) = joined (t && u) us

-- tests that hold together, each by itself
pub each-true : (t : Bool) (us : List Bool) → joined t us ≡ true → All (λ u. u ≡ true) (t ∷ us)
each-true t [] e = (e, tt)
each-true t (u ∷ us) e = let h = each-true (t && u) us e in ((both t u h.0).0, ((both t u h.0).1, h.1))

-- a test that is denied
pub not-true : (t : Bool) → not t ≡ true → t ≡ false
not-true true e = never e
not-true false e = refl

pub not-false : (t : Bool) → not t ≡ false → t ≡ true
not-false true e = refl
not-false false e = never (sym e)

-- a choice between two that are at most n
pub if-le : (t : Bool) {a b n : ℕ} → a ≤ n → b ≤ n → (if t then a else b) ≤ n
if-le true h k = h
if-le false h k = k
