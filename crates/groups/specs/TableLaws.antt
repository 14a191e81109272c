-- Laws of the table of topmost parents.
--   parent-stored                   the parent as stored
--   top-root, top_up                a place's topmost parent is its own place, or its parent's
--   kept-root, kept-known, kept_new   what is kept on the way up, step by step
--   kept-size, kept-other, kept-partial   a table as long as it was, the same from the place on, and still one of topmost parents
use Rattle.std.specs.Prelude.{Bool, true, false, ◌≡◌, length, get_or, if◌then◌else◌}
use Rattle.std.proofs.Math.Path.{refl, ap}
use Rattle.std.proofs.Common.{sym, ◌∙◌, pos_of_ne-zero, arith, length-set, get_or-set_same, get_or-set_other, eqb-true, eq-eqb, ne_eqb, lt-ltb}
use mathlib.Core.List.{List}
use Prim.Native.Nat.{ℕ, zero, suc, ◌≤◌, ◌<◌}
use Rattle.std.proofs.Math.Dec.{eqb}
use Rattle.std.proofs.Math.ListN.{set}
use Rattle.std.proofs.lemmas.Bool.{eqb-false}
use Rattle.words.specs.Choice.{by-test}
use Rattle.book.specs.Records.{C, counterparty_at}
use Rattle.book.specs.Book.{parent_of, top_of}
use Rattle.book.proofs.TopLaws.{parent-lower, top-step}
use Rattle.groups.specs.Tops.{kept_in, kept, Partial}

-- the parent as stored, where it is a lower place
pub parent-stored : (b : List ℕ) (p : ℕ) → (counterparty_at b p).parent < p → (counterparty_at b p).parent ≡ parent_of (counterparty_at b) p
unfolding parent_of
parent-stored b p h = rw (lt-ltb (counterparty_at b p).parent p h)

module _ (b : List ℕ) (p q : ℕ) (e : q ≡ parent_of (counterparty_at b) p) where
  pub top-root : q ≡ 0 → p ≡ top_of (counterparty_at b) p
  top-root h = sym (top-step (counterparty_at b) p ∙ rw (eq-eqb (parent_of (counterparty_at b) p) 0 (sym e ∙ h)))

  pub top_up : (q ≡ 0 → ⊥) → top_of (counterparty_at b) q ≡ top_of (counterparty_at b) p
  top_up n = sym (top-step (counterparty_at b) p ∙ rw (ne_eqb (parent_of (counterparty_at b) p) 0 (λ z. n (e ∙ z)), ← e))

-- ---- what is kept

module _ (b t : List ℕ) where
  abbrev up : ℕ → ℕ
  up = parent_of (counterparty_at b)

  -- a place without parent keeps nothing
  root : (p : ℕ) → p ≤ 0 → eqb (up p) 0 ≡ true
  root p h = eq-eqb (up p) 0 (omega (arith, parent-lower (counterparty_at b) p))

  -- more steps than its number change nothing
  agree : (f g p : ℕ) → p ≤ f → p ≤ g → kept_in f b p t ≡ kept_in g b p t
  unfolding kept_in
  agree zero zero p h k = refl
  agree zero (suc g) p h k = rw (root p h) refl
  agree (suc f) zero p h k = rw (root p k) refl
  agree (suc f) (suc g) p h k =
      ap (λ (z : List ℕ). if eqb (up p) 0 then t else if eqb (get_or t (up p) 0) 0 then set z (up p) (top_of (counterparty_at b) (up p)) else t)
      (agree f g (up p) (omega (arith, parent-lower (counterparty_at b) p)) (omega (arith, parent-lower (counterparty_at b) p)))

  -- the rule without a count of steps
  kept_step : (p : ℕ) → kept b p t ≡ (if eqb (up p) 0 then t else if eqb (get_or t (up p) 0) 0 then set (kept b (up p) t) (up p) (top_of (counterparty_at b) (up p)) else t)
  unfolding kept kept_in
  kept_step zero = rw (root 0 (omega arith)) refl
  kept_step (suc n) =
      ap (λ (z : List ℕ). if eqb (up (suc n)) 0 then t else if eqb (get_or t (up (suc n)) 0) 0 then set z (up (suc n)) (top_of (counterparty_at b) (up (suc n))) else t)
      (agree n (up (suc n)) (up (suc n)) (omega (arith, parent-lower (counterparty_at b) (suc n))) (omega arith))

  module _ (p q : ℕ) (e : q ≡ parent_of (counterparty_at b) p) where
    pub kept-root : q ≡ 0 → t ≡ kept b p t
    kept-root h = sym (kept_step p ∙ rw (eq-eqb (up p) 0 (sym e ∙ h)))

    pub kept-known : (q ≡ 0 → ⊥) → (get_or t q 0 ≡ 0 → ⊥) → t ≡ kept b p t
    kept-known n k = sym (kept_step p ∙ rw (ne_eqb (up p) 0 (λ z. n (e ∙ z)), ← e, ne_eqb (get_or t q 0) 0 k))

    pub kept_new : (q ≡ 0 → ⊥) → get_or t q 0 ≡ 0 → set (kept b q t) q (top_of (counterparty_at b) q) ≡ kept b p t
    kept_new n z = sym (kept_step p ∙ rw (ne_eqb (up p) 0 (λ z. n (e ∙ z)), ← e, eq-eqb (get_or t q 0) 0 z))

-- as long as it was
pub kept-size : (b t : List ℕ) (steps p : ℕ) → length (kept_in steps b p t) ≡ length t
unfolding kept_in
kept-size b t zero p = refl
kept-size b t (suc n) p =
    let up = parent_of (counterparty_at b) p in
    by-test (λ (z : List ℕ). length z ≡ length t) (eqb up 0) t _ (λ _. refl)
    (λ _. by-test (λ (z : List ℕ). length z ≡ length t) (eqb (get_or t up 0) 0) (set (kept_in n b up t) up (top_of (counterparty_at b) up)) t (λ _. length-set (kept_in n b up t) up (top_of (counterparty_at b) up) ∙ kept-size b t n up) (λ _. refl))

-- from the place on, and at 0, what stood there
pub kept-other : (b t : List ℕ) (steps p q : ℕ) → (0 < q → p ≤ q) → get_or (kept_in steps b p t) q 0 ≡ get_or t q 0
unfolding kept_in
kept-other b t zero p q h = refl
kept-other b t (suc n) p q h =
    let up = parent_of (counterparty_at b) p in
    let low = parent-lower (counterparty_at b) p in
    by-test (λ (z : List ℕ). get_or z q 0 ≡ get_or t q 0) (eqb up 0) t _ (λ _. refl)
    (λ e. by-test (λ (z : List ℕ). get_or z q 0 ≡ get_or t q 0) (eqb (get_or t up 0) 0) (set (kept_in n b up t) up (top_of (counterparty_at b) up)) t
    (λ _. get_or-set_other (kept_in n b up t) up q (top_of (counterparty_at b) up) 0 (λ d. let some = pos_of_ne-zero (eqb-false up 0 e) in omega (arith, low, h (omega arith))) ∙ kept-other b t n up q (λ l. omega (arith, low, h l))) (λ _. refl))

-- one topmost parent more
pub partial-set : (b t : List ℕ) → Partial b t → (p v : ℕ) → p ≤ C b → v ≡ top_of (counterparty_at b) p → Partial b (set t p v)
partial-set b t k p v h e = record { size = omega (arith, length-set t p v, k.size); each = λ q l. by q l (eqb q p) refl }
  where
    by : (q : ℕ) → q ≤ C b → (s : Bool) → eqb q p ≡ s → 0 < get_or (set t p v) q 0 → get_or (set t p v) q 0 ≡ top_of (counterparty_at b) q
    by q l true z g = rw (eqb-true q p z) (get_or-set_same t p v 0 (omega (arith, k.size)) ∙ e)
    by q l false z g = let d = get_or-set_other t p q v 0 (eqb-false q p z) in d ∙ k.each q l (rw d at g)

-- those kept on the way up
pub kept-partial : (b t : List ℕ) → Partial b t → (steps p : ℕ) → p ≤ C b → Partial b (kept_in steps b p t)
unfolding kept_in
kept-partial b t k zero p h = k
kept-partial b t k (suc n) p h =
    let up = parent_of (counterparty_at b) p in
    let low : up ≤ C b = omega (arith, parent-lower (counterparty_at b) p) in
    by-test (λ (z : List ℕ). Partial b z) (eqb up 0) t _ (λ _. k)
    (λ _. by-test (λ (z : List ℕ). Partial b z) (eqb (get_or t up 0) 0) (set (kept_in n b up t) up (top_of (counterparty_at b) up)) t
    (λ _. partial-set b (kept_in n b up t) (kept-partial b t k n up low) up _ low refl) (λ _. k))
