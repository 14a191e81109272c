-- Tables by place, entry 0 unused.
--   filled          a table with f of each of the places 1 to n at its place
--   filled_next     one place more
--   filled-length   as long as it was
--   filled_at       what stands at a place; filled-past: behind them what stood there
use Rattle.std.specs.Prelude.{Bool, true, false, List, ◌≡◌, refl, ℕ, zero, suc, ◌-◌, ◌≤◌, ◌<◌, eqb, length, get_or, set}
use Rattle.std.proofs.Common.{◌∙◌, arith, length-set, get_or-set_same, get_or-set_other, eqb-true}
use Rattle.std.proofs.lemmas.Bool.{eqb-false}

-- a table with f of each of the places 1 to n at its place, and else as it was
unfoldable pub filled : (ℕ → ℕ) → ℕ → List ℕ → List ℕ
filled f zero t = t
filled f (suc n) t = set (filled f n t) (suc n) (f (suc n))

pub filled_none : (f : ℕ → ℕ) (t : List ℕ) → t ≡ filled f 0 t
unfolding filled
filled_none f t = refl

pub filled_next : (f : ℕ → ℕ) (t₀ : List ℕ) {t : List ℕ} {p v : ℕ} → 0 < p → t ≡ filled f (p - 1) t₀ → v ≡ f p → set t p v ≡ filled f p t₀
unfolding filled
filled_next f t₀ {t} {p} {v} l e q = by (p - 1) (omega arith)
  where
    by : (n : ℕ) → p ≡ suc n → set t p v ≡ filled f p t₀
    by n d = let m : p - 1 ≡ n = omega arith in rw (e, q, m, d)

pub filled-length : (f : ℕ → ℕ) (n : ℕ) (t : List ℕ) → length (filled f n t) ≡ length t
unfolding filled
filled-length f zero t = refl
filled-length f (suc n) t = simp length-set (filled-length f n t)

pub filled_at : (f : ℕ → ℕ) (n : ℕ) (t : List ℕ) → n < length t → (p : ℕ) → 0 < p → p ≤ n → get_or (filled f n t) p 0 ≡ f p
unfolding filled
filled_at f zero t h p l g = absurd (omega arith)
filled_at f (suc n) t h p l g = by (eqb p (suc n)) refl (filled_at f n t (omega arith) p l)
  where
    by : (s : Bool) → eqb p (suc n) ≡ s → (p ≤ n → get_or (filled f n t) p 0 ≡ f p) → get_or (set (filled f n t) (suc n) (f (suc n))) p 0 ≡ f p
    by true z ih = rw (eqb-true p (suc n) z) (get_or-set_same (filled f n t) (suc n) (f (suc n)) 0 (omega (arith, filled-length f n t)))
    by false z ih = let ne = eqb-false p (suc n) z in get_or-set_other (filled f n t) (suc n) p (f (suc n)) 0 ne ∙ ih (omega arith)

-- entry 0 and what stands behind place n stay
pub filled-past : (f : ℕ → ℕ) (n : ℕ) (t : List ℕ) (p : ℕ) → (0 < p → n < p) → get_or (filled f n t) p 0 ≡ get_or t p 0
unfolding filled
filled-past f zero t p h = refl
filled-past f (suc n) t p h =
    get_or-set_other (filled f n t) (suc n) p (f (suc n)) 0 (λ e. omega (arith, h (omega arith))) ∙ filled-past f n t p (λ l. omega (arith, h l))
