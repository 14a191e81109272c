-- Exposures added up in the cells of a table, and sums over any list of exposures.
--   in_cell                     whether an exposure belongs to a cell
--   Adding                     a table part of the way: with what is still to come it has the sums of all
--   adding-start adding-step adding-room adding-end    laws of it
--   gate-le amount-le          what passes a test is no more than all
--   amount-none                where nothing passes
--   sum-join                   two sums together, the second only where a test fails
use Rattle.std.specs.Prelude.{Bool, true, false, List, [], ◌∷◌, ◌≡◌, refl, ℕ, ◌+◌, ◌≤◌, ◌<◌, eqb, length, get_or, set, if◌then◌else◌}
use Rattle.std.proofs.Common.{sym, ◌∙◌, arith, length-set, get_or-set_same, get_or-set_other}
use borrow.Author.Tests.{eq-eqb, eqb-true, eqb-false}
use Rattle.words.specs.Words.{◌=?◌, sum_of}
use Rattle.words.specs.Choice.{if-le}
use Rattle.words.specs.Sums.{sum-most}
use Rattle.exposure.specs.declared.Exposure.{Exposure}
use Rattle.exposure.specs.Sums.{amount_of}

abbrev pub in_cell : (Exposure → ℕ) → ℕ → Exposure → Bool
in_cell cell q x = cell x =? q

-- t₀ is the table before the first of them, t the table before those still to come
pub record Adding (cell : Exposure → ℕ) (t₀ : List ℕ) (all : List Exposure) (t : List ℕ) (more : List Exposure) : Type 0 where
  pub size : length t ≡ length t₀
  pub each : (q : ℕ) → get_or t q 0 + amount_of (in_cell cell q) more ≡ get_or t₀ q 0 + amount_of (in_cell cell q) all

pub adding-start : (cell : Exposure → ℕ) (t : List ℕ) (all : List Exposure) → Adding cell t all t all
adding-start cell t all = record { size = refl; each = λ q. refl }

module _ {cell : Exposure → ℕ} {t₀ t : List ℕ} {all more rest : List Exposure} {x : Exposure} (a : Adding cell t₀ all t more) (e : more ≡ x ∷ rest) where
  one : (q : ℕ) → cell x < length t₀ → get_or (set t (cell x) (get_or t (cell x) 0 + x.amount)) q 0 ≡ get_or t q 0 + (if cell x =? q then x.amount else 0)
  one q h = by (eqb (cell x) q) refl
    where
      by : (f : Bool) → eqb (cell x) q ≡ f → get_or (set t (cell x) (get_or t (cell x) 0 + x.amount)) q 0 ≡ get_or t q 0 + (if f then x.amount else 0)
      by true s = rw (← eqb-true (cell x) q s) (get_or-set_same t (cell x) (get_or t (cell x) 0 + x.amount) 0 (omega (arith, a.size)))
      by false s = get_or-set_other t (cell x) q (get_or t (cell x) 0 + x.amount) 0 (λ z. eqb-false (cell x) q s (sym z)) ∙ omega arith

  pub adding-step : {u : List ℕ} → cell x < length t₀ → u ≡ set t (cell x) (get_or t (cell x) 0 + x.amount) → Adding cell t₀ all u rest
  unfolding amount_of sum_of
  adding-step h eu = record {
    size = rw (eu, length-set) a.size;
    each = λ q. rw eu (omega (arith, one q h, rw e at (a.each q)));
  }

  pub adding-room : get_or t (cell x) 0 + x.amount ≤ get_or t₀ (cell x) 0 + amount_of (in_cell cell (cell x)) all
  unfolding amount_of sum_of
  adding-room = omega (arith, rw (e, eq-eqb (cell x) (cell x) refl) at (a.each (cell x)))

pub adding-end : {cell : Exposure → ℕ} {t₀ t : List ℕ} {all : List Exposure} → Adding cell t₀ all t [] → (q : ℕ) → get_or t q 0 ≡ get_or t₀ q 0 + amount_of (in_cell cell q) all
unfolding amount_of sum_of
adding-end a q = omega (arith, a.each q)

-- ---- sums over a list

pub gate-le : (test : Exposure → Bool) (x : Exposure) → (if test x then x.amount else 0) ≤ x.amount
gate-le test x = if-le (test x) (omega arith) (omega arith)

pub amount-le : (test : Exposure → Bool) (xs : List Exposure) → amount_of test xs ≤ sum_of (λ (x : Exposure). x.amount) xs
unfolding amount_of
amount-le test xs = sum-most _ _ xs (gate-le test)

pub amount-none : (test : Exposure → Bool) → ((x : Exposure) → test x ≡ false) → (xs : List Exposure) → amount_of test xs ≡ 0
unfolding amount_of sum_of
amount-none test h [] = refl
amount-none test h (x ∷ xs) = rw (h x) (omega (arith, amount-none test h xs))

pub sum-join : (t : Bool) (f g : Exposure → ℕ) (xs : List Exposure) → sum_of f xs + (if t then 0 else sum_of g xs) ≡ sum_of (λ x. f x + (if t then 0 else g x)) xs
unfolding sum_of
sum-join true f g [] = refl
sum-join false f g [] = refl
sum-join true f g (x ∷ xs) = omega (arith, sum-join true f g xs)
sum-join false f g (x ∷ xs) = omega (arith, sum-join false f g xs)
