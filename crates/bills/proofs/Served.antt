-- In each group's tier the lines' excesses add up to the tier's excess (tier-excess). What holds of lines whatever their amounts holds of their excesses (all-excess);
-- lines without an amount change nothing (excess-none); equal amounts to be given give equal excesses (excess-same).
use mathlib.Core.Bool.{Bool, true, false}
use mathlib.Core.List.{List, [], ◌∷◌, ◌++◌}
use mathlib.Core.Path.{◌≡◌, refl, ap, ◌∙◌}
use Prim.Native.Nat.{ℕ, ◌+◌, ◌-◌, ◌≤◌}
use native.Mathlib.Omega.{arith}
use borrow.Author.Tests.{eqb-true}
use Rattle.std.specs.Prelude.{if◌then◌else◌}
use Rattle.words.specs.Words.{◌<?◌, ◌=?◌, sum_of, All}
use Rattle.words.specs.Choice.{both, if-le}
use Rattle.cascade.proofs.Fund.{excess-within}
use Rattle.figures.specs.Fund.{Fund}
use Rattle.figures.specs.Report.{ranking}
use Rattle.bills.specs.Lines.{ExposureLine, is_in, amount_in, tier_excess, stands_in, served, unserved, after, with_amount, excess_lines}
use Rattle.bills.specs.Bills.{amount_of_desk}

pub all-excess : (P : ExposureLine → Type 0) → ((x : ExposureLine) (a : ℕ) → P x → P (with_amount x a)) → (still : ℕ → ℕ → ℕ) (xs : List ExposureLine) → All P xs → All P (excess_lines still xs)
unfolding excess_lines
all-excess P f still [] h = tt
all-excess P f still (x ∷ xs) h = (f x (unserved still x) h.0, all-excess P f (after still x) xs h.1)

-- what the lines of one place are not given is what they have above what is to be given there
module _ (g t : ℕ) where
  unserved-sum : (still : ℕ → ℕ → ℕ) (xs : List ExposureLine) → amount_in g t (excess_lines still xs) ≡ amount_in g t xs - still g t
  unfolding amount_in excess_lines sum_of
  unserved-sum still [] = omega arith
  unserved-sum still (x ∷ xs) = by (is_in g t x) refl (unserved-sum (after still x) xs)
    where
      here : is_in g t x ≡ true → still x.group x.tier ≡ still g t
      here e = let b = both (x.group =? g) (x.tier =? t) e in rw (eqb-true x.group g b.0, eqb-true x.tier t b.1)

      by : (b : Bool) → is_in g t x ≡ b
          → amount_in g t (excess_lines (after still x) xs) ≡ amount_in g t xs - (if b then still g t - served still x else still g t)
          → (if b then unserved still x else 0) + amount_in g t (excess_lines (after still x) xs) ≡ (if b then x.amount else 0) + amount_in g t xs - still g t
      by true e ih = omega (arith, here e)
      by false e ih = omega arith

module _ (F : Fund) where
  excess-le : (g t : ℕ) → tier_excess F g t ≤ F.exposure g t
  unfolding tier_excess
  excess-le g t = if-le (t <? F.tiers) (excess-within F.limit (F.exposure g) (ranking F) t) (omega arith)

  -- where the lines of a group's tier add up to its exposure
  pub tier-excess : (xs : List ExposureLine) (g t : ℕ) → amount_in g t xs ≡ F.exposure g t → amount_in g t (excess_lines (stands_in F) xs) ≡ tier_excess F g t
  unfolding stands_in
  tier-excess xs g t e = unserved-sum g t (stands_in F) xs ∙ omega (arith, e, excess-le g t)

pub excess-same : (s r : ℕ → ℕ → ℕ) → ((g t : ℕ) → s g t ≡ r g t) → (xs : List ExposureLine) → excess_lines s xs ≡ excess_lines r xs
unfolding excess_lines
excess-same s r q [] = refl
excess-same s r q (x ∷ xs) = rw (q x.group x.tier, excess-same (after s x) (after r x) next xs)
  where
    next : (g t : ℕ) → after s x g t ≡ after r x g t
    next g t = rw (q g t, q x.group x.tier)

-- lines without an amount before others
pub excess-none : (d : ℕ) (zs xs : List ExposureLine) → All (λ z. z.amount ≡ 0) zs → (s : ℕ → ℕ → ℕ)
    → amount_of_desk d (excess_lines s (zs ++ xs)) ≡ amount_of_desk d (excess_lines s xs)
unfolding excess_lines amount_of_desk sum_of
excess-none d [] xs h s = refl
excess-none d (z ∷ zs) xs h s =
    let rest : amount_of_desk d (excess_lines (after s z) (zs ++ xs)) ≡ amount_of_desk d (excess_lines s xs) =
    excess-none d zs xs h.1 (after s z) ∙ ap (amount_of_desk d) (excess-same (after s z) s same xs) in
    omega (arith, nothing (z.desk =? d), rest)
  where
    nothing : (b : Bool) → (if b then unserved s z else 0) ≡ 0
    nothing true = omega (arith, h.0)
    nothing false = refl

    same : (g t : ℕ) → after s z g t ≡ s g t
    same g t = by (is_in g t z)
      where
        by : (b : Bool) → (if b then s g t - served s z else s g t) ≡ s g t
        by true = omega (arith, h.0)
        by false = refl
