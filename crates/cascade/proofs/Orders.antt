-- Two orders of the tiers along which the same limits do not fall. They differ on tiers of equal limits at most, and allow the same cuts
-- (feasible-either): the least cuts of a group take the same under both (excess-sum-either).
use mathlib.Core.Path.{◌≡◌, refl, ap, sym, ◌∙◌}
use mathlib.Core.Bool.{Bool, true, false, ◌&&◌}
use mathlib.Core.Logic.{⊎_elim}
use Prim.Native.Nat.{ℕ, zero, suc, ◌-◌, ◌≤◌, ◌<◌}
use native.Mathlib.Nat.{eq-or-lt_of_le, le_of_suc-le-suc}
use native.Mathlib.Omega.{arith}
use lib.Dec.{eqb, ltb}
use borrow.Author.Tests.{eqb-true, eqb-false, lt-ltb, ltb-true, ltb-false}
use Rattle.std.specs.Prelude.{if◌then◌else◌}
use Rattle.words.specs.Choice.{never, both}
use Rattle.words.specs.Sums.{sum-le}
use Rattle.cascade.specs.Cascade.{ranked, excess, excess_sum}
use Rattle.cascade.specs.Cut.{stands, Feasible, Ordered}
use Rattle.cascade.proofs.Fund.{ranked-optimal, excess-sum-taken}

module _ (le : ℕ → ℕ → Bool) (L : ℕ → ℕ) (o : Ordered le L) where
  between : (u m k : ℕ) → le u m ≡ true → le m k ≡ true → le u k ≡ true
  between u m k h g = by (le u k) refl (eqb m k) refl
    where
      by : (t : Bool) → le u k ≡ t → (s : Bool) → eqb m k ≡ s → le u k ≡ true
      by true e s q = e
      by false e true q = ap (le u) (sym (eqb-true m k q)) ∙ h
      by false e false q = never (sym (o.trans m k u (o.strict m k (eqb-false m k q) g) e) ∙ h)

  -- limits do not fall from a tier to one that it ranks at or below
  rises-to : (a b : ℕ) → le a b ≡ true → L a ≤ L b
  rises-to a b h = by (eqb a b) refl
    where
      by : (s : Bool) → eqb a b ≡ s → L a ≤ L b
      by true q = rw (eqb-true a b q) (omega arith)
      by false q = o.rises a b (o.strict a b (eqb-false a b q) h)

  module _ (n : ℕ) (test : ℕ → Bool) where
    -- a tier that passes the test, and that the tiers below k that pass it rank at or below
    record Highest (k : ℕ) : Type 0 where
      m : ℕ
      inside : m < n
      passes : test m ≡ true
      above : (u : ℕ) → u < k → test u ≡ true → le u m ≡ true

    highest : (t : ℕ) → t < n → test t ≡ true → (k : ℕ) → k ≤ n → Highest k
    highest t l h zero _ = record { m = t; inside = l; passes = h; above = λ u q _. absurd (omega arith) }
    highest t l h (suc k) g = step (highest t l h k (omega arith))
      where
        step : Highest k → Highest (suc k)
        step w = by (test k) refl (le k w.m) refl
          where
            -- of the tiers up to k, by k itself and by those below it
            each : (r : ℕ) → (test k ≡ true → le k r ≡ true) → ((u : ℕ) → u < k → test u ≡ true → le u r ≡ true) → (u : ℕ) → u < suc k → test u ≡ true → le u r ≡ true
            each r own below u q = ⊎_elim (λ e. rw e own) (below u) (eq-or-lt_of_le (le_of_suc-le-suc q))

            by : (s : Bool) → test k ≡ s → (p : Bool) → le k w.m ≡ p → Highest (suc k)
            by false e p f = record { m = w.m; inside = w.inside; passes = w.passes; above = each w.m (λ z. never (sym e ∙ z)) w.above }
            by true e true f = record { m = w.m; inside = w.inside; passes = w.passes; above = each w.m (λ _. f) w.above }
            by true e false f =
                record { m = k; inside = omega arith; passes = e; above = each k (λ _. o.self k) (λ u q z. between u w.m k (w.above u q z) (o.total w.m k f)) }

module _ (n : ℕ) (le le' : ℕ → ℕ → Bool) (L e : ℕ → ℕ) (o : Ordered le L) (o' : Ordered le' L) where
  -- what le' counts at tier t stands at the highest tier of the group among it under le
  module _ (cut : ℕ → ℕ) (f : Feasible n le L e cut) (t : ℕ) (l : t < n) (p : 0 < e t) where
    abbrev counted : ℕ → Bool
    counted u = le' u t && ltb 0 (e u)

    top : Highest le L o n counted n
    top = highest le L o n counted t l (rw (o'.self t) (lt-ltb 0 (e t) p)) n (omega arith)

    each : (u : ℕ) → u < n → (if le' u t then e u - cut u else 0) ≤ (if le u top.m then e u - cut u else 0)
    each u q = by (le' u t) refl (ltb 0 (e u)) refl
      where
        by : (s : Bool) → le' u t ≡ s → (z : Bool) → ltb 0 (e u) ≡ z → (if s then e u - cut u else 0) ≤ (if le u top.m then e u - cut u else 0)
        by false g z h = omega arith
        by true g false h = omega (arith, ltb-false 0 (e u) h)
        by true g true h = let in-it : counted u ≡ true = rw (g, h) refl in rw (top.above u q in-it) (omega arith)

    fits-either : stands n le' e cut t ≤ L t
    unfolding stands
    fits-either =
        let passed = both (le' top.m t) (ltb 0 (e top.m)) top.passes in
        omega (
          arith,
          sum-le (λ u. if le' u t then e u - cut u else 0) (λ u. if le u top.m then e u - cut u else 0) n each,
          f.fits top.m top.inside (ltb-true 0 (e top.m) passed.1),
          rises-to le' L o' top.m t passed.0,
        )

  pub feasible-either : (cut : ℕ → ℕ) → Feasible n le L e cut → Feasible n le' L e cut
  feasible-either cut f = record { within = f.within; fits = fits-either cut f }

  -- the cuts that are least under le' take no more than those under le
  taken-most : excess_sum n L e (ranked le' n) ≤ excess_sum n L e (ranked le n)
  taken-most =
      omega (
        arith,
        excess-sum-taken n L e (ranked le n),
        excess-sum-taken n L e (ranked le' n),
        (ranked-optimal n le' L e o').least (excess L e (ranked le n)) (feasible-either (excess L e (ranked le n)) (ranked-optimal n le L e o).feasible),
      )

pub excess-sum-either : (n : ℕ) (le le' : ℕ → ℕ → Bool) (L e : ℕ → ℕ) → Ordered le L → Ordered le' L → excess_sum n L e (ranked le n) ≡ excess_sum n L e (ranked le' n)
excess-sum-either n le le' L e o o' = omega (arith, taken-most n le le' L e o o', taken-most n le' le L e o' o)
