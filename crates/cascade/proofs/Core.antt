-- The cascade along a list of tiers is the best cut (optimal), and the only one (optimal-only); what its excesses leave standing at a tier is what
-- the walk has after it (stands_after), and no more than the limit (standing-within). Of the list, the proof knows this alone:
--   Ordered   the test `le` orders the tiers, and limits do not fall along it (specs/Cut)
--   Sorted    each tier of the list ranks above all before it
--   Lists     the list has every tier once
-- Each lemma is one induction along the list, with Rising, Prefix and Walk for what is known of the tiers that are still to come.
use mathlib.Core.Path.{◌≡◌, refl, ap, sym, ◌∙◌}
use mathlib.Core.Bool.{Bool, true, false}
use mathlib.Core.List.{List, [], ◌∷◌}
use Prim.Native.Nat.{ℕ, ◌+◌, ◌-◌, ◌≤◌, ◌<◌}
use native.Mathlib.Omega.{arith}
use native.Mathlib.Decide.{dec_lt}
use lib.Dec.{eqb, ltb}
use borrow.Author.Tests.{eq-eqb, ne_eqb, lt-ltb, le-ltb}
use Rattle.cascade.specs.Cascade.{next, standing, left, excess, standing_after}
use Rattle.cascade.specs.Cut.{Ordered, stands, taken, Feasible, Optimal}
use Rattle.std.specs.Prelude.{if◌then◌else◌}
use Rattle.words.specs.Words.{sum_of, sum, All}
use Rattle.words.specs.Sums.{all_map, all_both, sum-add}
use Rattle.cascade.proofs.Lists.{sum_of-zero}

-- s is within the first limit, and the limits do not fall
abbrev pub Rising : (ℕ → ℕ) → ℕ → List ℕ → Type 0
Rising L s [] = Unit {0}
Rising L s (k ∷ ks) = (s ≤ L k) × Rising L (L k) ks

-- P is s and the sum of f up to and with each tier of the list
abbrev pub Prefix : (ℕ → ℕ) → ℕ → List ℕ → (ℕ → ℕ) → Type 0
Prefix f s [] P = Unit {0}
Prefix f s (k ∷ ks) P = (P k ≡ s + f k) × Prefix f (s + f k) ks P

-- x is the cascade's excess at each tier of the list
abbrev pub Walk : (L e : ℕ → ℕ) → ℕ → List ℕ → (ℕ → ℕ) → Type 0
Walk L e s [] x = Unit {0}
Walk L e s (k ∷ ks) x = (x k ≡ e k - (L k - s)) × Walk L e (s + (e k - x k)) ks x

pub rising-less : (L : ℕ → ℕ) (ks : List ℕ) (s r : ℕ) → r ≤ s → Rising L s ks → Rising L r ks
rising-less L [] s r h w = tt
rising-less L (k ∷ ks) s r h w = (omega (arith, w.0), w.1)

-- one tier: what stands under the cascade is within the limit, and no feasible cut leaves more
module _ (l e x f s r p : ℕ) (sl : s ≤ l) (rs : r ≤ s) (wx : x ≡ e - (l - s)) (fe : f ≤ e) (pp : p ≡ r + f) where
  step-within : s + (e - x) ≤ l
  step-within = omega arith

  step-most : (0 < e → p ≤ l) → r + f ≤ s + (e - x)
  step-most fit = elim (dec_lt 0 e) [ yes h ↦ (let q = fit h in omega arith) | no h ↦ omega arith ]

-- along rising limits: x is the cascade's excess, f what another cut leaves of each tier and P what stands under it, Q what stands under x
module _ (L e x f P Q : ℕ → ℕ) (fe : (t : ℕ) → f t ≤ e t) where
  pub core :
      (ks : List ℕ) (s r : ℕ) → r ≤ s → Rising L s ks → Walk L e s ks x → Prefix (λ t. e t - x t) s ks Q → Prefix f r ks P → All (λ t. 0 < e t → P t ≤ L t) ks
      → All (λ t. (P t ≤ Q t) × (Q t ≤ L t)) ks × (r + sum_of f ks ≤ s + sum_of (λ t. e t - x t) ks)
  unfolding sum_of
  core [] s r h ri w q p fit = (tt, omega arith)
  core (k ∷ ks) s r h ri w q p fit =
      let within = step-within (L k) (e k) (x k) (f k) s r (P k) ri.0 h w.0 (fe k) p.0 in
      let most = step-most (L k) (e k) (x k) (f k) s r (P k) ri.0 h w.0 (fe k) p.0 fit.0 in
      let ih = core ks (s + (e k - x k)) (r + f k) most (rising-less L ks (L k) (s + (e k - x k)) within ri.1) w.1 q.1 p.1 fit.1 in
      (((omega (arith, p.0, q.0), omega (arith, q.0)), ih.0), omega (arith, ih.1))

-- two cuts within the exposures that leave the same standing at each tier of the group are the same there
module _ (e x y P Q : ℕ → ℕ) where
  abbrev Agree : ℕ → Type 0
  Agree t = 0 < e t → (P t ≡ Q t) × (x t ≤ e t) × (y t ≤ e t)

  one_kept : (k s : ℕ) → P k ≡ s + (e k - x k) → Q k ≡ s + (e k - y k) → Agree k → e k - y k ≡ e k - x k
  one_kept k s p q h = elim (dec_lt 0 (e k)) [ yes l ↦ omega (arith, (h l).0) | no l ↦ omega arith ]

  same-cuts : (ks : List ℕ) (s : ℕ) → Prefix (λ t. e t - x t) s ks P → Prefix (λ t. e t - y t) s ks Q → All Agree ks → All (λ t. 0 < e t → x t ≡ y t) ks
  same-cuts [] s p q h = tt
  same-cuts (k ∷ ks) s p q h =
      let kept = one_kept k s p.0 q.0 h.0 in
      (λ l. omega (arith, (h.0 l).1, (h.0 l).2), same-cuts ks (s + (e k - x k)) p.1 (rw kept at q.1) h.1)

-- each tier of the list ranks above all before it
abbrev pub Sorted : (ℕ → ℕ → Bool) → List ℕ → Type 0
Sorted le [] = Unit {0}
Sorted le (k ∷ ks) = All (λ u. le u k ≡ false) ks × Sorted le ks

-- the list has every tier below n once
pub record Lists (n : ℕ) (ks : List ℕ) : Type 1 where
  pub once : (g : ℕ → ℕ) → sum_of g ks ≡ sum g n
  pub each : (P : ℕ → Type 0) → All P ks → (t : ℕ) → t < n → P t
  pub only : All (λ t. t < n) ks

module _ (le : ℕ → ℕ → Bool) (L : ℕ → ℕ) (o : Ordered le L) where
  pub apart : (a b : ℕ) → le b a ≡ false → a ≡ b → ⊥
  apart a b h q = let z : true ≡ false = sym (o.self b) ∙ ap (λ (k : ℕ). le b k) (sym q) ∙ h in (let y : ◌≡◌ {A = ℕ} 0 1 = cc in omega arith)

  -- along a sorted list limits rise; a sum over the tiers at or below each one is a prefix sum; and `excess` is the walk's
  pub rising : (ks : List ℕ) (s : ℕ) → All (λ u. s ≤ L u) ks → Sorted le ks → Rising L s ks
  rising [] s h w = tt
  rising (k ∷ ks) s h w = (h.0, rising ks (L k) (all_map (λ u q. o.rises k u q) ks w.0) w.1)

  prefix : (f P : ℕ → ℕ) (ks : List ℕ) (s : ℕ) → Sorted le ks → All (λ t. P t ≡ s + sum_of (λ u. (if le u t then f u else 0)) ks) ks → Prefix f s ks P
  unfolding sum_of
  prefix f P [] s w h = tt
  prefix f P (k ∷ ks) s w h = (
    h.0 ∙ rw (o.self k, sum_of-zero (λ u. (if le u k then f u else 0)) ks (all_map (λ u q. rw q) ks w.0)) (omega arith),
    prefix f P ks (s + f k) w.1 (all_both later ks w.0 h.1),
  )
    where
      later : (t : ℕ) → le t k ≡ false → P t ≡ s + ((if le k t then f k else 0) + sum_of (λ u. (if le u t then f u else 0)) ks) → P t ≡ s + f k + sum_of (λ u. (if le u t then f u else 0)) ks
      later t q p = p ∙ rw (o.total k t q) (omega arith)

  walk : (e x : ℕ → ℕ) (ks : List ℕ) (s : ℕ) → Sorted le ks → All (λ t. x t ≡ e t - (L t - standing L e s ks t)) ks → Walk L e s ks x
  unfolding standing next
  walk e x [] s w h = tt
  walk e x (k ∷ ks) s w h =
      let here : x k ≡ e k - (L k - s) = h.0 ∙ rw (eq-eqb k k refl) in (
        here,
        walk e x ks (s + (e k - x k)) w.1 (all_both (later here) ks w.0 h.1),
      )
    where
      later :
          x k ≡ e k - (L k - s) → (t : ℕ) → le t k ≡ false → x t ≡ e t - (L t - (if eqb k t then s else standing L e (next L e s k) ks t)) → x t ≡ e t - (L t - standing L e (s + (e k - x k)) ks t)
      later here t q p = p ∙ rw (ne_eqb k t (apart k t q), here)

  -- what the cascade's excesses leave standing at a tier is what stands after it
  after : (e x P : ℕ → ℕ) (ks : List ℕ) (s : ℕ) → Sorted le ks → Walk L e s ks x → Prefix (λ t. e t - x t) s ks P → All (λ t. P t ≡ next L e (standing L e s ks t) t) ks
  unfolding standing next
  after e x P [] s w v p = tt
  after e x P (k ∷ ks) s w v p = (
    p.0 ∙ rw (eq-eqb k k refl, v.0),
    all_both (later v.0) ks w.0 (after e x P ks (s + (e k - x k)) w.1 v.1 p.1),
  )
    where
      later :
          x k ≡ e k - (L k - s) → (t : ℕ) → le t k ≡ false → P t ≡ next L e (standing L e (s + (e k - x k)) ks t) t → P t ≡ next L e (if eqb k t then s else standing L e (next L e s k) ks t) t
      later here t q p = p ∙ rw (ne_eqb k t (apart k t q), here)

-- what a cut takes and what it leaves add up to the exposure
taken-left : (e c : ℕ) → (0 < e → c ≤ e) → (if ltb 0 e then c else 0) + (e - c) ≡ e
taken-left e c h =
    elim (dec_lt 0 e) [ yes l ↦ rw (lt-ltb 0 e l) (let q = h l in omega arith) | no l ↦ rw (le-ltb 0 e (omega arith)) (omega arith) ]

taken-all : (n : ℕ) (e c : ℕ → ℕ) → ((t : ℕ) → t < n → 0 < e t → c t ≤ e t) → taken n e c + sum (λ u. e u - c u) n ≡ sum e n
unfolding taken
taken-all n e c h = sum-add (λ u. (if ltb 0 (e u) then c u else 0)) (λ u. e u - c u) e n (λ u l. taken-left (e u) (c u) (h u l))

zeros : (ks : List ℕ) → Prefix (λ _. 0) 0 ks (λ _. 0)
zeros [] = tt
zeros (k ∷ ks) = (refl, zeros ks)

-- the cascade along any sorted list of all tiers is the best cut
module _ (n : ℕ) (le : ℕ → ℕ → Bool) (L e : ℕ → ℕ) (ks : List ℕ) (o : Ordered le L) (w : Sorted le ks) (a : Lists n ks) where
  x : ℕ → ℕ
  x = excess L e ks

  pub stands-prefix : (c : ℕ → ℕ) → Prefix (λ u. e u - c u) 0 ks (stands n le e c)
  unfolding stands
  stands-prefix c = prefix le L o (λ u. e u - c u) (stands n le e c) ks 0 w (all_map {P = λ t. t < n} {Q = λ t. stands n le e c t ≡ 0 + sum_of (λ u. if le u t then e u - c u else 0) ks} (λ t _. rw (a.once (λ u. (if le u t then e u - c u else 0))) (omega arith)) ks a.only)

  x-walk : Walk L e 0 ks x
  unfolding x excess left
  x-walk = walk le L o e x ks 0 w (all_map (λ t _. refl) ks a.only)

  pub excess-walk : Walk L e 0 ks (excess L e ks)
  unfolding x
  excess-walk = x-walk

  pub all-rising : Rising L 0 ks
  all-rising = rising le L o ks 0 (all_map (λ t _. omega arith) ks a.only) w

  x-within : (t : ℕ) → x t ≤ e t
  unfolding x excess
  x-within t = omega arith

  against :
      (c : ℕ → ℕ) → Feasible n le L e c
      → All (λ t. (stands n le e c t ≤ stands n le e x t) × (stands n le e x t ≤ L t)) ks × (0 + sum_of (λ u. e u - c u) ks ≤ 0 + sum_of (λ u. e u - x u) ks)
  against c h =
      core L e x (λ u. e u - c u) (stands n le e c) (stands n le e x) (λ t. omega arith) ks 0 0 (omega arith) all-rising x-walk (stands-prefix x) (stands-prefix c)
      (all_map (λ t l. h.fits t l) ks a.only)

  x_fits : All (λ t. (0 ≤ stands n le e x t) × (stands n le e x t ≤ L t)) ks
  x_fits =
      (core L e x (λ _. 0) (λ _. 0) (stands n le e x) (λ t. omega arith) ks 0 0 (omega arith) all-rising x-walk (stands-prefix x) (zeros ks)
      (all_map (λ t l q. omega arith) ks a.only)).0

  pub optimal : Optimal n le L e (excess L e ks)
  unfolding x
  optimal =
      record {
        feasible = record { within = λ t l p. x-within t; fits = λ t l p. (a.each (λ t. (0 ≤ stands n le e x t) × (stands n le e x t ≤ L t)) x_fits t l).1 };
        most = λ c h t l p. (a.each (λ t. (stands n le e c t ≤ stands n le e x t) × (stands n le e x t ≤ L t)) (against c h).0 t l).0;
        least = λ c h. omega (arith, (against c h).1, a.once (λ u. e u - c u), a.once (λ u. e u - x u), taken-all n e c h.within, taken-all n e x (λ t l p. x-within t));
      }

  -- a best cut is the cascade's excess at every tier of the group
  pub optimal-only : (cut : ℕ → ℕ) → Optimal n le L e cut → (t : ℕ) → t < n → 0 < e t → cut t ≡ excess L e ks t
  unfolding x
  optimal-only cut o =
      a.each (λ t. 0 < e t → cut t ≡ x t)
      (same-cuts e cut x (stands n le e cut) (stands n le e x) ks 0 (stands-prefix cut) (stands-prefix x) (all_map agree ks a.only))
    where
      agree : (t : ℕ) → t < n → 0 < e t → (stands n le e cut t ≡ stands n le e x t) × (cut t ≤ e t) × (x t ≤ e t)
      agree t l p = (omega (arith, o.most x optimal.feasible t l p, optimal.most cut o.feasible t l p), o.feasible.within t l p, x-within t)

  pub stands_after : (t : ℕ) → t < n → stands n le e (excess L e ks) t ≡ standing_after L e ks t
  unfolding x standing_after
  stands_after = a.each (λ t. stands n le e x t ≡ next L e (standing L e 0 ks t) t) (after le L o e x (stands n le e x) ks 0 w x-walk (stands-prefix x))

  -- so a tier's left and what stands before it add up to its limit
  pub standing-within : (t : ℕ) → t < n → standing L e 0 ks t ≤ L t
  unfolding x standing_after next
  standing-within t l = omega (arith, stands_after t l, (a.each (λ t. (0 ≤ stands n le e x t) × (stands n le e x t ≤ L t)) x_fits t l).1)
