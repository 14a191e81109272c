-- A group's own tiers, those of exposure above 0, along two orders that agree on them: they stand in the same list (those-agree), and what stands before
-- each of them is the same (standing-those).
use mathlib.Core.Bool.{Bool, true, false}
use mathlib.Core.List.{List, [], ◌∷◌}
use mathlib.Core.Path.{◌≡◌, refl, ap, sym, ◌∙◌}
use Prim.Native.Nat.{ℕ, zero, suc, ◌≤◌, ◌<◌}
use native.Mathlib.Omega.{arith}
use lib.Dec.{ltb}
use borrow.Author.Tests.{ne_eqb, ltb-false}
use Rattle.std.specs.Prelude.{if◌then◌else◌}
use Rattle.words.specs.Words.{◌<?◌, those, All}
use Rattle.words.specs.Choice.{by-test}
use Rattle.words.specs.Sums.{all_map}
use Rattle.cascade.specs.Cascade.{insert, ranked, next, standing}
use Rattle.cascade.specs.Cut.{Ordered}
use Rattle.cascade.proofs.Core.{Sorted}
use Rattle.cascade.proofs.Ranking.{ranked-only, ranked-sorted}

module _ (test : ℕ → Bool) where
  -- what holds of all tiers holds of those that pass, and these pass
  those-all : (P : ℕ → Type 0) (ks : List ℕ) → All P ks → All (λ u. P u × (test u ≡ true)) (those test ks)
  unfolding those
  those-all P [] h = tt
  those-all P (u ∷ us) h =
      let rest = those-all P us h.1 in
      by-test (All (λ v. P v × (test v ≡ true))) (test u) (u ∷ those test us) (those test us) (λ e. ((h.0, e), rest)) (λ _. rest)

  module _ (le : ℕ → ℕ → Bool) (L : ℕ → ℕ) (o : Ordered le L) where
    -- a tier that ranks below all of a list stands before it
    insert-first : (t : ℕ) (ks : List ℕ) → All (λ u. le u t ≡ false) ks → Sorted le ks → insert le t ks ≡ t ∷ ks
    unfolding insert
    insert-first t [] h w = refl
    insert-first t (u ∷ us) h w = rw (o.total t u h.0, insert-first u us w.0 w.1) refl

    sorted-those : (ks : List ℕ) → Sorted le ks → Sorted le (those test ks)
    unfolding those
    sorted-those [] w = tt
    sorted-those (u ∷ us) w =
        let rest = sorted-those us w.1 in
        by-test (Sorted le) (test u) (u ∷ those test us) (those test us) (λ _. (all_map (λ v h. h.0) (those test us) (those-all (λ v. le v u ≡ false) us w.0), rest)) (λ _. rest)

    -- a tier is put among those that pass, or left out, as among all
    those-insert : (t : ℕ) (ks : List ℕ) → Sorted le ks → All (λ u. t ≡ u → ⊥) ks → those test (insert le t ks) ≡ (if test t then insert le t (those test ks) else those test ks)
    unfolding insert those
    those-insert t [] w d = refl
    those-insert t (u ∷ us) w d = by (le t u) refl (test t) refl (test u) refl (those-insert t us w.1 d.1)
      where
        below : le t u ≡ true → All (λ m. le m t ≡ false) (u ∷ us)
        below e = let h = o.strict t u d.0 e in (h, all_map (λ m q. o.trans t u m h q) us w.0)

        first : le t u ≡ true → insert le t (those test (u ∷ us)) ≡ t ∷ those test (u ∷ us)
        first e = insert-first t (those test (u ∷ us)) (all_map (λ m h. h.0) (those test (u ∷ us)) (those-all (λ m. le m t ≡ false) (u ∷ us) (below e))) (sorted-those (u ∷ us) w)

        by : (p : Bool) → le t u ≡ p → (s : Bool) → test t ≡ s → (v : Bool) → test u ≡ v
            → those test (insert le t us) ≡ (if test t then insert le t (those test us) else those test us)
            → those test (insert le t (u ∷ us)) ≡ (if test t then insert le t (those test (u ∷ us)) else those test (u ∷ us))
        by true e true f v g ih = rw (f, first e, e, insert-first u us w.0 w.1, f) refl
        by true e false f v g ih = rw (f, e, insert-first u us w.0 w.1, f) refl
        by false e true f true g ih = rw (e, g, ih, f, e) refl
        by false e false f true g ih = rw (e, g, ih, f) refl
        by false e s f false g ih = rw (e, g, ih, f) refl

module _ (n : ℕ) (test : ℕ → Bool) (le le' : ℕ → ℕ → Bool) (q : (a b : ℕ) → a < n → b < n → test a ≡ true → test b ≡ true → le a b ≡ le' a b) where
  insert-agree : (x : ℕ) (ks : List ℕ) → x < n → test x ≡ true → All (λ u. (u < n) × (test u ≡ true)) ks → insert le x ks ≡ insert le' x ks
  unfolding insert
  insert-agree x [] l t h = refl
  insert-agree x (m ∷ ms) l t h =
      rw (q x m l h.0.0 t h.0.1, insert-agree m ms h.0.0 h.0.1 h.1, insert-agree x ms l t h.1)

  module _ (L : ℕ → ℕ) (o : Ordered le L) (o' : Ordered le' L) where
    pub those-agree : (m : ℕ) → m ≤ n → those test (ranked le m) ≡ those test (ranked le' m)
    unfolding ranked
    those-agree zero l = refl
    those-agree (suc m) l =
        those-insert test le L o m (ranked le m) (ranked-sorted le L o m) (apart le)
        ∙ by (test m) refl (those-agree m (omega arith))
        ∙ sym (those-insert test le' L o' m (ranked le' m) (ranked-sorted le' L o' m) (apart le'))
      where
        apart : (le'' : ℕ → ℕ → Bool) → All (λ u. m ≡ u → ⊥) (ranked le'' m)
        apart le'' = all_map (λ u h e. omega arith) (ranked le'' m) (ranked-only le'' m)

        inside : All (λ u. (u < n) × (test u ≡ true)) (those test (ranked le m))
        inside = those-all test (λ u. u < n) (ranked le m) (all_map (λ u h. omega arith) (ranked le m) (ranked-only le m))

        by : (t : Bool) → test m ≡ t → those test (ranked le m) ≡ those test (ranked le' m)
            → (if test m then insert le m (those test (ranked le m)) else those test (ranked le m)) ≡ (if test m then insert le' m (those test (ranked le' m)) else those test (ranked le' m))
        by true e ih = rw e (insert-agree m (those test (ranked le m)) (omega arith) e inside ∙ ap (insert le' m) ih)
        by false e ih = rw e ih

-- a tier without exposure adds nothing to what stands
pub standing-those : (L e : ℕ → ℕ) (ks : List ℕ) (s t : ℕ) → 0 < e t → standing L e s ks t ≡ standing L e s (those (λ u. 0 <? e u) ks) t
unfolding standing next those
standing-those L e [] s t l = refl
standing-those L e (k ∷ ks) s t l = by (ltb 0 (e k)) refl (λ r. standing-those L e ks r t l)
  where
    by : (p : Bool) → ltb 0 (e k) ≡ p → ((r : ℕ) → standing L e r ks t ≡ standing L e r (those (λ u. 0 <? e u) ks) t)
        → standing L e s (k ∷ ks) t ≡ standing L e s (those (λ u. 0 <? e u) (k ∷ ks)) t
    by true q ih = rw (q, ih (next L e s k)) refl
    by false q ih =
        let none : e k ≡ 0 = omega (arith, ltb-false 0 (e k) q) in
        let same : next L e s k ≡ s = omega arith in
        rw (q, ne_eqb k t (λ z. omega (arith, ap e z)), same) (ih s)
