-- The cascade along a list of tiers whose limits do not fall, with an amount more in one of them.
--   end          what stands after the list, where s stands before it
--   rest         what of d gets through the list from tier t on: the least of d and of what each tier from t on has left over
--   rest-within rest-cap   at most d; of a lesser d
--   further      d more before the list is so much more behind it
--   grown        a more in tier t of the list is so much more behind it
--   left-over    what stands behind the list are the exposures less the excesses
use mathlib.Core.Bool.{Bool, true, false, ◌||◌}
use mathlib.Core.List.{List, [], ◌∷◌}
use mathlib.Core.Path.{◌≡◌, refl, sym, ◌∙◌}
use Prim.Native.Nat.{ℕ, ◌+◌, ◌-◌, ◌≤◌, min}
use native.Mathlib.Omega.{arith}
use borrow.Author.Tests.{eq-eqb, eqb-true, eqb-false, ne_eqb}
use lib.Dec.{eqb}
use Rattle.std.specs.Prelude.{if◌then◌else◌}
use Rattle.words.specs.Words.{◌=?◌, sum_of}
use Rattle.cascade.specs.Cascade.{next}
use Rattle.cascade.proofs.Core.{Rising, Walk, rising-less}
use Rattle.headroom.specs.Headroom.{plus}

unfoldable pub end : (ℕ → ℕ) → (ℕ → ℕ) → ℕ → List ℕ → ℕ
end L e s [] = s
end L e s (k ∷ ks) = end L e (next L e s k) ks

-- `met` says whether t came before
unfoldable pub rest : (ℕ → ℕ) → (ℕ → ℕ) → ℕ → Bool → ℕ → List ℕ → ℕ → ℕ
rest L e t met s [] d = d
rest L e t met s (k ∷ ks) d =
    let m = met || k =? t in
    rest L e t m (next L e s k) ks (if m then min d (L k - next L e s k) else d)

-- how often t is in a list
abbrev pub counted : ℕ → List ℕ → ℕ
counted t ks = sum_of (λ u. if u =? t then 1 else 0) ks

-- ---- one tier

-- what stands after a tier: all that would, or its limit
pub next-is : (L e : ℕ → ℕ) (k s : ℕ) → s ≤ L k → next L e s k ≡ min (s + e k) (L k)
unfolding next
next-is L e k s h = omega arith

-- d more to stand: so much more of it does
more-stands : (p d l : ℕ) → min (p + d) l ≡ min p l + min d (l - min p l)
more-stands p d l = omega arith

module _ (L e : ℕ → ℕ) (k s d : ℕ) (h : s + d ≤ L k) where
  -- before the tier
  more-before : next L e (s + d) k ≡ next L e s k + min d (L k - next L e s k)
  more-before =
      let p : s + d + e k ≡ s + e k + d = omega arith in
      rw (next-is L e k (s + d) h, next-is L e k s (omega arith), p) (more-stands (s + e k) d (L k))

  more-fits : next L e s k + min d (L k - next L e s k) ≤ L k
  more-fits = omega (arith, next-is L e k s (omega arith))

module _ (L e : ℕ → ℕ) (t a k s : ℕ) (h : s ≤ L k) where
  -- in the tier
  more-in : t =? k ≡ true → next L (plus e t a) s k ≡ next L e s k + min a (L k - next L e s k)
  more-in q =
      let p : s + (e k + a) ≡ s + e k + a = omega arith in
      rw (next-is L (plus e t a) k s h, q, next-is L e k s h, p) (more-stands (s + e k) a (L k))

-- in another tier
more-else : (L e : ℕ → ℕ) (t a k s : ℕ) → t =? k ≡ false → next L (plus e t a) s k ≡ next L e s k
unfolding next
more-else L e t a k s q = let p : e k + 0 ≡ e k = omega arith in rw (q, p)

-- ---- along the list

module _ (L e : ℕ → ℕ) (t : ℕ) where
  pub rest-within : (ks : List ℕ) (met : Bool) (s d : ℕ) → rest L e t met s ks d ≤ d
  unfolding rest
  rest-within [] met s d = omega arith
  rest-within (k ∷ ks) met s d = let m = met || k =? t in by m (rest-within ks m (next L e s k) (if m then min d (L k - next L e s k) else d))
    where
      by : (m : Bool) {r : ℕ} → r ≤ (if m then min d (L k - next L e s k) else d) → r ≤ d
      by true h = omega arith
      by false h = h

  pub rest-cap : (ks : List ℕ) (met : Bool) (s d m : ℕ) → d ≤ m → rest L e t met s ks d ≡ min d (rest L e t met s ks m)
  unfolding rest
  rest-cap [] met s d m h = omega arith
  rest-cap (k ∷ ks) met s d m h = by (met || k =? t) (λ b d₁ m₁ h₁. rest-cap ks b (next L e s k) d₁ m₁ h₁)
    where
      by : (b : Bool) → ((b : Bool) (d₁ m₁ : ℕ) → d₁ ≤ m₁ → rest L e t b (next L e s k) ks d₁ ≡ min d₁ (rest L e t b (next L e s k) ks m₁))
          → rest L e t b (next L e s k) ks (if b then min d (L k - next L e s k) else d) ≡ min d (rest L e t b (next L e s k) ks (if b then min m (L k - next L e s k) else m))
      by true ih =
          let f = L k - next L e s k in
          ih true (min d f) (min m f) (omega arith) ∙ omega (arith, rest-within ks true (next L e s k) (min m f))
      by false ih = ih false d m h

  pub further : (ks : List ℕ) (s d : ℕ) → Rising L (s + d) ks → end L e (s + d) ks ≡ end L e s ks + rest L e t true s ks d
  unfolding end rest
  further [] s d r = refl
  further (k ∷ ks) s d r =
      let d₁ = min d (L k - next L e s k) in
      rw (more-before L e k s d r.0) (further ks (next L e s k) d₁ (rising-less L ks (L k) (next L e s k + d₁) (more-fits L e k s d r.0) r.1))

  module _ (a : ℕ) where
    -- where t is not in the list
    pub end-else : (ks : List ℕ) (s : ℕ) → counted t ks ≡ 0 → end L (plus e t a) s ks ≡ end L e s ks
    unfolding end sum_of
    end-else [] s c = refl
    end-else (k ∷ ks) s c = by (eqb k t) refl c (end-else ks (next L e s k))
      where
        by : (b : Bool) → eqb k t ≡ b → (if b then 1 else 0) + counted t ks ≡ 0
            → (counted t ks ≡ 0 → end L (plus e t a) (next L e s k) ks ≡ end L e (next L e s k) ks)
            → end L (plus e t a) (next L (plus e t a) s k) ks ≡ end L e (next L e s k) ks
        by true q c ih = absurd (omega arith)
        by false q c ih = rw (more-else L e t a k s (ne_eqb t k (λ z. eqb-false k t q (sym z)))) (ih (omega arith))

    pub grown : (ks : List ℕ) (s : ℕ) → Rising L s ks → counted t ks ≡ 1 → end L (plus e t a) s ks ≡ end L e s ks + rest L e t false s ks a
    unfolding end rest sum_of
    grown [] s r c = absurd (omega arith)
    grown (k ∷ ks) s r c = by (eqb k t) refl c (grown ks (next L e s k))
      where
        by : (b : Bool) → eqb k t ≡ b → (if b then 1 else 0) + counted t ks ≡ 1
            → (Rising L (next L e s k) ks → counted t ks ≡ 1 → end L (plus e t a) (next L e s k) ks ≡ end L e (next L e s k) ks + rest L e t false (next L e s k) ks a)
            → end L (plus e t a) (next L (plus e t a) s k) ks ≡ end L e (next L e s k) ks + rest L e t b (next L e s k) ks (if b then min a (L k - next L e s k) else a)
        by true q c ih =
            let d = min a (L k - next L e s k) in
            let fits : next L e s k + d ≤ L k = omega (arith, next-is L e k s r.0) in
            rw (more-in L e t a k s r.0 (eq-eqb t k (sym (eqb-true k t q))))
            (end-else ks (next L e s k + d) (omega arith) ∙ further ks (next L e s k) d (rising-less L ks (L k) (next L e s k + d) fits r.1))
        by false q c ih =
            let fits : next L e s k ≤ L k = omega (arith, next-is L e k s r.0) in
            rw (more-else L e t a k s (ne_eqb t k (λ z. eqb-false k t q (sym z)))) (ih (rising-less L ks (L k) (next L e s k) fits r.1) (omega arith))

-- x are the excesses along the list
pub left_over : (L e x : ℕ → ℕ) (ks : List ℕ) (s : ℕ) → Walk L e s ks x → s + sum_of (λ t. e t - x t) ks ≡ end L e s ks
unfolding end sum_of next
left_over L e x [] s w = omega arith
left_over L e x (k ∷ ks) s w =
    let p : s + (e k - x k) ≡ s + (e k - (e k - (L k - s))) = omega (arith, w.0) in
    omega (arith, rw p at (left_over L e x ks (s + (e k - x k)) w.1))
