-- Numbers among a range, in order: what each number of the range gives, where the others give nothing; and sums.
--   each-heads       of the places of a fund, the top places alone
use mathlib.Core.Path.{◌≡◌, refl, ap, sym, ◌∙◌}
use mathlib.Core.List.{List, [], ◌++◌}
use Prim.Native.Nat.{ℕ, zero, suc, ◌+◌, ◌≤◌, ◌<◌}
use native.Mathlib.Omega.{arith}
use native.Mathlib.Decide.{dec_lt}
use lib.ListN.{get_or}
use Rattle.words.specs.Words.{each_of, count_from}
use Rattle.lines.specs.Table.{Heads}

module _ (h : ℕ → ℕ) where
  -- none of h k .. h (k + m − 1) is g
  abbrev Free : ℕ → ℕ → ℕ → Type 0
  Free k m g = (j : ℕ) → k ≤ j → j < k + m → h j ≡ g → ⊥

  -- they are among a .. a + n − 1, each above the one before
  record Among (a n k m : ℕ) : Type 0 where
    inside : (j : ℕ) → k ≤ j → j < k + m → (a ≤ h j) × (h j < a + n)
    rise : (i j : ℕ) → k ≤ i → i < j → j < k + m → h i < h j

  -- a is none of them
  skip : (a n k m : ℕ) → Among a (suc n) k m → Free k m a → Among (a + 1) n k m
  skip a n k m w free = record { inside = λ j p q. let i = w.inside j p q in (let d = free j p q in omega arith, omega (arith, i.1)); rise = w.rise }

  -- a is the first of them
  pass : (a n k m : ℕ) → Among a (suc n) k (suc m) → h k ≡ a → Among (a + 1) n (k + 1) m
  pass a n k m w e =
      record {
        inside = λ j p q. (omega (arith, w.rise k j (omega arith) (omega arith) (omega arith)), omega (arith, (w.inside j (omega arith) (omega arith)).1));
        rise = λ i j p l q. w.rise i j (omega arith) l (omega arith);
      }

  -- one of the two
  module _ (a n k m : ℕ) (w : Among a (suc n) k (suc m)) where
    free : a < h k → Free k (suc m) a
    free l j p q e = elim (dec_lt k j) [ yes d ↦ omega (arith, w.rise k j (omega arith) d q) | no d ↦ (let y : j ≡ k = omega arith in let v : h j ≡ h k = ap h y in omega arith) ]

    first : (a < h k → ⊥) → h k ≡ a
    first l = omega (arith, (w.inside k (omega arith) (omega arith)).0)

  nowhere : {P : Type 0} (a k m : ℕ) → Among a 0 k (suc m) → P
  nowhere a k m w = absurd (let i = w.inside k (omega arith) (omega arith) in omega (arith, i.0, i.1))

  module _ {A : Type 0} (f : ℕ → List A) where
    abbrev None : (a n k m : ℕ) → Type 0
    None a n k m = (g : ℕ) → a ≤ g → g < a + n → Free k m g → f g ≡ []

    each-among : (n a m k : ℕ) → Among a n k m → None a n k m → each_of f (count_from a n) ≡ each_of (λ j. f (h j)) (count_from k m)
    unfolding each_of count_from
    each-among zero a zero k w none = refl
    each-among zero a (suc m) k w none = nowhere a k m w
    each-among (suc n) a zero k w none =
        let d : Free k 0 a = λ j p q _. omega arith in
        rw (none a (omega arith) (omega arith) d) (each-among n (a + 1) zero k (skip a n k zero w d) (λ g p q. none g (omega arith) (omega arith)))
    each-among (suc n) a (suc m) k w none =
        elim (dec_lt a (h k)) [
          | yes l ↦ rw (none a (omega arith) (omega arith) (free a n k m w l)) (each-among n (a + 1) (suc m) k (skip a n k (suc m) w (free a n k m w l)) (λ g p q. none g (omega arith) (omega arith)))
          | no l ↦ ap (λ (g : ℕ). f g ++ each_of f (count_from (a + 1) n)) (sym (first a n k m w l)) ∙ ap (λ (xs : List A). f (h k) ++ xs) (each-among n (a + 1) m (k + 1) (pass a n k m w (first a n k m w l)) (later (first a n k m w l)))
        ]
      where
        later : h k ≡ a → None (a + 1) n (k + 1) m
        later e g p q d =
            none g (omega arith) (omega arith)
            (λ j r s z. elim (dec_lt k j) [ yes l ↦ d j (omega arith) (omega arith) z | no l ↦ (let y : j ≡ k = omega arith in let v : h j ≡ h k = ap h y in omega arith) ])

module _ {heads : List ℕ} {places groups : ℕ} (H : Heads heads places groups) where
  abbrev top : ℕ → ℕ
  top k = get_or heads k 0

  -- g is no top place
  abbrev pub NoHead : ℕ → Type 0
  NoHead g = (k : ℕ) → k < groups → top k ≡ g → ⊥

  among : Among top 1 places 0 groups
  among = record { inside = λ j _ q. (H.first j (omega arith), omega (arith, H.last j (omega arith))); rise = λ i j _ l q. H.rise i j l (omega arith) }

  pub each-heads : {A : Type 0} (f : ℕ → List A) → ((g : ℕ) → NoHead g → f g ≡ []) → each_of f (count_from 1 places) ≡ each_of (λ k. f (top k)) (count_from 0 groups)
  each-heads f none = each-among top f places 1 groups 0 among (λ g _ _ d. none g (λ k l. d k (omega arith) (omega arith)))
