-- The closed form, for any order along which limits do not fall.
--   rest-is no-limit         it is what gets through along the ranking; `most` past the tiers
--   group-tiers              it is the same over the tier itself and the tiers of the group alone
--   added                    an amount more in a tier raises a group's excesses by what of it has no room
--   room_within room-least   at most `most`, and at most what each tier that ranks at or above has left over
--   room-same                it depends on the exposures in the tiers alone
use mathlib.Core.Bool.{Bool, true, false, ◌&&◌, ◌||◌}
use mathlib.Core.List.{List, [], ◌∷◌}
use mathlib.Core.Path.{◌≡◌, refl, sym, ap, ◌∙◌}
use Prim.Native.Nat.{ℕ, zero, suc, ◌+◌, ◌-◌, ◌≤◌, ◌<◌, min}
use native.Mathlib.Omega.{arith}
use native.Mathlib.Decide.{dec_lt}
use lib.Dec.{eqb}
use borrow.Author.Tests.{ne_eqb, eqb-true, eqb-false, lt-ltb, le-ltb, ltb-false}
use Rattle.std.specs.Prelude.{if◌then◌else◌}
use Rattle.words.specs.Words.{◌<?◌, ◌=?◌, sum_of, sum, All}
use Rattle.words.specs.Choice.{by-test, never}
use Rattle.words.specs.Sums.{sum-add, sum_same, all_map}
use Rattle.words.specs.Ranges.{sum-here}
use Rattle.cascade.specs.Cascade.{insert, ranked, next, excess, excess_sum}
use Rattle.cascade.specs.Cut.{stands, Ordered}
use Rattle.cascade.proofs.Core.{Sorted, Rising, Prefix, Walk, rising-less, stands-prefix, excess-walk, all-rising}
use Rattle.cascade.proofs.Ranking.{ranked-only, ranked-sorted, ranked-lists, ranking}
use Rattle.cascade.proofs.Fund.{excess-within}
use Rattle.figures.proofs.AgreeLaws.{excess-same}
use Rattle.headroom.specs.Headroom.{plus, least_of, over_at, room_in}
use Rattle.headroom.proofs.Along.{end, rest, counted, rest-cap, grown, left_over}

-- ---- the least over a list, in whatever order

unfoldable least_along : (ℕ → Bool) → (ℕ → ℕ) → List ℕ → ℕ → ℕ
least_along test f [] d = d
least_along test f (k ∷ ks) d = least_along test f ks (if test k then min d (f k) else d)

-- two numbers in either order
swapped : (p q : Bool) (a b d : ℕ) → (if p then min (if q then min d b else d) a else (if q then min d b else d)) ≡ (if q then min (if p then min d a else d) b else (if p then min d a else d))
swapped true true a b d = omega arith
swapped true false a b d = refl
swapped false true a b d = refl
swapped false false a b d = refl

module _ (test : ℕ → Bool) (f : ℕ → ℕ) (le : ℕ → ℕ → Bool) where
  least-insert : (x : ℕ) (ks : List ℕ) (d : ℕ) → least_along test f (insert le x ks) d ≡ least_along test f ks (if test x then min d (f x) else d)
  unfolding least_along insert
  least-insert x [] d = refl
  least-insert x (u ∷ us) d =
      by-test (λ (l : List ℕ). least_along test f l d ≡ least_along test f us (if test u then min (if test x then min d (f x) else d) (f u) else (if test x then min d (f x) else d)))
      (le x u) (x ∷ insert le u us) (u ∷ insert le x us)
      (λ _. least-insert u us (if test x then min d (f x) else d))
      (λ _. least-insert x us (if test u then min d (f u) else d) ∙ ap (least_along test f us) (swapped (test x) (test u) (f x) (f u) d))

  least-ranked : (n d : ℕ) → least_along test f (ranked le n) d ≡ least_of test f n d
  unfolding least_along least_of ranked
  least-ranked zero d = refl
  least-ranked (suc n) d = least-insert n (ranked le n) d ∙ least-ranked n (if test n then min d (f n) else d)

-- neither of two tests holds; the first of two, where the second does not
neither : (p q : Bool) → (p || q) ≡ false → (p ≡ false) × (q ≡ false)
neither true q e = never (sym e)
neither false q e = (refl, e)

alone : (p : Bool) → (p || false) ≡ true → p ≡ true
alone true e = refl
alone false e = e

-- ---- along a sorted list: from t on, the tiers rank at or above it

abbrev Marks : (ℕ → ℕ → Bool) → ℕ → Bool → List ℕ → Type 0
Marks le t met [] = Unit {0}
Marks le t met (k ∷ ks) = (le t k ≡ (met || k =? t)) × Marks le t (met || k =? t) ks

marked-behind : (le : ℕ → ℕ → Bool) (t : ℕ) (ks : List ℕ) → All (λ u. le t u ≡ true) ks → Marks le t true ks
marked-behind le t [] h = tt
marked-behind le t (k ∷ ks) h = (h.0, marked-behind le t ks h.1)

-- what holds of all tiers of a list holds of one that is counted among them
held : (P : ℕ → Type 0) (t : ℕ) (ks : List ℕ) → All P ks → counted t ks ≡ 1 → P t
unfolding sum_of
held P t [] h c = absurd (omega arith)
held P t (k ∷ ks) h c = by (eqb k t) refl c (held P t ks h.1)
  where
    by : (b : Bool) → eqb k t ≡ b → (if b then 1 else 0) + counted t ks ≡ 1 → (counted t ks ≡ 1 → P t) → P t
    by true q c ih = rw (← eqb-true k t q) h.0
    by false q c ih = ih (omega arith)

module _ (le : ℕ → ℕ → Bool) (L : ℕ → ℕ) (o : Ordered le L) (t : ℕ) where
  marked : (ks : List ℕ) → Sorted le ks → counted t ks ≡ 1 → Marks le t false ks
  unfolding sum_of
  marked [] w c = tt
  marked (k ∷ ks) w c = by (eqb k t) refl c (marked ks w.1)
    where
      by : (b : Bool) → eqb k t ≡ b → (if b then 1 else 0) + counted t ks ≡ 1 → (counted t ks ≡ 1 → Marks le t false ks) → (le t k ≡ b) × Marks le t b ks
      by true q c ih =
          let z = eqb-true k t q in
          (rw (← z) (o.self k), marked-behind le t ks (all_map (λ u h. rw (← z) (o.total k u h)) ks w.0))
      by false q c ih = let one : counted t ks ≡ 1 = omega arith in (held (λ u. le u k ≡ false) t ks w.0 one, ih one)

  -- x are the excesses, and P is what stands at each tier
  rest-least :
      (e x P : ℕ → ℕ) (ks : List ℕ) (met : Bool) (s d : ℕ) → Walk L e s ks x → Prefix (λ u. e u - x u) s ks P → Marks le t met ks
      → rest L e t met s ks d ≡ least_along (le t) (λ u. L u - P u) ks d
  unfolding rest least_along next
  rest-least e x P [] met s d w p m = refl
  rest-least e x P (k ∷ ks) met s d w p m =
      let v : s + (e k - (e k - (L k - s))) ≡ s + (e k - x k) = omega (arith, w.0) in
      let y = s + (e k - x k) in
      rw (v, p.0, m.0) (rest-least e x P ks (met || k =? t) y (if met || k =? t then min d (L k - y) else d) w.1 p.1 m.1)

  -- the tier itself, and those that the group has
  abbrev binds : (ℕ → ℕ) → ℕ → Bool
  binds e k = le t k && (k =? t || 0 <? e k)

  -- a tier without exposure has room for all that stands below it
  least-bound :
      (e x P : ℕ → ℕ) (ks : List ℕ) (met : Bool) (s d : ℕ) → Rising L s ks → (met ≡ true → Rising L (s + d) ks) → Walk L e s ks x → Prefix (λ u. e u - x u) s ks P → Marks le t met ks
      → least_along (binds e) (λ u. L u - P u) ks d ≡ least_along (le t) (λ u. L u - P u) ks d
  unfolding least_along
  least-bound e x P [] met s d ri rd w p m = refl
  least-bound e x P (k ∷ ks) met s d ri rd w p m = by (le t k) (k =? t || 0 <? e k) refl refl (λ d' r. least-bound e x P ks (met || k =? t) (s + (e k - x k)) d' below r w.1 p.1 m.1)
    where
      within : s + (e k - x k) ≤ L k
      within = omega (arith, w.0, ri.0)

      below : Rising L (s + (e k - x k)) ks
      below = rising-less L ks (L k) (s + (e k - x k)) within ri.1

      still : (d' : ℕ) → s + (e k - x k) + d' ≤ L k → Rising L (s + (e k - x k) + d') ks
      still d' h = rising-less L ks (L k) (s + (e k - x k) + d') h ri.1

      by : (b c : Bool) → le t k ≡ b → (k =? t || 0 <? e k) ≡ c
          → ((d' : ℕ) → ((met || k =? t) ≡ true → Rising L (s + (e k - x k) + d') ks) → least_along (binds e) (λ u. L u - P u) ks d' ≡ least_along (le t) (λ u. L u - P u) ks d')
          → least_along (binds e) (λ u. L u - P u) ks (if b && c then min d (L k - P k) else d) ≡ least_along (le t) (λ u. L u - P u) ks (if b then min d (L k - P k) else d)
      by true true q r ih = ih (min d (L k - P k)) (λ _. still (min d (L k - P k)) (omega (arith, p.0)))
      by true false q r ih =
          let n = neither (k =? t) (0 <? e k) r in
          let came = alone met (rw n.0 at (sym m.0 ∙ q)) in
          let fits : s + d ≤ L k = (rd came).0 in
          let none : e k ≤ 0 = ltb-false 0 (e k) n.1 in
          let all : min d (L k - P k) ≡ d = omega (arith, p.0) in
          rw all (ih d (λ _. still d (omega arith)))
      by false c q r ih = ih d (λ z. never (sym q ∙ m.0 ∙ z))

-- ---- the closed form

module _ (test : ℕ → Bool) (f : ℕ → ℕ) where
  least-within : (n d : ℕ) → least_of test f n d ≤ d
  unfolding least_of
  least-within zero d = omega arith
  least-within (suc n) d = by (test n) (least-within n (if test n then min d (f n) else d))
    where
      by : (b : Bool) {r : ℕ} → r ≤ (if b then min d (f n) else d) → r ≤ d
      by true h = omega arith
      by false h = h

  least-each : (n d u : ℕ) → u < n → test u ≡ true → least_of test f n d ≤ f u
  unfolding least_of
  least-each zero d u l h = absurd (omega arith)
  least-each (suc n) d u l h = by (eqb u n) refl (least-each n (if test n then min d (f n) else d) u) (least-within n (if test n then min d (f n) else d))
    where
      by : (b : Bool) → eqb u n ≡ b → {r : ℕ} → (u < n → test u ≡ true → r ≤ f u) → r ≤ (if test n then min d (f n) else d) → r ≤ f u
      by true q ih w = let z = eqb-true u n q in let y : test n ≡ true = rw (← z) h in rw z (omega (arith, rw y at w))
      by false q ih w = ih (omega (arith, eqb-false u n q)) h

least-same : (test : ℕ → Bool) (f g : ℕ → ℕ) (n d : ℕ) → ((u : ℕ) → u < n → f u ≡ g u) → least_of test f n d ≡ least_of test g n d
unfolding least_of
least-same test f g zero d h = refl
least-same test f g (suc n) d h = rw (h n (omega arith)) (least-same test f g n (if test n then min d (g n) else d) (λ u l. h u (omega arith)))

sum-plus : (e : ℕ → ℕ) (t a n : ℕ) → t < n → sum (plus e t a) n ≡ sum e n + a
sum-plus e t a n l = sym (sum-add e (λ u. if t =? u then a else 0) (plus e t a) n (λ u _. refl)) ∙ ap (λ (k : ℕ). sum e n + k) (sum-here a t n l)

module _ (n : ℕ) (le : ℕ → ℕ → Bool) (L : ℕ → ℕ) (o : Ordered le L) where
  abbrev ks : List ℕ
  ks = ranked le n

  pub rest-is : (e : ℕ → ℕ) (t most : ℕ) → t < n → rest L e t false 0 ks most ≡ room_in n le L e t most
  unfolding room_in
  rest-is e t most l =
      let x = excess L e ks in
      rest-least le L o t e x (stands n le e x) ks false 0 most
      (excess-walk n le L e ks o (ranked-sorted le L o n) (ranked-lists le n))
      (stands-prefix n le L e ks o (ranked-sorted le L o n) (ranked-lists le n) x)
      (marked le L o t ks (ranked-sorted le L o n) ((ranking le L o n).once t l))
      ∙ least-ranked (le t) (over_at n le L e) le n most
      ∙ sym (rw (lt-ltb t n l))

  pub group-tiers : (e : ℕ → ℕ) (t most : ℕ) → t < n → least_of (λ u. le t u && (u =? t || 0 <? e u)) (over_at n le L e) n most ≡ room_in n le L e t most
  unfolding room_in
  group-tiers e t most l =
      let x = excess L e ks in
      let w = ranked-sorted le L o n in
      let a = ranked-lists le n in
      sym (least-ranked (λ u. le t u && (u =? t || 0 <? e u)) (over_at n le L e) le n most)
      ∙ least-bound le L o t e x (stands n le e x) ks false 0 most (all-rising n le L e ks o w a) (λ z. never z) (excess-walk n le L e ks o w a) (stands-prefix n le L e ks o w a x)
      (marked le L o t ks w ((ranking le L o n).once t l))
      ∙ least-ranked (le t) (over_at n le L e) le n most
      ∙ sym (rw (lt-ltb t n l))

  -- excesses, and what stands behind the last tier, are the exposures
  all_of : (e : ℕ → ℕ) → excess_sum n L e ks + end L e 0 ks ≡ sum e n
  unfolding excess_sum
  all_of e =
      let x = excess L e ks in
      omega (
        arith,
        left_over L e x ks 0 (excess-walk n le L e ks o (ranked-sorted le L o n) (ranked-lists le n)),
        (ranked-lists le n).once (λ u. e u - x u),
        sum-add x (λ u. e u - x u) e n (λ u _. omega (arith, excess-within L e ks u)),
      )

  outside-same : (e : ℕ → ℕ) (t a : ℕ) → n ≤ t → excess_sum n L (plus e t a) ks ≡ excess_sum n L e ks
  unfolding excess_sum
  outside-same e t a l =
      let same : (u : ℕ) → u < n → plus e t a u ≡ e u = λ u k. rw (ne_eqb t u (λ z. omega arith)) (omega arith) in
      sum_same (excess L (plus e t a) ks) (excess L e ks) n (λ u k. excess-same n L L (plus e t a) e (λ _ _. refl) same ks u k (ranked-only le n))

  pub no-limit : (e : ℕ → ℕ) (t most : ℕ) → n ≤ t → room_in n le L e t most ≡ most
  unfolding room_in
  no-limit e t most l = rw (le-ltb t n l)

  pub added : (e : ℕ → ℕ) (t a most : ℕ) → a ≤ most → excess_sum n L (plus e t a) ks ≡ excess_sum n L e ks + (a - room_in n le L e t most)
  added e t a most h = elim (dec_lt t n) [ yes l ↦ inside l | no l ↦ omega (arith, outside-same e t a (omega arith), no-limit e t most (omega arith)) ]
    where
      inside : t < n → excess_sum n L (plus e t a) ks ≡ excess_sum n L e ks + (a - room_in n le L e t most)
      inside l =
          omega (
            arith,
            all_of e,
            all_of (plus e t a),
            sum-plus e t a n l,
            grown L e t a ks 0 (all-rising n le L e ks o (ranked-sorted le L o n) (ranked-lists le n)) ((ranking le L o n).once t l),
            rest-cap L e t ks false 0 a most h,
            rest-is e t most l,
          )

pub room_within : (n : ℕ) (le : ℕ → ℕ → Bool) (L e : ℕ → ℕ) (t most : ℕ) → room_in n le L e t most ≤ most
unfolding room_in
room_within n le L e t most =
    elim (dec_lt t n) [ yes l ↦ rw (lt-ltb t n l) (least-within (le t) (over_at n le L e) n most) | no l ↦ rw (le-ltb t n (omega arith)) (omega arith) ]

pub room-least : (n : ℕ) (le : ℕ → ℕ → Bool) (L e : ℕ → ℕ) (t most u : ℕ) → t < n → u < n → le t u ≡ true → room_in n le L e t most ≤ over_at n le L e u
unfolding room_in
room-least n le L e t most u l k h = rw (lt-ltb t n l) (least-each (le t) (over_at n le L e) n most u k h)

module _ (n : ℕ) (le : ℕ → ℕ → Bool) (L e e' : ℕ → ℕ) (q : (u : ℕ) → u < n → e u ≡ e' u) where
  over-same : (u : ℕ) → over_at n le L e u ≡ over_at n le L e' u
  unfolding stands
  over-same u =
      let x = excess L e (ranked le n) in
      let x' = excess L e' (ranked le n) in
      ap (λ (k : ℕ). L u - k)
      (sum_same (λ v. if le v u then e v - x v else 0) (λ v. if le v u then e' v - x' v else 0) n
      (λ v l. rw (q v l, excess-same n L L e e' (λ _ _. refl) q (ranked le n) v l (ranked-only le n))))

  pub room-same : (t most : ℕ) → room_in n le L e t most ≡ room_in n le L e' t most
  unfolding room_in
  room-same t most = rw (least-same (le t) (over_at n le L e) (over_at n le L e') n most (λ u _. over-same u))
