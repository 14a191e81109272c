-- The exposures of a book out of the tables by place: a covered part's counterparty and kind come from its mitigant, a remainder's from its asset.
--   parts_at rests_at      the covered parts at mitigants' places, the remainders at assets' places
--   Parted PartedFrom PartedBook    an asset's exposures are those at its places, in order; so for assets from a place on, and for all
--   parted               of the tables that the pass over the mitigants leaves
--   by_place             every sum over a book's exposures is the sum over the tables
use Rattle.std.specs.Prelude.{Bool, true, false, ◌≡◌, length, get_or, set, if◌then◌else◌}
use mathlib.Core.List.{List, [], ◌∷◌, ◌++◌}
use Rattle.std.proofs.Math.Path.{refl}
use Rattle.std.proofs.Common.{◌∙◌, add-one, length-set, get_or-set_same, get_or-set_other}
use Prim.Native.Nat.{ℕ, zero, suc, ◌+◌, ◌-◌, ◌≤◌, ◌<◌, min}
use native.Mathlib.Omega.{arith}
use Rattle.std.proofs.lemmas.List.Edits.{sets}
use Rattle.words.specs.Words.{sum_of, All}
use Rattle.words.specs.Sums.{sum-append}
use Rattle.book.specs.declared.Asset.{Asset}
use Rattle.book.specs.Records.{N, K, counterparty_at, asset_at, mitigant_at}
use Rattle.book.specs.Fields.{linked}
use Rattle.book.specs.Book.{mitigants_from, holdings_from, book_of}
use Rattle.book.specs.Check.{counts_add}
use Rattle.book.specs.Accepted.{Accepted}
use Rattle.exposure.specs.declared.Exposure.{Exposure}
use Rattle.exposure.specs.Values.{net}
use Rattle.exposure.specs.Parts.{covers, half_covered, half_of, may_be_covered, covered_by, covered_of, together, drawn_by, left_after, covered_part, remainder, parts_of, exposures_of, each_drawing, exposures}
use Rattle.exposure.specs.PartLaws.{covers-le, linked-none}
use Rattle.assets.specs.Shares.{rest_of}
use Rattle.covering.specs.Covered.{rests_from, held_by, holding_at, covered-length, covered-size, rests-size}
use Rattle.covering.specs.Pass.{Covers}

-- of `more` mitigants from a place on, their amounts read off a table
unfoldable pub parts_at : List ℕ → List ℕ → ℕ → ℕ → List Exposure
parts_at b covered place zero = []
parts_at b covered place (suc more) =
    let m = mitigant_at b place in
    covered_part m (counterparty_at b m.counterparty) (get_or covered place 0) ∷ parts_at b covered (place + 1) more

-- of `more` assets from a place on
unfoldable pub rests_at : List ℕ → List ℕ → ℕ → ℕ → List Exposure
rests_at b rests place zero = []
rests_at b rests place (suc more) = remainder (asset_at b place) (get_or rests place 0) ∷ rests_at b rests (place + 1) more

-- the asset at a place, whose first mitigant is the one at `first`, where `left` is left of the halves: its covered parts in order and then its remainder;
-- nothing where it is linked
pub record Parted (b covered rests : List ℕ) (left : ℕ → ℕ) (place first : ℕ) : Type 0 where
  pub parts : linked (asset_at b place) ≡ false
      → exposures_of (counterparty_at b) left (holding_at b place first) ≡ parts_at b covered first (asset_at b place).count ++ (remainder (asset_at b place) (get_or rests place 0) ∷ [])
  pub none : linked (asset_at b place) ≡ true → All (λ x. x.amount ≡ 0) (parts_at b covered first (asset_at b place).count) × (get_or rests place 0 ≡ 0)

-- `more` assets from a place on
abbrev pub PartedFrom : List ℕ → List ℕ → List ℕ → (ℕ → ℕ) → ℕ → ℕ → ℕ → Type 0
PartedFrom b covered rests left place first zero = Unit {0}
PartedFrom b covered rests left place first (suc more) =
    Parted b covered rests left place first
    × PartedFrom b covered rests (left_after (counterparty_at b) left (holding_at b place first)) (place + 1) (first + (asset_at b place).count) more

-- all assets of a book
abbrev pub PartedBook : List ℕ → List ℕ → List ℕ → Type 0
PartedBook b covered rests = PartedFrom b covered rests (half_of (book_of b).holdings) 1 1 (N b)

-- ---- a table that holds a list from a place on

abbrev Holds : List ℕ → ℕ → List ℕ → Type 0
Holds t i [] = Unit {0}
Holds t i (v ∷ vs) = (get_or t i 0 ≡ v) × Holds t (i + 1) vs

sets_below : (vs t : List ℕ) (i j : ℕ) → j < i → get_or (sets t i vs) j 0 ≡ get_or t j 0
sets_below [] t i j l = refl
sets_below (v ∷ vs) t i j l = sets_below vs (set t i v) (suc i) j (omega arith) ∙ get_or-set_other t i j v 0 (λ e. omega arith)

holds-sets : (vs t : List ℕ) (i : ℕ) → i + length vs ≤ length t → Holds (sets t i vs) i vs
holds-sets [] t i l = tt
holds-sets (v ∷ vs) t i l =
    let next : suc i + length vs ≤ length (set t i v) = rw length-set (omega arith) in
    (sets_below vs (set t i v) (suc i) i (omega arith) ∙ get_or-set_same t i v 0 (omega arith), rw add-one (holds-sets vs (set t i v) (suc i) next))

holds-first : (xs ys t : List ℕ) (i : ℕ) → Holds t i (xs ++ ys) → Holds t i xs
holds-first [] ys t i h = tt
holds-first (x ∷ xs) ys t i h = (h.0, holds-first xs ys t (i + 1) h.1)

holds-rest : (xs ys t : List ℕ) (i n : ℕ) → n ≡ i + length xs → Holds t i (xs ++ ys) → Holds t n ys
holds-rest [] ys t i n e h = let d : n ≡ i = omega arith in rw d h
holds-rest (x ∷ xs) ys t i n e h = holds-rest xs ys t (i + 1) n (omega arith) h.1

-- ---- an asset, assets, a book

module _ (b : List ℕ) where
  -- an asset's covered parts, and `last`, what they leave of it
  parts_are : (t : List ℕ) (a : Asset) (n m still rest last : ℕ)
      → last ≡ rest - together (covered_by (counterparty_at b) a (mitigants_from b m n) still)
      → Holds t m (covered_by (counterparty_at b) a (mitigants_from b m n) still)
      → parts_of (counterparty_at b) a (mitigants_from b m n) still rest ≡ parts_at b t m n ++ (remainder a last ∷ [])
  unfolding parts_of parts_at mitigants_from covered_by sum_of
  parts_are t a zero m still rest last e h = let d : last ≡ rest = omega arith in rw d
  parts_are t a (suc n) m still rest last e h =
      let part = covers a (mitigant_at b m) (counterparty_at b (mitigant_at b m).counterparty) still in
      rw (h.0, parts_are t a n (m + 1) (still - part) (rest - part) last (omega arith) h.1)

  -- where nothing may be covered, nothing is
  parts_none : (t : List ℕ) (a : Asset) (n m : ℕ) → Holds t m (covered_by (counterparty_at b) a (mitigants_from b m n) 0) → All (λ x. x.amount ≡ 0) (parts_at b t m n)
  unfolding parts_at mitigants_from covered_by covered_part
  parts_none t a zero m h = tt
  parts_none t a (suc n) m h =
      let i = mitigant_at b m in
      let who = counterparty_at b i.counterparty in
      let d : 0 - covers a i who 0 ≡ 0 = omega arith in
      (omega (arith, h.0, covers-le a i who 0), parts_none t a n (m + 1) (rw d at h.1))

  parted-one : (t u : List ℕ) (left : ℕ → ℕ) (place m : ℕ)
      → get_or u place 0 ≡ rest_of (asset_at b place) - drawn_by (counterparty_at b) left (holding_at b place m)
      → Holds t m (covered_of (counterparty_at b) left (holding_at b place m)) → Parted b t u left place m
  unfolding exposures_of covered_of drawn_by rest_of may_be_covered
  parted-one t u left place m r h =
      let a = asset_at b place in
      let cs = counterparty_at b in
      let may = if half_covered a (cs a.counterparty) then min (net a) (left a.counterparty) else net a in
      record {
        parts = λ e. rw e (parts_are t a a.count m may (net a) (get_or u place 0) (rw e at r) (rw e at h));
        none = λ e. (parts_none t a a.count m (rw e at h), omega (arith, rw e at r));
      }

  parted-from : (t u rests : List ℕ) (left : ℕ → ℕ) (more place m : ℕ) → 0 < place → place + more ≡ N b + 1
      → ((p : ℕ) → 0 < p → p ≤ N b → get_or rests p 0 ≡ rest_of (asset_at b p))
      → Holds t m (each_drawing (counterparty_at b) (covered_of (counterparty_at b)) left (holdings_from b place m more))
      → Holds u place (rests_from (counterparty_at b) left rests place (holdings_from b place m more))
      → PartedFrom b t u left place m more
  unfolding holdings_from each_drawing rests_from
  parted-from t u rests left zero place m l g nets h k = tt
  parted-from t u rests left (suc more) place m l g nets h k =
      let cs = counterparty_at b in
      let count = (asset_at b place).count in
      let this = holding_at b place m in
      let next = left_after cs left this in
      let first = covered_of cs left this in
      let later = each_drawing cs (covered_of cs) next (holdings_from b (place + 1) (m + count) more) in (
        parted-one t u left place m (omega (arith, k.0, nets place l (omega arith))) (holds-first first later t m h),
        parted-from t u rests next more (place + 1) (m + count) (omega arith) (omega arith) nets
            (holds-rest first later t m (m + count) (omega (arith, covered-length cs b left place m)) h) k.1,
      )

pub parted : {b covered₀ halves₀ rests₀ covered halves rests : List ℕ} → Accepted b → K b < length covered₀ → N b < length rests₀
    → ((p : ℕ) → 0 < p → p ≤ N b → get_or rests₀ p 0 ≡ rest_of (asset_at b p))
    → Covers b covered₀ halves₀ rests₀ covered halves rests
    → PartedBook b covered rests
unfolding book_of counts_add
parted {b} {covered₀} {halves₀} {rests₀} acc lc lr nets c =
    let cs = counterparty_at b in
    let hs = holdings_from b 1 1 (N b) in
    let left = half_of hs in
    let h = holds-sets (each_drawing cs (covered_of cs) left hs) covered₀ 1 (omega (arith, covered-size cs b left (N b) 1 1, acc.counted)) in
    let k = holds-sets (rests_from cs left rests₀ 1 hs) rests₀ 1 (omega (arith, rests-size cs b left rests₀ (N b) 1 1)) in
    rw (c.parts, c.remainders) (parted-from b _ _ rests₀ left (N b) 1 1 (omega arith) (omega arith) nets h k)

-- ---- sums

module _ (b : List ℕ) (f : Exposure → ℕ) (nothing : (x : Exposure) → x.amount ≡ 0 → f x ≡ 0) where
  sum-nothing : (xs : List Exposure) → All (λ x. x.amount ≡ 0) xs → sum_of f xs ≡ 0
  unfolding sum_of
  sum-nothing [] h = refl
  sum-nothing (x ∷ xs) h = omega (arith, nothing x h.0, sum-nothing xs h.1)

  parts-append : (t : List ℕ) (j k m : ℕ) → sum_of f (parts_at b t m (j + k)) ≡ sum_of f (parts_at b t m j) + sum_of f (parts_at b t (m + j) k)
  unfolding parts_at sum_of
  parts-append t zero k m =
      let d : m + 0 ≡ m = omega arith in
      let e : 0 + k ≡ k = omega arith in
      rw (d, e) (omega arith)
  parts-append t (suc j) k m =
      let d : m + suc j ≡ m + 1 + j = omega arith in
      let e : suc j + k ≡ suc (j + k) = omega arith in
      rw (d, e) (omega (arith, parts-append t j k (m + 1)))

  -- all of an asset
  holding-split : (t u : List ℕ) (left : ℕ → ℕ) (place m : ℕ) → Parted b t u left place m
      → sum_of f (exposures_of (counterparty_at b) left (holding_at b place m)) ≡ sum_of f (parts_at b t m (asset_at b place).count) + f (remainder (asset_at b place) (get_or u place 0))
  unfolding remainder sum_of
  holding-split t u left place m p = by (linked a) refl
    where
      a : Asset
      a = asset_at b place

      by : (q : Bool) → linked a ≡ q → sum_of f (exposures_of (counterparty_at b) left (holding_at b place m)) ≡ sum_of f (parts_at b t m a.count) + f (remainder a (get_or u place 0))
      by true e =
          let n = p.none e in
          rw (linked-none (counterparty_at b) left (holding_at b place m) e) (omega (arith, sum-nothing (parts_at b t m a.count) n.0, nothing (remainder a (get_or u place 0)) n.1))
      by false e = rw (p.parts e) (omega (arith, sum-append f (parts_at b t m a.count) (remainder a (get_or u place 0) ∷ [])))

  holdings-split : (t u : List ℕ) (left : ℕ → ℕ) (more place m : ℕ) → PartedFrom b t u left place m more
      → sum_of f (each_drawing (counterparty_at b) (exposures_of (counterparty_at b)) left (holdings_from b place m more))
      ≡ sum_of f (parts_at b t m (held_by (holdings_from b place m more))) + sum_of f (rests_at b u place more)
  unfolding holdings_from each_drawing rests_at parts_at sum_of
  holdings-split t u left zero place m p = refl
  holdings-split t u left (suc more) place m p =
      let cs = counterparty_at b in
      let count = (asset_at b place).count in
      let this = holding_at b place m in
      let next = left_after cs left this in
      let others = holdings_from b (place + 1) (m + count) more in
      omega (
        arith,
        sum-append f (exposures_of cs left this) (each_drawing cs (exposures_of cs) next others),
        holding-split t u left place m p.0,
        holdings-split t u next more (place + 1) (m + count) p.1,
        parts-append t count (held_by others) m,
      )

-- f is 0 where the amount is: a linked asset has no exposures, and 0 at its places
pub by_place : (b covered rests : List ℕ) → Accepted b → PartedBook b covered rests
    → (f : Exposure → ℕ) → ((x : Exposure) → x.amount ≡ 0 → f x ≡ 0)
    → sum_of f (exposures (book_of b)) ≡ sum_of f (parts_at b covered 1 (K b)) + sum_of f (rests_at b rests 1 (N b))
unfolding exposures book_of counts_add
by_place b covered rests acc p f nothing = rw (← acc.counted) (holdings-split b f nothing covered rests (half_of (holdings_from b 1 1 (N b))) (N b) 1 1 p)
