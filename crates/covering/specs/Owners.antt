-- Whose mitigant is whose, read off the table of marks.
--   mark-half mark-odd    a mark gives its asset's place, and whether that is reinsurance
--   owner-next            the owner goes by that of the mitigant before and by the entry at its place
--   OwnerFits inside      each mitigant's owner is the mark of an asset of the book
--   owned                 a table of zeros that is marked gives each mitigant's owner
use Rattle.std.specs.Prelude.{Bool, true, false, List, ◌≡◌, refl, ltb, length, if◌then◌else◌}
use Rattle.std.proofs.Common.{ap, ◌∙◌, arith, ltb-true, ltb-false}
use Prim.Native.Nat.{ℕ, zero, suc, ◌+◌, ◌*◌, ◌-◌, ◌/◌, ◌%◌, ◌≤◌, ◌<◌, max}
use Rattle.std.proofs.Math.ListN.{get_or, set, length-set}
use Rattle.std.proofs.Math.Seq.{get_or-set_same, get_or-set_other}
use Rattle.words.specs.Words.{sum_of}
use Rattle.book.specs.Records.{N, K, asset_at}
use Rattle.book.specs.Fields.{reinsurance}
use Rattle.book.specs.Book.{holdings_from}
use Rattle.book.specs.Check.{counts_add}
use Rattle.book.specs.Accepted.{Accepted}
use Rattle.assets.specs.Marks.{mark_of, marked, owner_by, Owned}
use Rattle.covering.specs.Covered.{held_by}

-- ---- a mark

record Parts (t : Bool) (place mark : ℕ) : Type 0 where
  half : mark / 2 ≡ place
  odd : mark % 2 ≡ (if t then 1 else 0)
  low : 2 * place ≤ mark
  high : mark ≤ 2 * place + 1

parts : (t : Bool) (place : ℕ) → Parts t place (2 * place + (if t then 1 else 0))
parts true place = record { half = omega arith; odd = omega arith; low = omega arith; high = omega arith }
parts false place = record { half = omega arith; odd = omega arith; low = omega arith; high = omega arith }

module _ (b : List ℕ) (place : ℕ) where
  mark-parts : Parts (reinsurance (asset_at b place)) place (mark_of b place)
  unfolding mark_of
  mark-parts = parts (reinsurance (asset_at b place)) place

  pub mark-half : mark_of b place / 2 ≡ place
  mark-half = mark-parts.half

  pub mark-odd : mark_of b place % 2 ≡ (if reinsurance (asset_at b place) then 1 else 0)
  mark-odd = mark-parts.odd

-- ---- an owner

pub owner-next : (t : List ℕ) (p : ℕ) → 0 < p → owner_by t p ≡ max (owner_by t (p - 1)) (get_or t p 0)
unfolding owner_by
owner-next t zero l = absurd (omega arith)
owner-next t (suc p) l = let d : suc p - 1 ≡ p = omega arith in rw d

-- the owner of a mitigant, where `end` is the first place behind the assets
pub record OwnerFits (b : List ℕ) (end mark : ℕ) : Type 0 where
  pub above : 0 < mark / 2
  pub below : mark / 2 < end
  pub whole : mark ≡ mark_of b (mark / 2)

fits-mark : (b : List ℕ) (place end mark : ℕ) → mark ≡ mark_of b place → 0 < place → place < end → OwnerFits b end mark
fits-mark b place end mark e o l =
    let d : mark / 2 ≡ place = rw e (mark-half b place) in
    record { above = omega arith; below = omega arith; whole = rw d e }

pub inside : (owner : ℕ → ℕ) (b : List ℕ) (more place first m : ℕ) → 0 < place → Owned owner b place first more → first ≤ m → m < first + held_by (holdings_from b place first more) → OwnerFits b (place + more) (owner m)
unfolding Owned holdings_from sum_of
inside owner b zero place first m p o l h = absurd (omega arith)
inside owner b (suc more) place first m p o l h = by (ltb m next) refl (λ g. inside owner b more (place + 1) next m (omega arith) o.1 g (omega arith))
  where
    next : ℕ
    next = first + (asset_at b place).count

    by : (s : Bool) → ltb m next ≡ s → (next ≤ m → OwnerFits b (place + 1 + more) (owner m)) → OwnerFits b (place + suc more) (owner m)
    by true z ih =
        let lt = ltb-true m next z in
        fits-mark b place (place + suc more) (owner m) (ap owner (omega arith) ∙ o.0 (m - first) (omega arith)) p (omega arith)
    by false z ih =
        let d : place + suc more ≡ place + 1 + more = omega arith in
        rw d (ih (ltb-false m next z))

-- ---- the table of marks

marked-below : (b : List ℕ) (more place first : ℕ) (t : List ℕ) (q : ℕ) → q < first → get_or (marked b t place first more) q 0 ≡ get_or t q 0
unfolding marked
marked-below b zero place first t q l = refl
marked-below b (suc more) place first t q l =
    marked-below b more (place + 1) (first + (asset_at b place).count) (set t first (mark_of b place)) q (omega arith)
    ∙ get_or-set_other t first q (mark_of b place) 0 (λ z. omega arith)

module _ (b : List ℕ) where
  -- one asset's mitigants, where its mark is at the first one's place and nothing at the others'
  owned-one : (t : List ℕ) (place first count : ℕ) → 0 < first → owner_by t (first - 1) < 2 * place
      → (0 < count → get_or t first 0 ≡ mark_of b place) → ((q : ℕ) → first < q → q < first + count → get_or t q 0 ≡ 0)
      → (i : ℕ) → i < count → owner_by t (first + i) ≡ mark_of b place
  owned-one t place first count l before here none zero h =
      let d : first + 0 ≡ first = omega arith in
      rw d (owner-next t first l ∙ omega (arith, here (omega arith), (mark-parts b place).low))
  owned-one t place first count l before here none (suc i) h =
      let d : first + suc i - 1 ≡ first + i = omega arith in
      owner-next t (first + suc i) (omega arith)
      ∙ rw (d, none (first + suc i) (omega arith) (omega arith)) (omega (arith, owned-one t place first count l before here none i (omega arith)))

  -- behind an asset the greatest mark so far is below the next one's
  owner-below : (t : List ℕ) (place first count : ℕ) → owner_by t (first - 1) < 2 * place → ((i : ℕ) → i < count → owner_by t (first + i) ≡ mark_of b place)
      → owner_by t (first + count - 1) < 2 * (place + 1)
  owner-below t place first zero before one = let d : first + 0 - 1 ≡ first - 1 = omega arith in rw d (omega arith)
  owner-below t place first (suc count) before one =
      let d : first + suc count - 1 ≡ first + count = omega arith in
      rw d (omega (arith, one count (omega arith), (mark-parts b place).high))

  -- the entry at `first` may hold the mark of an asset without mitigants: it is marked over
  owned-from : (more place first : ℕ) (t : List ℕ) → 0 < first → first + held_by (holdings_from b place first more) < length t → ((q : ℕ) → first < q → get_or t q 0 ≡ 0)
      → owner_by (marked b t place first more) (first - 1) < 2 * place → Owned (owner_by (marked b t place first more)) b place first more
  unfolding Owned marked holdings_from sum_of
  owned-from zero place first t l h none before = tt
  owned-from (suc more) place first t l h none before =
      let count = (asset_at b place).count in
      let u = set t first (mark_of b place) in
      let all = marked b u (place + 1) (first + count) more in
      let same : (q : ℕ) → q < first + count → get_or all q 0 ≡ get_or u q 0 = λ q g. marked-below b more (place + 1) (first + count) u q g in
      let past : (q : ℕ) → first < q → get_or u q 0 ≡ 0 = λ q g. get_or-set_other t first q (mark_of b place) 0 (λ z. omega arith) ∙ none q g in
      let one = owned-one all place first count l before (λ g. same first (omega arith) ∙ get_or-set_same t first (mark_of b place) 0 (omega arith)) (λ q g k. same q k ∙ past q g) in (
        one,
        owned-from more (place + 1) (first + count) u (omega arith) (rw length-set (omega arith)) (λ q g. past q (omega arith)) (owner-below all place first count before one),
      )

  pub owned : (t : List ℕ) → Accepted b → K b + 1 < length t → ((q : ℕ) → get_or t q 0 ≡ 0) → Owned (owner_by (marked b t 1 1 (N b))) b 1 1 (N b)
  unfolding counts_add owner_by
  owned t acc h none = owned-from (N b) 1 1 t (omega arith) (omega (arith, acc.counted)) (λ q _. none q) (omega arith)
