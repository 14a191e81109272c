-- Sums over groups: by top place, and by the numbers of the groups.
--   over-groups             a sum over the places 1 to C of what is 0 at a place with a parent
--   exposure-none a3-none   such a place heads no group
--   row-tier row-a3         the row of a group's number holds the exposures of the group that its top place heads
--   whole_le group-le rows-le   all exposures of the groups in the tiers are at most 900 × M, and so are those of one
use Rattle.std.specs.Prelude.{Bool, true, false, ◌&&◌, ◌≡◌, length, get_or, set, if◌then◌else◌}
use mathlib.Core.List.{List}
use Rattle.std.proofs.Math.Path.{refl}
use Rattle.std.proofs.Common.{sym, ap, ap₂, ◌∙◌, pos_of_ne-zero, arith, get_or-set_same, get_or-set_other, eqb-true, ne_eqb}
use Prim.Native.Nat.{ℕ, zero, suc, ◌+◌, ◌*◌, ◌-◌, ◌≤◌, ◌<◌}
use Rattle.std.proofs.lemmas.Bool.{eqb-false}
use Rattle.words.specs.Words.{◌=?◌, sum_of, sum, count_from}
use Rattle.words.specs.Choice.{never}
use Rattle.words.specs.Sums.{sum-le, sum_same, sum-count, sum-most, sum-swap, sum-once, length-count}
use Rattle.wire.specs.Bytes.{M}
use Rattle.cascade.specs.Cascade.{tiers}
use Rattle.book.specs.declared.Counterparty.{Counterparty}
use Rattle.book.specs.Records.{C, counterparty_at}
use Rattle.book.specs.Book.{Book, book_of, parent_of, top_of}
use Rattle.book.specs.Accepted.{Accepted}
use Rattle.exposure.specs.declared.Exposure.{Exposure}
use Rattle.exposure.specs.Parts.{exposures}
use Rattle.exposure.specs.Tier.{tier_of}
use Rattle.exposure.specs.Sums.{amount_of, exposure_of, a3_exposure_of}
use Rattle.rows.specs.Rows.{columns, a3_columns}
use Rattle.columns.specs.Column.{a3_tiers}
use Rattle.parties.specs.Rows.{tops_to, headed}
use Rattle.parties.specs.RowLaws.{top-alone, tops-le, headed-length, head-is, head-row}
use Rattle.covering.specs.Bounds.{all-le}
use Rattle.cells.specs.declared.Sums.{Sums}
use Rattle.words.specs.Ranges.{sum-zero, sum-within}
use Rattle.cells.specs.Adding.{amount-none}
use Rattle.cells.specs.Cells.{cells_from, Posted}

-- ---- places and numbers

module _ (b heads₀ : List ℕ) (f : ℕ → ℕ) where
  abbrev under : List ℕ → ℕ → ℕ
  under heads k = f (get_or heads k 0)

  over-tops : (n : ℕ) → n < length heads₀ → ((p : ℕ) → 0 < p → p ≤ n → 0 < parent_of (counterparty_at b) p → f p ≡ 0)
      → sum (λ k. f (1 + k)) n ≡ sum (under (headed b n heads₀)) (tops_to b n)
  unfolding headed tops_to sum
  over-tops zero room none = refl
  over-tops (suc n) room none =
      by (parent_of (counterparty_at b) (suc n) =? 0) refl (over-tops n (omega arith) (λ p l h. none p l (omega arith)))
    where
      heads : List ℕ
      heads = headed b n heads₀

      now : List ℕ
      now = set heads (tops_to b n) (suc n)

      place : 1 + n ≡ suc n
      place = omega arith

      -- the numbers so far keep their tops
      same : sum (under heads) (tops_to b n) ≡ sum (under now) (tops_to b n)
      same = sum_same (under heads) (under now) (tops_to b n) (λ k l. ap f (sym (get_or-set_other heads (tops_to b n) k (suc n) 0 (λ z. omega arith))))

      by : (t : Bool) → (parent_of (counterparty_at b) (suc n) =? 0) ≡ t → sum (λ k. f (1 + k)) n ≡ sum (under heads) (tops_to b n)
          → sum (λ k. f (1 + k)) n + f (1 + n) ≡ sum (under now) (tops_to b n + (if t then 1 else 0))
      by true e ih =
          let d : tops_to b n + 1 ≡ suc (tops_to b n) = omega arith in
          let stored = get_or-set_same heads (tops_to b n) (suc n) 0 (omega (arith, tops-le b n, headed-length b n heads₀)) in
          rw d (ap₂ ◌+◌ (ih ∙ same) (ap f (place ∙ sym stored)))
      by false e ih =
          let d : tops_to b n + 0 ≡ tops_to b n = omega arith in
          rw d (omega (arith, ih ∙ same, ap f place, none (suc n) (omega arith) (omega arith) (pos_of_ne-zero (eqb-false (parent_of (counterparty_at b) (suc n)) 0 e))))

  pub over-groups : {heads : List ℕ} {groups : ℕ} → C b < length heads₀ → heads ≡ headed b (C b) heads₀ → groups ≡ tops_to b (C b)
      → ((p : ℕ) → 0 < p → p ≤ C b → 0 < parent_of (counterparty_at b) p → f p ≡ 0)
      → sum_of f (count_from 1 (C b)) ≡ sum (λ k. f (get_or heads k 0)) groups
  over-groups room eh eg none = rw (eh, eg) (sum-count f 1 (C b) ∙ over-tops (C b) room none)

-- ---- a place with a parent heads no group

module _ (b : List ℕ) (p : ℕ) (l : 0 < parent_of (counterparty_at b) p) where
  not_top : (q : ℕ) → (top_of (counterparty_at b) q =? p) ≡ false
  not_top q = ne_eqb (top_of (counterparty_at b) q) p (λ e. let z = top-alone (counterparty_at b) q in omega (arith, rw e at z))

  pub exposure-none : (t : ℕ) → exposure_of (book_of b) p t ≡ 0
  unfolding exposure_of book_of
  exposure-none t = amount-none _ (λ x. rw (not_top x.counterparty)) (exposures (book_of b))

  pub a3-none : (t : ℕ) → a3_exposure_of (book_of b) p t ≡ 0
  unfolding a3_exposure_of book_of
  a3-none t = amount-none _ (λ x. rw (not_top x.counterparty)) (exposures (book_of b))

-- ---- rows

module _ {b : List ℕ} {groups : ℕ} {cells₀ cells : List ℕ} {r : Sums} (p : Posted b groups cells₀ cells r) (heads₀ : List ℕ) {heads : List ℕ} (room : C b < length heads₀) (eh : heads ≡ headed b (C b) heads₀) (k : ℕ) (h : k < tops_to b (C b)) where
  pub row-tier : (t : ℕ) → t < tiers → cells_from cells (columns * k) t ≡ exposure_of (book_of b) (get_or heads k 0) t
  row-tier t l =
      let top = head-is b heads₀ (C b) room k h in
      let row = head-row b heads₀ (C b) room k h in
      rw eh (rw row at (p.tier _ t top.low top.high top.alone l))

  pub row-a3 : (i : ℕ) → i < 5 → cells_from cells (columns * k) (a3_columns + i) ≡ a3_exposure_of (book_of b) (get_or heads k 0) (get_or a3_tiers i 0)
  row-a3 i l =
      let top = head-is b heads₀ (C b) room k h in
      let row = head-row b heads₀ (C b) room k h in
      rw eh (ap (λ (q : ℕ). get_or cells q 0) (omega arith) ∙ rw row at (p.a3 _ i top.low top.high top.alone l))

-- ---- all together

-- what an exposure gives group g in tier t
abbrev given : (ℕ → Counterparty) → ℕ → ℕ → Exposure → ℕ
given cs g t x = if top_of cs x.counterparty =? g && tier_of cs x =? t then x.amount else 0

-- in one group it is in one tier
in_group : (s : Bool) (tier v n : ℕ) → sum (λ t. if s && tier =? t then v else 0) n ≤ (if s then v else 0)
in_group true tier v n = sum-once (λ t. tier =? t) v n (λ j k e f. omega (arith, eqb-true tier j e, eqb-true tier k f))
in_group false tier v n = sum-once (λ t. false) 0 n (λ j k e f. never e)

module _ (B : Book) (count places : ℕ) where
  of_one : (x : Exposure) → sum (λ k. sum (λ t. given B.counterparty (k + 1) t x) count) places ≤ x.amount
  of_one x =
      let top = top_of B.counterparty x.counterparty in
      let each = sum-le (λ k. sum (λ t. given B.counterparty (k + 1) t x) count) (λ k. if top =? k + 1 then x.amount else 0) places (λ k _. in_group (top =? k + 1) (tier_of B.counterparty x) x.amount count) in
      omega (arith, each, sum-once (λ k. top =? k + 1) x.amount places (λ j k e f. omega (arith, eqb-true top (j + 1) e, eqb-true top (k + 1) f)))

  all-given : sum (λ k. sum (exposure_of B (k + 1)) count) places ≤ sum_of (λ (x : Exposure). x.amount) (exposures B)
  unfolding exposure_of amount_of
  all-given =
      let inner = sum_same (λ k. sum (exposure_of B (k + 1)) count) (λ k. sum_of (λ x. sum (λ t. given B.counterparty (k + 1) t x) count) (exposures B)) places (λ k _. sum-swap (given B.counterparty (k + 1)) count (exposures B)) in
      let outer = sum-swap (λ k x. sum (λ t. given B.counterparty (k + 1) t x) count) places (exposures B) in
      omega (arith, inner, outer, sum-most (λ x. sum (λ k. sum (λ t. given B.counterparty (k + 1) t x) count) places) (λ x. x.amount) (exposures B) of_one)

-- over the places 1 to `places` and the tiers below `count`
pub whole_le : (b : List ℕ) → Accepted b → (count places : ℕ) → sum (λ k. sum (exposure_of (book_of b) (k + 1)) count) places ≤ 900 * M
whole_le b acc count places = omega (arith, all-given (book_of b) count places, all-le b acc)

pub group-le : (b : List ℕ) → Accepted b → (count g : ℕ) → 0 < g → g ≤ C b → sum (exposure_of (book_of b) g) count ≤ 900 * M
group-le b acc count g l h =
    let d : g - 1 + 1 ≡ g = omega arith in
    let one = sum-within (λ k. sum (exposure_of (book_of b) (k + 1)) count) (g - 1) (C b) (omega arith) in
    omega (arith, whole_le b acc count (C b), rw d at one)

-- over the rows of the groups
pub rows-le : {b : List ℕ} {groups : ℕ} {cells₀ cells : List ℕ} {r : Sums} → Accepted b → Posted b groups cells₀ cells r → groups ≡ tops_to b (C b)
    → sum (λ k. sum (cells_from cells (columns * k)) tiers) groups ≤ 900 * M
rows-le {b} {groups} {cells = cells} acc p eg = rw row-sums (omega (arith, whole_le b acc tiers (C b)))
  where
    heads₀ : List ℕ
    heads₀ = count_from 0 (C b + 1)

    room : C b < length heads₀
    room = omega (arith, length-count 0 (C b + 1))

    of-place : ℕ → ℕ
    of-place g = sum (exposure_of (book_of b) g) tiers

    none : (g : ℕ) → 0 < parent_of (counterparty_at b) g → of-place g ≡ 0
    none g l = sum-zero (exposure_of (book_of b) g) tiers (λ t _. exposure-none b g l t)

    row-sums : sum (λ k. sum (cells_from cells (columns * k)) tiers) groups ≡ sum (λ k. of-place (k + 1)) (C b)
    row-sums =
        sum_same _ (λ k. of-place (get_or (headed b (C b) heads₀) k 0)) groups (λ k l. sum_same _ _ tiers (λ t h. row-tier p heads₀ room refl k (omega arith) t h))
        ∙ sym (over-groups b heads₀ of-place room refl eg (λ g _ _ l. none g l))
        ∙ sum-count of-place 1 (C b)
        ∙ sum_same _ _ (C b) (λ k _. ap of-place (omega arith))
