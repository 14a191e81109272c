-- Laws of the A3 sum.
--   part_same a3-same   it depends on the tiers alone
--   part-le             five tiers, each within its limit
--   part-at             a group's part out of the cells
--   by_number           the A3 sum of a book is the sum over the numbers of its groups
use Rattle.std.specs.Prelude.{List, ◌≡◌, ℕ, ◌+◌, ◌*◌, ◌≤◌, ◌<◌, get_or}
use Rattle.std.proofs.Math.Path.{refl, sym}
use Rattle.std.proofs.Common.{◌∙◌, arith}
use Rattle.std.proofs.Math.ListN.{length}
use Rattle.words.specs.Words.{sum_of, sum, count_from}
use Rattle.words.specs.Sums.{sum-count, sum_same, length-count}
use Rattle.cascade.specs.Cascade.{tiers}
use Rattle.book.specs.Records.{C}
use Rattle.book.specs.Book.{book_of}
use Rattle.exposure.specs.Sums.{a3_exposure_of}
use Rattle.columns.specs.Column.{a3_column}
use Rattle.parties.specs.Rows.{tops_to, headed}
use Rattle.cells.specs.declared.Sums.{Sums}
use Rattle.cells.specs.Cells.{Posted}
use Rattle.cells.specs.GroupSums.{over-groups, a3-none, row-a3}
use Rattle.a3.specs.A3.{a3_part, a3_sum_of, a3_at}

-- two groups of the same exposures in the tiers count the same
pub part_same : (e f L : ℕ → ℕ) → ((t : ℕ) → t < tiers → e t ≡ f t) → a3_part e L ≡ a3_part f L
unfolding a3_part sum_of
part_same e f L h = rw (h 1 (omega arith), h 3 (omega arith), h 4 (omega arith), h 5 (omega arith), h 6 (omega arith))

-- the sum over the groups as one over a range
sum-range : (places : ℕ) (e : ℕ → ℕ → ℕ) (L : ℕ → ℕ) → a3_sum_of places e L ≡ sum (λ k. a3_part (e (1 + k)) L) places
unfolding a3_sum_of
sum-range places e L = sum-count (λ g. a3_part (e g) L) 1 places

pub part-le : (e L : ℕ → ℕ) (m : ℕ) → ((t : ℕ) → L t ≤ m) → a3_part e L ≤ 5 * m
unfolding a3_part sum_of
part-le e L m h = omega (arith, h 1, h 3, h 4, h 5, h 6)

part_none : (e L : ℕ → ℕ) → ((t : ℕ) → e t ≡ 0) → a3_part e L ≡ 0
unfolding a3_part sum_of
part_none e L h = omega (arith, h 1, h 3, h 4, h 5, h 6)

module _ {b : List ℕ} {groups : ℕ} {cells₀ cells : List ℕ} {r : Sums} (p : Posted b groups cells₀ cells r) (L : ℕ → ℕ) where
  -- the group of number k, whose top place is in `heads`
  pub part-at : (heads₀ : List ℕ) {heads : List ℕ} → C b < length heads₀ → heads ≡ headed b (C b) heads₀ → (k : ℕ) → k < tops_to b (C b)
      → a3_part (a3_at cells k) L ≡ a3_part (a3_exposure_of (book_of b) (get_or heads k 0)) L
  unfolding a3_part sum_of a3_at a3_column
  part-at heads₀ room e k h =
      let cell = row-a3 p heads₀ room e k h in
      rw (cell 0 (omega arith), cell 1 (omega arith), cell 2 (omega arith), cell 3 (omega arith), cell 4 (omega arith))

  pub by_number : groups ≡ tops_to b (C b) → a3_sum_of (C b) (a3_exposure_of (book_of b)) L ≡ sum (λ k. a3_part (a3_at cells k) L) groups
  unfolding a3_sum_of
  by_number eg =
      let heads₀ = count_from 0 (C b + 1) in
      let room : C b < length heads₀ = omega (arith, length-count 0 (C b + 1)) in
      over-groups b heads₀ (λ g. a3_part (a3_exposure_of (book_of b) g) L) room refl eg (λ g _ _ l. part_none (a3_exposure_of (book_of b) g) L (a3-none b g l))
      ∙ sum_same _ _ groups (λ k l. sym (part-at heads₀ room refl k (omega arith)))
