-- How long a report is, and how many lines it has: for each group the ones of its set of tiers.
use mathlib.Core.Path.{◌≡◌, refl, ap, sym, ◌∙◌}
use mathlib.Core.Bool.{Bool, true, false}
use mathlib.Core.List.{List}
use Prim.Native.Nat.{ℕ, zero, suc, ◌+◌, ◌*◌, ◌^◌, ◌≤◌, ◌<◌}
use native.Mathlib.Omega.{arith}
use native.Mathlib.Nat.{pow-suc, one-mul}
use lib.Count.{ones, ones_cat, ones-le}
use lib.ListN.{length, length-append}
use Rattle.std.specs.Prelude.{if◌then◌else◌}
use Rattle.words.specs.Words.{◌<?◌, sum}
use Rattle.words.specs.Sums.{sum-le, sum_same, sum-length, length-each}
use Rattle.figures.specs.declared.Line.{Line}
use Rattle.figures.specs.Fund.{Fund, over_groups}
use Rattle.figures.specs.Report.{head_size, line_size, ranking, bits_of, tier_set, group_lines, lines_of, line_bytes, joined, head_bytes, head_of, report}
use Rattle.figures.proofs.Sums.{count_of, sum-const}
use Rattle.figures.proofs.Back.{line-long}
use Rattle.figures.proofs.Written.{head-long, group-sum, lines-sum}

module _ (b : ℕ → Bool) where
  pub bits-lt : (n : ℕ) → bits_of b n < 2 ^ n
  unfolding sum
  bits-lt zero = omega arith
  bits-lt (suc n) = by (b n) (bits-lt n)
    where
      by : (a : Bool) → bits_of b n < 2 ^ n → bits_of b n + (if a then 2 ^ n else 0) < 2 ^ suc n
      by true h = omega (arith, pow-suc 2 n)
      by false h = omega (arith, pow-suc 2 n)

  pub bits-ones : (n : ℕ) → ones (bits_of b n) ≡ count_of b n
  unfolding sum ones
  bits-ones zero = refl
  bits-ones (suc n) = by (b n) (bits-ones n)
    where
      by : (a : Bool) → ones (bits_of b n) ≡ count_of b n → ones (bits_of b n + (if a then 2 ^ n else 0)) ≡ count_of b n + (if a then 1 else 0)
      by true h =
          let e : bits_of b n + 2 ^ n ≡ 1 * 2 ^ n + bits_of b n = omega (arith, one-mul (2 ^ n)) in
          let o : ones 1 ≡ 1 = refl in
          ap ones e ∙ ones_cat n 1 (bits_of b n) (bits-lt n) ∙ omega arith
      by false h =
          let e : bits_of b n + 0 ≡ bits_of b n = omega arith in
          ap ones e ∙ h ∙ omega arith

module _ (F : Fund) where
  pub set-small : (g : ℕ) → tier_set F g < 2 ^ F.tiers
  unfolding tier_set
  set-small g = bits-lt (λ t. 0 <? F.exposure g t) F.tiers

  -- the ones of a group's set are its tiers
  set-ones : (g : ℕ) → ones (tier_set F g) ≡ count_of (λ t. 0 <? F.exposure g t) F.tiers
  unfolding tier_set
  set-ones g = bits-ones (λ t. 0 <? F.exposure g t) F.tiers

  -- "its ones are the group's lines"
  pub group-count : (g : ℕ) → length (group_lines F g (ranking F)) ≡ ones (tier_set F g)
  group-count g = sym (sum-length (group_lines F g (ranking F))) ∙ group-sum F (λ _. 1) g ∙ sym (set-ones g)

  pub line-count : length (lines_of F) ≡ over_groups F (λ g. ones (tier_set F g))
  line-count =
      sym (sum-length (lines_of F)) ∙ lines-sum F (λ _. 1)
      ∙ sum_same (λ k. count_of (λ t. 0 <? F.exposure (k + 1) t) F.tiers) (λ k. ones (tier_set F (k + 1))) F.groups (λ k _. sym (set-ones (k + 1)))

  pub lines-most : length (lines_of F) ≤ F.groups * F.tiers
  lines-most =
      rw (line-count, ← sum-const F.tiers F.groups)
      (sum-le (λ k. ones (tier_set F (k + 1))) (λ _. F.tiers) F.groups (λ k _. ones-le F.tiers (tier_set F (k + 1)) (set-small (k + 1))))

pub joined-long : (xs : List Line) → length (joined xs) ≡ line_size * length xs
joined-long xs = length-each line_size line_bytes line-long xs

-- the answer's length
pub report-long : (F : Fund) → length (report F) ≡ head_size + line_size * length (lines_of F)
unfolding report
report-long F = omega (arith, length-append (head_bytes (head_of F)) (joined (lines_of F)), head-long (head_of F), joined-long (lines_of F))
