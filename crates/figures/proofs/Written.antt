-- What is read of a report: its figures, and a sum over its lines.
use mathlib.Core.Path.{◌≡◌, refl, ap, ◌∙◌}
use mathlib.Core.Bool.{Bool, true, false}
use mathlib.Core.List.{List, [], ◌∷◌, ◌++◌, append_assoc}
use Prim.Native.Nat.{ℕ, ◌+◌, ◌≤◌}
use native.Mathlib.Omega.{arith}
use lib.ListN.{length}
use Rattle.std.specs.Prelude.{if◌then◌else◌}
use Rattle.words.specs.Words.{◌<?◌, sum_of, sum, count_from}
use Rattle.words.specs.Sums.{sum-each, sum-each-same, sum-count, sum_same}
use Rattle.wire.specs.Bytes.{u16_at, u64_at}
use Rattle.wire.proofs.Laws.{number}
use Rattle.cascade.proofs.Ranking.{ranked-lists}
use Rattle.figures.specs.declared.Line.{Line}
use Rattle.figures.specs.declared.Head.{Head}
use Rattle.figures.specs.Fund.{Fund, over_groups}
use Rattle.figures.specs.Report.{head_size, ranking, line_of, cell_lines, group_lines, lines_of, group_excess, charge, joined, head_bytes, head_of, report}
use Rattle.figures.specs.Read.{line_at, lines_in, group_excess_in, charge_in}
use Rattle.figures.proofs.Back.{u16-part, u64-part, lines-back}

-- f of the line of group g and tier t, 0 where there is none
abbrev pub cell : Fund → (Line → ℕ) → ℕ → ℕ → ℕ
cell F f g t = if 0 <? F.exposure g t then f (line_of F g t) else 0

module _ (F : Fund) (f : Line → ℕ) where
  cell-sum : (g t : ℕ) → sum_of f (cell_lines F g t) ≡ cell F f g t
  unfolding cell_lines sum_of
  cell-sum g t = by (0 <? F.exposure g t)
    where
      by : (b : Bool) → sum_of f (if b then line_of F g t ∷ [] else []) ≡ (if b then f (line_of F g t) else 0)
      by true = omega arith
      by false = refl

  -- over the lines of a group
  pub group-sum : (g : ℕ) → sum_of f (group_lines F g (ranking F)) ≡ sum (cell F f g) F.tiers
  group-sum g =
      sum-each f (cell_lines F g) (ranking F)
      ∙ sum-each-same (λ t. sum_of f (cell_lines F g t)) (cell F f g) (ranking F) (cell-sum g)
      ∙ (ranked-lists F.order F.tiers).once (cell F f g)

  -- over all lines
  pub lines-sum : sum_of f (lines_of F) ≡ over_groups F (λ g. sum (cell F f g) F.tiers)
  lines-sum =
      sum-each f (λ g. group_lines F g (ranking F)) (count_from 1 F.groups)
      ∙ sum-each-same (λ g. sum_of f (group_lines F g (ranking F))) (λ g. sum (cell F f g) F.tiers) (count_from 1 F.groups) group-sum
      ∙ sum-count (λ g. sum (cell F f g) F.tiers) 1 F.groups
      ∙ sum_same (λ k. sum (cell F f (1 + k)) F.tiers) (λ k. sum (cell F f (k + 1)) F.tiers) F.groups
      (λ k _. ap (λ (g : ℕ). sum (cell F f g) F.tiers) (omega arith))

module _ (h : Head) where
  pub head-long : length (head_bytes h) ≡ head_size
  unfolding head_bytes
  head-long = refl

  head-lines : u16_at (head_bytes h) 6 ≡ h.lines
  unfolding head_bytes u16_at
  head-lines = omega arith

  head-u64 : (u64_at (head_bytes h) 40 ≡ h.group_excess) × (u64_at (head_bytes h) 64 ≡ h.charge)
  unfolding head_bytes u64_at
  head-u64 = (number h.group_excess, number h.charge)

module _ (F : Fund) (more : List ℕ) where
  behind : report F ++ more ≡ head_bytes (head_of F) ++ (joined (lines_of F) ++ more)
  unfolding report
  behind = append_assoc (head_bytes (head_of F)) (joined (lines_of F)) more

  -- a u64 of the header
  u64-head : (k : ℕ) → k + 8 ≤ head_size → u64_at (report F ++ more) k ≡ u64_at (head_bytes (head_of F)) k
  u64-head k l = rw behind (ap (u64_at (head_bytes (head_of F) ++ (joined (lines_of F) ++ more))) (omega arith) ∙ u64-part [] (head_bytes (head_of F)) (joined (lines_of F) ++ more) 0 k refl (omega (arith, head-long (head_of F))))

  pub lines-in : lines_in (report F ++ more) ≡ length (lines_of F)
  unfolding head_of
  lines-in = rw behind (u16-part [] (head_bytes (head_of F)) (joined (lines_of F) ++ more) 0 6 refl (omega (arith, head-long (head_of F))) ∙ head-lines (head_of F))

  pub group-excess-in : group_excess_in (report F ++ more) ≡ group_excess F
  unfolding head_of
  group-excess-in = u64-head 40 (omega arith) ∙ (head-u64 (head_of F)).0

  pub charge-in : charge_in (report F ++ more) ≡ charge F
  unfolding head_of
  charge-in = u64-head 64 (omega arith) ∙ (head-u64 (head_of F)).1

  -- a sum over the lines that are read is one over groups and tiers
  pub read-sum : (f : Line → ℕ) → sum (λ i. f (line_at (report F ++ more) i)) (lines_in (report F ++ more)) ≡ over_groups F (λ g. sum (cell F f g) F.tiers)
  unfolding report
  read-sum f =
      ap (sum (λ i. f (line_at (report F ++ more) i))) lines-in
      ∙ lines-back f (lines_of F) (head_bytes (head_of F)) more head_size (head-long (head_of F))
      ∙ lines-sum F f
