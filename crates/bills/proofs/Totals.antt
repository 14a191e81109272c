-- The desks' excesses add up to the charge (desks-charge), and the bills to the charge times the rate, rounded down (bills-add-up).
use mathlib.Core.List.{List}
use mathlib.Core.Path.{◌≡◌, refl, sym, ◌∙◌}
use Prim.Native.Nat.{ℕ, zero, suc, ◌+◌, ◌*◌, ◌-◌, ◌/◌, ◌≤◌, ◌<◌}
use native.Mathlib.Nat.{add-mul}
use native.Mathlib.Numerals.{add-one}
use native.Mathlib.Omega.{arith}
use borrow.Author.Tests.{lt-ltb, le-ltb}
use Rattle.std.specs.Prelude.{if◌then◌else◌}
use Rattle.words.specs.Words.{◌=?◌, sum_of, sum, All}
use Rattle.words.specs.Sums.{sum_same, sum-add, sum-swap, sum-agree, all_map}
use Rattle.words.specs.Ranges.{sum-here}
use Rattle.cascade.specs.Cascade.{excess_sum}
use Rattle.figures.specs.Fund.{Fund, over_groups}
use Rattle.figures.specs.Report.{excess_of, excess_sum_of, group_excess, charge}
use Rattle.bills.specs.Lines.{ExposureLine, is_in, amount_in, tier_excess, stands_in, excess_lines}
use Rattle.bills.specs.Bills.{desk_count, amount_of_desk, a3_excess, desk_excess, cost_of, bill_of}
use Rattle.bills.specs.Tables.{LineInside, LinesOf}
use Rattle.bills.proofs.Sums.{twice}
use Rattle.bills.proofs.Served.{all-excess, tier-excess}

abbrev amount : ExposureLine → ℕ
amount x = x.amount

-- ---- one list of lines, summed by desk and by group and tier

module _ (F : Fund) (xs : List ExposureLine) (h : All (LineInside F) xs) where
  by-desk : sum (λ d. amount_of_desk d xs) desk_count ≡ sum_of amount xs
  unfolding amount_of_desk
  by-desk =
      sum-swap (λ (d : ℕ) (x : ExposureLine). if x.desk =? d then x.amount else 0) desk_count xs
      ∙ sum-agree (λ (x : ExposureLine). sum (λ d. if x.desk =? d then x.amount else 0) desk_count) amount xs (all_map (λ x i. sum-here x.amount x.desk desk_count i.3) xs h)

  by-tier : over_groups F (λ g. sum (λ t. amount_in g t xs) (suc F.tiers)) ≡ sum_of amount xs
  unfolding amount_in
  by-tier =
      sum_same (λ k. sum (λ t. amount_in (k + 1) t xs) (suc F.tiers)) (λ k. sum_of (λ (x : ExposureLine). sum (λ t. if is_in (k + 1) t x then x.amount else 0) (suc F.tiers)) xs) F.groups
      (λ k _. sum-swap (λ (t : ℕ) (x : ExposureLine). if is_in (k + 1) t x then x.amount else 0) (suc F.tiers) xs)
      ∙ sum-swap (λ (k : ℕ) (x : ExposureLine). sum (λ t. if is_in (k + 1) t x then x.amount else 0) (suc F.tiers)) F.groups xs
      ∙ sum-agree (λ (x : ExposureLine). sum (λ k. sum (λ t. if is_in (k + 1) t x then x.amount else 0) (suc F.tiers)) F.groups) amount xs
      (all_map (λ x i. twice x.group x.tier x.amount F.groups (suc F.tiers) i.0 i.1 (omega (arith, i.2))) xs h)

-- ---- the desks' excesses

module _ (F : Fund) (xs : List ExposureLine) (b : LinesOf F xs) where
  abbrev ys : List ExposureLine
  ys = excess_lines (stands_in F) xs

  inside : All (LineInside F) ys
  inside = all-excess (LineInside F) (λ x a i. i) (stands_in F) xs b.inside

  -- "what has no limit" has no excess
  pub line-excess : (g t : ℕ) → t < F.tiers → amount_in g t (excess_lines (stands_in F) xs) ≡ excess_of F g t
  unfolding tier_excess
  line-excess g t l = tier-excess F xs g t (b.amounts g t) ∙ rw (lt-ltb t F.tiers l)

  group-excess : (g : ℕ) → sum (λ t. amount_in g t ys) (suc F.tiers) ≡ excess_sum_of F g
  unfolding excess_sum sum tier_excess
  group-excess g =
      let tiers' = sum_same (λ t. amount_in g t ys) (excess_of F g) F.tiers (line-excess g) in
      let free : amount_in g F.tiers ys ≡ 0 = tier-excess F xs g F.tiers (b.amounts g F.tiers) ∙ rw (le-ltb F.tiers F.tiers (omega arith)) in
      omega (arith, tiers', free)

  lines-excess : sum_of amount ys ≡ group_excess F
  unfolding group_excess
  lines-excess =
      sym (by-tier F ys inside)
      ∙ sum_same (λ k. sum (λ t. amount_in (k + 1) t ys) (suc F.tiers)) (λ k. excess_sum_of F (k + 1)) F.groups (λ k _. group-excess (k + 1))

  a3-once : sum (a3_excess F) desk_count ≡ F.a3_sum - F.a3_limit
  unfolding sum
  a3-once = omega arith

  pub desks-charge : sum (desk_excess F xs) desk_count ≡ charge F
  unfolding desk_excess charge
  desks-charge =
      sym (sum-add (λ d. amount_of_desk d ys) (a3_excess F) (desk_excess F xs) desk_count (λ d _. refl))
      ∙ omega (arith, by-desk F ys inside, lines-excess, a3-once)

-- ---- the bills

module _ (x : ℕ → ℕ) (rate : ℕ) where
  cost-none : 0 ≡ cost_of x rate 0
  unfolding cost_of sum
  cost-none = omega arith

  pub cost-rises : (d : ℕ) → cost_of x rate d ≤ cost_of x rate (suc d)
  unfolding cost_of sum
  cost-rises d = omega (arith, add-mul (sum x d) (x d) rate)

  -- each figure is taken off again by the next desk
  pub bills-sum : (n : ℕ) → sum (bill_of x rate) n ≡ cost_of x rate n
  unfolding sum bill_of
  bills-sum zero = cost-none
  bills-sum (suc n) = rw (bills-sum n, add-one) (omega (arith, cost-rises n))

-- "The bills must add up to the charge times the rate, rounded down, to the cent"
pub bills-add-up : (F : Fund) (xs : List ExposureLine) (rate : ℕ) → LinesOf F xs → sum (bill_of (desk_excess F xs) rate) desk_count ≡ charge F * rate / 10000
unfolding cost_of
bills-add-up F xs rate b = bills-sum (desk_excess F xs) rate desk_count ∙ rw (desks-charge F xs b)
