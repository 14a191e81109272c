-- How many lines a report has at most: no more than the book has exposures, and so no more than it has assets and mitigants.
--   lines-few    of any book
--   lines-most   of an accepted one
use mathlib.Core.Bool.{Bool, true, false, ◌&&◌}
use mathlib.Core.List.{List, [], ◌∷◌}
use mathlib.Core.Path.{◌≡◌, refl, sym, ◌∙◌}
use Prim.Native.Nat.{ℕ, zero, suc, ◌+◌, ◌-◌, ◌≤◌}
use native.Mathlib.Omega.{arith}
use lib.ListN.{length, length-append}
use borrow.Author.Tests.{eqb-true}
use Rattle.std.specs.Prelude.{if◌then◌else◌}
use Rattle.words.specs.Words.{◌<?◌, ◌=?◌, sum_of, sum}
use Rattle.words.specs.Choice.{if-le}
use Rattle.words.specs.Sums.{sum-zero, sum-le, sum_same, sum-length, sum-most, sum-swap, sum-once}
use Rattle.cascade.specs.Cascade.{tiers}
use Rattle.book.specs.declared.Counterparty.{Counterparty}
use Rattle.book.specs.declared.Asset.{Asset}
use Rattle.book.specs.declared.Mitigant.{Mitigant}
use Rattle.book.specs.Fields.{linked}
use Rattle.book.specs.Records.{N, K, asset_at, counterparty_at}
use Rattle.book.specs.Book.{Book, Holding, holdings_from, book_of, top_of}
use Rattle.book.specs.Check.{counts_add}
use Rattle.book.specs.Accepted.{Accepted}
use Rattle.exposure.specs.declared.Exposure.{Exposure}
use Rattle.exposure.specs.Parts.{covers, half_of, may_be_covered, left_after, parts_of, exposures_of, each_drawing, exposures}
use Rattle.exposure.specs.Values.{net}
use Rattle.exposure.specs.Tier.{tier_of}
use Rattle.exposure.specs.Sums.{amount_of, exposure_of}
use Rattle.covering.specs.Covered.{holding_at, mitigants-length}
use Rattle.schedule.specs.declared.Schedule.{Schedule}
use Rattle.figures.specs.Report.{lines_of}
use Rattle.figures.proofs.Written.{lines-sum}
use Rattle.fund.specs.Figures.{fund_of}

-- where the exposures that pass a test add up to more than 0, one passes it
some-pass : (test : Exposure → Bool) (xs : List Exposure) → (if 0 <? amount_of test xs then 1 else 0) ≤ sum_of (λ x. if test x then 1 else 0) xs
unfolding amount_of sum_of
some-pass test [] = omega arith
some-pass test (x ∷ xs) = by (test x) (some-pass test xs)
  where
    rest : ℕ
    rest = sum_of (λ (x : Exposure). if test x then x.amount else 0) xs

    by : (t : Bool) → (if 0 <? rest then 1 else 0) ≤ sum_of (λ x. if test x then 1 else 0) xs
        → (if 0 <? (if t then x.amount else 0) + rest then 1 else 0) ≤ (if t then 1 else 0) + sum_of (λ x. if test x then 1 else 0) xs
    by true h = if-le (0 <? x.amount + rest) (omega arith) (omega arith)
    by false h = let e : 0 + rest ≡ rest = omega arith in rw e (omega (arith, h))

module _ (B : Book) where
  abbrev who : ℕ → Counterparty
  who = B.counterparty

  -- an exposure is group g's, in tier t
  abbrev stands : ℕ → ℕ → Exposure → Bool
  stands g t x = top_of who x.counterparty =? g && tier_of who x =? t

  abbrev one : ℕ → ℕ → Exposure → ℕ
  one g t x = if stands g t x then 1 else 0

  -- which is so of one group and one tier at most
  in_group : (g : ℕ) (x : Exposure) → sum (λ t. one g t x) tiers ≤ (if top_of who x.counterparty =? g then 1 else 0)
  in_group g x = by (top_of who x.counterparty =? g)
    where
      by : (s : Bool) → sum (λ t. if s && tier_of who x =? t then 1 else 0) tiers ≤ (if s then 1 else 0)
      by true = sum-once (λ t. tier_of who x =? t) 1 tiers (λ j k p q. sym (eqb-true (tier_of who x) j p) ∙ eqb-true (tier_of who x) k q)
      by false = omega (arith, sum-zero tiers)

  in-groups : (n : ℕ) (x : Exposure) → sum (λ k. sum (λ t. one (k + 1) t x) tiers) n ≤ 1
  in-groups n x =
      let top = top_of who x.counterparty in
      omega (
        arith,
        sum-le (λ k. sum (λ t. one (k + 1) t x) tiers) (λ k. if top =? k + 1 then 1 else 0) n (λ k _. in_group (k + 1) x),
        sum-once (λ k. top =? k + 1) 1 n (λ j k p q. let a = eqb-true top (j + 1) p in let b = eqb-true top (k + 1) q in omega arith),
      )

  -- the lines, counted by group and tier, against the exposures, counted once each
  counted : (n : ℕ) → sum (λ k. sum (λ t. if 0 <? exposure_of B (k + 1) t then 1 else 0) tiers) n ≤ length (exposures B)
  unfolding exposure_of
  counted n =
      let xs = exposures B in
      let each : sum (λ k. sum (λ t. if 0 <? exposure_of B (k + 1) t then 1 else 0) tiers) n ≤ sum (λ k. sum (λ t. sum_of (one (k + 1) t) xs) tiers) n =
      sum-le _ _ n (λ k _. sum-le _ _ tiers (λ t _. some-pass (stands (k + 1) t) xs)) in
      let swapped : sum (λ k. sum (λ t. sum_of (one (k + 1) t) xs) tiers) n ≡ sum_of (λ x. sum (λ k. sum (λ t. one (k + 1) t x) tiers) n) xs =
      sum_same _ _ n (λ k _. sum-swap (one (k + 1)) tiers xs) ∙ sum-swap (λ k x. sum (λ t. one (k + 1) t x) tiers) n xs in
      omega (arith, each, swapped, sum-most (λ x. sum (λ k. sum (λ t. one (k + 1) t x) tiers) n) (λ _. 1) xs (in-groups n), sum-length xs)

  pub lines-few : (S : Schedule) → length (lines_of (fund_of S B)) ≤ length (exposures B)
  unfolding fund_of
  lines-few S = omega (arith, sum-length (lines_of (fund_of S B)), lines-sum (fund_of S B) (λ _. 1), counted B.counterparties)

-- an asset has an exposure for each mitigant, and a remainder; a linked one none
parts-length : (cs : ℕ → Counterparty) (a : Asset) (ms : List Mitigant) (still rest : ℕ) → length (parts_of cs a ms still rest) ≡ length ms + 1
unfolding parts_of
parts-length cs a [] still rest = refl
parts-length cs a (m ∷ ms) still rest =
    let part = covers a m (cs m.counterparty) still in
    omega (arith, parts-length cs a ms (still - part) (rest - part))

holding-few : (cs : ℕ → Counterparty) (left : ℕ → ℕ) (h : Holding) → length (exposures_of cs left h) ≤ length h.mitigants + 1
unfolding exposures_of
holding-few cs left h = by (linked h.asset)
  where
    by : (t : Bool) → length (if t then [] else parts_of cs h.asset h.mitigants (may_be_covered cs left h.asset) (net h.asset)) ≤ length h.mitigants + 1
    by true = omega arith
    by false = omega (arith, parts-length cs h.asset h.mitigants (may_be_covered cs left h.asset) (net h.asset))

holdings-few : (b : List ℕ) (cs : ℕ → Counterparty) (left : ℕ → ℕ) (more place m : ℕ)
    → length (each_drawing cs (exposures_of cs) left (holdings_from b place m more)) ≤ more + sum_of (λ (h : Holding). h.asset.count) (holdings_from b place m more)
unfolding sum_of holdings_from each_drawing
holdings-few b cs left zero place m = omega arith
holdings-few b cs left (suc more) place m =
    let a = asset_at b place in
    let this = holding_at b place m in
    let next = left_after cs left this in
    omega (
      arith,
      length-append (exposures_of cs left this) (each_drawing cs (exposures_of cs) next (holdings_from b (place + 1) (m + a.count) more)),
      holding-few cs left this,
      mitigants-length b a.count m,
      holdings-few b cs next more (place + 1) (m + a.count),
    )

-- "2,400 lines": of 900 assets and 1,500 mitigants, however many tiers there are
pub lines-most : (S : Schedule) (b : List ℕ) → Accepted b → length (lines_of (fund_of S (book_of b))) ≤ N b + K b
unfolding exposures book_of counts_add
lines-most S b acc =
    omega (arith, lines-few (book_of b) S, holdings-few b (counterparty_at b) (half_of (holdings_from b 1 1 (N b))) (N b) 1 1, acc.counted)
