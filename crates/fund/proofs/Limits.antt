-- What the checks that were passed give the functions behind them: bounds, and the figures by their definitions.
use Rattle.std.proofs.Common.{Ok}
use mathlib.Core.List.{List, map}
use mathlib.Core.Path.{◌≡◌, refl, sym, ap, ◌∙◌}
use Prim.Native.Nat.{ℕ, ◌+◌, ◌≤◌, ◌<◌, ◌^◌}
use native.Mathlib.Omega.{arith}
use lib.IntN.{ℤ, pos, negsuc}
use lib.ListN.{length, get_or}
use Rattle.wire.specs.Bytes.{M}
use Rattle.limit.specs.Limit.{ten_thousandths, counted, cents_of}
use Rattle.limit.specs.Bounds.{most_limit}
use Rattle.schedule.specs.declared.Schedule.{Schedule}
use Rattle.schedule.specs.Schedule.{schedule_size, schedule_of}
use Rattle.schedule.specs.Tiers.{unrounded_limits, limits_in, a3_limit_of}
use Rattle.schedule.specs.Fits.{RatesFit}
use Rattle.schedule.specs.FitsLaws.{schedule-length, rates-fit}
use Rattle.schedule.specs.TierLaws.{limits-le}
use Rattle.book.specs.Records.{C, counterparty_at, base}
use Rattle.book.specs.Book.{book_of}
use Rattle.book.specs.Accepted.{Within, Accepted}
use Rattle.book.specs.AcceptedLaws.{accepted}
use Rattle.exposure.specs.Values.{VAF, VAF', fund_check}
use Rattle.exposure.specs.Parts.{exposures}
use Rattle.exposure.specs.Tier.{tier_of, no_limit}
use Rattle.exposure.specs.Sums.{W, unlimited}
use Rattle.words.specs.Words.{◌=?◌, sum}
use Rattle.cascade.specs.Cascade.{by_tier}
use Rattle.parties.specs.Rows.{tops_to}
use Rattle.assets.specs.declared.Values.{Values}
use Rattle.assets.proofs.Laws.{linked-net-le}
use Rattle.values.proofs.Laws.{stressed-vaf-le, vaf-le}
use Rattle.covering.specs.Bounds.{all-le}
use Rattle.cells.specs.declared.Sums.{Sums}
use Rattle.cells.specs.Adding.{amount-le}
use Rattle.a3.specs.A3.{a3_part, a3_at}
use Rattle.a3.specs.Laws.{by_number}
use Rattle.fund.specs.Fund.{Passed, sums_of, Exposed, Summed}
use Rattle.fund.specs.Figures.{unrounded_of, limits_of, limit, a3_sum, a3_limit}

counted-le : (z : ℤ) → Within z → counted z ≤ M
counted-le (pos n) h = h
counted-le (negsuc n) h = omega arith

module _ {schedule book : List ℕ} (p : Passed schedule book) where
  pub long : schedule_size ≤ length schedule
  long = omega (arith, schedule-length schedule p.of-schedule)

  pub taken : Accepted book
  taken = accepted book p.of-book

  pub rates : {s : Schedule} → s ≡ schedule_of schedule → RatesFit s
  rates e = rw e (rates-fit schedule p.of-schedule)

  pub base-le : {z : ℤ} → z ≡ base book → counted z ≤ M
  base-le e = rw e (counted-le (base book) taken.base)

  pub vaf-most : {v : ℕ} → v ≡ VAF (book_of book) → v ≤ M
  vaf-most e = rw e (vaf-le book taken)

  module _ (f : fund_check (book_of book) ≡ Ok tt) where
    pub stressed-most : {v : ℕ} → v ≡ VAF' (book_of book) → v ≤ M
    stressed-most e = rw e (stressed-vaf-le (book_of book) f)

    pub limit-most : {ls : List ℕ} → ls ≡ limits_of (schedule_of schedule) (book_of book) → (t : ℕ) → get_or ls t 0 ≤ most_limit
    unfolding limits_of book_of
    limit-most e t =
        rw e (limits-le (schedule_of schedule) (VAF (book_of book)) (VAF' (book_of book)) (base book) (W (book_of book)) (rates refl) (vaf-most refl) (stressed-most refl) (base-le refl) t)

module _ (schedule book : List ℕ) where
  pub unrounded-are :
      {s : Schedule} {v v' w : ℕ} {z : ℤ} → s ≡ schedule_of schedule → v ≡ VAF (book_of book) → v' ≡ VAF' (book_of book) → z ≡ base book → w ≡ W (book_of book)
      → unrounded_limits s v v' z w ≡ unrounded_of (schedule_of schedule) (book_of book)
  unfolding unrounded_of book_of
  unrounded-are es ev ev' ez ew = rw (es, ev, ev', ez, ew)

  pub limits-are : {us ls : List ℕ} → us ≡ unrounded_of (schedule_of schedule) (book_of book) → ls ≡ map (cents_of ten_thousandths) us → ls ≡ limits_of (schedule_of schedule) (book_of book)
  unfolding unrounded_of limits_of limits_in
  limits-are eu el = el ∙ ap (map (cents_of ten_thousandths)) eu

  pub a3-limit-is : {s : Schedule} {v' : ℕ} {z : ℤ} → s ≡ schedule_of schedule → v' ≡ VAF' (book_of book) → z ≡ base book → a3_limit_of s v' z ≡ a3_limit (schedule_of schedule) (book_of book)
  unfolding a3_limit book_of
  a3-limit-is es ev' ez = rw (es, ev', ez)

module _ {book : List ℕ} {v : Values} {s : Sums} (acc : Accepted book) (q : Summed book v s) where
  free-is : s.free ≡ (sums_of book).free
  free-is = ap (λ (x : Sums). x.free) q.of-exposures

  pub unlimited-fits : v.linked + s.free < 2 ^ 64
  unlimited-fits =
      omega (arith, q.of-assets.linked, linked-net-le book acc, free-is, all-le book acc, amount-le (λ x. tier_of (counterparty_at book) x =? no_limit) (exposures (book_of book)))

  pub unlimited-is : v.linked + s.free ≡ unlimited (book_of book)
  unfolding unlimited book_of
  unlimited-is = rw (q.of-assets.linked, free-is)

pub a3-sum-is :
    (schedule : List ℕ) {book cells : List ℕ} {groups : ℕ} {ls : List ℕ} → ls ≡ limits_of (schedule_of schedule) (book_of book) → groups ≡ tops_to book (C book) → Exposed book groups cells
    → sum (λ k. a3_part (a3_at cells k) (by_tier ls)) groups ≡ a3_sum (schedule_of schedule) (book_of book)
unfolding a3_sum book_of
a3-sum-is schedule {book} el eg e = rw el (sym (by_number e.posted (limit (schedule_of schedule) (book_of book)) eg))
