-- The bills as they are put, desk by desk: the running excess and its cost (running-next, cost-next, bill-next), that these fit (running-within, product-fits, cost-grows),
-- and how many bytes they are (bills-length). What is read of them in a longer list adds up (read-bills). They depend on the desks' excesses alone (bills-same).
use mathlib.Core.List.{List, [], ◌++◌, map}
use mathlib.Core.Path.{◌≡◌, refl, sym, ap, ◌∙◌}
use Prim.Native.Nat.{ℕ, ◌+◌, ◌*◌, ◌-◌, ◌/◌, ◌≤◌, ◌<◌, ◌^◌}
use native.Mathlib.Nat.{mul-le-mul_left}
use native.Mathlib.Numerals.{add-one}
use native.Mathlib.Omega.{arith}
use lib.ListN.{length, get_or, take, length-map}
use lib.Seq.{take_all, ext_get_or}
use Rattle.words.specs.Words.{sum, count_from}
use Rattle.words.specs.Sums.{sum_same, length-count, count_at}
use Rattle.words.specs.Ranges.{sum-next, sum-within}
use Rattle.wire.specs.Bytes.{u64_at, placed}
use Rattle.wire.specs.Amounts.{amounts_bytes, amounts-length}
use Rattle.wire.proofs.Amounts.{amounts-in}
use Rattle.bills.specs.Bills.{desk_count, most_cost_rate, bills_size, cost_of, bill_of, bill_bytes}
use Rattle.bills.specs.Tables.{most_excess}
use Rattle.bills.proofs.Totals.{cost-rises, bills-sum}

module _ (x : ℕ → ℕ) (rate : ℕ) where
  -- all bills
  abbrev pub bills : List ℕ
  bills = map (bill_of x rate) (count_from 0 desk_count)

  pub bills-long : length bills ≡ desk_count
  bills-long = length-map (count_from 0 desk_count) (bill_of x rate) ∙ length-count 0 desk_count

  pub bill-at : (d : ℕ) → d < desk_count → get_or bills d 0 ≡ bill_of x rate d
  bill-at d l = count_at (bill_of x rate) 0 desk_count d l ∙ ap (bill_of x rate) (omega arith)

  pub running-start : 0 ≡ sum x 0
  unfolding sum
  running-start = refl

  pub cost-start : 0 ≡ cost_of x rate 0
  unfolding cost_of sum
  cost-start = omega arith

  pub running-next : (d : ℕ) {r : ℕ} → r ≡ sum x d → r + x d ≡ sum x (d + 1)
  running-next d e = rw e (sum-next x d)

  pub cost-next : (d : ℕ) {r : ℕ} → r ≡ sum x d → (r + x d) * rate / 10000 ≡ cost_of x rate (d + 1)
  unfolding cost_of
  cost-next d e = rw (running-next d e)

  pub bill-next : (d : ℕ) {r b : ℕ} → d < desk_count → r ≡ sum x d → b ≡ cost_of x rate d → (r + x d) * rate / 10000 - b ≡ get_or bills d 0
  unfolding bill_of
  bill-next d l e f = rw (cost-next d e, f) (sym (bill-at d l))

  pub running-within : (d : ℕ) {r : ℕ} → d < desk_count → r ≡ sum x d → r + x d ≤ sum x desk_count
  running-within d l e = rw e (sum-within x d desk_count l)

  pub cost-grows : (d : ℕ) {r b : ℕ} → r ≡ sum x d → b ≡ cost_of x rate d → b ≤ (r + x d) * rate / 10000
  cost-grows d e f = rw (cost-next d e, f, add-one) (cost-rises x rate d)

  pub bills-length : length (bill_bytes x rate) ≡ bills_size
  unfolding bill_bytes
  bills-length = amounts-length bills ∙ omega (arith, bills-long)

  -- where all of them are put
  pub all-put : (before : List ℕ) (d : ℕ) → desk_count ≤ d → {after : List ℕ} → after ≡ placed before 0 (amounts_bytes (take d bills)) → after ≡ placed before 0 (bill_bytes x rate)
  unfolding bill_bytes
  all-put before d l e = e ∙ ap (λ (xs : List ℕ). placed before 0 (amounts_bytes xs)) (take_all d bills (omega (arith, bills-long)))

  -- the bills that stand before other bytes, read one by one
  pub read-bills : (more : List ℕ) → sum (λ d. u64_at (bill_bytes x rate ++ more) (8 * d)) desk_count ≡ cost_of x rate desk_count
  unfolding bill_bytes
  read-bills more = sum_same (λ d. u64_at (amounts_bytes bills ++ more) (8 * d)) (bill_of x rate) desk_count one ∙ bills-sum x rate desk_count
    where
      one : (d : ℕ) → d < desk_count → u64_at (amounts_bytes bills ++ more) (8 * d) ≡ bill_of x rate d
      one d l =
          let p : 0 + 8 * d ≡ 8 * d = omega arith in
          rw p at (amounts-in bills [] more 0 d refl (omega (arith, bills-long))) ∙ bill-at d l

-- 18,000,000,000,000,000 × 1,000 is below 2^64
pub product-fits : (r rate : ℕ) → r ≤ most_excess → rate ≤ most_cost_rate → r * rate < 2 ^ 64
product-fits r rate h k = omega (arith, mul-le-mul_left {m = rate} {n = 1000} r k)

module _ (x y : ℕ → ℕ) (rate : ℕ) (h : (d : ℕ) → d < desk_count → x d ≡ y d) where
  cost-same : (d : ℕ) → d ≤ desk_count → cost_of x rate d ≡ cost_of y rate d
  unfolding cost_of
  cost-same d l = rw (sum_same x y d (λ u k. h u (omega arith)))

  bill-same : (d : ℕ) → d < desk_count → bill_of x rate d ≡ bill_of y rate d
  unfolding bill_of
  bill-same d l = rw (cost-same (d + 1) (omega arith), cost-same d (omega arith))

  pub bills-same : bill_bytes x rate ≡ bill_bytes y rate
  unfolding bill_bytes
  bills-same = ap amounts_bytes (ext_get_or 0 (bills x rate) (bills y rate) (bills-long x rate ∙ sym (bills-long y rate)) at)
    where
      at : (d : ℕ) → d < length (bills x rate) → get_or (bills x rate) d 0 ≡ get_or (bills y rate) d 0
      at d l = let k : d < desk_count = omega (arith, bills-long x rate) in bill-at x rate d k ∙ bill-same d k ∙ sym (bill-at y rate d k)
