-- The bills that are written are those of the definitions, and they add up. The tables' desks have the desks' excesses (excess-is), which fit (excess-room).
use Rattle.std.proofs.Common.{Ok}
use mathlib.Core.Bool.{Bool, true, false}
use mathlib.Core.List.{List, [], ◌++◌, append-nil}
use mathlib.Core.Path.{◌≡◌, refl, sym, ap, ◌∙◌}
use Prim.Native.Nat.{ℕ, zero, suc, ◌+◌, ◌*◌, ◌-◌, ◌≤◌, ◌<◌, ◌^◌}
use native.Mathlib.Omega.{arith}
use lib.Dec.{eqb, ltb}
use lib.ListN.{length, get_or, set, drop, replicate, length-set, length-replicate, get_or-eq_default}
use lib.Seq.{get_or-set_same, get_or-set_other}
use borrow.Author.Tests.{eqb-true, eqb-false, ltb-true, ltb-false}
use Rattle.std.specs.Prelude.{if◌then◌else◌}
use Rattle.words.specs.Words.{sum, All}
use Rattle.words.specs.Sums.{sum_same, all_map}
use Rattle.words.specs.Ranges.{sum-within}
use Rattle.wire.specs.Bytes.{placed}
use Rattle.rows.specs.Rows.{columns}
use Rattle.figures.specs.Report.{charge}
use Rattle.figures.specs.Read.{read_excess}
use Rattle.figures.specs.LeastCuts.{TierOf}
use Rattle.figures.proofs.Least.{excess-read}
use Rattle.bills.specs.Lines.{ExposureLine, amount_in, stands_in, excess_lines}
use Rattle.bills.specs.Bills.{desk_count, most_cost_rate, bills_size, a3_excess, desk_excess, cost_of, bill_bytes}
use Rattle.bills.specs.Tables.{LinesOf, by_desk, most_excess, desks_after}
use Rattle.bills.proofs.Totals.{line-excess, desks-charge}
use Rattle.bills.proofs.Running.{bills-length, read-bills, bills-same}
use Rattle.bills.proofs.Serving.{desks-length, desks-are}
use Rattle.book.specs.declared.Counterparty.{Counterparty}
use Rattle.book.specs.Records.{C, N, counterparty_at, asset_at}
use Rattle.book.specs.Book.{book_of}
use Rattle.book.specs.Accepted.{Accepted}
use Rattle.exposure.specs.declared.Exposure.{Exposure}
use Rattle.exposure.specs.Values.{fund_check}
use Rattle.cells.specs.CellLaws.{ExposureInside}
use Rattle.parties.specs.Rows.{tops_to}
use Rattle.covering.specs.ByPlace.{PartedBook}
use Rattle.fund.specs.declared.Fund as made
use Rattle.fund.specs.Fund.{Passed}
use Rattle.fund.specs.Tables.{FundTables}
use Rattle.fund.specs.Figures.{fund_of}
use Rattle.fund.proofs.Limits.{taken}
use Rattle.report.specs.Answer.{fund_in, report_of}
use Rattle.report.proofs.Written.{report-charge}
use Rattle.desks.specs.BookLines.{exposure_line}
use Rattle.standing.specs.Standing.{Stood}
use Rattle.desks.specs.Pass.{line_cell, lines_at, Lined, Served}
use Rattle.desks.proofs.LineLaws.{InBook, line-in, line_small, cells-apart, all_lines}
use Rattle.desks.proofs.BookLaws.{lines-excess, desk-few, book-lines}
use Rattle.billing.specs.Billed.{exposure_lines_in, excess_in, bills_of, AddUp, Billed}
use Rattle.billing.specs.Tables.{Excesses}
use Rattle.billing.proofs.Bounds.{charge-few}
use Rattle.billing.proofs.Standing.{stands_at}
use Rattle.billing.proofs.Chain.{fine}

-- a table of zeros has 0 at every entry, and past its end
pub at-zeros : (n q : ℕ) → ◌≡◌ {A = ℕ} (get_or (replicate n 0) q 0) 0
at-zeros zero q = refl
at-zeros (suc n) zero = refl
at-zeros (suc n) (suc q) = at-zeros n q

-- a line's desk is the asset's
line-desk : (cs : ℕ → Counterparty) (desk n : ℕ) (x : Exposure) → desk < n → (exposure_line cs desk x).desk < n
unfolding exposure_line
line-desk cs desk n x l = l

module _ (schedule b : List ℕ) (acc : Accepted b) (byte : (k : ℕ) → get_or b k 0 < 256) where
  -- ---- the definitions add up

  lines_are : LinesOf (fund_in schedule b) (exposure_lines_in b)
  unfolding fund_in fund_of book_of
  lines_are = book-lines b acc byte (fund_in schedule b) refl refl (λ g t. refl)

  sum_is : sum (excess_in schedule b) desk_count ≡ charge (fund_in schedule b)
  unfolding excess_in
  sum_is = desks-charge (fund_in schedule b) (exposure_lines_in b) lines_are

  sum-few : sum (excess_in schedule b) desk_count ≤ most_excess
  sum-few = omega (arith, sum_is, charge-few schedule b acc)

  desk-most : (d : ℕ) → d < desk_count → excess_in schedule b d ≤ most_excess
  desk-most d l = omega (arith, sum-within (excess_in schedule b) d desk_count l, sum-few)

  tier-is : (g t : ℕ) → TierOf (fund_in schedule b) g t → amount_in g t (excess_lines (stands_in (fund_in schedule b)) (exposure_lines_in b)) ≡ read_excess (report_of schedule b) g t
  unfolding report_of
  tier-is g t h = line-excess (fund_in schedule b) (exposure_lines_in b) lines_are g t h.tier ∙ rw append-nil at (excess-read (fund_in schedule b) [] g t h)

  add-up : (rate : ℕ) (more : List ℕ) → AddUp schedule b rate (bills_of schedule b rate ++ more)
  unfolding bills_of cost_of
  add-up rate more = record {
    bills = read-bills (excess_in schedule b) rate more ∙ rw (sum_is, report-charge schedule b);
    desks = sum_is ∙ sym (report-charge schedule b);
    tiers = tier-is;
  }

  -- ---- the tables

  module _ (covered rests : List ℕ) (parts : PartedBook b covered rests) (stood : List ℕ) (stands : (y : ExposureLine) → InBook b y → stands_in (fund_in schedule b) y.group y.tier ≡ get_or stood (line_cell b y) 0)
      (room : (y : ExposureLine) → InBook b y → line_cell b y < length stood) (desks : List ℕ) (e : desks ≡ set (replicate desk_count 0) 0 ((fund_in schedule b).a3_sum - (fund_in schedule b).a3_limit)) where
    abbrev xs : List ExposureLine
    xs = lines_at b covered rests 1 1 (N b)

    pub desks-long : length desks ≡ desk_count
    desks-long = ap length e ∙ length-set {A = ℕ} (replicate desk_count 0) 0 ((fund_in schedule b).a3_sum - (fund_in schedule b).a3_limit) ∙ length-replicate {A = ℕ} desk_count 0

    start : (d : ℕ) → by_desk desks d ≡ a3_excess (fund_in schedule b) d
    start d = rw e (by (eqb d 0) refl)
      where
        v : ℕ
        v = (fund_in schedule b).a3_sum - (fund_in schedule b).a3_limit

        by : (t : Bool) → eqb d 0 ≡ t → get_or (set (replicate desk_count 0) 0 v) d 0 ≡ (if t then v else 0)
        by true q = rw (eqb-true d 0 q) (get_or-set_same (replicate desk_count 0) 0 v 0 (omega (arith, length-replicate {A = ℕ} desk_count 0)))
        by false q = get_or-set_other (replicate desk_count 0) 0 d v 0 (eqb-false d 0 q) ∙ at-zeros desk_count d

    of-book : All (InBook b) xs
    of-book = all_lines b acc covered rests (InBook b) (λ place x i. line-in b (asset_at b place).desk x i)

    at-desks : All (λ y. y.desk < length desks) xs
    at-desks = all_lines b acc covered rests (λ y. y.desk < length desks) known
      where
        known : (place : ℕ) (x : Exposure) → ExposureInside b x → (exposure_line (counterparty_at b) (asset_at b place).desk x).desk < length desks
        known place x i = line-desk (counterparty_at b) (asset_at b place).desk (length desks) x (omega (arith, desks-long, desk-few b acc byte place))

    all-is : (d : ℕ) → by_desk (desks_after (line_cell b) xs stood desks) d ≡ excess_in schedule b d
    unfolding excess_in desk_excess
    all-is d =
        desks-are (line_cell b) (InBook b) (cells-apart b) xs (stands_in (fund_in schedule b)) stood desks of-book (all_map (λ y i. (room y i, stands y i)) xs of-book) at-desks d
        ∙ omega (arith, start d, lines-excess d b covered rests parts (stands_in (fund_in schedule b)))

    pub excess-is : {desks' : List ℕ} → desks' ≡ desks_after (line_cell b) (lines_at b covered rests 1 1 (N b)) stood desks → (length desks' ≡ desk_count) × ((d : ℕ) → d < desk_count → by_desk desks' d ≡ excess_in schedule b d)
    excess-is q = (ap length q ∙ desks-length (line_cell b) xs stood desks ∙ desks-long, λ d l. rw q (all-is d))

    pub excess-room : (d : ℕ) → by_desk (desks_after (line_cell b) (lines_at b covered rests 1 1 (N b)) stood desks) d < 2 ^ 64
    excess-room d = by (ltb d desk_count) refl
      where
        by : (t : Bool) → ltb d desk_count ≡ t → by_desk (desks_after (line_cell b) xs stood desks) d < 2 ^ 64
        by true q = omega (arith, all-is d, desk-most d (ltb-true d desk_count q))
        by false q = omega (arith, get_or-eq_default (desks_after (line_cell b) xs stood desks) 0 {n = d} (omega (arith, desks-length (line_cell b) xs stood desks, desks-long, ltb-false d desk_count q)))

  -- ---- what is written

  module _ {groups : ℕ} {f : made.Fund} {covered rests cells₀ cells desks : List ℕ} (x : Excesses schedule b groups f covered rests cells₀ cells desks) where
    pub desks-few : sum (by_desk desks) desk_count ≤ most_excess
    desks-few = omega (arith, sum_same (by_desk desks) (excess_in schedule b) desk_count x.each, sum-few)

    pub billed : (rate : ℕ) (before : List ℕ) {after : List ℕ} → Passed schedule b → fund_check (book_of b) ≡ Ok tt → rate ≤ most_cost_rate → bills_size ≤ length before
        → after ≡ placed before 0 (bill_bytes (by_desk desks) rate) → Billed schedule b rate before after (Ok bills_size)
    unfolding bills_of
    billed rate before {after} p q h l put =
        let n : 0 + length (bill_bytes (excess_in schedule b) rate) ≡ bills_size = omega (arith, bills-length (excess_in schedule b) rate) in
        let a : after ≡ bill_bytes (excess_in schedule b) rate ++ drop bills_size before =
        put ∙ ap (placed before 0) (bills-same (by_desk desks) (excess_in schedule b) rate x.each) ∙ ap (λ (k : ℕ). bill_bytes (excess_in schedule b) rate ++ drop k before) n in
        record { answer = fine schedule b rate before p q h l; bytes = a; sums = rw a (add-up rate (drop bills_size before)) }

-- ---- the tables of a fund

module _ {schedule b : List ℕ} {groups : ℕ} {f : made.Fund} {words rows places covered rests cells : List ℕ} (t : FundTables schedule b groups f words rows places covered rests cells)
    (byte : (k : ℕ) → get_or b k 0 < 256) {stood : List ℕ} (s : Stood groups f.limits f.ranking cells stood) {desks : List ℕ} (z : desks ≡ replicate desk_count 0)
    {v : ℕ} (e : v ≡ f.figures.a3_sum - f.figures.a3_limit) where
  acc : Accepted b
  acc = taken t.rateable.passed

  abbrev opening : List ℕ
  opening = set desks 0 v

  opening-is : opening ≡ set (replicate desk_count 0) 0 ((fund_in schedule b).a3_sum - (fund_in schedule b).a3_limit)
  unfolding fund_in fund_of
  opening-is = rw (z, e, t.rated.a3-sum, t.rated.a3-limit)

  stood-at : (y : ExposureLine) → InBook b y → stands_in (fund_in schedule b) y.group y.tier ≡ get_or stood (line_cell b y) 0
  stood-at = stands_at acc t.rateable.count t.rated t.rateable.exposed s

  cells-long : columns * tops_to b (C b) ≤ length stood
  cells-long = omega (arith, s.size, t.rateable.exposed.size, t.rateable.count)

  inside : (y : ExposureLine) → InBook b y → line_cell b y < length stood
  inside y i = omega (arith, line_small b y i, cells-long)

  pub lined : Lined b stood (set desks 0 v)
  lined = record { cells = cells-long; places = desks-long schedule b acc byte covered rests t.parts stood stood-at inside opening opening-is }

  pub serve-room : (d : ℕ) → by_desk (desks_after (line_cell b) (lines_at b covered rests 1 1 (N b)) stood (set desks 0 v)) d < 2 ^ 64
  serve-room = excess-room schedule b acc byte covered rests t.parts stood stood-at inside opening opening-is

  pub excesses-are : {cells' desks' : List ℕ} → Served b covered rests stood (set desks 0 v) cells' desks' → Excesses schedule b groups f covered rests cells cells' desks'
  excesses-are w =
      let r = excess-is schedule b acc byte covered rests t.parts stood stood-at inside opening opening-is w.excess in
      record { size = r.0; each = r.1; left = record { stood = stood; standing = s; given = w.given } }
