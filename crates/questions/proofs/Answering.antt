-- The tables' answers are those of the definitions: the tables have what a question needs (answerable), and give its answer (answer-is).
use mathlib.Core.List.{List}
use mathlib.Core.Path.{◌≡◌, sym, ◌∙◌}
use Prim.Native.Nat.{ℕ, ◌≤◌, ◌<◌}
use native.Mathlib.Omega.{arith}
use Rattle.words.specs.Sums.{sum_same}
use Rattle.wire.specs.Bytes.{M}
use Rattle.cascade.specs.Cascade.{tiers}
use Rattle.headroom.specs.Headroom.{RankedBy}
use Rattle.headroom.proofs.Closed.{room-same}
use Rattle.schedule.specs.Schedule.{schedule_of}
use Rattle.book.specs.declared.Counterparty.{Counterparty}
use Rattle.book.specs.Records.{C, counterparty_at}
use Rattle.book.specs.Book.{book_of}
use Rattle.book.proofs.TopLaws.{top-le, top_pos}
use Rattle.book.specs.Accepted.{Accepted}
use Rattle.exposure.specs.Tier.{tier_of}
use Rattle.exposure.specs.Sums.{exposure_of}
use Rattle.columns.specs.Column.{column_of, tier_in}
use Rattle.columns.proofs.ColumnLaws.{word-kind, tier-in, column-le}
use Rattle.parties.specs.Rows.{tops_to, row_of}
use Rattle.parties.specs.RowLaws.{top-alone, top-top, same-group, row_small}
use Rattle.cells.specs.Cells.{Rowed}
use Rattle.cells.specs.GroupSums.{group-le}
use Rattle.fund.specs.declared.Fund as made
use Rattle.fund.specs.Figures.{limit, order, fund_of}
use Rattle.fund.proofs.OrderLaws.{ordered}
use Rattle.fund.specs.Fund.{Exposed, RatedAs}
use Rattle.report.specs.Answer.{fund_in}
use Rattle.questions.specs.Tables.{start_at, exposures_at, asked_column, answer_at, Answerable}
use Rattle.questions.specs.Headroom.{asked, group_of, tier_for, answer_to}
use Rattle.asking.proofs.Listed.{InRange}

-- the ranking that was made, by the fund's order
abbrev pub ranked-by : {schedule b : List ℕ} {f : made.Fund} → RatedAs schedule b f → RankedBy f.limits f.ranking
ranked-by {schedule} {b} r = record { order = order (schedule_of schedule) (book_of b); ordered = rw r.limits (ordered (schedule_of schedule) (book_of b)); ranks = r.ranking }

module _ {schedule b : List ℕ} {groups : ℕ} {f : made.Fund} {words rows cells : List ℕ} (acc : Accepted b) (eg : groups ≡ tops_to b (C b)) (r : RatedAs schedule b f) (w : Rowed b words rows) (x : Exposed b groups cells) {place kind : ℕ} (q : InRange (C b) place kind) where
  -- its group's top place
  abbrev g : ℕ
  g = group_of b place

  abbrev who : Counterparty
  who = counterparty_at b place

  low : 0 < g
  low = top_pos (counterparty_at b) place q.first

  high : g ≤ C b
  high = omega (arith, top-le (counterparty_at b) place, q.last)

  -- the row of its group is the top place's
  start_is : start_at rows place ≡ row_of b g
  start_is = w.row place q.first q.last ∙ same-group b place g (sym (top-top (counterparty_at b) place))

  row_is : (t : ℕ) → t < tiers → exposures_at rows cells place t ≡ exposure_of (book_of b) g t
  row_is t l = rw start_is (x.posted.tier g t low high (top-alone (counterparty_at b) place) l)

  column-is : asked_column words place kind ≡ column_of (asked place kind) who
  column-is = rw (w.word place q.first q.last) (word-kind who (acc.flags place q.first q.last) (asked place kind) q.low q.high q.other)

  pub answerable : Answerable f.limits f.ranking words rows cells place kind
  answerable = record {
    words_size = omega (arith, w.words_size, q.last);
    rows-size = omega (arith, w.rows-size, q.last);
    low = q.low;
    high = q.high;
    column = rw column-is (column-le (asked place kind) who);
    row = omega (arith, start_is, row_small b (C b) g low high, eg, x.size);
    ranks = ranked-by r;
    amounts = omega (arith, sum_same (exposures_at rows cells place) (exposure_of (book_of b) g) tiers row_is, group-le b acc tiers g low high);
  }

  tier-is : tier_in (asked_column words place kind) ≡ tier_for b place kind
  unfolding tier_of
  tier-is = rw column-is (tier-in (asked place kind) who)

  pub answer-is : answer_at (order (schedule_of schedule) (book_of b)) f.limits words rows cells place kind ≡ answer_to schedule b place kind
  unfolding answer_at answer_to fund_in fund_of
  answer-is =
      let L = limit (schedule_of schedule) (book_of b) in
      rw (r.limits, tier-is) (room-same tiers (order (schedule_of schedule) (book_of b)) L (exposures_at rows cells place) (exposure_of (book_of b) g) row_is (tier_for b place kind) M)
