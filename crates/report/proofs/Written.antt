-- The report that was written out of the tables is that of the definitions, and demand 3 holds of its bytes.
use Rattle.std.proofs.Common.{Ok}
use mathlib.Core.Bool.{Bool, true, false}
use mathlib.Core.List.{List, [], ◌++◌, append-nil}
use mathlib.Core.Path.{◌≡◌, refl, sym, ap, ap₂, ◌∙◌}
use Prim.Native.Nat.{ℕ, ◌+◌, ◌*◌, ◌-◌, ◌≤◌, ◌<◌}
use native.Mathlib.Nat.{pos_of_ne-zero}
use native.Mathlib.Omega.{arith}
use lib.Dec.{eqb}
use lib.ListN.{length, get_or, take, drop}
use borrow.Author.Tests.{eqb-true, eqb-false}
use Rattle.words.specs.Words.{sum}
use Rattle.words.specs.Sums.{sum_same}
use Rattle.wire.specs.Bytes.{M}
use Rattle.schedule.specs.Schedule.{schedule_of}
use Rattle.book.specs.Records.{C, counterparty_at}
use Rattle.book.specs.Book.{book_of, parent_of}
use Rattle.book.specs.Accepted.{Accepted}
use Rattle.exposure.specs.Values.{fund_check}
use Rattle.exposure.specs.Sums.{exposure_of}
use Rattle.cascade.specs.Cascade.{tiers, by_tier}
use Rattle.cascade.specs.Cut.{Ordered}
use Rattle.cascade.proofs.Ranking.{ranked-once}
use Rattle.rows.specs.Rows.{most_groups, columns, row, row_at}
use Rattle.figures.specs.Fund.{Fund}
use Rattle.figures.specs.Report.{head_size, line_size, charge, report}
use Rattle.figures.specs.Read.{charge_in}
use Rattle.figures.specs.LeastCuts.{LeastCuts}
use Rattle.figures.proofs.AgreeLaws.{Same, report-same}
use Rattle.figures.proofs.Size.{report-long}
use Rattle.figures.proofs.Written.{charge-in}
use Rattle.figures.proofs.Least.{least-cuts}
use Rattle.lines.specs.Table.{Heads, table_fund}
use Rattle.lines.specs.Listing.{Source, source}
use Rattle.lines.specs.Promise.{Listable, Listed, all_exposures, Table, Writable, ReportPut}
use Rattle.lines.proofs.Heads.{head-exposure, no-exposure}
use Rattle.writing.proofs.Whole.{listed-long, listed-table}
use Rattle.parties.specs.Rows.{tops_to}
use Rattle.parties.specs.RowLaws.{tops-le, lower, headed-length, Head, head-is, head_at, heads-rise}
use Rattle.cells.specs.Cells.{cells_from}
use Rattle.cells.specs.GroupSums.{exposure-none, row-tier, rows-le}
use Rattle.fund.specs.declared.Fund as made
use Rattle.fund.specs.Figures.{order, fund_of}
use Rattle.fund.proofs.OrderLaws as order-laws
use Rattle.fund.specs.Fund.{Passed, Exposed, RatedAs}
use Rattle.report.specs.Answer.{fund_in, report_of, Answered}
use Rattle.report.specs.Tables.{Headed, Room}
use Rattle.report.proofs.Chain.{fine}

pub ordered : (schedule book : List ℕ) → Ordered (fund_in schedule book).order (fund_in schedule book).limit
unfolding fund_in fund_of
ordered schedule book = order-laws.ordered (schedule_of schedule) (book_of book)

-- demand 3, of the report with any bytes behind it
report-cuts : (schedule book more : List ℕ) → LeastCuts (fund_in schedule book) (report_of schedule book ++ more)
unfolding report_of
report-cuts schedule book more = least-cuts (fund_in schedule book) more (ordered schedule book)

-- the charge in its bytes is the fund's
pub report-charge : (schedule book : List ℕ) → charge_in (report_of schedule book) ≡ charge (fund_in schedule book)
unfolding report_of
report-charge schedule book = rw append-nil at (charge-in (fund_in schedule book) [])

module _ {b heads : List ℕ} (H : Headed b heads) {groups : ℕ} (eg : groups ≡ tops_to b (C b)) where
  head : (k : ℕ) → k < groups → Head b (C b) k (get_or heads k 0)
  head k l = rw H.stored (head-is b H.before (C b) H.room k (omega arith))

  pub heads-are : Heads heads (C b) groups
  heads-are = record {
    first = λ k l. (head k l).low;
    last = λ k l. (head k l).high;
    rise = λ j k l h. rw H.stored (heads-rise b H.before (C b) H.room j k l (omega arith));
  }

  pub heads-long : groups ≤ length heads
  heads-long = omega (arith, tops-le b (C b), H.room, ap length H.stored, headed-length b (C b) H.before)

  module _ {cells : List ℕ} (e : Exposed b groups cells) where
    -- a group's row is the exposures of its top place
    row_is : (k t : ℕ) → k < groups → t < tiers → by_tier (row cells k) t ≡ exposure_of (book_of b) (get_or heads k 0) t
    row_is k t l h = row_at cells k t h ∙ row-tier e.posted H.before H.room H.stored k (omega arith) t h

    pub amounts : Accepted b → all_exposures cells groups ≤ 900 * M
    amounts acc =
        let each = sum_same (λ k. sum (by_tier (row cells k)) tiers) (λ k. sum (cells_from cells (columns * k)) tiers) groups (λ k _. sum_same (by_tier (row cells k)) (cells_from cells (columns * k)) tiers (row_at cells k)) in
        omega (arith, each, rows-le acc e.posted eg)

    module _ {schedule : List ℕ} {r : made.Fund} (d : RatedAs schedule b r) where
      abbrev ranks : ℕ → ℕ → Bool
      ranks = order (schedule_of schedule) (book_of b)

      -- along it the limits that were made do not fall
      ranks-ordered : Ordered ranks (by_tier r.limits)
      ranks-ordered = rw d.limits (order-laws.ordered (schedule_of schedule) (book_of b))

      abbrev written : Fund
      written = table_fund ranks r.limits cells heads (C b) groups r.figures

      -- a top place has its group's row, any other place has nothing
      exposure-is : (g t : ℕ) → 1 ≤ g → g ≤ C b → t < tiers → written.exposure g t ≡ exposure_of (book_of b) g t
      exposure-is g t l h n = by (eqb (parent_of (counterparty_at b) g) 0) refl
        where
          by : (s : Bool) → eqb (parent_of (counterparty_at b) g) 0 ≡ s → written.exposure g t ≡ exposure_of (book_of b) g t
          by true z =
              let alone = eqb-true (parent_of (counterparty_at b) g) 0 z in
              let k = tops_to b (g - 1) in
              let inside : k < groups = omega (arith, lower b g (C b) l h alone) in
              let at : get_or heads k 0 ≡ g = rw H.stored (head_at b H.before (C b) H.room g l h alone) in
              rw at at (head-exposure heads-are ranks r.limits cells r.figures k inside t ∙ row_is k t inside n)
          by false z =
              let parent = pos_of_ne-zero (eqb-false (parent_of (counterparty_at b) g) 0 z) in
              no-exposure heads-are ranks r.limits cells r.figures g (λ k q e. let alone = rw e at (head k q).alone in omega arith) t
              ∙ sym (exposure-none b g parent t)

      same : Same written (fund_in schedule b)
      unfolding table_fund fund_in fund_of book_of
      same = record {
        groups = refl;
        tiers = refl;
        order = λ _ _ _ _. refl;
        limit = λ u _. rw d.limits refl;
        exposure = exposure-is;
        vaf = d.vaf;
        stressed_vaf = d.stressed;
        all_net = d.all-net;
        unlimited = d.unlimited;
        a3_sum = d.a3-sum;
        a3_limit = d.a3-limit;
      }

      report-is : report written ≡ report_of schedule b
      unfolding report_of
      report-is = report-same written (fund_in schedule b) same

      -- what the lines are listed from
      pub listable : Accepted b → {sets list : List ℕ} → Room groups sets list → Listable cells groups r.ranking sets list
      listable acc q = record {
        few = omega (arith, tops-le b (C b), acc.counterparties);
        rows = e.size;
        places = q.of-sets;
        empty = q.empty;
        room = q.of-list;
        ranks = rw d.ranking (ranked-once ranks tiers);
      }

      module _ {sets₀ sets list₀ list : List ℕ} {n : ℕ} (l : Listed cells groups r.ranking sets₀ sets list₀ list n) where
        pub size_is : length (report_of schedule b) ≡ head_size + line_size * n
        size_is = ap length (sym report-is) ∙ report-long written ∙ ap (λ (k : ℕ). head_size + line_size * k) (sym (l.lines ranks r.limits heads (C b) r.figures heads-are))

        pub lines-few : Accepted b → n ≤ tiers * most_groups
        lines-few acc = omega (arith, l.few, tops-le b (C b), acc.counterparties)

        abbrev S : Source
        S = source r.limits r.ranking cells sets heads

        -- the list of the lines' entries alone
        abbrev lined : List ℕ
        lined = take n list

        lined-long : Accepted b → Room groups sets₀ list₀ → length lined ≡ n
        lined-long acc q = listed-long ranks S d.ranking (rw d.ranking at (listable acc q)) (rw d.ranking at l)

        table : Accepted b → Room groups sets₀ list₀ → length sets ≡ length sets₀ → Table ranks S lined groups (length lined)
        table acc q size = listed-table ranks S d.ranking (rw d.ranking at (listable acc q)) (rw d.ranking at l) ranks-ordered size heads-long (amounts acc)

        pub ready : Accepted b → Room groups sets₀ list₀ → length sets ≡ length sets₀ → {room : ℕ} → head_size + line_size * n ≤ room → Writable S lined (length lined) r.figures room
        ready acc q size h = record {
          order = ranks;
          groups = groups;
          places = C b;
          table = table acc q size;
          heads = heads-are;
          a3 = d.a3-within;
          fits = omega (arith, lined-long acc q, h);
        }

        pub answered :
            Passed schedule b → fund_check (book_of b) ≡ Ok tt → Accepted b → Room groups sets₀ list₀ → length sets ≡ length sets₀ → {before after : List ℕ} → head_size + line_size * n ≤ length before
            → ReportPut S lined (length lined) r.figures before after → Answered schedule b before after (Ok (head_size + line_size * n))
        answered p f acc q size {before} {after} h w =
            let put : after ≡ report written ++ drop (length (report written)) before = w ranks (C b) groups heads-are (table acc q size) in
            let a : after ≡ report_of schedule b ++ drop (head_size + line_size * n) before = put ∙ ap₂ (λ (x : List ℕ) (k : ℕ). x ++ drop k before) report-is (ap length report-is ∙ size_is) in
            record {
              answer = ap Ok (sym size_is) ∙ fine schedule b before p f (omega (arith, size_is));
              bytes = a;
              cuts = rw a (report-cuts schedule b (drop (head_size + line_size * n) before));
            }
