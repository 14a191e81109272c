-- The report of a table that is listed: its lines along the list, and the header before them.
use mathlib.Core.Path.{◌≡◌, ap, ap₂, sym, ◌∙◌}
use mathlib.Core.Bool.{Bool}
use mathlib.Core.List.{List, ◌++◌, map}
use Prim.Native.Nat.{ℕ, ◌+◌, ◌*◌, ◌-◌, ◌≤◌}
use native.Mathlib.Omega.{arith}
use lib.ListN.{length, take, drop}
use lib.Seq.{take-length, length-take-le}
use Rattle.words.specs.Words.{sum_of, those}
use Rattle.wire.specs.Bytes.{M, placed}
use Rattle.wire.proofs.Laws.{placed-before}
use Rattle.cascade.specs.Cascade.{tiers, by_tier, ranked}
use Rattle.cascade.specs.Cut.{Ordered}
use Rattle.rows.specs.Rows.{most_groups}
use Rattle.cascade.proofs.Ranking.{ranked-only, ranked-once, length-ranked}
use Rattle.figures.specs.declared.Head.{Head}
use Rattle.figures.specs.declared.Line.{Line}
use Rattle.figures.specs.declared.Figures.{Figures}
use Rattle.figures.specs.Fund.{Fund}
use Rattle.figures.specs.Report.{head_size, line_size, lines_of, group_excess, charge, joined, head_bytes, head_of, report}
use Rattle.figures.proofs.Least.{excess-lines}
use Rattle.figures.proofs.Written.{head-long}
use Rattle.figures.proofs.Size.{joined-long}
use Rattle.lines.specs.Table.{Heads, table_fund}
use Rattle.lines.specs.Listing.{exposure_in, all_entries, all_ranks, of_rank, shown_by, Source, lines_along, no_group, entries_in, listed_lines}
use Rattle.lines.specs.Promise.{Listable, Listed, Entries, Table, all_exposures}
use Rattle.lines.proofs.Entries.{all-inside, entries-few, entries-sum}
use Rattle.lines.proofs.Along.{along-long, along-within}
use Rattle.lines.proofs.Heads.{lines-along}
use Rattle.lines.proofs.Groups.{set-each}
use Rattle.lines.proofs.Sets.{listed-size, entries-first}
use Rattle.line_writing.proofs.Writing.{excesses, entries-long}
use Rattle.lines.proofs.Ranks.{entries-are, entries-many}

-- the header of n lines whose excesses add up to x, where the A3 sum is so much above the A3 limit
abbrev pub head_with : Figures → (n x over : ℕ) → Head
head_with f n x over =
    record {
      lines = n;
      vaf = f.vaf;
      stressed_vaf = f.stressed_vaf;
      all_net = f.all_net;
      unlimited = f.unlimited;
      group_excess = x;
      a3_sum = f.a3_sum;
      a3_limit = f.a3_limit;
      charge = x + over;
    }

module _ {order : ℕ → ℕ → Bool} {S : Source} {list : List ℕ} {groups n : ℕ} (t : Table order S list groups n) where
  abbrev by_rank : List ℕ
  by_rank = ranked order tiers

  abbrev pub along : List Line
  along = listed_lines S list n

  amounts : sum_of (exposure_in S.cells) (entries_in S list n) ≤ 900 * M
  amounts = rw t.entries (omega (arith, t.amounts, entries-sum by_rank (ranked-once order tiers) S.cells groups))

  pub table-entries : (room : ℕ) → head_size + line_size * n ≤ room → Entries S list n room
  table-entries room h =
      record {
        ranked = rw t.by_rank (ranked-once order tiers);
        long = t.long;
        inside = rw t.entries (all-inside by_rank (ranked-only order tiers) S groups t.rows t.places t.tops);
        amounts = amounts;
        fits = h;
      }

  pub lines-few : n ≤ tiers * most_groups
  lines-few =
      omega (arith, entries-long S list n t.long, ap length t.entries, t.few, entries-few by_rank (ranked-once order tiers) S.cells groups (length-ranked order tiers))

  pub excess-few : excesses along ≤ 900 * M
  excess-few = omega (arith, amounts, along-within S (entries_in S list n) no_group 0)

  module _ {places : ℕ} (H : Heads S.heads places groups) (f : Figures) where
    abbrev F : Fund
    F = table_fund order S.limits S.cells S.heads places groups f

    lines_are : along ≡ lines_of F
    lines_are = ap (lines_along S no_group 0) t.entries ∙ sym (lines-along order S t.ordered H t.few t.each f)

    pub count-is : n ≡ length (lines_of F)
    count-is = sym (entries-long S list n t.long) ∙ sym (along-long S (entries_in S list n) no_group 0) ∙ ap length lines_are

    head-is : (x over : ℕ) → x ≡ excesses along → over ≡ f.a3_sum - f.a3_limit → head_with f n x over ≡ head_of F
    unfolding head_of charge table_fund
    head-is x over q r = let e : x ≡ group_excess F = q ∙ ap excesses lines_are ∙ sym (excess-lines F) in rw (count-is, e, r)

    -- the lines, then the header before them
    pub report-put :
        (x over : ℕ) → x ≡ excesses along → over ≡ f.a3_sum - f.a3_limit → (start mid end : List ℕ) → head_size + line_size * n ≤ length start
        → mid ≡ placed start head_size (joined along)
        → end ≡ placed mid 0 (head_bytes (head_with f n x over))
        → end ≡ report F ++ drop (length (report F)) start
    unfolding report
    report-put x over hx ho start mid end room p q =
        let head = head_bytes (head_of F) in
        let lines = joined (lines_of F) in
        let z : 0 + length (head ++ lines) ≡ length (head ++ lines) = omega arith in
        q ∙ ap (λ (h : Head). placed mid 0 (head_bytes h)) (head-is x over hx ho)
        ∙ ap (λ (m : List ℕ). placed m 0 head) (p ∙ ap (λ (xs : List Line). placed start head_size (joined xs)) lines_are)
        ∙ ap (λ (k : ℕ). placed (placed start k lines) 0 head) (sym (head-long (head_of F)))
        ∙ placed-before start head lines (omega (arith, head-long (head_of F), joined-long (lines_of F), count-is))
        ∙ ap (λ (k : ℕ). head ++ lines ++ drop k start) z

-- a table that `list_lines` has listed by rank, with the lines' entries alone as its list
module _
    (order : ℕ → ℕ → Bool) (S : Source) (q : S.ranking ≡ ranked order tiers) {groups : ℕ} {sets₀ list₀ list : List ℕ} {n : ℕ}
    (a : Listable S.cells groups (ranked order tiers) sets₀ list₀) (l : Listed S.cells groups (ranked order tiers) sets₀ S.sets list₀ list n)
  where
    abbrev ranks : List ℕ
    ranks = ranked order tiers

    long : length ranks ≡ tiers
    long = length-ranked order tiers

    n-is : n ≡ length (those (shown_by S.cells ranks) (all_entries groups all_ranks))
    n-is = l.count ∙ sym (entries-many ranks a.ranks long S.cells groups)

    pub listed-long : length (take n list) ≡ n
    listed-long = length-take-le n list (omega (arith, listed-size a long n-is l.entries, l.few, a.room))

    pub listed-table : Ordered order (by_tier S.limits) → length S.sets ≡ length sets₀ → groups ≤ length S.heads → all_exposures S.cells groups ≤ 900 * M → Table order S (take n list) groups (length (take n list))
    listed-table o size tops few = record {
      ordered = o;
      by_rank = q;
      few = a.few;
      rows = a.rows;
      places = omega (arith, a.places);
      tops = tops;
      long = omega arith;
      each = set-each S.cells groups sets₀ l.tier_sets;
      entries =
          ap (map (of_rank S.ranking)) (take-length (take n list))
          ∙ ap₂ (λ (r es : List ℕ). map (of_rank r) es) q (entries-first a long n-is l.entries) ∙ entries-are ranks a.ranks long S.cells groups;
      amounts = few;
    }
