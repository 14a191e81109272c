-- The writing of the lines: an entry's line is put, and the rest of the list is still to come (Put; put_first, put-turn, put_all).
use mathlib.Core.Path.{◌≡◌, ap, ap₂, sym, ◌∙◌}
use mathlib.Core.List.{List, [], ◌∷◌, ◌++◌}
use Prim.Native.Nat.{ℕ, ◌+◌, ◌≤◌, ◌<◌}
use native.Mathlib.Omega.{arith}
use native.Mathlib.Numerals.{add-one}
use lib.ListN.{length, take, drop, get_or, drop_of_length-le, length-map}
use lib.Seq.{drop-cons, get_or-take, length-take-le}
use Rattle.words.specs.Words.{sum_of, each_of}
use Rattle.words.specs.Sums.{all_map}
use Rattle.wire.specs.Bytes.{placed}
use Rattle.cascade.specs.Cascade.{by_tier, next}
use Rattle.cascade.specs.Promise.{outcome_at}
use Rattle.cascade.specs.declared.Outcome.{Outcome}
use Rattle.cascade.proofs.Lists.{all-at}
use Rattle.figures.specs.declared.Line.{Line}
use Rattle.figures.specs.Report.{head_size, line_bytes, joined}
use Rattle.figures.proofs.Back.{line-long}
use Rattle.figures.proofs.Size.{joined-long}
use Rattle.layout.specs.Put.{LinePut}
use Rattle.layout.proofs.Putting.{Putting, put-start, put-piece, put-end, line-placed}
use Rattle.lines.specs.Listing.{group_in, index_in, exposure_in, of_rank, Source, source, before, entry_line, lines_along, no_group, entries_in, listed_lines}
use Rattle.lines.specs.Promise.{EntryInside, Entries}
use Rattle.lines.proofs.Along.{along-long}
use Rattle.rows.proofs.Ranked.{map_at}

-- the excesses of lines summed
abbrev pub excesses : List Line → ℕ
excesses xs = sum_of (λ x. x.excess) xs

-- entries whose lines can be put can be put with any limits
pub any-limits : {S : Source} {list : List ℕ} {n room : ℕ} (limits : List ℕ) → Entries S list n room → Entries (source limits S.ranking S.cells S.sets S.heads) list n room
any-limits {S} {list} {n} limits w = record {
  ranked = w.ranked;
  long = w.long;
  inside = all_map (λ e i. record { tier = i.tier; cell = i.cell; set = i.set; head = i.head }) (entries_in S list n) w.inside;
  amounts = w.amounts;
  fits = w.fits;
}

-- an outcome of equal amounts
pub same_outcome : {a b x y s u : ℕ} → a ≡ b → x ≡ y → s ≡ u → outcome_at (λ _. a) (λ _. x) s 0 ≡ outcome_at (λ _. b) (λ _. y) u 0
same_outcome p q r = rw (p, q, r)

module _ (S : Source) where
  abbrev L : ℕ → ℕ
  L = by_tier S.limits

  -- what the code has of an entry e before which `under` stands
  abbrev pub outcome_in : ℕ → ℕ → Outcome
  outcome_in under e = outcome_at (λ _. L (index_in e)) (λ _. exposure_in S.cells e) under 0

  module _ (under e : ℕ) (o : Outcome) (h : o ≡ outcome_in under e) where
    line-is :
        ◌≡◌ {A = Line}
        (record {
          top = get_or S.heads (group_in e) 0;
          tier = index_in e;
          tiers = get_or S.sets (group_in e) 0;
          exposure = exposure_in S.cells e;
          limit = L (index_in e);
          left = o.left;
          excess = o.excess;
        })
        (entry_line S under e)
    unfolding entry_line outcome_at
    line-is = rw h

    -- of the parts that the code has
    line-of :
        {g t x l : ℕ} → g ≡ group_in e → t ≡ index_in e → x ≡ exposure_in S.cells e → l ≡ L (index_in e)
        → ◌≡◌ {A = Line} (record { top = get_or S.heads g 0; tier = t; tiers = get_or S.sets g 0; exposure = x; limit = l; left = o.left; excess = o.excess }) (entry_line S under e)
    line-of p q r s = rw (p, q, r, s) line-is

    standing-is : o.standing ≡ next L (λ _. exposure_in S.cells e) under (index_in e)
    unfolding next outcome_at
    standing-is = rw h

    excess-is : o.excess ≡ (entry_line S under e).excess
    unfolding entry_line outcome_at
    excess-is = rw h

    -- the excess and what stands add up to what stood and the exposure
    pub kept : o.standing + o.excess ≡ under + exposure_in S.cells e
    unfolding next outcome_at
    kept = rw h (omega arith)

  module _ (list : List ℕ) (n : ℕ) where
    abbrev pub rest : ℕ → List ℕ
    rest i = drop i (entries_in S list n)

    -- one to each
    pub entries-long : n ≤ length list → length (entries_in S list n) ≡ n
    entries-long l = length-map (take n list) (of_rank S.ranking) ∙ length-take-le n list l

    module _ (room : ℕ) (w : Entries S list n room) (last s : ℕ) where
      lines_fit : head_size + length (joined (lines_along S last s (entries_in S list n))) ≤ room
      lines_fit = omega (arith, joined-long (lines_along S last s (entries_in S list n)), along-long S (entries_in S list n) last s, entries-long w.long, w.fits)

      -- behind the last entry nothing is left
      lines_end : (i : ℕ) → n ≤ i → lines_along S last s (rest i) ≡ []
      unfolding lines_along
      lines_end i l = rw (drop_of_length-le (entries_in S list n) {i = i} (omega (arith, entries-long w.long)))

    -- the entry at i, by rank as the code has it
    module _ (room : ℕ) (w : Entries S list n room) (i : ℕ) (l : i < n) {code : ℕ} (q : code ≡ get_or list i 0) where
      abbrev e : ℕ
      e = of_rank S.ranking code

      long : i < length (entries_in S list n)
      long = omega (arith, entries-long w.long)

      at : get_or (entries_in S list n) i 0 ≡ e
      at = map_at (of_rank S.ranking) (take n list) i (omega (arith, length-take-le n list w.long)) ∙ ap (of_rank S.ranking) (get_or-take n list i 0 l ∙ sym q)

      rest-step : rest i ≡ e ∷ rest (i + 1)
      rest-step = rw (drop-cons (entries_in S list n) i 0 long, at, add-one)

      pub entry-inside : EntryInside S e
      entry-inside = rw at at (all-at (EntryInside S) (entries_in S list n) w.inside i long)

      pub exposure-step : sum_of (exposure_in S.cells) (rest i) ≡ exposure_in S.cells e + sum_of (exposure_in S.cells) (rest (i + 1))
      unfolding sum_of
      exposure-step = rw rest-step

      module _ (last s : ℕ) where
        abbrev more : List Line
        more = lines_along S (group_in e) (next L (λ _. exposure_in S.cells e) (before last s e) (index_in e)) (rest (i + 1))

        excess-step : excesses (lines_along S last s (rest i)) ≡ (entry_line S (before last s e) e).excess + excesses more
        unfolding lines_along sum_of
        excess-step = rw rest-step

        bytes-step : joined (lines_along S last s (rest i)) ≡ line_bytes (entry_line S (before last s e) e) ++ joined more
        unfolding lines_along each_of
        bytes-step = rw rest-step

-- d₀ at the start, d now, `sum` the excesses so far: the lines from i on are still to be put and summed
pub record Put (S : Source) (list : List ℕ) (n : ℕ) (d₀ d : List ℕ) (sum s last place i : ℕ) : Type 0 where
  pub total : sum + excesses (lines_along S last s (rest S list n i)) ≡ excesses (listed_lines S list n)
  pub bytes : Putting d₀ head_size (joined (listed_lines S list n)) d place (joined (lines_along S last s (rest S list n i)))

pub put_first : (S : Source) (list : List ℕ) (n : ℕ) (d₀ : List ℕ) → Put S list n d₀ d₀ 0 0 no_group head_size 0
put_first S list n d₀ = record { total = omega arith; bytes = put-start d₀ head_size (joined (listed_lines S list n)) }

module _ {S : Source} {list : List ℕ} {n : ℕ} {d₀ : List ℕ} (w : Entries S list n (length d₀)) {d : List ℕ} {sum s last place i : ℕ} (p : Put S list n d₀ d sum s last place i) where
  fit : head_size + length (joined (listed_lines S list n)) ≤ length d₀
  fit = lines_fit S list n (length d₀) w no_group 0

  -- one turn: the line of the entry at i is put, of the parts that the code has
  module _ (l : i < n) {code : ℕ} (q : code ≡ get_or list i 0) where
    abbrev entry_at : ℕ
    entry_at = of_rank S.ranking code

    abbrev under : ℕ
    under = before last s entry_at

    pub put-turn :
        (o : Outcome) → o ≡ outcome_in S under entry_at → {g t x limit : ℕ} → g ≡ group_in entry_at → t ≡ index_in entry_at → x ≡ exposure_in S.cells entry_at → limit ≡ by_tier S.limits (index_in entry_at) → {after : List ℕ} {next : ℕ}
        → LinePut (record { top = get_or S.heads g 0; tier = t; tiers = get_or S.sets g 0; exposure = x; limit = limit; left = o.left; excess = o.excess }) place d after next
        → length after ≡ length d → Put S list n d₀ after (sum + o.excess) o.standing g next (i + 1)
    put-turn o h {g} hg ht hx hl put size =
        let line = entry_line S under entry_at in
        let more = lines_along S g o.standing (rest S list n (i + 1)) in
        let same = ap₂ (λ (k u : ℕ). lines_along S k u (rest S list n (i + 1))) hg (standing-is S under entry_at o h) in
        record {
          total = omega (arith, excess-is S under entry_at o h, excess-step S list n (length d₀) w i l q last s, p.total, ap excesses same);
          bytes =
              put-piece p.bytes fit (line_bytes line) (joined more) (bytes-step S list n (length d₀) w i l q last s ∙ ap (λ (xs : List Line). line_bytes line ++ joined xs) (sym same))
              (omega (arith, put.place, line-long line)) size (line-placed put ∙ ap (λ (x : Line). placed d place (line_bytes x)) (line-of S under entry_at o h hg ht hx hl));
        }

  -- where no line is left
  pub put_all : n ≤ i → (sum ≡ excesses (listed_lines S list n)) × (d ≡ placed d₀ head_size (joined (listed_lines S list n)))
  unfolding sum_of each_of
  put_all l =
      let none = lines_end S list n (length d₀) w last s i l in
      (omega (arith, p.total, ap excesses none), (put-end p.bytes fit (ap joined none)).1)
