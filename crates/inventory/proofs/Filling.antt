-- The tables and sums of the pass below a place: at its start, after each asset and at its end.
use mathlib.Core.Bool.{Bool, true, false, not, ◌&&◌}
use mathlib.Core.Path.{◌≡◌, refl, sym, ◌∙◌}
use mathlib.Core.List.{List}
use Prim.Native.Nat.{ℕ, suc, ◌+◌, ◌*◌, ◌-◌, ◌≤◌, ◌<◌}
use native.Mathlib.Omega.{arith}
use lib.Dec.{eqb}
use lib.ListN.{length, get_or, set, length-set}
use borrow.Author.Tests.{eqb-true, eqb-false}
use Rattle.std.specs.Prelude.{if◌then◌else◌}
use Rattle.words.specs.Words.{◌=?◌}
use Rattle.words.specs.Choice.{if-le}
use Rattle.words.specs.Tables.{filled, filled_none, filled_next}
use Rattle.wire.specs.Bytes.{M}
use Rattle.book.specs.declared.Asset.{Asset}
use Rattle.book.specs.declared.Counterparty.{Counterparty}
use Rattle.book.specs.declared.Kind.TheVariants.{LifeCompany}
use Rattle.book.specs.Records.{C, N, K, counterparty_at, asset_at}
use Rattle.book.specs.Fields.{◌is◌, linked, reinsurance, affiliate}
use Rattle.book.specs.Accepted.{Accepted, AssetFits}
use Rattle.book.specs.Book.{top_of}
use Rattle.book.proofs.TopLaws.{top-le}
use Rattle.exposure.specs.Values.{net, of_reinsurance}
use Rattle.exposure.proofs.ValueLaws.{net-le}
use Rattle.exposure.specs.Parts.{remainder, half_covered, treaty_net}
use Rattle.rows.specs.Rows.{columns}
use Rattle.columns.specs.Column.{column_of, word_of, terms_of, digit, age_of}
use Rattle.columns.proofs.ColumnLaws.{word-kind, terms-column, terms-half}
use Rattle.parties.specs.Rows.{row_of, Parties}
use Rattle.parties.specs.RowLaws.{tops-le}
use Rattle.assets.specs.declared.Values.{Values}
use Rattle.assets.specs.Marks.{mark_of, marked}
use Rattle.assets.specs.Shares.{rest_of, draws_on}
use Rattle.assets.specs.Halves.{added, plus-at}
use Rattle.assets.specs.Entered.{column_in, drawn_in, linked_of, less_netted, Enters, Entered}
use Rattle.assets.specs.Assets.{rest_cell, AssetRoom, Valued}
use Rattle.assets.proofs.Sums.{Below, below-start, below_step, below-room, below_end}
use Rattle.assets.proofs.Laws.{all-sum, linked-sum, reinsurance-sum, count-sum, net-most, linked-most, values-most, netted-most, stressed-most}

-- ---- one asset, out of its counterparty's numbers

draws_by : (r p q : Bool) (place : ℕ) → (if r then (if (if p && q then 1 else 0) =? 1 then place else 0) else 0) ≡ (if r && p && q then place else 0)
draws_by false p q place = refl
draws_by true false q place = refl
draws_by true true false place = refl
draws_by true true true place = refl

module _ (cs : ℕ → Counterparty) (a : Asset) where
  abbrev who : Counterparty
  who = cs a.counterparty

  -- the column of its remainder
  pub column-is : who.flags < 8 → 0 < a.kind → a.kind < 12 → a.entry ≤ 3 → column_in a (word_of who) (terms_of who) ≡ column_of (remainder a 0) who
  unfolding column_in remainder
  column-is f l h e = by (eqb a.kind 9) refl
    where
      by : (t : Bool) → eqb a.kind 9 ≡ t → (if t then digit (age_of a.entry a.months) (terms_of who) else digit (a.kind - 1) (word_of who)) ≡ column_of (remainder a 0) who
      by true z = terms-column who f (remainder a 0) (eqb-true a.kind 9 z) e
      by false z = word-kind who f (remainder a 0) l h (eqb-false a.kind 9 z)

  -- whose half it draws on
  pub draws-is : who.flags < 8 → drawn_in a (terms_of who) ≡ draws_on cs a
  unfolding drawn_in draws_on half_covered
  draws-is f = rw (terms-half who f) (draws_by (reinsurance a) (not (who is LifeCompany)) (not (affiliate who)) a.counterparty)

-- ---- the invariant

abbrev draws_at : List ℕ → ℕ → ℕ
draws_at b p = draws_on (counterparty_at b) (asset_at b p)

abbrev rest_at : List ℕ → ℕ → ℕ
rest_at b p = rest_of (asset_at b p)

abbrev count : Asset → ℕ
count a = a.count

pub record Filling (b starts₀ draws₀ halves₀ rests₀ cells₀ starts draws halves rests places : List ℕ) (v : Values) (first place : ℕ) : Type 0 where
  pub started : 0 < place
  pub within : place ≤ N b + 1
  pub after : 0 < first
  pub marks : marked b starts place first (N b + 1 - place) ≡ marked b starts₀ 1 1 (N b)
  pub counted : Below count b place (first - 1)
  pub on : draws ≡ filled (draws_at b) (place - 1) draws₀
  pub nets : added b halves place (N b + 1 - place) ≡ added b halves₀ 1 (N b)
  pub nets-most : (q : ℕ) → get_or halves q 0 ≤ M * (place - 1)
  pub room : C b < length halves₀
  pub there : rests ≡ filled (rest_at b) (place - 1) rests₀
  pub each-cell : places ≡ filled (rest_cell b) (place - 1) cells₀
  pub all : Below net b place v.all
  pub linked : Below linked_of b place v.linked
  pub reinsurance : Below (of_reinsurance (λ a. a.value)) b place v.reinsurance
  pub netted : Below (of_reinsurance (λ a. a.offsets)) b place v.netted
  pub stressed : Below (of_reinsurance less_netted) b place v.stressed
  pub starts-size : length starts ≡ length starts₀
  pub draws-size : length draws ≡ length draws₀
  pub halves-size : length halves ≡ length halves₀
  pub rests-size : length rests ≡ length rests₀
  pub places-size : length places ≡ length cells₀

abbrev none : Values
none = record { all = 0; linked = 0; reinsurance = 0; netted = 0; stressed = 0 }

pub filling-start : {b starts draws halves rests places : List ℕ} → AssetRoom b starts draws halves rests places → Filling b starts draws halves rests places starts draws halves rests places none 1 1
filling-start {b} {starts} {draws} {halves} {rests} {places} l =
    let d : N b + 1 - 1 ≡ N b = omega arith in
    record {
      started = omega arith;
      within = omega arith;
      after = omega arith;
      marks = rw d;
      counted = below-start count b;
      on = filled_none (draws_at b) draws;
      nets = rw d;
      nets-most = λ q. omega (arith, l.undrawn q);
      room = l.of-halves;
      there = filled_none (rest_at b) rests;
      each-cell = filled_none (rest_cell b) places;
      all = below-start net b;
      linked = below-start linked_of b;
      reinsurance = below-start (of_reinsurance (λ a. a.value)) b;
      netted = below-start (of_reinsurance (λ a. a.offsets)) b;
      stressed = below-start (of_reinsurance less_netted) b;
      starts-size = refl;
      draws-size = refl;
      halves-size = refl;
      rests-size = refl;
      places-size = refl;
    }

module _ {b starts₀ draws₀ halves₀ rests₀ cells₀ starts draws halves rests places : List ℕ} {v : Values} {first place : ℕ} (k : Filling b starts₀ draws₀ halves₀ rests₀ cells₀ starts draws halves rests places v first place) (acc : Accepted b) (h : place ≤ N b) where
  abbrev here : Asset
  here = asset_at b place

  fits : AssetFits (C b) here
  fits = acc.asset place k.started h

  row-le : (p : ℕ) → row_of b p ≤ columns * p
  unfolding row_of
  row-le p = omega (arith, tops-le b (top_of (counterparty_at b) p - 1), top-le (counterparty_at b) p)

  -- the mark of the next asset has a place in its table
  pub first-inside : first ≤ K b + 1
  first-inside = omega (arith, k.after, k.counted.sum, acc.counted, count-sum b)

  -- its counterparty has an entry, and what it adds there is at most M
  who-there : here.counterparty < length halves
  who-there = omega (arith, fits.high, k.halves-size, k.room)

  net-most-at : (q : ℕ) → treaty_net q here ≤ M
  unfolding treaty_net
  net-most-at q = if-le (reinsurance here && not (linked here) && here.counterparty =? q) (net-le (C b) here fits) (omega arith)

  pub filling-enters : AssetRoom b starts₀ draws₀ halves₀ rests₀ cells₀ → {row : ℕ} → row ≡ row_of b here.counterparty → Enters here place row v draws halves rests places
  filling-enters l {row} e = record {
    low = fits.kind-low;
    kind = fits.kind;
    entry = fits.entry;
    offsets = fits.offsets;
    deductions = fits.deductions;
    all = below-room k.all h refl (net-most b acc);
    linked = below-room k.linked h refl (linked-most b acc);
    reinsurance = below-room k.reinsurance h refl (values-most b acc);
    netted = below-room k.netted h refl (netted-most b acc);
    stressed = below-room k.stressed h refl (stressed-most b acc);
    of_row = omega (arith, e, row-le here.counterparty, fits.high, acc.counterparties);
    of-draws = omega (arith, k.draws-size, l.of-draws);
    of-halves = who-there;
    of-net = omega (arith, k.nets-most here.counterparty, net-le (C b) here fits, acc.assets);
    of-rests = omega (arith, k.rests-size, l.of-rests);
    of_places = omega (arith, k.places-size, l.of_places);
  }

  module _ {row word terms mark : ℕ} {draws' halves' rests' places' : List ℕ} {r : Values}
      (er : row ≡ row_of b here.counterparty)
      (ew : word ≡ word_of (counterparty_at b here.counterparty))
      (et : terms ≡ terms_of (counterparty_at b here.counterparty))
      (em : mark ≡ 2 * place + (if reinsurance here then 1 else 0))
      (q : Entered here place row word terms v draws halves rests places draws' halves' rests' places' r) where
    few : (counterparty_at b here.counterparty).flags < 8
    few = acc.flags here.counterparty fits.low fits.high

    cell-is : row + column_in here word terms ≡ rest_cell b place
    unfolding rest_cell
    cell-is = rw (er, ew, et, column-is (counterparty_at b) here few fits.kind-low fits.kind fits.entry)

    marks-next : marked b (set starts first mark) (place + 1) (first + here.count) (N b + 1 - (place + 1)) ≡ marked b starts₀ 1 1 (N b)
    unfolding marked mark_of
    marks-next =
        let d : N b + 1 - place ≡ suc (N b - place) = omega arith in
        let e : N b + 1 - (place + 1) ≡ N b - place = omega arith in
        rw (e, em) (rw d at k.marks)

    nets-next : added b halves' (place + 1) (N b + 1 - (place + 1)) ≡ added b halves₀ 1 (N b)
    unfolding added
    nets-next =
        let d : N b + 1 - place ≡ suc (N b - place) = omega arith in
        let e : N b + 1 - (place + 1) ≡ N b - place = omega arith in
        rw (e, q.of-half) (rw d at k.nets)

    one_more : (f : ℕ → ℕ) (t₀ : List ℕ) {t u : List ℕ} {x : ℕ} → t ≡ filled f (place - 1) t₀ → u ≡ set t place x → x ≡ f place → u ≡ filled f (place + 1 - 1) t₀
    one_more f t₀ e eu ex = let d : place + 1 - 1 ≡ place = omega arith in rw d (eu ∙ filled_next f t₀ k.started e ex)

    pub filling_step : Filling b starts₀ draws₀ halves₀ rests₀ cells₀ (set starts first mark) draws' halves' rests' places' r (first + here.count) (place + 1)
    filling_step =
        let c : first - 1 + here.count ≡ first + here.count - 1 = omega (arith, k.after) in
        rw q.sums
        (record {
          started = omega arith;
          within = omega arith;
          after = omega (arith, k.after);
          marks = marks-next;
          counted = rw c at (below_step k.counted h refl);
          on = one_more (draws_at b) draws₀ k.on q.of-draw (rw et (draws-is (counterparty_at b) here few));
          nets = nets-next;
          nets-most = λ p. rw q.of-half (omega (arith, plus-at halves here who-there p, k.nets-most p, net-most-at p, k.started));
          room = k.room;
          there = one_more (rest_at b) rests₀ k.there q.of-rest refl;
          each-cell = one_more (rest_cell b) cells₀ k.each-cell q.of-cell cell-is;
          all = below_step k.all h refl;
          linked = below_step k.linked h refl;
          reinsurance = below_step k.reinsurance h refl;
          netted = below_step k.netted h refl;
          stressed = below_step k.stressed h refl;
          starts-size = simp length-set k.starts-size;
          draws-size = rw (q.of-draw, length-set) k.draws-size;
          halves-size = rw (q.of-half, length-set) k.halves-size;
          rests-size = rw (q.of-rest, length-set) k.rests-size;
          places-size = rw (q.of-cell, length-set) k.places-size;
        })

-- the same of an asset that was read
module _ {b starts₀ draws₀ halves₀ rests₀ cells₀ starts draws halves rests places : List ℕ} {v : Values} {first place : ℕ} (k : Filling b starts₀ draws₀ halves₀ rests₀ cells₀ starts draws halves rests places v first place) (acc : Accepted b) (h : place ≤ N b)
    {words terms rows : List ℕ} (t : Parties b words terms rows) {a : Asset} (ea : a ≡ asset_at b place) where
  pub who-inside : (0 < a.counterparty) × (a.counterparty ≤ C b)
  who-inside = let f = acc.asset place k.started h in rw ea (f.low, f.high)

  row_is : get_or rows a.counterparty 0 ≡ row_of b a.counterparty
  row_is = t.row a.counterparty who-inside.0 who-inside.1

  pub asset-enters : AssetRoom b starts₀ draws₀ halves₀ rests₀ cells₀ → Enters a place (get_or rows a.counterparty 0) v draws halves rests places
  asset-enters l = rw ea (filling-enters k acc h l (rw ea at row_is))

  pub asset-step : {mark : ℕ} {draws' halves' rests' places' : List ℕ} {r : Values} → mark ≡ 2 * place + (if reinsurance a then 1 else 0)
      → Entered a place (get_or rows a.counterparty 0) (get_or words a.counterparty 0) (get_or terms a.counterparty 0) v draws halves rests places draws' halves' rests' places' r
      → Filling b starts₀ draws₀ halves₀ rests₀ cells₀ (set starts first mark) draws' halves' rests' places' r (first + a.count) (place + 1)
  asset-step em q =
      rw ea
      (filling_step k acc h (rw ea at row_is) (rw ea at (t.word a.counterparty who-inside.0 who-inside.1)) (rw ea at (t.term a.counterparty who-inside.0 who-inside.1)) (rw ea at em) (rw ea at q))

pub filling-end : {b starts₀ draws₀ halves₀ rests₀ cells₀ starts draws halves rests places : List ℕ} {v : Values} {first place : ℕ} → Filling b starts₀ draws₀ halves₀ rests₀ cells₀ starts draws halves rests places v first place → N b < place → Valued b starts₀ draws₀ halves₀ rests₀ cells₀ starts draws halves rests places v
unfolding marked added
filling-end {b} {place = place} k h =
    let d : place - 1 ≡ N b = omega (arith, k.within) in
    let e : N b + 1 - place ≡ 0 = omega arith in
    record {
      marks = rw e at k.marks;
      on = rw d at k.on;
      nets = rw e at k.nets;
      there = rw d at k.there;
      each-cell = rw d at k.each-cell;
      sums = record {
        all = below_end k.all h ∙ sym (all-sum b);
        linked = below_end k.linked h ∙ sym (linked-sum b);
        reinsurance = below_end k.reinsurance h ∙ sym (reinsurance-sum b (λ a. a.value));
        netted = below_end k.netted h ∙ sym (reinsurance-sum b (λ a. a.offsets));
        stressed = below_end k.stressed h ∙ sym (reinsurance-sum b less_netted);
      };
    }
