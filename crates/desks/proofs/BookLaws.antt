-- The lines of a book.
--   lines-excess   the lines at the places give every desk the excess that the book's lines give it
--   desk-few       a desk is a byte
--   book-lines     an accepted book's lines are those of its fund
use mathlib.Core.Bool.{Bool, true, false, ◌&&◌}
use mathlib.Core.List.{List, [], ◌∷◌, ◌++◌, map-append}
use mathlib.Core.Path.{◌≡◌, refl, sym, ap, ◌∙◌}
use Prim.Native.Nat.{ℕ, zero, suc, ◌+◌, ◌-◌, ◌≤◌, ◌<◌}
use native.Mathlib.Omega.{arith}
use lib.ListN.{get_or}
use Rattle.std.specs.Prelude.{if◌then◌else◌}
use Rattle.words.specs.Words.{◌=?◌, sum_of, All}
use Rattle.words.specs.Choice.{by-test}
use Rattle.words.specs.Sums.{sum-map, all_map, all_append, all-mapped}
use Rattle.cascade.specs.Cascade.{tiers}
use Rattle.wire.specs.Bytes.{byte_at}
use Rattle.figures.specs.Fund.{Fund}
use Rattle.bills.specs.Lines.{ExposureLine, amount_in, unserved, after, excess_lines}
use Rattle.bills.specs.Bills.{desk_count, amount_of_desk}
use Rattle.bills.specs.Tables.{LineInside, LinesOf}
use Rattle.bills.proofs.Served.{excess-none}
use Rattle.book.specs.declared.Counterparty.{Counterparty}
use Rattle.book.specs.declared.Asset.{Asset}
use Rattle.book.specs.declared.Mitigant.{Mitigant}
use Rattle.book.specs.Records.{version, C, N, K, counterparty_at, asset_start, asset_at, asset_from}
use Rattle.book.specs.Fields.{linked}
use Rattle.book.specs.Book.{Book, book_of, top_of, mitigants_from, holdings_from}
use Rattle.book.proofs.TopLaws.{top-le, top_pos}
use Rattle.book.specs.Check.{counts_add}
use Rattle.book.specs.Accepted.{Accepted}
use Rattle.exposure.specs.declared.Exposure.{Exposure}
use Rattle.exposure.specs.Values.{net}
use Rattle.exposure.specs.Parts.{covers, half_of, may_be_covered, left_after, covered_part, remainder, parts_of, exposures_of, each_drawing, exposures}
use Rattle.exposure.specs.PartLaws.{linked-none, drawing-sum}
use Rattle.exposure.specs.Tier.{tier_of}
use Rattle.exposure.specs.Sums.{amount_of, exposure_of}
use Rattle.columns.proofs.ColumnLaws.{tier-le}
use Rattle.covering.specs.Covered.{held_by, holding_at}
use Rattle.covering.specs.ByPlace.{parts_at, Parted, PartedFrom, PartedBook}
use Rattle.desks.specs.BookLines.{exposure_line, holding_lines, book_lines}
use Rattle.desks.specs.Pass.{part_lines, rest_line, asset_lines, lines_at}

-- ---- out of the tables

module _ (d : ℕ) where
  -- the excess of the desk, of lines that are served from what `still` says
  abbrev excess_from : (ℕ → ℕ → ℕ) → List ExposureLine → ℕ
  excess_from still xs = amount_of_desk d (excess_lines still xs)

  behind-lines : (xs ys zs : List ExposureLine) → ((s : ℕ → ℕ → ℕ) → excess_from s ys ≡ excess_from s zs) → (s : ℕ → ℕ → ℕ) → excess_from s (xs ++ ys) ≡ excess_from s (xs ++ zs)
  unfolding excess_lines amount_of_desk sum_of
  behind-lines [] ys zs h s = h s
  behind-lines (x ∷ xs) ys zs h s = ap (λ (n : ℕ). (if x.desk =? d then unserved s x else 0) + n) (behind-lines xs ys zs h (after s x))

  module _ (b covered rests : List ℕ) where
    abbrev cs : ℕ → Counterparty
    cs = counterparty_at b

    lines_none : (desk place more : ℕ) → All (λ (x : Exposure). x.amount ≡ 0) (parts_at b covered place more) → All (λ x. x.amount ≡ 0) (part_lines b covered desk place more)
    unfolding part_lines exposure_line
    lines_none desk place more h = all-mapped (λ (x : ExposureLine). x.amount ≡ 0) (exposure_line cs desk) (parts_at b covered place more) h

    rest-none : (place : ℕ) → get_or rests place 0 ≡ 0 → (rest_line b rests place).amount ≡ 0
    unfolding exposure_line remainder
    rest-none place z = z

    -- one asset: its lines as they are, or, where it is linked, none and lines without an amount
    asset-excess : (left : ℕ → ℕ) (place first : ℕ) (ys zs : List ExposureLine) → Parted b covered rests left place first → ((s : ℕ → ℕ → ℕ) → excess_from s ys ≡ excess_from s zs)
        → (s : ℕ → ℕ → ℕ) → excess_from s (asset_lines b covered rests place first ++ ys) ≡ excess_from s (holding_lines cs left (holding_at b place first) ++ zs)
    unfolding asset_lines part_lines holding_lines
    asset-excess left place first ys zs p h s = by (linked a) refl
      where
        a : Asset
        a = asset_at b place

        rest : Exposure
        rest = remainder a (get_or rests place 0)

        by : (t : Bool) → linked a ≡ t → excess_from s (asset_lines b covered rests place first ++ ys) ≡ excess_from s (holding_lines cs left (holding_at b place first) ++ zs)
        by true e =
            let n = p.none e in
            let zero-lines = all_append (λ (x : ExposureLine). x.amount ≡ 0) (part_lines b covered a.desk first a.count) (rest_line b rests place ∷ []) (lines_none a.desk first a.count n.0) (rest-none place n.1, tt) in
            excess-none d (asset_lines b covered rests place first) ys zero-lines s ∙ h s ∙ rw (linked-none cs left (holding_at b place first) e)
        by false e = rw (p.parts e, map-append (exposure_line cs a.desk) (parts_at b covered first a.count) (rest ∷ [])) (behind-lines (asset_lines b covered rests place first) ys zs h s)

    lines_from : (left : ℕ → ℕ) (more place first : ℕ) → PartedFrom b covered rests left place first more
        → (s : ℕ → ℕ → ℕ) → excess_from s (lines_at b covered rests place first more) ≡ excess_from s (each_drawing cs (holding_lines cs) left (holdings_from b place first more))
    unfolding lines_at each_drawing holdings_from
    lines_from left zero place first p s = refl
    lines_from left (suc more) place first p s =
        let count = (asset_at b place).count in
        let next = left_after cs left (holding_at b place first) in
        asset-excess left place first (lines_at b covered rests (place + 1) (first + count) more) (each_drawing cs (holding_lines cs) next (holdings_from b (place + 1) (first + count) more)) p.0
        (lines_from next more (place + 1) (first + count) p.1) s

    pub lines-excess : PartedBook b covered rests → (s : ℕ → ℕ → ℕ)
        → amount_of_desk d (excess_lines s (lines_at b covered rests 1 1 (N b))) ≡ amount_of_desk d (excess_lines s (book_lines (book_of b)))
    unfolding book_lines book_of
    lines-excess p s = lines_from (half_of (holdings_from b 1 1 (N b))) (N b) 1 1 p s

-- ---- of the fund

-- the lines of a group's tier are its exposures there
line-amounts : (B : Book) (g t : ℕ) → amount_in g t (book_lines B) ≡ exposure_of B g t
unfolding amount_in exposure_of amount_of book_lines holding_lines exposure_line exposures
line-amounts B g t =
    let cs = B.counterparty in
    let in_tier : ExposureLine → ℕ = λ x. if x.group =? g && x.tier =? t then x.amount else 0 in
    let counts : Exposure → ℕ = λ x. if top_of cs x.counterparty =? g && tier_of cs x =? t then x.amount else 0 in
    drawing-sum cs in_tier counts (holding_lines cs) (exposures_of cs) (λ left h. sum-map in_tier (exposure_line cs h.asset.desk) (exposures_of cs left h)) (half_of B.holdings) B.holdings

-- every line is of a group of the book, a tier or no limit, and a desk
module _ (b : List ℕ) (acc : Accepted b) (byte : (k : ℕ) → get_or b k 0 < 256) where
  abbrev To : Exposure → Type 0
  To x = (0 < x.counterparty) × (x.counterparty ≤ C b)

  abbrev Of : Mitigant → Type 0
  Of m = (0 < m.counterparty) × (m.counterparty ≤ C b)

  mitigants-of : (count m : ℕ) → 0 < m → m + count ≤ K b + 1 → All Of (mitigants_from b m count)
  unfolding mitigants_from
  mitigants-of zero m h k = tt
  mitigants-of (suc count) m h k =
      let f = acc.mitigant m h (omega arith) in
      ((f.low, f.high), mitigants-of count (m + 1) (omega arith) (omega arith))

  parts-to : (a : Asset) (ms : List Mitigant) (still rest : ℕ) → 0 < a.counterparty → a.counterparty ≤ C b → All Of ms → All To (parts_of (counterparty_at b) a ms still rest)
  unfolding parts_of covered_part remainder
  parts-to a [] still rest l h w = ((l, h), tt)
  parts-to a (m ∷ ms) still rest l h w =
      let part = covers a m (counterparty_at b m.counterparty) still in
      (w.0, parts-to a ms (still - part) (rest - part) l h w.1)

  -- "0 to 255"
  pub desk-few : (place : ℕ) → (asset_at b place).desk < desk_count
  unfolding asset_from
  desk-few place = by-test (λ n. n < desk_count) (version b =? 2) (byte_at b (asset_start b place + 7)) 0 (λ _. byte (asset_start b place + 7)) (λ _. omega arith)

  abbrev Kept : Fund → Type 0
  Kept F = (F.groups ≡ C b) × (F.tiers ≡ tiers)

  line-inside : (F : Fund) → Kept F → (place : ℕ) (x : Exposure) → To x → LineInside F (exposure_line (counterparty_at b) (asset_at b place).desk x)
  unfolding exposure_line tier_of
  line-inside F k place x h = (
    top_pos (counterparty_at b) x.counterparty h.0,
    omega (arith, k.0, top-le (counterparty_at b) x.counterparty),
    omega (arith, k.1, tier-le x (counterparty_at b x.counterparty)),
    desk-few place,
  )

  holding-inside : (F : Fund) → Kept F → (left : ℕ → ℕ) (place first : ℕ) → 0 < place → place ≤ N b → 0 < first → first + (asset_at b place).count ≤ K b + 1
      → All (LineInside F) (holding_lines (counterparty_at b) left (holding_at b place first))
  unfolding holding_lines exposures_of
  holding-inside F k left place first l h m c =
      let a = asset_at b place in
      let f = acc.asset place l h in
      let cs = counterparty_at b in
      let parts = parts_of cs a (mitigants_from b first a.count) (may_be_covered cs left a) (net a) in
      all-mapped (LineInside F) (exposure_line cs a.desk) (if linked a then [] else parts)
      (all_map (line-inside F k place) (if linked a then [] else parts)
      (by-test (All To) (linked a) [] parts (λ _. tt) (λ _. parts-to a (mitigants_from b first a.count) (may_be_covered cs left a) (net a) f.low f.high (mitigants-of a.count first m c))))

  holdings-inside : (F : Fund) → Kept F → (left : ℕ → ℕ) (more place first : ℕ) → 0 < place → place + more ≤ N b + 1 → 0 < first → first + held_by (holdings_from b place first more) ≤ K b + 1
      → All (LineInside F) (each_drawing (counterparty_at b) (holding_lines (counterparty_at b)) left (holdings_from b place first more))
  unfolding holdings_from each_drawing sum_of
  holdings-inside F k left zero place first l h m c = tt
  holdings-inside F k left (suc more) place first l h m c =
      let cs = counterparty_at b in
      let count = (asset_at b place).count in
      let next = left_after cs left (holding_at b place first) in
      all_append (LineInside F) (holding_lines cs left (holding_at b place first)) (each_drawing cs (holding_lines cs) next (holdings_from b (place + 1) (first + count) more))
      (holding-inside F k left place first l (omega arith) m (omega arith))
      (holdings-inside F k next more (place + 1) (first + count) (omega arith) (omega arith) (omega arith) (omega arith))

  pub book-lines : (F : Fund) → F.groups ≡ C b → F.tiers ≡ tiers → ((g t : ℕ) → F.exposure g t ≡ exposure_of (book_of b) g t) → LinesOf F (book_lines (book_of b))
  unfolding book_lines book_of counts_add
  book-lines F eg et ee = record {
    inside = holdings-inside F (eg, et) (half_of (holdings_from b 1 1 (N b))) (N b) 1 1 (omega arith) (omega arith) (omega arith) (omega (arith, acc.counted));
    amounts = λ g t. line-amounts (book_of b) g t ∙ sym (ee g t);
  }
