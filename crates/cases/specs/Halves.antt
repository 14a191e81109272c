-- C-18, "Half of everything with a reinsurer (P43)": what mitigants cover of treaties that share a half, each beside what another reading gives.
use Rattle.std.specs.Prelude.{Bool, not, ◌&&◌, List, [], ◌∷◌, ◌++◌, ℕ, ◌+◌, ◌-◌, ◌/◌, min, T, if◌then◌else◌}
use Rattle.words.specs.Words.{◌<?◌, ◌=?◌, sum_of, each_of, every}
use Rattle.book.specs.declared.Counterparty.{Counterparty}
use Rattle.book.specs.declared.Asset.{Asset}
use Rattle.book.specs.declared.Mitigant.{Mitigant}
use Rattle.book.specs.Fields.{linked, reinsurance}
use Rattle.book.specs.Book.{Book, Holding, book_of, top_of}
use Rattle.book.specs.Build.{counterparty, asset, mitigant}
use Rattle.exposure.specs.declared.Exposure.{Exposure}
use Rattle.exposure.specs.Values.{net}
use Rattle.exposure.specs.Parts.{recognised, half_covered, half_of, covered_by, together, parts_of, exposures}
use Rattle.exposure.specs.Tier.{tier_of}
use Rattle.examples.specs.Build.{covered, reinsured, usual, specialist, name, bank, registered}
use Rattle.examples.specs.Reading.{printed, line}
use Rattle.examples.specs.Table.{case, right, same}
use Rattle.examples.specs.Opened.{report_computed}

-- ---- readings

-- Whose half a counterparty's treaties share, what each half is, who has one, what may be covered of a net when so much is left of the half, and what an
-- asset with its mitigants draws when they cover so much
record Reading : Type 0 where
  shared : Book → ℕ → ℕ
  half : Book → ℕ → ℕ
  has : Asset → Counterparty → Bool
  may : ℕ → ℕ → ℕ
  draws : Book → Holding → ℕ → ℕ

-- document 02's, written so
abbrev read : Reading
read =
    record {
      shared = λ B q. q;
      half = λ B. half_of B.holdings;
      has = λ a who. half_covered a who && not (linked a);
      may = λ n left. min n left;
      draws = λ B h sum. sum;
    }

module _ (R : Reading) (B : Book) where
  abbrev who : Asset → Counterparty
  who a = B.counterparty a.counterparty

  abbrev may_by : (ℕ → ℕ) → Asset → ℕ
  may_by left a = if R.has a (who a) then R.may (net a) (left (R.shared B a.counterparty)) else net a

  abbrev left_by : (ℕ → ℕ) → Holding → ℕ → ℕ
  left_by left h q =
      let a = h.asset in
      if R.has a (who a) && R.shared B a.counterparty =? q then left q - R.draws B h (together (covered_by B.counterparty a h.mitigants (may_by left a)))
      else left q

  unfoldable exposures_by : (ℕ → ℕ) → List Holding → List Exposure
  exposures_by left [] = []
  exposures_by left (h ∷ hs) =
      let a = h.asset in
      (if linked a then [] else parts_of B.counterparty a h.mitigants (may_by left a) (net a)) ++ exposures_by (left_by left h) hs

-- half the sum, over a book, of what each asset counts for at a place
abbrev half_sum : (Book → ℕ → Asset → Bool) → Book → ℕ → ℕ
half_sum counts B q = sum_of (λ (h : Holding). if counts B q h.asset then net h.asset else 0) B.holdings / 2

abbrev unlinked_with : Book → ℕ → Asset → Bool
unlinked_with B q a = not (linked a) && a.counterparty =? q

-- half of each treaty by itself: document 01's reading, which C-18 replaces. A half of the sum, of which each treaty draws up to half of its own net, is the same
abbrev each_treaty : Reading
each_treaty = record { shared = read.shared; half = read.half; has = read.has; may = λ n left. n / 2; draws = read.draws }

-- one half for all of a group
abbrev groups : Reading
groups =
    record {
      shared = λ B q. top_of B.counterparty q;
      half = half_sum (λ B q a. reinsurance a && not (linked a) && top_of B.counterparty a.counterparty =? q);
      has = read.has;
      may = read.may;
      draws = read.draws;
    }

-- the sum of the halves; the half rounded up; linked treaties added; other assets added
abbrev half_by : (Book → ℕ → ℕ) → Reading
half_by half = record { shared = read.shared; half = half; has = read.has; may = read.may; draws = read.draws }

abbrev rounded_each : Reading
rounded_each = half_by (λ B q. sum_of (λ (h : Holding). if reinsurance h.asset && unlinked_with B q h.asset then net h.asset / 2 else 0) B.holdings)

abbrev rounded_up : Reading
rounded_up = half_by (λ B q. (sum_of (λ (h : Holding). if reinsurance h.asset && unlinked_with B q h.asset then net h.asset else 0) B.holdings + 1) / 2)

abbrev linked_too : Reading
linked_too = half_by (half_sum (λ B q a. reinsurance a && a.counterparty =? q))

abbrev all_kinds : Reading
all_kinds = half_by (half_sum unlinked_with)

-- a linked treaty draws what its mitigants would cover; an affiliate and a registered reinsurer have a half
abbrev linked_draws : Reading
linked_draws = record { shared = read.shared; half = read.half; has = half_covered; may = read.may; draws = read.draws }

abbrev everybody : Reading
everybody = record { shared = read.shared; half = read.half; has = λ a who. reinsurance a && not (linked a); may = read.may; draws = read.draws }

-- what is drawn: nothing; the mitigants' values, of the recognised ones and of all; the net
abbrev drawing : (Book → Holding → ℕ → ℕ) → Reading
drawing draws = record { shared = read.shared; half = read.half; has = read.has; may = read.may; draws = draws }

abbrev undrawn : Reading
undrawn = drawing (λ B h sum. 0)

abbrev by_value : Reading
by_value = drawing (λ B h sum. sum_of (λ (m : Mitigant). if recognised h.asset m (B.counterparty m.counterparty) then m.value else 0) h.mitigants)

abbrev unrecognised : Reading
unrecognised = drawing (λ B h sum. sum_of (λ (m : Mitigant). m.value) h.mitigants)

abbrev by_net : Reading
by_net = drawing (λ B h sum. net h.asset)

-- ---- what a case says

-- an exposure: counterparty, kind, tier, amount
abbrev part : ℕ → ℕ → ℕ → ℕ → List ℕ
part to kind tier amount = to ∷ kind ∷ tier ∷ amount ∷ []

-- those above 0, in order
unfoldable parts : Book → List Exposure → List ℕ
parts B xs = each_of (λ (x : Exposure). if 0 <? x.amount then part x.counterparty x.kind (tier_of B.counterparty x) x.amount else []) xs

-- a book, its exposures; another reading, and what they are under it
record Half : Type 0 where
  book : List ℕ
  due : List ℕ
  reading : Reading
  misread : List ℕ

abbrev half : List ℕ → List ℕ → Reading → List ℕ → Half
half book due reading misread = record { book = book; due = due; reading = reading; misread = misread }

unfoldable parts_by : Reading → List ℕ → List ℕ
parts_by R b = let B = book_of b in parts B (exposures_by R B (R.half B) B.holdings)

-- the exposures are as they should be, also as document 02's reading is written above; under the other reading they are as the case says
unfoldable holds_for : Half → Bool
holds_for c =
    let B = book_of c.book in
    same (parts B (exposures B)) c.due && same (parts_by read c.book) c.due && same (parts_by c.reading c.book) c.misread

-- and differ
abbrev caught : Half → Bool
caught c = holds_for c && not (same c.due c.misread)

-- ---- books: an ungraded reinsurer at place 1, a bank that writes letters at place 2, then others

-- a letter of credit, a bank's guarantee and cash that are recognised; a letter that is not
abbrev letter : ℕ → List ℕ
letter value = mitigant 5 8 2 value

abbrev guarantee : ℕ → List ℕ
guarantee value = mitigant 4 8 2 value

abbrev cash : ℕ → List ℕ
cash value = mitigant 1 17 2 value

abbrev bad : ℕ → List ℕ
bad value = mitigant 5 0 2 value

abbrev two : List (List ℕ) → List (List ℕ) → List ℕ
two assets mitigants = usual (name ∷ bank ∷ []) assets mitigants

abbrev three : List ℕ → List (List ℕ) → List (List ℕ) → List ℕ
three other assets mitigants = usual (name ∷ bank ∷ other ∷ []) assets mitigants

abbrev linked_treaty : ℕ → ℕ → List ℕ
linked_treaty count value = asset 9 1 0 0 1 count value 0 0 0 value

abbrev affiliate : List ℕ
affiliate = counterparty 0 0 0 2

-- a part that a letter covers; what is left of a treaty
abbrev lettered : ℕ → List ℕ
lettered amount = part 2 3 11 amount

abbrev rest : ℕ → List ℕ
rest amount = part 1 9 1 amount

-- "Two treaties of 101 and 99 with good letters of 101 only on the first"
abbrev collateral_on_one : List ℕ
collateral_on_one = two (reinsured 1 1 101 ∷ reinsured 1 0 99 ∷ []) (letter 101 ∷ [])

unfoldable halves : List Half
halves =
    -- "cover 100", which is more than half of the first treaty's net
    half collateral_on_one (lettered 100 ++ rest 1 ++ rest 99) each_treaty (lettered 50 ++ rest 51 ++ rest 99)
    ∷ half collateral_on_one (lettered 100 ++ rest 1 ++ rest 99) rounded_each (lettered 99 ++ rest 2 ++ rest 99)
    -- "each up to its own net": the same letter on the second alone
    ∷ half (two (reinsured 1 0 101 ∷ reinsured 1 1 99 ∷ []) (letter 101 ∷ [])) (rest 101 ++ lettered 99) each_treaty (rest 101 ++ lettered 49 ++ rest 50)
    -- "rounded down once": two of 101 give 101, and the first draws all of it; nets of 1 and 1 give 1, not 0 and 0; one of 101 gives 50
    ∷ half (two (reinsured 1 1 101 ∷ reinsured 1 1 101 ∷ []) (letter 101 ∷ letter 101 ∷ [])) (lettered 101 ++ rest 101) rounded_each (lettered 100 ++ rest 1 ++ rest 101)
    ∷ half (two (reinsured 1 1 1 ∷ reinsured 1 0 1 ∷ []) (letter 1 ∷ [])) (lettered 1 ++ rest 1) rounded_each (rest 1 ++ rest 1)
    ∷ half (two (reinsured 1 1 101 ∷ []) (letter 101 ∷ [])) (lettered 50 ++ rest 51) rounded_up (lettered 51 ++ rest 50)
    -- three treaties: the second's draw is cut by the first's, and nothing is left for the third
    ∷ half (two (reinsured 1 1 60 ∷ reinsured 1 1 60 ∷ reinsured 1 1 80 ∷ []) (letter 70 ∷ letter 60 ∷ letter 80 ∷ [])) (lettered 60 ++ lettered 40 ++ rest 20 ++ rest 80)
    undrawn (lettered 60 ++ lettered 60 ++ lettered 80)
    -- "what their recognised mitigants cover": 50 of a letter of 90; nothing of one that is not recognised
    ∷ half (two (reinsured 1 1 50 ∷ reinsured 1 1 150 ∷ []) (letter 90 ∷ letter 60 ∷ [])) (lettered 50 ++ lettered 50 ++ rest 100) by_value (lettered 50 ++ lettered 10 ++ rest 140)
    ∷ half (two (reinsured 1 1 100 ∷ reinsured 1 1 100 ∷ []) (bad 100 ∷ letter 100 ∷ [])) (rest 100 ++ lettered 100) unrecognised (rest 100 ++ rest 100)
    -- "one without draws nothing"
    ∷ half (two (reinsured 1 0 80 ∷ reinsured 1 1 120 ∷ []) (letter 120 ∷ [])) (rest 80 ++ lettered 100 ++ rest 20) by_net (rest 80 ++ lettered 20 ++ rest 100)
    -- "unlinked": a linked treaty of the same reinsurer adds nothing, and draws nothing
    ∷ half (two (linked_treaty 1 100 ∷ reinsured 1 1 50 ∷ []) (letter 100 ∷ letter 50 ∷ [])) (lettered 25 ++ rest 25) linked_too (lettered 50)
    ∷ half (two (linked_treaty 1 100 ∷ reinsured 1 1 50 ∷ []) (letter 100 ∷ letter 50 ∷ [])) (lettered 25 ++ rest 25) linked_draws (rest 50)
    -- "reinsurance nets": a loan to the reinsurer, covered whole by cash, neither adds nor draws
    ∷ half (two (covered 7 1 1 100 ∷ reinsured 1 1 50 ∷ []) (cash 100 ∷ letter 50 ∷ [])) (part 2 4 12 100 ++ lettered 25 ++ rest 25) all_kinds (part 2 4 12 100 ++ lettered 50)
    -- "that counterparty's": two of one group have a half each
    ∷ half (three (counterparty 1 0 0 0) (reinsured 1 1 100 ∷ reinsured 3 0 100 ∷ []) (letter 100 ∷ [])) (lettered 50 ++ rest 50 ++ part 3 9 1 100) groups (lettered 100 ++ part 3 9 1 100)
    -- an approved affiliate and a registered reinsurer among them have none: their letters cover all
    ∷ half (three affiliate (reinsured 3 1 100 ∷ reinsured 1 1 100 ∷ reinsured 3 1 60 ∷ []) (letter 100 ∷ letter 100 ∷ letter 60 ∷ [])) (lettered 100 ++ lettered 50 ++ rest 50 ++ lettered 60)
    everybody (lettered 80 ++ part 3 9 1 20 ++ lettered 50 ++ rest 50 ++ part 3 9 1 60)
    ∷ half (three registered (reinsured 3 1 100 ∷ reinsured 1 1 100 ∷ []) (letter 100 ∷ letter 100 ∷ [])) (lettered 100 ++ lettered 50 ++ rest 50) everybody (lettered 50 ++ part 3 9 1 50 ++ lettered 50 ++ rest 50)
    -- several mitigants of one treaty are drawn together, and other reinsurers' treaties between them have their own half
    ∷ half (three name (reinsured 1 2 70 ∷ reinsured 3 1 80 ∷ reinsured 1 2 50 ∷ []) (cash 20 ∷ guarantee 30 ∷ letter 90 ∷ bad 5 ∷ letter 50 ∷ []))
    (part 2 4 12 20 ++ lettered 30 ++ rest 20 ++ lettered 40 ++ part 3 9 1 40 ++ lettered 10 ++ rest 40)
    each_treaty (part 2 4 12 20 ++ lettered 15 ++ rest 35 ++ lettered 40 ++ part 3 9 1 40 ++ lettered 25 ++ rest 25)
    -- C-11: a retrocession adds and draws as any treaty
    ∷ half (specialist (name ∷ bank ∷ []) (asset 9 0 3 4 1 1 60 0 0 0 60 ∷ reinsured 1 1 40 ∷ []) (letter 60 ∷ letter 40 ∷ [])) (lettered 50 ++ part 1 9 14 10 ++ rest 40)
    each_treaty (lettered 30 ++ part 1 9 14 30 ++ lettered 20 ++ rest 20)
    ∷ []

-- T9 has one treaty: half of each treaty by itself is the same
unfoldable alike : List Half
alike =
    let agreed : List ℕ → List ℕ → Half = λ book due. half book due each_treaty due in
    agreed (two (reinsured 1 1 101 ∷ []) (letter 101 ∷ [])) (lettered 50 ++ rest 51)
    ∷ agreed (usual (registered ∷ bank ∷ []) (reinsured 1 1 101 ∷ []) (letter 101 ∷ [])) (lettered 101)
    ∷ agreed (three name (reinsured 1 1 101 ∷ reinsured 3 1 101 ∷ linked_treaty 1 7 ∷ []) (letter 101 ∷ letter 50 ∷ letter 9 ∷ [])) (lettered 50 ++ rest 51 ++ lettered 50 ++ part 3 9 1 51)
    ∷ []

table-right : T (every caught halves && every holds_for alike)
unfolding report_computed exposures_by parts parts_by holds_for halves alike
table-right = tt

-- ---- in the report: top 1's tier 1 has 1 and 99, the bank's tier 11 the 100 of the letter, which are W

report-right : T (every right (case collateral_on_one printed (line 1 1 100 250000000 250000000 0 ++ line 2 11 100 2500000000 2500000000 0) ∷ []))
unfolding report_computed right
report-right = tt
