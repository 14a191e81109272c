-- The loop as a function of its tables, and that it leaves what the definitions say.
--   Tables step run      the tables, one mitigant, `more` mitigants from a place on
--   Leaves left_is       a table that holds what is left of the halves; so it does behind a holding
--   run-one              the mitigants of one asset
--   run-all              those of all assets
use mathlib.Core.Bool.{Bool, true, false, ◌&&◌}
use mathlib.Core.List.{List, [], ◌∷◌, ◌++◌}
use mathlib.Core.Path.{◌≡◌, refl, sym, ap, ◌∙◌}
use Prim.Native.Nat.{ℕ, zero, suc, ◌+◌, ◌*◌, ◌-◌, ◌/◌, ◌≤◌, ◌<◌, min}
use native.Mathlib.Numerals.{add-one}
use native.Mathlib.Nat.{sub-zero}
use native.Mathlib.Omega.{arith}
use lib.Dec.{eqb}
use lib.ListN.{length, get_or, set, length-set}
use lib.Seq.{sets, get_or-set_same, get_or-set_other, set-get_or, set-set}
use borrow.Author.Tests.{eqb-true, eqb-false}
use Rattle.std.specs.Prelude.{if◌then◌else◌}
use Rattle.words.specs.Words.{sum_of}
use Rattle.words.specs.Choice.{if-le}
use Rattle.wire.specs.Bytes.{M}
use Rattle.book.specs.declared.Counterparty.{Counterparty}
use Rattle.book.specs.declared.Asset.{Asset}
use Rattle.book.specs.Records.{C, N, counterparty_at, asset_at, mitigant_at}
use Rattle.book.specs.Fields.{linked}
use Rattle.book.specs.Book.{Holding, mitigants_from, holdings_from}
use Rattle.book.specs.Accepted.{Accepted}
use Rattle.exposure.specs.Values.{net}
use Rattle.exposure.proofs.ValueLaws.{net-le}
use Rattle.exposure.specs.Parts.{covers, half_covered, may_be_covered, covered_by, covered_of, together, drawn_by, left_after, each_drawing}
use Rattle.exposure.specs.PartLaws.{drawn-le, may-le}
use Rattle.assets.specs.Marks.{mark_of, Owned}
use Rattle.assets.specs.Shares.{rest_of, draws_on}
use Rattle.covering.specs.Covered.{drawn_off, rests_from, halves_after, held_by, holding_at, covered-length}
use Rattle.covering.specs.Owners.{mark-half}
use Rattle.covering.specs.Start.{rest_le}

pub record Tables : Type 0 where
  pub covered : List ℕ
  pub halves : List ℕ
  pub rests : List ℕ

-- what the mitigant at a place covers of the asset at place o
abbrev pub part_at : List ℕ → ℕ → ℕ → ℕ → ℕ
part_at b place o still = covers (asset_at b o) (mitigant_at b place) (counterparty_at b (mitigant_at b place).counterparty) still

-- what may still be covered of the asset at place o, that draws on q: what is left of it, and no more than is left of that half
abbrev pub still_at : List ℕ → List ℕ → ℕ → ℕ → ℕ
still_at halves rests o q = min (get_or rests o 0) (get_or halves q 0)

abbrev step : ℕ → ℕ → ℕ → ℕ → Tables → Tables
step place o q part t = record { covered = set t.covered place part; halves = drawn_off q part t.halves; rests = drawn_off o part t.rests }

-- where `on` is whose half the asset at a place draws on
unfoldable pub run : List ℕ → (ℕ → ℕ) → (ℕ → ℕ) → ℕ → ℕ → Tables → Tables
run b owner on place zero t = t
run b owner on place (suc more) t =
    let o = owner place / 2 in
    run b owner on (place + 1) more (step place o (on o) (part_at b place o (still_at t.halves t.rests o (on o))) t)

-- ---- tables whose entries are lessened

module _ (q : ℕ) (t : List ℕ) where
  drawn-none : drawn_off q 0 t ≡ t
  drawn-none = rw (sub-zero, set-get_or)

  drawn-twice : (part more : ℕ) → q < length t → drawn_off q more (drawn_off q part t) ≡ drawn_off q (part + more) t
  drawn-twice part more l =
      let d : get_or t q 0 - part - more ≡ get_or t q 0 - (part + more) = omega arith in
      rw (get_or-set_same t q (get_or t q 0 - part) 0 l, set-set t q, d)

-- what a part leaves may still be covered
still-next : (halves rests : List ℕ) (o q part : ℕ) → o < length rests → q < length halves
    → still_at (drawn_off q part halves) (drawn_off o part rests) o q ≡ still_at halves rests o q - part
still-next halves rests o q part lr lh =
    rw (get_or-set_same rests o (get_or rests o 0 - part) 0 lr, get_or-set_same halves q (get_or halves q 0 - part) 0 lh) (omega arith)

-- what is left goes by the entries from the place on
rests-same : (cs : ℕ → Counterparty) (t u : List ℕ) (hs : List Holding) (left : ℕ → ℕ) (place : ℕ) → ((q : ℕ) → place ≤ q → get_or t q 0 ≡ get_or u q 0) → rests_from cs left t place hs ≡ rests_from cs left u place hs
unfolding rests_from
rests-same cs t u [] left place e = refl
rests-same cs t u (h ∷ hs) left place e = rw (e place (omega arith), rests-same cs t u hs (left_after cs left h) (place + 1) (λ q l. e q (omega arith)))

rests-next : (cs : ℕ → Counterparty) (left : ℕ → ℕ) (t : List ℕ) (place : ℕ) (h : Holding) (hs : List Holding)
    → sets (drawn_off place (drawn_by cs left h) t) (place + 1) (rests_from cs (left_after cs left h) (drawn_off place (drawn_by cs left h) t) (place + 1) hs) ≡ sets t place (rests_from cs left t place (h ∷ hs))
unfolding rests_from
rests-next cs left t place h hs =
    rw (rests-same cs (drawn_off place (drawn_by cs left h) t) t hs (left_after cs left h) (place + 1) (λ q l. get_or-set_other t place q _ 0 (λ z. omega arith)), add-one place)

sets-append : (xs ys t : List ℕ) (i n : ℕ) → n ≡ i + length xs → sets t i (xs ++ ys) ≡ sets (sets t i xs) n ys
sets-append [] ys t i n e = let d : n ≡ i = omega arith in rw d
sets-append (x ∷ xs) ys t i n e = sets-append xs ys (set t i x) (suc i) n (omega arith)

-- ---- an asset and the halves

-- a table that holds what is left of each counterparty's half, and of nobody's at least `least`
pub record Leaves (left : ℕ → ℕ) (least : ℕ) (t : List ℕ) : Type 0 where
  pub of-nobody : least ≤ get_or t 0 0
  pub each : (q : ℕ) → 0 < q → get_or t q 0 ≡ left q

module _ (cs : ℕ → Counterparty) (a : Asset) (known : 0 < a.counterparty) where
  abbrev half : Bool
  half = half_covered a (cs a.counterparty)

  -- what may be covered of it
  still-may : {left : ℕ → ℕ} {least : ℕ} {t : List ℕ} → Leaves left least t → rest_of a ≤ least → min (rest_of a) (get_or t (draws_on cs a) 0) ≡ may_be_covered cs left a
  unfolding draws_on rest_of may_be_covered
  still-may {left} {least} {t} k fits = by half (linked a) fits
    where
      who : ℕ
      who = a.counterparty

      by : (s l : Bool) → (if l then 0 else net a) ≤ least → min (if l then 0 else net a) (get_or t (if s then who else 0) 0) ≡ (if l then 0 else if s then min (net a) (left who) else net a)
      by s true f = omega arith
      by true false f = rw (k.each who known)
      by false false f = omega (arith, k.of-nobody)

  pub draws-le : (n : ℕ) → a.counterparty ≤ n → draws_on cs a ≤ n
  unfolding draws_on
  draws-le n l = if-le half l (omega arith)

-- the table with what is drawn off holds what is left of the halves
left_is : (cs : ℕ → Counterparty) {left : ℕ → ℕ} (least : ℕ) {t : List ℕ} (h : Holding) → 0 < h.asset.counterparty → h.asset.counterparty < length t
    → Leaves left (least + drawn_by cs left h) t → Leaves (left_after cs left h) least (drawn_off (draws_on cs h.asset) (drawn_by cs left h) t)
unfolding draws_on left_after
left_is cs {left} least {t} h known l k = record { of-nobody = nobody half; each = λ q g. by half q g (eqb who q) refl }
  where
    who : ℕ
    who = h.asset.counterparty

    half : Bool
    half = half_covered h.asset (cs who)

    drawn : ℕ
    drawn = drawn_by cs left h

    nobody : (s : Bool) → least ≤ get_or (drawn_off (if s then who else 0) drawn t) 0 0
    nobody true = rw (get_or-set_other t who 0 (get_or t who 0 - drawn) 0 (λ e. omega arith)) (omega (arith, k.of-nobody))
    nobody false = rw (get_or-set_same t 0 (get_or t 0 0 - drawn) 0 (omega arith)) (omega (arith, k.of-nobody))

    by : (s : Bool) (q : ℕ) → 0 < q → (z : Bool) → eqb who q ≡ z → get_or (drawn_off (if s then who else 0) drawn t) q 0 ≡ (if s && z then left q - drawn else left q)
    by false q g z e = get_or-set_other t 0 q (get_or t 0 0 - drawn) 0 (λ w. omega arith) ∙ k.each q g
    by true q g true e = rw (← eqb-true who q e) (get_or-set_same t who (get_or t who 0 - drawn) 0 l ∙ rw (k.each who known))
    by true q g false e = get_or-set_other t who q (get_or t who 0 - drawn) 0 (λ w. eqb-false who q e (sym w)) ∙ k.each q g

-- ---- the mitigants of one asset

-- the tables with what they cover from a place on, and all of it off the asset's entry and off the half
abbrev after : ℕ → ℕ → ℕ → List ℕ → Tables → Tables
after first o q parts t = record { covered = sets t.covered first parts; halves = drawn_off q (together parts) t.halves; rests = drawn_off o (together parts) t.rests }

after_none : (first o q : ℕ) (t : Tables) → t ≡ after first o q [] t
unfolding sum_of
after_none first o q t = rw (drawn-none q t.halves, drawn-none o t.rests)

after_more : (first o q part : ℕ) (parts : List ℕ) (t : Tables) → q < length t.halves → o < length t.rests → after (first + 1) o q parts (step first o q part t) ≡ after first o q (part ∷ parts) t
unfolding sum_of
after_more first o q part parts t lh lr = rw (drawn-twice q t.halves part (together parts) lh, drawn-twice o t.rests part (together parts) lr, add-one first)

module _ (b : List ℕ) (owner on : ℕ → ℕ) where
  abbrev cs : ℕ → Counterparty
  cs = counterparty_at b

  run-one : (count first o : ℕ) (t : Tables) → ((i : ℕ) → i < count → owner (first + i) ≡ mark_of b o) → on o < length t.halves → o < length t.rests
      → run b owner on first count t ≡ after first o (on o) (covered_by cs (asset_at b o) (mitigants_from b first count) (still_at t.halves t.rests o (on o))) t
  unfolding run mitigants_from covered_by
  run-one zero first o t own lh lr = after_none first o (on o) t
  run-one (suc count) first o t own lh lr =
      let still = still_at t.halves t.rests o (on o) in
      let part = part_at b first o still in
      let others : ℕ → List ℕ = λ n. covered_by cs (asset_at b o) (mitigants_from b (first + 1) count) n in
      let e : owner first / 2 ≡ o = ap (λ (m : ℕ). m / 2) (ap owner (omega arith) ∙ own 0 (omega arith)) ∙ mark-half b o in
      let ih = run-one count (first + 1) o (step first o (on o) part t) (λ i g. ap owner (omega arith) ∙ own (suc i) (omega arith)) (rw length-set lh) (rw length-set lr) in
      rw e (ih ∙ ap (λ (n : ℕ). after (first + 1) o (on o) (others n) (step first o (on o) part t)) (still-next t.halves t.rests o (on o) part lr lh) ∙ after_more first o (on o) part (others (still - part)) t lh lr)

  -- ---- all assets

  run-append : (n m first : ℕ) (t : Tables) → run b owner on first (n + m) t ≡ run b owner on (first + n) m (run b owner on first n t)
  unfolding run
  run-append zero m first t =
      let d : 0 + m ≡ m = omega arith in
      let f : first + 0 ≡ first = omega arith in
      rw (d, f)
  run-append (suc n) m first t =
      let d : suc n + m ≡ suc (n + m) = omega arith in
      let f : first + suc n ≡ first + 1 + n = omega arith in
      rw (d, f) (run-append n m (first + 1) _)

  -- the tables behind holdings whose first asset is at `place` and whose first mitigant is at `first`, where `left` is left of the halves
  abbrev behind : (ℕ → ℕ) → ℕ → ℕ → List Holding → Tables → Tables
  behind left place first hs t =
      record {
        covered = sets t.covered first (each_drawing cs (covered_of cs) left hs);
        halves = halves_after cs left t.halves hs;
        rests = sets t.rests place (rests_from cs left t.rests place hs);
      }

  module _ (left : ℕ → ℕ) (place first : ℕ) (t : Tables) where
    abbrev this : Holding
    this = holding_at b place first

    abbrev here : Asset
    here = asset_at b place

    parts_are : {least : ℕ} → 0 < here.counterparty → on place ≡ draws_on cs here → get_or t.rests place 0 ≡ rest_of here → Leaves left least t.halves → rest_of here ≤ least
        → covered_by cs here (mitigants_from b first here.count) (still_at t.halves t.rests place (on place)) ≡ covered_of cs left this
    unfolding covered_of
    parts_are known eo er k fits = rw (eo, er, still-may cs here known k fits)

    drawn-is : together (covered_of cs left this) ≡ drawn_by cs left this
    unfolding drawn_by
    drawn-is = refl

    behind-next : on place ≡ draws_on cs here → (hs : List Holding)
        → behind (left_after cs left this) (place + 1) (first + here.count) hs (after first place (on place) (covered_of cs left this) t) ≡ behind left place first (this ∷ hs) t
    unfolding each_drawing halves_after
    behind-next eo hs =
        rw (
          eo,
          drawn-is,
          rests-next cs left t.rests place this hs,
          sets-append (covered_of cs left this) (each_drawing cs (covered_of cs) (left_after cs left this) hs) t.covered first (first + here.count) (omega (arith, covered-length cs b left place first)),
        )

  -- what is drawn on nobody's half is at most M for each asset
  pub run-all : Accepted b → (more place first : ℕ) (left : ℕ → ℕ) (t : Tables) → 0 < place → place + more ≡ N b + 1 → Owned owner b place first more → C b < length t.halves → N b < length t.rests
      → ((p : ℕ) → 0 < p → p ≤ N b → on p ≡ draws_on cs (asset_at b p))
      → ((p : ℕ) → place ≤ p → p ≤ N b → get_or t.rests p 0 ≡ rest_of (asset_at b p))
      → Leaves left (more * M) t.halves
      → run b owner on first (held_by (holdings_from b place first more)) t ≡ behind left place first (holdings_from b place first more) t
  unfolding run holdings_from each_drawing rests_from halves_after sum_of Owned
  run-all acc zero place first left t l e own lh lr draws nets k = refl
  run-all acc (suc more) place first left t l e own lh lr draws nets k =
      let a = asset_at b place in
      let this = holding_at b place first in
      let f = acc.asset place l (omega arith) in
      let on-is = draws place l (omega arith) in
      let hs = holdings_from b (place + 1) (first + a.count) more in
      let parts = covered_of cs left this in
      let inside : on place < length t.halves = omega (arith, on-is, draws-le cs a f.low (C b) f.high) in
      let most : drawn_by cs left this ≤ M = omega (arith, drawn-le cs left this, may-le cs left a, net-le (C b) a f) in
      let next : Leaves left (more * M + drawn_by cs left this) t.halves = record { of-nobody = omega (arith, k.of-nobody); each = k.each } in
      let leaves = rw (← on-is, ← drawn-is left place first t) at (left_is cs (more * M) this f.low (omega (arith, f.high)) next) in
      let one = run-one a.count first place t own.0 inside (omega arith) ∙ ap (λ (ps : List ℕ). after first place (on place) ps t) (parts_are left place first t f.low on-is (nets place (omega arith) (omega arith)) k (omega (arith, rest_le (C b) a f))) in
      let others = run-all acc more (place + 1) (first + a.count) (left_after cs left this) (after first place (on place) parts t) (omega arith) (omega arith) own.1 (rw length-set lh) (rw length-set lr) draws (λ p g i. get_or-set_other t.rests place p _ 0 (λ z. omega arith) ∙ nets p (omega arith) i) leaves in
      run-append a.count (held_by hs) first t ∙ ap (λ (u : Tables). run b owner on (first + a.count) (held_by hs) u) one ∙ others ∙ behind-next left place first t on-is hs
