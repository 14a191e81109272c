-- "Mitigants (P31 to P43)": the covered parts and the remainder of an asset, with C-18's "Half of everything with a reinsurer".
--   good_collateral good_guarantee recognised    whether a mitigant counts
--   covers covered_kind                         what a mitigant covers, and what that becomes
--   half_covered treaty_net half_of               whose reinsurance is covered by half, and the half of a counterparty
--   may_be_covered covered_by covered_of           what may be covered of an asset, and what each of its mitigants covers
--   together drawn_by left_after                 what they cover together, and what is left of the halves behind them
--   covered_part remainder parts_of exposures_of  the exposures of an asset with its mitigants
--   each_drawing exposures                      those of a book, in book order
use Rattle.std.specs.Prelude.{Bool, not, ◌&&◌, ◌||◌, List, [], ◌∷◌, ◌++◌, ℕ, ◌-◌, ◌/◌, min, if◌then◌else◌}
use Rattle.words.specs.Words.{◌≤?◌, ◌=?◌, sum_of}
use Rattle.wire.specs.Bytes.{bit}
use Rattle.book.specs.declared.Kind.TheVariants.{Bank, HomeGovernment, ProvincialGovernment, LifeCompany}
use Rattle.book.specs.declared.Counterparty.{Counterparty}
use Rattle.book.specs.declared.Asset.{Asset}
use Rattle.book.specs.declared.Mitigant.{Mitigant}
use Rattle.book.specs.Fields.{◌is◌, graded, related, affiliate, linked, reinsurance}
use Rattle.book.specs.Book.{Book, Holding}
use Rattle.exposure.specs.declared.Exposure.{Exposure}
use Rattle.exposure.specs.Values.{net}

-- "Collateral: bit 4, and bit 0 (reinsurance: bit 0 or 1); debt must be graded"
unfoldable pub good_collateral : Asset → Mitigant → Counterparty → Bool
good_collateral a m who =
    bit 4 m.flags && (bit 0 m.flags || (reinsurance a && bit 1 m.flags)) && (not (m.form =? 3) || graded who)

-- "Guarantee: not related, graded, bit 2; for reinsurance a bank with bit 3 instead of bit 2"
unfoldable pub good_guarantee : Asset → Mitigant → Counterparty → Bool
good_guarantee a m who =
    not (related who) && graded who && (if reinsurance a then who is Bank && bit 3 m.flags else bit 2 m.flags)

-- "Letter of credit: reinsurance only, same as its guarantee"
unfoldable pub recognised : Asset → Mitigant → Counterparty → Bool
recognised a m who =
    if m.form ≤? 3 then good_collateral a m who
    else if m.form =? 4 then good_guarantee a m who
    else reinsurance a && good_guarantee a m who

-- "each covering the lesser of its value and what may still be covered"
unfoldable pub covers : Asset → Mitigant → Counterparty → ℕ → ℕ
covers a m who still = if recognised a m who then min m.value still else 0

-- "cash kind 4; government security kind 1; debt 7; guarantee 3, 1 or 5 for a bank, home or provincial government, else 7; letter 3"
unfoldable pub covered_kind : Mitigant → Counterparty → ℕ
covered_kind m who =
    if m.form =? 1 then 4
    else if m.form =? 2 then 1
    else if m.form =? 3 then 7
    else if m.form =? 5 then 3
    else if who is Bank then 3
    else if who is HomeGovernment then 1
    else if who is ProvincialGovernment then 5
    else 7

-- "each reinsurance asset whose counterparty is neither of kind 4 nor an approved affiliate"
unfoldable pub half_covered : Asset → Counterparty → Bool
half_covered a who = reinsurance a && not (who is LifeCompany) && not (affiliate who)

-- an asset's net where it is one of "that counterparty's unlinked reinsurance nets"
unfoldable pub treaty_net : ℕ → Asset → ℕ
treaty_net place a = if reinsurance a && not (linked a) && a.counterparty =? place then net a else 0

-- "The half is now taken of the sum of that counterparty's unlinked reinsurance nets, rounded down once"
unfoldable pub half_of : List Holding → ℕ → ℕ
half_of hs place = sum_of (λ (h : Holding). treaty_net place h.asset) hs / 2

-- "what may still be covered. That starts at net", where `left` is what is left of each counterparty's half: of a treaty that draws on one no more than that,
-- "each up to its own net"; of a linked asset, whose mitigants are unread, nothing
unfoldable pub may_be_covered : (ℕ → Counterparty) → (ℕ → ℕ) → Asset → ℕ
may_be_covered cs left a =
    if linked a then 0
    else if half_covered a (cs a.counterparty) then min (net a) (left a.counterparty)
    else net a

-- "recognised mitigants are taken in order, each covering the lesser of its value and what may still be covered"
unfoldable pub covered_by : (ℕ → Counterparty) → Asset → List Mitigant → ℕ → List ℕ
covered_by cs a [] still = []
covered_by cs a (m ∷ ms) still =
    let part = covers a m (cs m.counterparty) still in
    part ∷ covered_by cs a ms (still - part)

unfoldable pub covered_of : (ℕ → Counterparty) → (ℕ → ℕ) → Holding → List ℕ
covered_of cs left h = covered_by cs h.asset h.mitigants (may_be_covered cs left h.asset)

abbrev pub together : List ℕ → ℕ
together xs = sum_of (λ n. n) xs

-- "what their recognised mitigants cover"; "one without draws nothing"
unfoldable pub drawn_by : (ℕ → Counterparty) → (ℕ → ℕ) → Holding → ℕ
drawn_by cs left h = together (covered_of cs left h)

-- "Treaties draw on it in book order": what is left of each half behind an asset with its mitigants
unfoldable pub left_after : (ℕ → Counterparty) → (ℕ → ℕ) → Holding → ℕ → ℕ
left_after cs left h place =
    if half_covered h.asset (cs h.asset.counterparty) && h.asset.counterparty =? place then left place - drawn_by cs left h
    else left place

-- "A covered part becomes an exposure to the mitigant's counterparty"
unfoldable pub covered_part : Mitigant → Counterparty → ℕ → Exposure
covered_part m who amount =
    record { counterparty = m.counterparty; kind = covered_kind m who; entry = 0; months = 0; amount = amount }

-- "a remainder goes by its asset's own counterparty, kind, entry and months"
unfoldable pub remainder : Asset → ℕ → Exposure
remainder a amount =
    record { counterparty = a.counterparty; kind = a.kind; entry = a.entry; months = a.months; amount = amount }

-- "recognised mitigants are taken in order", where `still` may still be covered and `rest` is what no mitigant has covered so far;
-- "Parts and remainder add up to net"
unfoldable pub parts_of : (ℕ → Counterparty) → Asset → List Mitigant → ℕ → ℕ → List Exposure
parts_of cs a [] still rest = remainder a rest ∷ []
parts_of cs a (m ∷ ms) still rest =
    let who = cs m.counterparty in
    let part = covers a m who still in
    covered_part m who part ∷ parts_of cs a ms (still - part) (rest - part)

-- "A linked asset's net is unlimited and its mitigants unread"
unfoldable pub exposures_of : (ℕ → Counterparty) → (ℕ → ℕ) → Holding → List Exposure
exposures_of cs left h =
    if linked h.asset then [] else parts_of cs h.asset h.mitigants (may_be_covered cs left h.asset) (net h.asset)

-- what each holding gives by what those before it have left of the halves, one after the other
unfoldable pub each_drawing : {A : Type 0} → (ℕ → Counterparty) → ((ℕ → ℕ) → Holding → List A) → (ℕ → ℕ) → List Holding → List A
each_drawing cs f left [] = []
each_drawing cs f left (h ∷ hs) = f left h ++ each_drawing cs f (left_after cs left h) hs

-- all exposures of a book, in book order
unfoldable pub exposures : Book → List Exposure
exposures B = each_drawing B.counterparty (exposures_of B.counterparty) (half_of B.holdings) B.holdings
