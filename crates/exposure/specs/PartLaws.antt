-- Laws of an asset's parts.
--   covers-le covered_le drawn-le       no more is covered than may be
--   may-le may-left                     no more than the net, and of a treaty with a half no more than is left of it
--   parts-sum parts-net                 "Parts and remainder add up to net"
--   linked-none                         a linked asset gives none
--   drawing-sum                         sums over all holdings, where they agree at each
use Rattle.std.specs.Prelude.{true, false, List, [], ◌∷◌, ◌≡◌, refl, ℕ, ◌+◌, ◌-◌, ◌≤◌}
use Rattle.std.proofs.Common.{arith}
use Rattle.words.specs.Words.{sum_of}
use Rattle.words.specs.Sums.{sum-append}
use Rattle.words.specs.Choice.{if-le}
use Rattle.book.specs.declared.Counterparty.{Counterparty}
use Rattle.book.specs.declared.Asset.{Asset}
use Rattle.book.specs.declared.Mitigant.{Mitigant}
use Rattle.book.specs.Fields.{linked}
use Rattle.book.specs.Book.{Holding}
use Rattle.exposure.specs.declared.Exposure.{Exposure}
use Rattle.exposure.specs.Values.{net}
use Rattle.exposure.specs.Parts.{recognised, covers, half_covered, may_be_covered, covered_by, covered_of, together, drawn_by, left_after, covered_part, remainder, parts_of, exposures_of, each_drawing}

abbrev amount : Exposure → ℕ
amount x = x.amount

pub covers-le : (a : Asset) (m : Mitigant) (who : Counterparty) (still : ℕ) → covers a m who still ≤ still
unfolding covers
covers-le a m who still = if-le (recognised a m who) (omega arith) (omega arith)

pub covered_le : (cs : ℕ → Counterparty) (a : Asset) (ms : List Mitigant) (still : ℕ) → together (covered_by cs a ms still) ≤ still
unfolding covered_by sum_of
covered_le cs a [] still = omega arith
covered_le cs a (m ∷ ms) still =
    let who = cs m.counterparty in
    let part = covers a m who still in
    omega (arith, covers-le a m who still, covered_le cs a ms (still - part))

module _ (cs : ℕ → Counterparty) (left : ℕ → ℕ) where
  pub may-le : (a : Asset) → may_be_covered cs left a ≤ net a
  unfolding may_be_covered
  may-le a = if-le (linked a) (omega arith) (if-le (half_covered a (cs a.counterparty)) (omega arith) (omega arith))

  pub may-left : (a : Asset) → half_covered a (cs a.counterparty) ≡ true → may_be_covered cs left a ≤ left a.counterparty
  unfolding may_be_covered
  may-left a e = rw e (if-le (linked a) (omega arith) (omega arith))

  pub drawn-le : (h : Holding) → drawn_by cs left h ≤ may_be_covered cs left h.asset
  unfolding drawn_by covered_of
  drawn-le h = covered_le cs h.asset h.mitigants (may_be_covered cs left h.asset)

pub parts-sum : (cs : ℕ → Counterparty) (a : Asset) (ms : List Mitigant) (still rest : ℕ) → still ≤ rest → sum_of amount (parts_of cs a ms still rest) ≡ rest
unfolding parts_of covered_part remainder sum_of
parts-sum cs a [] still rest h = omega arith
parts-sum cs a (m ∷ ms) still rest h =
    let part = covers a m (cs m.counterparty) still in
    let le = covers-le a m (cs m.counterparty) still in
    omega (arith, le, parts-sum cs a ms (still - part) (rest - part) (omega arith))

pub parts-net : (cs : ℕ → Counterparty) (left : ℕ → ℕ) (h : Holding) → linked h.asset ≡ false → sum_of amount (exposures_of cs left h) ≡ net h.asset
unfolding exposures_of
parts-net cs left h e =
    rw e (parts-sum cs h.asset h.mitigants (may_be_covered cs left h.asset) (net h.asset) (may-le cs left h.asset))

pub linked-none : (cs : ℕ → Counterparty) (left : ℕ → ℕ) (h : Holding) → linked h.asset ≡ true → exposures_of cs left h ≡ []
unfolding exposures_of
linked-none cs left h e = rw e

pub drawing-sum : {A B : Type 0} (cs : ℕ → Counterparty) (f : A → ℕ) (g : B → ℕ) (F : (ℕ → ℕ) → Holding → List A) (G : (ℕ → ℕ) → Holding → List B)
    → ((left : ℕ → ℕ) (h : Holding) → sum_of f (F left h) ≡ sum_of g (G left h))
    → (left : ℕ → ℕ) (hs : List Holding) → sum_of f (each_drawing cs F left hs) ≡ sum_of g (each_drawing cs G left hs)
unfolding each_drawing sum_of
drawing-sum cs f g F G e left [] = refl
drawing-sum cs f g F G e left (h ∷ hs) =
    let next = left_after cs left h in
    omega (
      arith,
      sum-append f (F left h) (each_drawing cs F next hs),
      sum-append g (G left h) (each_drawing cs G next hs),
      e left h,
      drawing-sum cs f g F G e next hs,
    )
