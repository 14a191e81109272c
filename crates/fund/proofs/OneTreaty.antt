-- What C-18 changed: the exposures held against those of a half of each treaty by itself, which it replaced.
--   own_half own_exposures    those: "That starts at net, or at net/2 rounded down"
--   has_half treaties        whose treaties have a half, and how many unlinked ones there are with a counterparty
--   one-treaty              "T9 is unchanged, having one treaty": where nobody who has a half has two of them, they are the same
use mathlib.Core.Bool.{Bool, true, false, not, ◌&&◌}
use mathlib.Core.List.{List, [], ◌∷◌}
use mathlib.Core.Path.{◌≡◌, refl, sym, ap, ◌∙◌}
use Prim.Native.Nat.{ℕ, ◌+◌, ◌-◌, ◌/◌, ◌≤◌, min}
use native.Mathlib.Omega.{arith}
use lib.ListN.{length}
use borrow.Author.Tests.{eq-eqb}
use Rattle.std.specs.Prelude.{if◌then◌else◌}
use Rattle.words.specs.Words.{◌=?◌, sum_of, each_of, those}
use Rattle.words.specs.Choice.{by-test, never, both, each-true}
use Rattle.book.specs.declared.Counterparty.{Counterparty}
use Rattle.book.specs.declared.Asset.{Asset}
use Rattle.book.specs.declared.Kind.TheVariants.{LifeCompany}
use Rattle.book.specs.Fields.{◌is◌, linked, reinsurance, affiliate}
use Rattle.book.specs.Book.{Book, Holding}
use Rattle.exposure.specs.declared.Exposure.{Exposure}
use Rattle.exposure.specs.Values.{net}
use Rattle.exposure.specs.Parts.{half_covered, treaty_net, half_of, may_be_covered, drawn_by, left_after, parts_of, exposures_of, each_drawing, exposures}
use Rattle.exposure.specs.PartLaws.{drawn-le}

unfoldable pub own_half : (ℕ → Counterparty) → Asset → ℕ
own_half cs a = if half_covered a (cs a.counterparty) then net a / 2 else net a

unfoldable pub own_exposures_of : (ℕ → Counterparty) → Holding → List Exposure
own_exposures_of cs h = if linked h.asset then [] else parts_of cs h.asset h.mitigants (own_half cs h.asset) (net h.asset)

unfoldable pub own_exposures : Book → List Exposure
own_exposures B = each_of (own_exposures_of B.counterparty) B.holdings

-- "neither of kind 4 nor an approved affiliate"
abbrev pub has_half : Counterparty → Bool
has_half who = not (who is LifeCompany) && not (affiliate who)

-- an unlinked treaty with the counterparty at a place, and how many there are
abbrev pub treaty_with : ℕ → Holding → Bool
treaty_with place h = reinsurance h.asset && not (linked h.asset) && h.asset.counterparty =? place

abbrev pub treaties : ℕ → List Holding → ℕ
treaties place hs = length (those (treaty_with place) hs)

abbrev nets : ℕ → List Holding → ℕ
nets place hs = sum_of (λ (h : Holding). treaty_net place h.asset) hs

-- ---- one holding before others: where it is a treaty with a place, none of the others may be

module _ (place : ℕ) (h : Holding) (hs : List Holding) where
  this-one : treaty_with place h ≡ true → (treaties place (h ∷ hs) ≡ 1 + treaties place hs) × (nets place (h ∷ hs) ≡ net h.asset + nets place hs)
  unfolding those sum_of treaty_net
  this-one e = rw e (omega arith, refl)

  another : treaty_with place h ≡ false → (treaties place (h ∷ hs) ≡ treaties place hs) × (nets place (h ∷ hs) ≡ nets place hs)
  unfolding those sum_of treaty_net
  another e = rw e (refl, omega arith)

  fewer : treaties place hs ≤ treaties place (h ∷ hs)
  fewer = by (treaty_with place h) refl
    where
      by : (t : Bool) → treaty_with place h ≡ t → treaties place hs ≤ treaties place (h ∷ hs)
      by true e = omega (arith, (this-one e).0)
      by false e = omega (arith, (another e).0)

no-nets : (place : ℕ) (hs : List Holding) → treaties place hs ≡ 0 → nets place hs ≡ 0
unfolding sum_of
no-nets place [] e = refl
no-nets place (h ∷ hs) e = by (treaty_with place h) refl (no-nets place hs)
  where
    by : (t : Bool) → treaty_with place h ≡ t → (treaties place hs ≡ 0 → nets place hs ≡ 0) → nets place (h ∷ hs) ≡ 0
    by true z ih = absurd (omega (arith, (this-one place h hs z).0))
    by false z ih = omega (arith, another place h hs z, ih (omega (arith, (another place h hs z).0)))

module _ (cs : ℕ → Counterparty) where
  abbrev halved : Holding → Bool
  halved h = half_covered h.asset (cs h.asset.counterparty)

  pub halved-treaty : (h : Holding) → halved h ≡ true → (reinsurance h.asset ≡ true) × (has_half (cs h.asset.counterparty) ≡ true)
  unfolding half_covered
  halved-treaty h e =
      let who = cs h.asset.counterparty in
      let d = each-true (reinsurance h.asset) (not (who is LifeCompany) ∷ not (affiliate who) ∷ []) e in
      (d.0, rw (d.1.0, d.1.1.0))

  may-linked : (left : ℕ → ℕ) (a : Asset) → linked a ≡ true → may_be_covered cs left a ≡ 0
  unfolding may_be_covered
  may-linked left a e = rw e

  -- whoever is no unlinked treaty with a place draws nothing of its half
  not-drawn : (left : ℕ → ℕ) (h : Holding) (place : ℕ) → treaty_with place h ≡ false → left_after cs left h place ≡ left place
  unfolding left_after
  not-drawn left h place e = by-test (λ n. n ≡ left place) (halved h && h.asset.counterparty =? place) (left place - drawn_by cs left h) (left place) draws (λ _. refl)
    where
      a : Asset
      a = h.asset

      is-linked : (l : Bool) → (true && not l && true) ≡ false → l ≡ true
      is-linked true z = refl
      is-linked false z = never (sym z)

      draws : (halved h && a.counterparty =? place) ≡ true → left place - drawn_by cs left h ≡ left place
      draws t =
          let d = both (halved h) (a.counterparty =? place) t in
          let none = may-linked left a (is-linked (linked a) (rw ((halved-treaty h d.0).0, d.1) at e)) in
          omega (arith, drawn-le cs left h, none)

  -- there is at most one treaty with whoever has a half; and while it is still to come, the half is whole
  abbrev Alone : ℕ → List Holding → Type 0
  Alone place hs = has_half (cs place) ≡ true → treaties place hs ≤ 1

  abbrev Full : (ℕ → ℕ) → ℕ → List Holding → Type 0
  Full left place hs = has_half (cs place) ≡ true → treaties place hs ≡ 1 → left place ≡ half_of hs place

  -- of a treaty that is the only one with its counterparty its own half may be covered, while that is left
  module _ (left : ℕ → ℕ) (h : Holding) (hs : List Holding) (alone : Alone h.asset.counterparty (h ∷ hs)) (full : Full left h.asset.counterparty (h ∷ hs)) where
    own-half : linked h.asset ≡ false → halved h ≡ true → left h.asset.counterparty ≡ net h.asset / 2
    unfolding half_of
    own-half free e =
        let who = h.asset.counterparty in
        let d = halved-treaty h e in
        let t : treaty_with who h ≡ true = rw (d.0, free, eq-eqb who who refl) in
        let one = this-one who h hs t in
        let few = alone d.1 in
        full d.1 (omega (arith, one.0)) ∙ ap (λ (n : ℕ). n / 2) (omega (arith, one.1, no-nets who hs (omega (arith, one.0))))

    holding-same : exposures_of cs left h ≡ own_exposures_of cs h
    unfolding exposures_of own_exposures_of may_be_covered own_half
    holding-same = by (linked h.asset) refl
      where
        a : Asset
        a = h.asset

        may : (s : Bool) → (s ≡ true → left a.counterparty ≡ net a / 2) → (if s then min (net a) (left a.counterparty) else net a) ≡ (if s then net a / 2 else net a)
        may true k = omega (arith, k refl)
        may false k = refl

        by : (l : Bool) → linked a ≡ l → exposures_of cs left h ≡ own_exposures_of cs h
        by true e = rw e
        by false e = rw (e, may (halved h) (own-half e))

  full-next : (left : ℕ → ℕ) (h : Holding) (hs : List Holding) (place : ℕ) → Alone place (h ∷ hs) → Full left place (h ∷ hs) → Full (left_after cs left h) place hs
  unfolding half_of
  full-next left h hs place alone full has e = by (treaty_with place h) refl
    where
      by : (t : Bool) → treaty_with place h ≡ t → left_after cs left h place ≡ nets place hs / 2
      by true z = absurd (omega (arith, (this-one place h hs z).0, alone has))
      by false z =
          let same = another place h hs z in
          not-drawn left h place z ∙ full has (omega (arith, same.0)) ∙ ap (λ (n : ℕ). n / 2) same.1

  from-same : (hs : List Holding) (left : ℕ → ℕ) → ((place : ℕ) → Alone place hs) → ((place : ℕ) → Full left place hs)
      → each_drawing cs (exposures_of cs) left hs ≡ each_of (own_exposures_of cs) hs
  unfolding each_drawing each_of
  from-same [] left alone full = refl
  from-same (h ∷ hs) left alone full =
      let who = h.asset.counterparty in
      rw (
        holding-same left h hs (alone who) (full who),
        from-same hs (left_after cs left h) (λ place has. omega (arith, fewer place h hs, alone place has)) (λ place. full-next left h hs place (alone place) (full place)),
      )

pub one-treaty : (B : Book) → ((place : ℕ) → has_half (B.counterparty place) ≡ true → treaties place B.holdings ≤ 1) → exposures B ≡ own_exposures B
unfolding exposures own_exposures
one-treaty B alone = from-same B.counterparty B.holdings (half_of B.holdings) alone (λ place _ _. refl)
