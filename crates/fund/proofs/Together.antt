-- What the treaties with one counterparty are covered for, all together (C-18).
--   recognised_of covered-sum    what mitigants cover is the lesser of what may be covered and of what the recognised ones are worth
--   drawn_from coverable         what treaties draw on a counterparty's half, and what each one's mitigants could cover of its net
--   drawn-together half-most    the first is the lesser of the half and of the second, in whatever order the treaties stand; so no more than the half
--   own_drawn no_less            with the half of each treaty by itself, which C-18 replaced, it was no more
use mathlib.Core.Bool.{Bool, true, false, not, ◌&&◌}
use mathlib.Core.List.{List, [], ◌∷◌}
use mathlib.Core.Path.{◌≡◌, refl}
use Prim.Native.Nat.{ℕ, ◌+◌, ◌-◌, ◌/◌, ◌≤◌, min}
use native.Mathlib.Omega.{arith}
use borrow.Author.Tests.{eqb-true}
use Rattle.std.specs.Prelude.{if◌then◌else◌}
use Rattle.words.specs.Words.{◌=?◌, sum_of}
use Rattle.words.specs.Choice.{both}
use Rattle.book.specs.declared.Counterparty.{Counterparty}
use Rattle.book.specs.declared.Asset.{Asset}
use Rattle.book.specs.declared.Mitigant.{Mitigant}
use Rattle.book.specs.Fields.{linked, reinsurance}
use Rattle.book.specs.Book.{Holding}
use Rattle.exposure.specs.Values.{net}
use Rattle.exposure.specs.Parts.{recognised, covers, half_covered, treaty_net, half_of, may_be_covered, covered_by, covered_of, together, drawn_by, left_after}
use Rattle.exposure.proofs.HalfLaws.{left-exact}
use Rattle.fund.proofs.OneTreaty.{halved-treaty}

module _ (cs : ℕ → Counterparty) where
  unfoldable pub recognised_of : Asset → List Mitigant → ℕ
  recognised_of a ms = sum_of (λ (m : Mitigant). if recognised a m (cs m.counterparty) then m.value else 0) ms

  pub covered-sum : (a : Asset) (ms : List Mitigant) (still : ℕ) → together (covered_by cs a ms still) ≡ min still (recognised_of a ms)
  unfolding covered_by covers recognised_of sum_of
  covered-sum a [] still = omega arith
  covered-sum a (m ∷ ms) still = by (recognised a m (cs m.counterparty)) (λ n. covered-sum a ms n)
    where
      by : (t : Bool) → ((n : ℕ) → together (covered_by cs a ms n) ≡ min n (recognised_of a ms))
          → (if t then min m.value still else 0) + together (covered_by cs a ms (still - (if t then min m.value still else 0))) ≡ min still ((if t then m.value else 0) + recognised_of a ms)
      by true ih = omega (arith, ih (still - min m.value still))
      by false ih = omega (arith, ih (still - 0))

  -- a treaty whose half is that of the counterparty at a place
  abbrev drawer : ℕ → Holding → Bool
  drawer place h = half_covered h.asset (cs h.asset.counterparty) && h.asset.counterparty =? place

  -- a sum over the unlinked ones
  abbrev over_drawers : (Holding → ℕ) → ℕ → List Holding → ℕ
  over_drawers f place hs = sum_of (λ (h : Holding). if drawer place h then (if linked h.asset then 0 else f h) else 0) hs

  unfoldable pub drawn_from : (ℕ → ℕ) → ℕ → List Holding → ℕ
  drawn_from left place [] = 0
  drawn_from left place (h ∷ hs) = (if drawer place h then drawn_by cs left h else 0) + drawn_from (left_after cs left h) place hs

  unfoldable pub coverable : ℕ → List Holding → ℕ
  coverable place hs = over_drawers (λ h. min (net h.asset) (recognised_of h.asset h.mitigants)) place hs

  -- ---- on what is left

  module _ (place : ℕ) (h : Holding) (left : ℕ → ℕ) where
    abbrev could : ℕ
    could = if linked h.asset then 0 else min (net h.asset) (recognised_of h.asset h.mitigants)

    draws : drawer place h ≡ true → (left_after cs left h place + drawn_by cs left h ≡ left place) × (drawn_by cs left h ≡ min (left place) could)
    unfolding drawn_by covered_of may_be_covered
    draws z =
        let d = both (half_covered a (cs a.counterparty)) (a.counterparty =? place) z in
        let same = eqb-true a.counterparty place d.1 in
        (rw (← same) (left-exact cs left h d.0), rw (d.0, ← same) (by (linked a)))
      where
        a : Asset
        a = h.asset

        by : (l : Bool) → together (covered_by cs a h.mitigants (if l then 0 else min (net a) (left a.counterparty)))
            ≡ min (left a.counterparty) (if l then 0 else min (net a) (recognised_of a h.mitigants))
        by true = omega (arith, covered-sum a h.mitigants 0)
        by false = omega (arith, covered-sum a h.mitigants (min (net a) (left a.counterparty)))

    stays : drawer place h ≡ false → left_after cs left h place ≡ left place
    unfolding left_after
    stays z = rw z

  from-left : (place : ℕ) (hs : List Holding) (left : ℕ → ℕ) → drawn_from left place hs ≡ min (left place) (coverable place hs)
  unfolding coverable drawn_from sum_of
  from-left place [] left = omega arith
  from-left place (h ∷ hs) left = by (drawer place h) refl (from-left place hs (left_after cs left h))
    where
      next : ℕ → ℕ
      next = left_after cs left h

      by : (t : Bool) → drawer place h ≡ t → drawn_from next place hs ≡ min (next place) (coverable place hs)
          → (if t then drawn_by cs left h else 0) + drawn_from next place hs ≡ min (left place) ((if t then could place h left else 0) + coverable place hs)
      by true z ih = let d = draws place h left z in omega (arith, ih, d.0, d.1)
      by false z ih = omega (arith, ih, stays place h left z)

  pub drawn-together : (place : ℕ) (hs : List Holding) → drawn_from (half_of hs) place hs ≡ min (half_of hs place) (coverable place hs)
  drawn-together place hs = from-left place hs (half_of hs)

  -- "Half of everything with a reinsurer"
  pub half-most : (place : ℕ) (hs : List Holding) → drawn_from (half_of hs) place hs ≤ half_of hs place
  half-most place hs = omega (arith, drawn-together place hs)

  -- ---- by half of each treaty

  unfoldable pub own_drawn : ℕ → List Holding → ℕ
  own_drawn place hs = over_drawers (λ h. together (covered_by cs h.asset h.mitigants (net h.asset / 2))) place hs

  -- no more than half of the nets, and no more than could be covered
  own-le : (place : ℕ) (hs : List Holding) → (own_drawn place hs ≤ half_of hs place) × (own_drawn place hs ≤ coverable place hs)
  unfolding own_drawn coverable half_of sum_of treaty_net
  own-le place [] = (omega arith, omega arith)
  own-le place (h ∷ hs) = by (drawer place h) refl (linked a) (own-le place hs)
    where
      a : Asset
      a = h.asset

      nets : ℕ
      nets = sum_of (λ (x : Holding). treaty_net place x.asset) hs

      own : ℕ
      own = together (covered_by cs a h.mitigants (net a / 2))

      most : own ≡ min (net a / 2) (recognised_of a h.mitigants)
      most = covered-sum a h.mitigants (net a / 2)

      by : (t : Bool) → drawer place h ≡ t → (l : Bool) → (own_drawn place hs ≤ nets / 2) × (own_drawn place hs ≤ coverable place hs)
          → ((if t then (if l then 0 else own) else 0) + own_drawn place hs ≤ ((if reinsurance a && not l && a.counterparty =? place then net a else 0) + nets) / 2)
          × ((if t then (if l then 0 else own) else 0) + own_drawn place hs ≤ (if t then (if l then 0 else min (net a) (recognised_of a h.mitigants)) else 0) + coverable place hs)
      by false z l ih = (omega (arith, ih.0), omega (arith, ih.1))
      by true z true ih = (omega (arith, ih.0), omega (arith, ih.1))
      by true z false ih =
          let d = both (half_covered a (cs a.counterparty)) (a.counterparty =? place) z in
          rw ((halved-treaty cs h d.0).0, d.1) (omega (arith, ih.0, most), omega (arith, ih.1, most))

  pub no_less : (place : ℕ) (hs : List Holding) → own_drawn place hs ≤ drawn_from (half_of hs) place hs
  no_less place hs = let o = own-le place hs in omega (arith, drawn-together place hs, o.0, o.1)
