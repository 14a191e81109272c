-- What the mitigants of a book cover, in book order, and what they leave of its assets and of the halves (C-18).
--   drawn_off               a part off the entry of a table that it is drawn on
--   rests_from              a table's entry for each asset, less what its mitigants cover
--   halves_after            the table of halves behind some holdings
--   held_by holding_at       how many mitigants holdings have; the holding at a place, whose first mitigant is the one at `first`
--   mitigants-length covered-length covered-size rests-size    laws: how many mitigants are read; a number for each mitigant, a number for each asset
use Rattle.std.specs.Prelude.{List, [], ◌∷◌, ◌≡◌, length, get_or, set}
use Rattle.std.proofs.Math.Path.{refl, ap}
use Rattle.std.proofs.Common.{◌∙◌, arith}
use Prim.Native.Nat.{ℕ, zero, suc, ◌+◌, ◌-◌}
use Rattle.std.proofs.Math.ListN.{length-append}
use Rattle.words.specs.Words.{sum_of}
use Rattle.book.specs.declared.Counterparty.{Counterparty}
use Rattle.book.specs.declared.Asset.{Asset}
use Rattle.book.specs.declared.Mitigant.{Mitigant}
use Rattle.book.specs.Records.{asset_at}
use Rattle.book.specs.Book.{Holding, mitigants_from, holdings_from}
use Rattle.exposure.specs.Parts.{covered_by, covered_of, drawn_by, left_after, each_drawing}
use Rattle.assets.specs.Shares.{draws_on}

abbrev pub drawn_off : ℕ → ℕ → List ℕ → List ℕ
drawn_off on part t = set t on (get_or t on 0 - part)

unfoldable pub rests_from : (ℕ → Counterparty) → (ℕ → ℕ) → List ℕ → ℕ → List Holding → List ℕ
rests_from cs left t place [] = []
rests_from cs left t place (h ∷ hs) = (get_or t place 0 - drawn_by cs left h) ∷ rests_from cs (left_after cs left h) t (place + 1) hs

unfoldable pub halves_after : (ℕ → Counterparty) → (ℕ → ℕ) → List ℕ → List Holding → List ℕ
halves_after cs left t [] = t
halves_after cs left t (h ∷ hs) = halves_after cs (left_after cs left h) (drawn_off (draws_on cs h.asset) (drawn_by cs left h) t) hs

abbrev pub held_by : List Holding → ℕ
held_by hs = sum_of (λ (h : Holding). h.asset.count) hs

abbrev pub holding_at : List ℕ → ℕ → ℕ → Holding
holding_at b place first = record { asset = asset_at b place; mitigants = mitigants_from b first (asset_at b place).count }

covered-by-length : (cs : ℕ → Counterparty) (a : Asset) (ms : List Mitigant) (still : ℕ) → length (covered_by cs a ms still) ≡ length ms
unfolding covered_by
covered-by-length cs a [] still = refl
covered-by-length cs a (m ∷ ms) still = ap suc (covered-by-length cs a ms _)

pub mitigants-length : (b : List ℕ) (count first : ℕ) → length (mitigants_from b first count) ≡ count
unfolding mitigants_from
mitigants-length b zero first = refl
mitigants-length b (suc count) first = ap suc (mitigants-length b count (first + 1))

module _ (cs : ℕ → Counterparty) (b : List ℕ) where
  pub covered-length : (left : ℕ → ℕ) (place first : ℕ) → length (covered_of cs left (holding_at b place first)) ≡ (asset_at b place).count
  unfolding covered_of
  covered-length left place first =
      covered-by-length cs (asset_at b place) (mitigants_from b first (asset_at b place).count) _ ∙ mitigants-length b (asset_at b place).count first

  pub covered-size : (left : ℕ → ℕ) (more place first : ℕ) → length (each_drawing cs (covered_of cs) left (holdings_from b place first more)) ≡ held_by (holdings_from b place first more)
  unfolding holdings_from each_drawing sum_of
  covered-size left zero place first = refl
  covered-size left (suc more) place first =
      let h = holding_at b place first in
      let next = left_after cs left h in
      let later = first + (asset_at b place).count in
      length-append (covered_of cs left h) (each_drawing cs (covered_of cs) next (holdings_from b (place + 1) later more))
      ∙ omega (arith, covered-length left place first, covered-size next more (place + 1) later)

  pub rests-size : (left : ℕ → ℕ) (t : List ℕ) (more place first : ℕ) → length (rests_from cs left t place (holdings_from b place first more)) ≡ more
  unfolding holdings_from rests_from
  rests-size left t zero place first = refl
  rests-size left t (suc more) place first = ap suc (rests-size (left_after cs left (holding_at b place first)) t more (place + 1) (first + (asset_at b place).count))
