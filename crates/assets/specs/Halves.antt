-- The table of halves, by counterparty (C-18): the nets of its treaties added up, then every entry halved. Entry 0 is nobody's half: whoever has none draws on it.
--   with_net added     a table with one asset's net more, and with those of some assets
--   endless        nobody's half
--   Halved         a table with every entry halved, and nobody's half at 0
--   endless-enough           law: all that there is of a book's assets is no more
--   added-length added-at    laws: as long as it was; each entry with "the sum of that counterparty's unlinked reinsurance nets" more
--   halves_are     out of zeros, each counterparty's half
use Rattle.std.specs.Prelude.{Bool, true, false, not, ◌&&◌, List, ◌≡◌, refl, eqb, length, get_or, set, if◌then◌else◌}
use Rattle.std.proofs.Common.{sym, ◌∙◌, get_or-set_same, get_or-set_other, eqb-true}
use Rattle.std.proofs.Math.Path.{ap}
use Prim.Native.Nat.{ℕ, zero, suc, ◌+◌, ◌*◌, ◌/◌, ◌≤◌, ◌<◌}
use native.Mathlib.Omega.{arith}
use Rattle.std.proofs.Math.ListN.{length-set}
use Rattle.std.proofs.lemmas.Bool.{eqb-false}
use Rattle.words.specs.Words.{◌=?◌, sum_of}
use Rattle.wire.specs.Bytes.{M}
use Rattle.book.specs.declared.Asset.{Asset}
use Rattle.book.specs.Records.{most_assets, C, N, asset_at}
use Rattle.book.specs.Fields.{linked, reinsurance}
use Rattle.book.specs.Book.{Holding, holdings_from, book_of}
use Rattle.book.specs.Accepted.{Accepted}
use Rattle.exposure.specs.Values.{net}
use Rattle.exposure.specs.Parts.{treaty_net, half_of}
use Rattle.assets.specs.Shares.{rest_of, treaty_rest}

abbrev pub with_net : List ℕ → Asset → List ℕ
with_net t a = set t a.counterparty (get_or t a.counterparty 0 + treaty_rest a)

-- of `more` assets from a place on
unfoldable pub added : List ℕ → List ℕ → ℕ → ℕ → List ℕ
added b t place zero = t
added b t place (suc more) = added b (with_net t (asset_at b place)) (place + 1) more

-- 2^62, which is never used up: a book has at most 900 assets of at most M = 10^13 each, together 9 · 10^15
abbrev pub endless : ℕ
endless = 4_611_686_018_427_387_904

pub record Halved (before after : List ℕ) : Type 0 where
  pub size : length after ≡ length before
  pub of-nobody : get_or after 0 0 ≡ endless
  pub each : (place : ℕ) → 0 < place → get_or after place 0 ≡ get_or before place 0 / 2

-- ---- laws

pub endless-enough : most_assets * M ≤ endless
endless-enough = omega arith

pub added-length : (b : List ℕ) (more place : ℕ) (t : List ℕ) → length (added b t place more) ≡ length t
unfolding added
added-length b zero place t = refl
added-length b (suc more) place t = added-length b more (place + 1) (with_net t (asset_at b place)) ∙ length-set t (asset_at b place).counterparty _

-- what an asset adds at a place: its own counterparty's entry gets it
net-at : (a : Asset) (q : ℕ) → (if a.counterparty =? q then treaty_rest a else 0) ≡ treaty_net q a
unfolding treaty_net treaty_rest rest_of
net-at a q = by (a.counterparty =? q) (reinsurance a) (linked a)
  where
    by : (s r l : Bool) → (if s then (if r then (if l then 0 else net a) else 0) else 0) ≡ (if r && not l && s then net a else 0)
    by true true true = refl
    by true true false = refl
    by true false l = refl
    by false true true = refl
    by false true false = refl
    by false false l = refl

pub plus-at : (t : List ℕ) (a : Asset) → a.counterparty < length t → (q : ℕ) → get_or (with_net t a) q 0 ≡ get_or t q 0 + treaty_net q a
plus-at t a l q = by (eqb a.counterparty q) refl ∙ ap (λ (n : ℕ). get_or t q 0 + n) (net-at a q)
  where
    by : (s : Bool) → eqb a.counterparty q ≡ s → get_or (with_net t a) q 0 ≡ get_or t q 0 + (if s then treaty_rest a else 0)
    by true z = rw (← eqb-true a.counterparty q z) (get_or-set_same t a.counterparty (get_or t a.counterparty 0 + treaty_rest a) 0 l)
    by false z = get_or-set_other t a.counterparty q (get_or t a.counterparty 0 + treaty_rest a) 0 (λ w. eqb-false a.counterparty q z (sym w)) ∙ omega arith

module _ (b : List ℕ) (acc : Accepted b) where
  pub added-at : (more place first : ℕ) (t : List ℕ) → 0 < place → place + more ≤ N b + 1 → C b < length t
      → (q : ℕ) → get_or (added b t place more) q 0 ≡ get_or t q 0 + sum_of (λ (h : Holding). treaty_net q h.asset) (holdings_from b place first more)
  unfolding added holdings_from sum_of
  added-at zero place first t l h g q = omega arith
  added-at (suc more) place first t l h g q =
      let a = asset_at b place in
      omega (
        arith,
        plus-at t a (omega (arith, (acc.asset place l (omega arith)).high)) q,
        added-at more (place + 1) (first + a.count) (with_net t a) (omega arith) (omega arith) (rw length-set g) q,
      )

  pub halves_are : (t : List ℕ) {u : List ℕ} → C b < length t → ((q : ℕ) → ◌≡◌ {A = ℕ} (get_or t q 0) 0) → Halved (added b t 1 (N b)) u
      → (q : ℕ) → 0 < q → get_or u q 0 ≡ half_of (book_of b).holdings q
  unfolding half_of book_of
  halves_are t g none k q l = k.each q l ∙ ap (λ (n : ℕ). n / 2) (omega (arith, added-at (N b) 1 1 t (omega arith) (omega arith) g q, none q))
