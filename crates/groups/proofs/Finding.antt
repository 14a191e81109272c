-- What the loop over places holds: the topmost parents above the place are found, and some below it.
use mathlib.Core.Bool.{Bool, true, false}
use mathlib.Core.List.{List}
use mathlib.Core.Path.{◌≡◌, refl, sym, ◌∙◌}
use Prim.Native.Nat.{ℕ, ◌-◌, ◌≤◌, ◌<◌}
use native.Mathlib.Nat.{pos_of_ne-zero}
use native.Mathlib.Omega.{arith}
use lib.Dec.{eqb, leb}
use lib.ListN.{length, get_or, set, length-set}
use lib.Seq.{get_or-set_same, get_or-set_other, ext_get_or}
use borrow.Author.Tests.{eqb-true, eqb-false, leb-true, leb-false}
use Rattle.words.specs.Tables.{filled, filled-length, filled_at, filled-past}
use Rattle.book.specs.Records.{C, counterparty_at}
use Rattle.book.specs.Book.{top_of}
use Rattle.groups.specs.Tops.{kept, Partial}
use Rattle.groups.specs.TableLaws.{kept-size, kept-other, kept-partial, partial-set}

pub record Finding (b : List ℕ) (c : ℕ) (t₀ t : List ℕ) (place : ℕ) : Type 0 where
  pub within : place ≤ c
  pub same : length t ≡ length t₀
  pub some : Partial b t
  pub done : (p : ℕ) → place < p → p ≤ c → get_or t p 0 ≡ top_of (counterparty_at b) p
  pub other : (p : ℕ) → (0 < p → c < p) → get_or t p 0 ≡ get_or t₀ p 0

module _ {b : List ℕ} {c : ℕ} {t₀ t : List ℕ} {place : ℕ} (k : Finding b c t₀ t place) (e : c ≡ C b) where
  -- the place's own topmost parent is known
  pub finding-known : 0 < place → (get_or t place 0 ≡ 0 → ⊥) → Finding b c t₀ t (place - 1)
  finding-known l n = record {
    within = omega (arith, k.within);
    same = k.same;
    some = k.some;
    done = λ p g h. by p g h (eqb p place) refl;
    other = k.other;
  }
    where
      by : (p : ℕ) → place - 1 < p → p ≤ c → (s : Bool) → eqb p place ≡ s → get_or t p 0 ≡ top_of (counterparty_at b) p
      by p g h true z = rw (eqb-true p place z) (k.some.each place (omega (arith, k.within)) (pos_of_ne-zero n))
      by p g h false z = let d = eqb-false p place z in k.done p (omega arith) h

  -- it is found, and kept with those on its way
  pub finding-new : 0 < place → {t' : List ℕ} {found : ℕ} → t' ≡ kept b place t → found ≡ top_of (counterparty_at b) place → Finding b c t₀ (set t' place found) (place - 1)
  unfolding kept
  finding-new l {t'} {found} e' f =
      let low : place ≤ C b = omega (arith, k.within) in
      let long : length t' ≡ length t = rw e' (kept-size b t place place) in
      let less : Partial b t' = rw e' (kept-partial b t k.some place place low) in
      record {
        within = omega (arith, k.within);
        same = length-set t' place found ∙ long ∙ k.same;
        some = partial-set b t' less place found low f;
        done = λ p g h. by less p g h (eqb p place) refl;
        other = λ p h. get_or-set_other t' place p found 0 (λ d. omega (arith, k.within, h (omega arith))) ∙ past p (λ g. omega (arith, k.within, h g)) ∙ k.other p h;
      }
    where
      past : (p : ℕ) → (0 < p → place ≤ p) → get_or t' p 0 ≡ get_or t p 0
      past p h = rw e' (kept-other b t place place p h)

      by : Partial b t' → (p : ℕ) → place - 1 < p → p ≤ c → (s : Bool) → eqb p place ≡ s → get_or (set t' place found) p 0 ≡ top_of (counterparty_at b) p
      by less p g h true z = rw (eqb-true p place z) (get_or-set_same t' place found 0 (omega (arith, less.size, k.within)) ∙ f)
      by less p g h false z =
          let d = eqb-false p place z in
          get_or-set_other t' place p found 0 d ∙ past p (λ _. omega arith) ∙ k.done p (omega arith) h

  -- every place's is found
  pub finding-end : place ≤ 0 → t ≡ filled (top_of (counterparty_at b)) c t₀
  finding-end h = ext_get_or 0 t (filled (top_of (counterparty_at b)) c t₀) (k.same ∙ sym (filled-length (top_of (counterparty_at b)) c t₀)) (λ p l. by p (eqb p 0) refl)
    where
      inside : (p : ℕ) → 0 < p → (s : Bool) → leb p c ≡ s → get_or t p 0 ≡ get_or (filled (top_of (counterparty_at b)) c t₀) p 0
      inside p g true z =
          let l = leb-true p c z in
          k.done p (omega arith) l ∙ sym (filled_at (top_of (counterparty_at b)) c t₀ (omega (arith, k.some.size, k.same)) p g l)
      inside p g false z =
          let l = leb-false p c z in
          k.other p (λ _. l) ∙ sym (filled-past (top_of (counterparty_at b)) c t₀ p (λ _. l))

      by : (p : ℕ) → (s : Bool) → eqb p 0 ≡ s → get_or t p 0 ≡ get_or (filled (top_of (counterparty_at b)) c t₀) p 0
      by p true z =
          let d = eqb-true p 0 z in
          k.other p (λ g. absurd (omega arith)) ∙ sym (filled-past (top_of (counterparty_at b)) c t₀ p (λ g. absurd (omega arith)))
      by p false z = inside p (pos_of_ne-zero (eqb-false p 0 z)) (leb p c) refl
