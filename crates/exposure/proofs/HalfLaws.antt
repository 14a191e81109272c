-- left-exact: a half is drawn down by just what is covered, to no less than 0. It stands apart from `PartLaws`, on which it rests.
use Rattle.std.specs.Prelude.{true, ◌≡◌, refl, ℕ, ◌+◌}
use Rattle.std.proofs.Common.{arith}
use borrow.Author.Tests.{eq-eqb}
use Rattle.book.specs.declared.Counterparty.{Counterparty}
use Rattle.book.specs.Book.{Holding}
use Rattle.exposure.specs.Parts.{half_covered, drawn_by, left_after}
use Rattle.exposure.specs.PartLaws.{may-left, drawn-le}

module _ (cs : ℕ → Counterparty) (left : ℕ → ℕ) where
  pub left-exact : (h : Holding) → half_covered h.asset (cs h.asset.counterparty) ≡ true
      → left_after cs left h h.asset.counterparty + drawn_by cs left h ≡ left h.asset.counterparty
  unfolding left_after
  left-exact h e = rw (e, eq-eqb h.asset.counterparty h.asset.counterparty refl) (omega (arith, drawn-le cs left h, may-left cs left h.asset e))
