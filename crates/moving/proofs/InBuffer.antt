-- What was checked of the first bytes of a buffer, of the book that stands there: in-buffer-checks, in-buffer-accepted.
use Rattle.std.proofs.Common.{Ok}
use Rattle.refusal.specs.Chain.{Checked}
use mathlib.Core.List.{List}
use mathlib.Core.Path.{◌≡◌, sym, ◌∙◌}
use Prim.Native.Nat.{ℕ}
use lib.ListN.{take}
use Rattle.book.specs.Accepted.{Accepted}
use Rattle.book_checks.specs.Checks.{book_checks}
use Rattle.movement.specs.Movement.{book_in}
use Rattle.movement.specs.Promise.{SizeIn}
use Rattle.day.proofs.Shown.{checks-accepted}

module _ (book : List ℕ) (size : ℕ) (s : SizeIn book size) {found : Checked} (e : found ≡ book_checks (take size book)) where
  pub in-buffer-checks : {told : Checked} → found ≡ told → book_checks (book_in book) ≡ told
  in-buffer-checks f = rw (← s.bytes) (sym e ∙ f)

  pub in-buffer-accepted : found ≡ Ok tt → Accepted (take size book)
  in-buffer-accepted f = checks-accepted (take size book) (sym e ∙ f)
