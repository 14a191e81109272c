-- The book that a movement makes.
--   Movable      what it starts from: an accepted book of so many bytes in the buffer, and a movement that 22 lets pass
--   MadeBy       what is promised of it: it takes the place of the one in the buffer
--   most_room     no array that it is made in has more bytes
use Rattle.refusal.specs.Chain.{Answer}
use Rattle.std.specs.Prelude.{true, List, ◌≡◌, ℕ, take}
use Rattle.book.specs.Accepted.{Accepted}
use Rattle.movement.specs.declared.Change.{Change}
use Rattle.movement.specs.Movement.{book_in, movement_of, resulting, possible}
use Rattle.movement.specs.Promise.{SizeIn}
use Rattle.day.specs.Moving.{Replaced}

pub record Movable (change : Change) (book : List ℕ) (size : ℕ) : Type 0 where
  pub stands : SizeIn book size
  pub accepted : Accepted (take size book)
  pub can : possible (take size book) (movement_of change) ≡ true

abbrev pub MadeBy : List ℕ → Change → List ℕ → List ℕ → List ℕ → List ℕ → Answer → Type 0
MadeBy schedule change book book' report report' r = Replaced schedule (resulting (book_in book) (movement_of change)) book book' report report' r

abbrev pub most_room : ℕ
most_room = 63288
