-- What an entry was asked.
--   same-possible   whether a movement can be made, by the change that a match found
--   place-there     whether a place is there, out of the header that was read
use mathlib.Core.Bool.{Bool, ◌&&◌}
use mathlib.Core.List.{List}
use mathlib.Core.Path.{◌≡◌, ap, ◌∙◌}
use Prim.Native.Nat.{ℕ}
use Rattle.words.specs.Words.{◌≤?◌}
use Rattle.book.specs.declared.Header.{Header}
use Rattle.book.specs.Records.{header_at}
use Rattle.book.specs.HeaderLaws.{header-counts}
use Rattle.movement.specs.declared.Change.{Change}
use Rattle.movement.specs.Movement.{Remove, movement_of, possible}

pub same-possible : (b : List ℕ) {change x : Change} → change ≡ x → possible b (movement_of change) ≡ possible b (movement_of x)
same-possible b e = ap (λ (y : Change). possible b (movement_of y)) e

pub place-there : (b : List ℕ) (place : ℕ) {h : Header} {t : Bool} → h ≡ header_at b → t ≡ (1 ≤? place && place ≤? h.assets) → t ≡ possible b (Remove place)
place-there b place e q = q ∙ ap (λ (n : ℕ). 1 ≤? place && place ≤? n) (header-counts b e).1
