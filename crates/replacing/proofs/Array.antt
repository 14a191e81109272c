-- A book in a part of a buffer, and one in a local array.
--   cut-long                            a part has as many bytes as were taken
--   added-room                          room for the book after a movement
--   long                                an array of zeros has as many entries as it is made with
--   put-within put-taken replaced-as    what was put there
use Rattle.refusal.specs.Chain.{Answer}
use mathlib.Core.List.{List}
use mathlib.Core.Path.{◌≡◌, sym}
use Prim.Native.Nat.{ℕ, ◌+◌, ◌≤◌}
use native.Mathlib.Omega.{arith}
use lib.ListN.{length, take, drop, replicate, length-append, length-replicate}
use lib.Seq.{length-take-le, take_at}
use Rattle.book.specs.Accepted.{Accepted}
use Rattle.resulting.specs.Promise.{BookPut}
use Rattle.day.specs.Moving.{Replaced}

pub cut-long : (l : List ℕ) (n : ℕ) → n ≤ length l → n ≡ length (take n l)
cut-long l n h = sym (length-take-le n l h)

-- the longest book has 63,240 bytes
pub added-room : (b : List ℕ) → Accepted b → length b + 48 ≤ 63288
added-room b a = omega (arith, a.size, a.counterparties, a.assets, a.mitigants)

pub long : (n : ℕ) → length (replicate {A = ℕ} n 0) ≡ n
long n = length-replicate {A = ℕ} n 0

pub put-within : {new before after : List ℕ} {r : ℕ} → BookPut new before after r → r ≤ length after
put-within {new} {before} {after} p = rw p.bytes (omega (arith, p.size, length-append new (drop (length new) before)))

pub put-taken : {new before after : List ℕ} {r : ℕ} → BookPut new before after r → take r after ≡ new
put-taken {new} {before} {after} {r} p = rw p.bytes (take_at new (drop (length new) before) r (sym p.size))

-- the book that was put there, in the place of the one in the buffer
pub replaced-as : {schedule new x book book' report report' : List ℕ} {r : Answer} → x ≡ new → Replaced schedule x book book' report report' r → Replaced schedule new book book' report report' r
replaced-as e w = rw e at w
