-- added-removed: an asset that was added and is taken away again leaves the book as it was.
use mathlib.Core.List.{List, [], ◌∷◌, ◌++◌, append-nil}
use mathlib.Core.Path.{◌≡◌, ap, ap₂, ◌∙◌}
use Prim.Native.Nat.{ℕ, ◌+◌, ◌*◌, ◌-◌, ◌<◌, ◌≤◌}
use native.Mathlib.Omega.{arith}
use lib.ListN.{length, take, drop, length-append, drop_of_length-le}
use lib.Seq.{take_at}
use Rattle.words.specs.Words.{All}
use Rattle.words.specs.Sums.{all_append}
use Rattle.wire.specs.Bytes.{byte_at}
use Rattle.book.specs.Records.{version, C, N}
use Rattle.book.specs.Accepted.{Accepted}
use Rattle.movement.specs.Raw.{RawHolding, bare, mitigant_count, raw_holdings, made_of}
use Rattle.movement.specs.Movement.{with_asset, without_asset}
use Rattle.movement.proofs.Parse.{Formed, made-N, made-made, made-raw}
use Rattle.movement.proofs.Slices.{own-formed, raw-long}
use Rattle.movement.proofs.Afresh.{made-own, added-made, added_none, removed-made}

module _ (b : List ℕ) (acc : Accepted b) (small : (k : ℕ) → byte_at b k < 256) (record48 : List ℕ) (long : length record48 ≡ 48) (new : Accepted (with_asset b record48)) where
  abbrev items : List RawHolding
  items = raw_holdings b

  abbrev more : List RawHolding
  more = items ++ (bare record48 ∷ [])

  fits : 40 + 4 * C b ≤ length b
  fits = omega (arith, acc.size)

  none : mitigant_count (version b) (bare record48) ≡ 0
  none = added_none b acc record48 long new

  made : with_asset b record48 ≡ made_of b more
  made = added-made b acc record48 none

  formed : All (Formed (version b)) more
  unfolding raw_holdings
  formed = all_append (Formed (version b)) items (bare record48 ∷ []) (own-formed b acc) ((long, omega (arith, none)), tt)

  several : length items ≡ N b
  unfolding raw_holdings
  several = raw-long b (N b) 1 1

  last : N b + 1 ≤ N (with_asset b record48)
  last = omega (arith, ap N made, made-N b fits more, length-append items (bare record48 ∷ []), several)

  pub added-removed : without_asset (with_asset b record48) (N b + 1) ≡ b
  added-removed =
      let n : N b + 1 - 1 ≡ N b = omega arith in
      let own : raw_holdings (with_asset b record48) ≡ more = ap raw_holdings made ∙ made-raw b fits more formed in
      let first : take (N b) more ≡ items = take_at items (bare record48 ∷ []) (N b) several in
      let rest : drop (N b + 1) more ≡ [] = drop_of_length-le more {i = N b + 1} (omega (arith, length-append items (bare record48 ∷ []), several)) in
      removed-made (with_asset b record48) new (N b + 1) (omega arith) last
      ∙ ap₂ (λ (k : ℕ) (xs : List RawHolding). made_of (with_asset b record48) (take k xs ++ drop (N b + 1) xs)) n own
      ∙ ap₂ (λ (xs ys : List RawHolding). made_of (with_asset b record48) (xs ++ ys)) first rest
      ∙ ap (made_of (with_asset b record48)) (append-nil items)
      ∙ ap (λ (x : List ℕ). made_of x items) made
      ∙ made-made b fits more items
      ∙ made-own b acc small
