-- One movement of an accepted book, and the book in a buffer.
--   resulting-made formed-after    the book after a movement is made of the assets then present, which have their lengths
--   front-stays                    what stays of header and counterparties
--   added-long removed-long        how long the book after a movement is
--   book-first book-small          the book in a buffer is what stands before the rest of it; its bytes are the buffer's
use mathlib.Core.Bool.{true}
use mathlib.Core.List.{List, [], ◌∷◌, ◌++◌}
use mathlib.Core.Path.{◌≡◌}
use Prim.Native.Nat.{ℕ, zero, suc, ◌+◌, ◌*◌, ◌-◌, ◌≤◌, ◌<◌}
use native.Mathlib.Omega.{arith}
use lib.ListN.{length, take, drop, length-append, length-drop, get_or-append}
use lib.Seq.{take_at}
use borrow.Author.Tests.{leb-true, eqb-true}
use Rattle.words.specs.Words.{◌≤?◌, All}
use Rattle.words.specs.Choice.{both}
use Rattle.words.specs.Sums.{all_append}
use Rattle.wire.specs.Bytes.{byte_at}
use Rattle.book.specs.Records.{version, C, N, K, book_size, asset_start, mitigant_start, asset_at}
use Rattle.book.specs.Accepted.{Accepted}
use Rattle.movement.specs.Raw.{slice, RawHolding, bare, raw_holdings, front_of, made_of}
use Rattle.movement.specs.Movement.{book_in, counts_before, with_asset, without_asset, Movement, Add, Remove, resulting, possible, raw_after}
use Rattle.movement.proofs.Reading.{Agree, u16-by, slice-long}
use Rattle.movement.proofs.Front.{front_long, front-first, front-amounts}
use Rattle.movement.proofs.Parse.{Formed}
use Rattle.movement.proofs.Afresh.{added-made, added_none, removed-made, counts-within}

-- what 22 lets pass, as facts
pub is-long : (b record48 : List ℕ) → possible b (Add record48) ≡ true → length record48 ≡ 48
is-long b r e = eqb-true (length r) 48 e

pub is-there : (b : List ℕ) (place : ℕ) → possible b (Remove place) ≡ true → (0 < place) × (place ≤ N b)
is-there b place e = let h = both (1 ≤? place) (place ≤? N b) e in (leb-true 1 place h.0, leb-true place (N b) h.1)

all_take : {A : Type 0} (P : A → Type 0) (n : ℕ) (xs : List A) → All P xs → All P (take n xs)
all_take P zero xs h = tt
all_take P (suc n) [] h = tt
all_take P (suc n) (x ∷ xs) h = (h.0, all_take P n xs h.1)

all_drop : {A : Type 0} (P : A → Type 0) (n : ℕ) (xs : List A) → All P xs → All P (drop n xs)
all_drop P zero xs h = h
all_drop P (suc n) [] h = tt
all_drop P (suc n) (x ∷ xs) h = all_drop P n xs h.1

module _ (b : List ℕ) (acc : Accepted b) where
  -- "made afresh from the assets then present"
  pub resulting-made : (m : Movement) → possible b m ≡ true → Accepted (resulting b m) → resulting b m ≡ made_of b (raw_after (raw_holdings b) m)
  resulting-made (Add record48) p a = added-made b acc record48 (added_none b acc record48 (is-long b record48 p) a)
  resulting-made (Remove place) p a = let h = is-there b place p in removed-made b acc place h.0 h.1

  pub formed-after : (items : List RawHolding) (m : Movement) → possible b m ≡ true → Accepted (resulting b m) → All (Formed (version b)) items → All (Formed (version b)) (raw_after items m)
  formed-after items (Add record48) p a f =
      let long = is-long b record48 p in
      all_append (Formed (version b)) items (bare record48 ∷ []) f ((long, omega (arith, added_none b acc record48 long a)), tt)
  formed-after items (Remove place) p a f =
      all_append (Formed (version b)) (take (place - 1) items) (drop place items) (all_take (Formed (version b)) (place - 1) items f) (all_drop (Formed (version b)) place items f)

  -- "Header amounts (..) stay": every byte before the assets but those of the counts of assets and mitigants
  pub front-stays : (m : Movement) → Agree 0 8 (resulting b m) 0 b 0 × Agree 12 (40 + 4 * C b) (resulting b m) 0 b 0
  unfolding with_asset without_asset
  front-stays (Add record48) = (front-first b (omega (arith, acc.size)) _ _ _, front-amounts b (omega (arith, acc.size)) _ _ _)
  front-stays (Remove place) = (front-first b (omega (arith, acc.size)) _ _ _, front-amounts b (omega (arith, acc.size)) _ _ _)

  -- ---- lengths
  pub added-long : (record48 : List ℕ) → length record48 ≡ 48 → length (with_asset b record48) ≡ length b + 48
  unfolding with_asset
  added-long r l =
      let P = slice b (asset_start b 1) (48 * N b) in
      let M = drop (mitigant_start b 1) b in
      omega (
        arith,
        acc.size,
        length-append (front_of b (N b + 1) (K b)) (P ++ (r ++ M)),
        front_long b (omega (arith, acc.size)) (N b + 1) (K b),
        length-append P (r ++ M),
        slice-long b (asset_start b 1) (48 * N b) (omega (arith, acc.size)),
        length-append r M,
        length-drop (mitigant_start b 1) b,
      )

  pub removed-long : (place : ℕ) → 0 < place → place ≤ N b → length (without_asset b place) + (48 + 12 * (asset_at b place).count) ≡ length b
  unfolding without_asset
  removed-long place low high =
      let first = counts_before b place in
      let count = (asset_at b place).count in
      let w = counts-within b acc place low high in
      let A = slice b (asset_start b 1) (48 * (place - 1)) in
      let B = slice b (asset_start b (place + 1)) (48 * (N b - place)) in
      let D = slice b (mitigant_start b 1) (12 * (1 + first - 1)) in
      let E = drop (mitigant_start b (1 + first + count)) b in
      omega (
        arith,
        w,
        acc.size,
        length-append (front_of b (N b - 1) (K b - count)) (A ++ (B ++ (D ++ E))),
        front_long b (omega (arith, acc.size)) (N b - 1) (K b - count),
        length-append A (B ++ (D ++ E)),
        slice-long b (asset_start b 1) (48 * (place - 1)) (omega (arith, acc.size)),
        length-append B (D ++ E),
        slice-long b (asset_start b (place + 1)) (48 * (N b - place)) (omega (arith, acc.size)),
        length-append D E,
        slice-long b (mitigant_start b 1) (12 * (1 + first - 1)) (omega (arith, w, acc.size)),
        length-drop (mitigant_start b (1 + first + count)) b,
      )

  -- ---- in a buffer
  pub book-first : (rest : List ℕ) → book_in (b ++ rest) ≡ b
  unfolding book_in
  book-first rest =
      let same : Agree 0 40 (b ++ rest) 0 b 0 = record { each = λ j _ l. get_or-append b rest 0 (0 + j) (omega (arith, acc.size)) } in
      let size : book_size (b ++ rest) ≡ length b =
      omega (arith, acc.size, u16-by same 6 (omega arith) (omega arith), u16-by same 8 (omega arith) (omega arith), u16-by same 10 (omega arith) (omega arith)) in
      take_at b rest (book_size (b ++ rest)) (omega arith)

pub book-small : (buffer : List ℕ) → ((k : ℕ) → byte_at buffer k < 256) → (k : ℕ) → byte_at (book_in buffer) k < 256
unfolding book_in
book-small buffer small k = take-small (book_size buffer) buffer small k
  where
    take-small : (n : ℕ) (xs : List ℕ) → ((k : ℕ) → byte_at xs k < 256) → (k : ℕ) → byte_at (take n xs) k < 256
    take-small zero xs h k = omega arith
    take-small (suc n) [] h k = omega arith
    take-small (suc n) (x ∷ xs) h zero = h 0
    take-small (suc n) (x ∷ xs) h (suc k) = take-small n xs (λ j. h (suc j)) k
